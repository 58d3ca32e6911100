use Rattle.std.proofs.Common.{◌≤◌, length, sym, ap, arith}
use Rattle.std.proofs.lemmas.Bool.{ltb-false}
use Rattle.budget_core.specs.Counts.{reservations_of}
use Rattle.budget_core.proofs.Standings.{not-past}
use Rattle.budget_core.proofs.totals.Totals.is_open.Goals as goal

pub returns-in-None : goal.returns-in-None
returns-in-None c entry records told =
    let past : length (reservations_of records) ≤ c.args.number
    = omega (arith, ltb-false c.args.number (length c.deref.result.now) (sym c.in-None.ensures.lookup.0), ap length c.deref.ensures.value, told.rows.count) in
    (λ yes. cc, λ may. absurd (not-past entry records told.history c.args.number past may))
