use Rattle.std.proofs.Common.{◌≤◌, ◌∙◌, length, sym, ap, arith}
use Rattle.std.proofs.lemmas.Bool.{ltb-false}
use Rattle.budget_core.specs.Counts.{reservations_of, outcome_of}
use Rattle.budget_core.specs.History.{History}
use Rattle.budget_core.proofs.Numbers.{outcome_past}
use Rattle.budget_core.proofs.history.History.outcome.Goals as goal

pub returns-in-None : goal.returns-in-None
returns-in-None c =
    let h = c.self.inside in
    let past : length (reservations_of h.records.items) ≤ c.args.number
    = omega (arith, ltb-false c.args.number (length c.deref.result.now) (sym c.in-None.ensures.lookup.0), ap length c.deref.ensures.value, c.self.invariant.totals.rows.count) in
    sym (ap (λ (p : History). outcome_of p.records c.args.number) (sym c.self.view_is) ∙ outcome_past h.entry h.records.items c.self.invariant.totals.history c.args.number past)
