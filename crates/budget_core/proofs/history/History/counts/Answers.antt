use Rattle.std.proofs.Common.{length, ap, arith}
use Rattle.budget_core.specs.Counts.{reservations_of}
use Rattle.budget_core.specs.History.{History}
use Rattle.budget_core.proofs.Standings.{settled-within}
use Rattle.budget_core.proofs.history.History.counts.Goals as goal

pub overflow_sub-result : goal.overflow_sub-result
overflow_sub-result c =
    let h = c.self.inside in
    omega (
      arith,
      settled-within h.entry h.records.items c.self.invariant.totals.history,
      c.self.invariant.totals.answered,
      c.self.invariant.totals.exhausted,
      c.reservations-reservations.ensures,
      ap (λ (p : History). length (reservations_of p.records)) c.self.view_is,
    )
