use Rattle.std.proofs.Common.{arith}
use Rattle.budget_core.proofs.KeptLemmas.{kept-count}
use Rattle.budget_core.proofs.history.History.reservations.Goals as goal

pub overflow_cast-result : goal.overflow_cast-result
overflow_cast-result c = omega (arith, kept-count c.self.inside.entry c.self.inside.records.items c.self.inside.totals c.self.invariant.totals)
