use Rattle.std.proofs.Common.{sym, ◌∙◌}
use Rattle.budget_core.proofs.Costs.{returned-is, returned-nothing}
use Rattle.budget_core.proofs.laws.only_exhausted_give_back.Goals as goal

pub returns : goal.returns
returns c = λ entry records settlement may kept. sym (returned-is entry records settlement may) ∙ returned-nothing entry records settlement.number settlement.outcome kept
