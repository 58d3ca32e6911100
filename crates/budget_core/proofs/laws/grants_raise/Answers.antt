use Rattle.journal_records.specs.declared.records.Record.TheVariants.{Grant}
use Rattle.budget_core.proofs.Costs.{cost_of-append-Grant, budget_of-append}
use Rattle.budget_core.proofs.laws.grants_raise.Goals as goal

pub returns : goal.returns
returns c = λ entry records grant. (cost_of-append-Grant entry records grant, budget_of-append entry records (Grant grant))
