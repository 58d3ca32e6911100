use Rattle.std.proofs.Common.{◌∙◌, sym}
use Rattle.budget_core.specs.Cost.{charges_in}
use Rattle.budget_core.proofs.Costs.{cost_of-charges}
use Rattle.budget_core.proofs.history.History.spent.Goals as goal

pub returns : goal.returns
returns c = rw (← c.self.view_is) (c.spent.ensures (charges_in c.self.inside.entry c.self.inside.records.items) c.self.invariant.totals.costs ∙ sym (cost_of-charges c.self.inside.entry c.self.inside.records.items))
