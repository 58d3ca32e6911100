use Rattle.std.proofs.Common.{◌*◌}
use Rattle.budget_core.proofs.Costs.{ceil_div-div_ceil}
use Rattle.budget_core.proofs.totals.charge_for.Goals as goal

pub returns-clause-charge : goal.returns-clause-charge
returns-clause-charge c = let e = ceil_div-div_ceil (c.args.p * c.args.e) c.args.q c.requires.positive in cc
