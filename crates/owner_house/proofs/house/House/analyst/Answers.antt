use Rattle.owner_house.proofs.Names.{found_said}
use Rattle.owner_house.proofs.house.House.analyst.Goals as goal

pub returns-clause-name : goal.returns-clause-name
returns-clause-name c = found_said c.self.inside.catalog.analysts c.args.name.now c.analyst.result c.self.invariant.catalog.analysts c.analyst.ensures
