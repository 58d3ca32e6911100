use Rattle.std.proofs.Common.{subst, Some, set}
use Rattle.outside_bays.specs.Bays.{Changes, shelf_of}
use Rattle.outside_bays.specs.Places.{home_shown}
use Rattle.outside_bays.proofs.Shelves.{shelf-set}
use Rattle.outside_bays.proofs.real.RealBayBay.put_back.Goals as goal

pub returns-clause-home : goal.returns-clause-home
returns-clause-home g c =
    subst (λ stored. Changes c.args.owner (Some stored) (shelf_of home_shown c.args.self.now.homes.items)
    (shelf_of home_shown (set c.args.self.now.homes.items c.args.owner (Some c.closed.result))))
    c.closed.ensures
    (shelf-set home_shown c.args.self.now.homes.items c.args.owner c.requires.owner (Some c.closed.result))
