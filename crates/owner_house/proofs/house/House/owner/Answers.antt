use Rattle.std.proofs.Common.{◌≡◌, ◌<◌, length, subst}
use Rattle.std.specs.Prelude.{IfSome}
use Rattle.owner_house.specs.House.{Register, register_by, house_of, owner_named, numbered}
use Rattle.owner_house.proofs.Owners.{named_by}
use Rattle.owner_house.proofs.house.House.owner.Goals as goal

pub returns-clause-named : goal.returns-clause-named
returns-clause-named c =
    subst (λ (r : Register). numbered (house_of r) c.owner.result ≡ owner_named (house_of r) c.args.name.now) c.self.view_is
    (named_by (register_by c.self.inside.catalog c.self.inside.datasets.items c.self.inside.versions) c.self.invariant c.args.name.now c.owner.result c.owner.ensures).0

pub returns-clause-within : goal.returns-clause-within
returns-clause-within c =
    subst (λ (r : Register). IfSome c.owner.result (λ o. o < length (house_of r).owners)) c.self.view_is
    (named_by (register_by c.self.inside.catalog c.self.inside.datasets.items c.self.inside.versions) c.self.invariant c.args.name.now c.owner.result c.owner.ensures).1
