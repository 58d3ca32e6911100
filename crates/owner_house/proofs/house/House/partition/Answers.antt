use Rattle.std.proofs.Common.{◌≡◌, ◌<◌, length, sym, subst}
use Rattle.std.specs.Prelude.{IfSome}
use Rattle.owner_house.specs.House.{Register, register_by, house_of, partition_named, owner_at}
use Rattle.owner_house.proofs.Owners.{in_catalog, partition_by}
use Rattle.owner_house.proofs.house.House.partition.Goals as goal

pub partition-requires : goal.partition-requires
partition-requires c =
    in_catalog (register_by c.self.inside.catalog c.self.inside.datasets.items c.self.inside.versions) c.self.invariant c.args.owner
    (subst (λ (r : Register). c.args.owner < length (house_of r).owners) (sym c.self.view_is) c.requires)

pub returns-clause-named : goal.returns-clause-named
returns-clause-named c =
    subst (λ (r : Register). c.partition.result ≡ partition_named (owner_at (house_of r) c.args.owner) c.args.name.now) c.self.view_is
    (partition_by (register_by c.self.inside.catalog c.self.inside.datasets.items c.self.inside.versions) c.self.invariant c.args.owner
    (subst (λ (r : Register). c.args.owner < length (house_of r).owners) (sym c.self.view_is) c.requires) c.args.name.now c.partition.result c.partition.ensures).0

pub returns-clause-within : goal.returns-clause-within
returns-clause-within c =
    subst (λ (r : Register). IfSome c.partition.result (λ p. p < length (owner_at (house_of r) c.args.owner).partitions)) c.self.view_is
    (partition_by (register_by c.self.inside.catalog c.self.inside.datasets.items c.self.inside.versions) c.self.invariant c.args.owner
    (subst (λ (r : Register). c.args.owner < length (house_of r).owners) (sym c.self.view_is) c.requires) c.args.name.now c.partition.result c.partition.ensures).1
