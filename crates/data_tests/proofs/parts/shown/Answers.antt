-- The part is there.
use Rattle.std.proofs.Common.{arith}
use Rattle.std.proofs.lemmas.Option.{slice_get-get_or}
use Rattle.owner_catalog.specs.Entries.{owner_entry_at, partition_entry_at}
use Rattle.data_tests.proofs.parts.shown.Goals as goal

pub tables-tables-requires : goal.tables-tables-requires
tables-tables-requires c =
    let all = (owner_entry_at c.args.catalog.now c.args.owner).partitions in
    rw c.requires.partitions (
      partition_entry_at c.args.catalog.now c.args.owner c.args.p,
      slice_get-get_or all c.args.p _ (omega (arith, c.partitions.ensures.partitions)),
      omega (arith, c.keys.ensures.keys),
    )
