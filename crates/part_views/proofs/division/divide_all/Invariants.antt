use Rattle.std.proofs.Common.{◌≡◌, map, take}
use Rattle.std.specs.List.{All}
use Rattle.owner_catalog.specs.Entries.{owner_entry_at}
use Rattle.part_views.specs.Divisions.{IsDivision, partition_of}
use Rattle.part_views.proofs.division.divide_all.Given as goal

abbrev pub invariant-loop-p : goal.invariant-loop-p
invariant-loop-p l = record {
  so_far : map partition_of l.divisions.items ≡ take l.p (owner_entry_at l.catalog l.owner).partitions;
  each : All (IsDivision l.sig l.tables) l.divisions.items;
}
