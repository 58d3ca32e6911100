use Rattle.std.proofs.Common.{◌≡◌, take}
use Rattle.owner_catalog.specs.Entries.{owner_entry_at}
use Rattle.owner_house.specs.House.{keys_of}
use Rattle.owner_house.proofs.entry.keys_in.Given as goal

-- the keys of the first partitions are counted
abbrev pub invariant-loop-partition : goal.invariant-loop-partition
invariant-loop-partition l = l.keys.items ≡ take l.partition (keys_of (owner_entry_at l.catalog l.owner))
