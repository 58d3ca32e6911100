-- Which calls of a bay in memory fail.
use Rattle.std.specs.Prelude.{List, Option}
use Rattle.fz_outside.specs.declared.flaky.Schedule.{Schedule}
use Rattle.outside_disks.specs.declared.disks.Disks.{Disks}
use Rattle.outside_bays.specs.declared.memory.MemBay.{MemBay}

module _ {D : Type 0} where
  -- each owner's disks, where they are at home
  abbrev pub disks_of : MemBay D → List (Option (Disks D))
  disks_of bay = bay.disks.items

  -- its calls so far, and the numbers of those that fail
  abbrev pub schedule_of : MemBay D → Schedule
  schedule_of bay = bay.schedule
