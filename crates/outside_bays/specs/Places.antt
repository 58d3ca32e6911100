-- What places of files show.
use Rattle.std.specs.Prelude.{ℕ, Bool, true, false, List, Option, None}
use Rattle.outside_disks.specs.Disks.{Shown}
use Rattle.outside_disks.specs.Stored.{Stored, one_stored, two_stored, stored_as}
use Rattle.outside_disks.specs.declared.disks.Disks.{Disks}
use Rattle.outside_disks.specs.declared.real.FilePlace.{FilePlace}
use Rattle.outside_bays.specs.declared.real.RealBay.{RealBay}

abbrev pub place_shown : FilePlace → Shown
place_shown place = record { trace = None; faults = place.faults }

abbrev pub home_shown : Disks FilePlace → Stored
home_shown home = stored_as place_shown home

-- a place that hasn't failed yet
abbrev pub fresh : Shown
fresh = record { trace = None; faults = 0 }

-- one of them, or two
abbrev pub fresh_home : Bool → Stored
fresh_home false = one_stored fresh
fresh_home true = two_stored (record { first = fresh; second = fresh })

module _ {R : Type 0} where
  -- where each owner's files belong, while its disks are at home
  abbrev pub homes_of : RealBay R → List (Option (Disks FilePlace))
  homes_of bay = bay.homes.items

  -- how many calls have failed
  abbrev pub failed_in : RealBay R → ℕ
  failed_in bay = bay.faults
