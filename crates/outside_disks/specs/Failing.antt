-- What a disk some of whose calls fail shows.
use Rattle.std.specs.Prelude.{◌≡◌, ℕ, ◌+◌, ◌-◌, ◌==◌, min}
use Rattle.fz_outside.specs.Faults.{count_after, last_count}
use Rattle.outside_disks.specs.declared.failing.FuseDisk.{FuseDisk}
use Rattle.outside_disks.specs.declared.failing.BlipDisk.{BlipDisk}

module _ {D : Type 0} where
  -- the disk that it passes calls on to
  abbrev pub inner_of : FuseDisk D → D
  inner_of disk = disk.inner

  -- how many calls it still passes on
  abbrev pub calls_left : FuseDisk D → ℕ
  calls_left disk = disk.left

  -- how many calls it didn't pass on
  abbrev pub fuse_refused : FuseDisk D → ℕ
  fuse_refused disk = disk.refused

  abbrev pub blip_inner : BlipDisk D → D
  blip_inner disk = disk.inner

  -- how many calls there were
  abbrev pub blip_calls : BlipDisk D → ℕ
  blip_calls disk = disk.calls

  -- the number of the call that it doesn't pass on
  abbrev pub blip_at : BlipDisk D → ℕ
  blip_at disk = disk.failing

  -- how many calls it didn't pass on: one, or none yet
  abbrev pub blip_refused : BlipDisk D → ℕ
  blip_refused disk = disk.refused

-- From one state to the other a fuse was called: it has one call less to pass on, and counted the call if there was none.
pub record IsSpent {D : Type 0} (old new : FuseDisk D) : Type 0 where
  pub left : new.left ≡ old.left - 1
  pub refused : new.refused ≡ count_after (old.left == 0) old.refused

-- From one state to the other a blip was called: it counted the call, and the fault if this is the call that fails.
pub record IsPassed {D : Type 0} (old new : BlipDisk D) : Type 0 where
  pub calls : new.calls ≡ min (old.calls + 1) last_count
  pub failing : new.failing ≡ old.failing
  pub refused : new.refused ≡ count_after (old.calls == old.failing) old.refused
