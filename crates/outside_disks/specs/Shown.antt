-- What a disk of memory shows, and which of its calls fail.
use Rattle.std.specs.Prelude.{◌≡◌, ◌⊎◌, ◌||◌, ℕ, ◌+◌, ◌<◌, List, length, min, nat_le, Bool, Option, Some}
use Rattle.fz_outside.specs.Faults.{last_count}
use Rattle.fz_outside.specs.Schedule.{is_listed}
use Rattle.outside_disks.specs.Disks.{Trace}
use Rattle.outside_disks.specs.Memory.{steps_of}
use Rattle.outside_disks.specs.declared.memory.Limits.{Limits}
use Rattle.outside_disks.specs.declared.memory.MemDisk.{MemDisk}

-- what reads give
abbrev pub bytes_in : MemDisk → List ℕ
bytes_in disk = disk.bytes.items

-- what was done to it
abbrev pub told : MemDisk → Option Trace
told disk = Some (record { start = disk.start.items; steps = steps_of disk.steps.items disk.written.items })

-- ---- which calls fail

-- how many calls there were, and how many of them failed
abbrev pub calls_of : MemDisk → ℕ
calls_of disk = disk.schedule.calls

abbrev pub faults_of : MemDisk → ℕ
faults_of disk = disk.schedule.faults

-- the numbers of the calls that are to fail
abbrev pub failing_of : MemDisk → List ℕ
failing_of disk = disk.schedule.failing.now

-- how much it takes
abbrev pub limits_of : MemDisk → Limits
limits_of disk = disk.limits

-- how many bytes were written
abbrev pub written_of : MemDisk → ℕ
written_of disk = length disk.written.items

-- The next call is to fail: it is listed, or there were as many calls as the disk takes.
abbrev pub is_refused : MemDisk → Bool
is_refused disk = is_listed disk.schedule || nat_le disk.limits.calls disk.schedule.calls

-- a write of so many bytes at this place would end past the greatest length, or be over the greatest sum of bytes written
abbrev pub IsPastLimits : MemDisk → (place size : ℕ) → Type 0
IsPastLimits disk place size = (disk.limits.length < place + size) ⊎ (disk.limits.written < length disk.written.items + size)

-- From one state to the other a call was begun: it was counted, and the disk's limits and list are as they were.
pub record IsBegun (old new : MemDisk) : Type 0 where
  pub counted : new.schedule.calls ≡ min (old.schedule.calls + 1) last_count
  pub limits : new.limits ≡ old.limits
  pub failing : new.schedule.failing ≡ old.schedule.failing
