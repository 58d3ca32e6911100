-- What a connection in memory takes and gives at once, and which of its calls fail.
use Rattle.std.specs.Prelude.{◌≡◌, ℕ, ◌+◌, ◌≤◌, length, min}
use Rattle.fz_outside.specs.Faults.{last_count}
use Rattle.fz_outside.specs.declared.flaky.Schedule.{Schedule}
use Rattle.outside_links.specs.declared.memory.MemLink.{MemLink}

-- its calls so far, and the numbers of those that fail
abbrev pub schedule_of : MemLink → Schedule
schedule_of link = link.schedule

-- how many bytes a call passes at most
abbrev pub piece_of : MemLink → ℕ
piece_of link = link.piece

-- how many bytes it takes at most
abbrev pub room_of : MemLink → ℕ
room_of link = link.room

-- all that it takes was written
abbrev pub IsFull : MemLink → Type 0
IsFull link = room_of link ≤ length link.written.items

-- From one state to the other a call was begun: it was counted, and the limits and the list are as they were.
pub record HasBegun (old new : MemLink) : Type 0 where
  pub counted : new.schedule.calls ≡ min (old.schedule.calls + 1) last_count
  pub failing : new.schedule.failing ≡ old.schedule.failing
  pub piece : new.piece ≡ old.piece
  pub room : new.room ≡ old.room
