-- What a door in memory shows of its connections, and when its next connection comes.
use Rattle.std.specs.Prelude.{ℕ, List, take, Option, None, Some, Bool, true, false, ◌||◌, length, ◌==◌}
use Rattle.fz_outside.specs.declared.flaky.Schedule.{Schedule}
use Rattle.fz_outside.specs.Schedule.{is_listed}
use Rattle.outside_links.specs.Links.{Connection, shown}
use Rattle.outside_links.specs.declared.memory.MemLink.{MemLink}
use Rattle.outside_doors.specs.declared.memory.MemDoors.{MemDoors}

-- what a connection in memory shows
abbrev pub shown_by : MemLink → Connection
shown_by link = shown (Some link.left.now) (Some link.written.items) link.schedule.faults

-- its calls so far, and the numbers of those that fail
abbrev pub schedule_of : MemDoors → Schedule
schedule_of doors = doors.schedule

-- the port at which it listens
abbrev pub port_of : MemDoors → Option ℕ
port_of doors = doors.port

-- the address at which it listens, or nothing
abbrev pub address_of : MemDoors → List ℕ
address_of doors = take doors.size doors.addr

-- its connections that are still to come
abbrev pub coming_to : MemDoors → List MemLink
coming_to doors = doors.coming.items

-- its connections that were handed back
abbrev pub served_by : MemDoors → List MemLink
served_by doors = doors.served.items

abbrev is_unheard : Option ℕ → Bool
is_unheard None = true
is_unheard (Some port) = false

-- no connection comes now: the call is to fail, the door doesn't listen, or none is to come
abbrev pub is_deserted : MemDoors → Bool
is_deserted doors = is_listed (schedule_of doors) || (is_unheard (port_of doors) || length (coming_to doors) == 0)
