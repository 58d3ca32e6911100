-- Which calls of an object fail, by their numbers.
use Rattle.std.specs.Prelude.{◌+◌, min, Bool, ◌==◌}
use Rattle.std.specs.List.{list_any}
use Rattle.fz_outside.specs.Faults.{count_after, last_count}
use Rattle.fz_outside.specs.declared.flaky.Schedule.{Schedule}

-- the next call is to fail
abbrev pub is_listed : Schedule → Bool
is_listed schedule = list_any (λ call. call == schedule.calls) schedule.failing.now

-- the schedule after a call was begun, and counted if it is to fail
abbrev pub began : Schedule → Schedule
began schedule = record schedule { calls = min (schedule.calls + 1) last_count; faults = count_after (is_listed schedule) schedule.faults }
