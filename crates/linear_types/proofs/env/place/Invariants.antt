-- What the loop of env::place keeps.
use Rattle.std.proofs.Common.{take}
use Rattle.linear_types.specs.Environment.{IsAbsent}
use Rattle.linear_types.specs.Entries.{amounts_of}
use Rattle.linear_types.proofs.env.place.Given as goal

abbrev pub invariant-loop-i : goal.invariant-loop-i
invariant-loop-i l = IsAbsent l.name (amounts_of (take l.i l.entries))
