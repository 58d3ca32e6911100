use Rattle.std.proofs.Common.{◌≡◌, ◌-◌, ◌≤◌, true, take, length}
use Rattle.fz_lexer.specs.Bytes.{within, every_byte}
use Rattle.fz_lexer.proofs.bytes.run.Given as goal

abbrev pub invariant-loop-n : goal.invariant-loop-n
invariant-loop-n l = record { low : l.n ≤ length l.bytes; each : every_byte (within l.class) (take l.n l.bytes) ≡ true }

abbrev pub decreases-loop-n : goal.decreases-loop-n
decreases-loop-n l = length l.bytes - l.n
