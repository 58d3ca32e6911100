use Rattle.std.proofs.Common.{◌≡◌, length}
use Rattle.fz_ast.specs.Arena.{Grows}
use Rattle.derivation_lines.specs.Interned.{AreNumbers}
use Rattle.derivation_lines.proofs.interned.interned.Given as goal

abbrev pub invariant-loop-i : goal.invariant-loop-i
invariant-loop-i l = record { size : length l.numbers.items ≡ l.i; grows : Grows l.fn.arena l.arena; numbers : AreNumbers l.types l.arena l.numbers.items }
