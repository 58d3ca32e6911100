-- What the loop of lines::read_lines keeps.
use Rattle.std.proofs.Common.{◌≡◌, ◌<◌, ◌^◌, length}
use Rattle.fz_ast.specs.Arena.{Grows}
use Rattle.derivation_lines.proofs.Derivations.{AreBegun}
use Rattle.derivation_lines.proofs.lines.read_lines.Given as goal

abbrev pub invariant-loop-at : goal.invariant-loop-at
invariant-loop-at l = record {
  grows : Grows l.fn.arena l.arena;
  count : length l.lines.items ≡ l.at;
  begun : AreBegun l.bytes l.arena l.lines.items l.rest;
  short : length l.rest < 2 ^ 32;
}
