-- What the loop of lines::read_says keeps.
use Rattle.std.proofs.Common.{◌<◌, ◌^◌, length}
use Rattle.std.specs.Prelude.{IfSome}
use Rattle.derivation_lines.specs.Pieces.{pieces_behind}
use Rattle.derivation_lines.specs.Said.{says_of}
use Rattle.derivation_lines.proofs.Behind.{AreRead, left_over}
use Rattle.derivation_lines.proofs.lines.read_says.Given as goal

abbrev pub invariant-loop-behind : goal.invariant-loop-behind
invariant-loop-behind l = record {
  read : AreRead (pieces_behind l.fn.behind) (pieces_behind l.behind) (says_of l.says.items);
  short : IfSome l.behind (λ rest. length rest.now < 2 ^ 32);
}

abbrev pub decreases-loop-behind : goal.decreases-loop-behind
decreases-loop-behind l = left_over l.behind
