use Rattle.std.proofs.Common.{take, drop, reverse}
use Rattle.fz_parser.specs.Steps.{Sound, At}
use Rattle.fz_parser.specs.Kept.{state_of, IsInOrder}
use Rattle.fz_parser.proofs.parser.read.Given as goal

abbrev pub invariant-loop-place : goal.invariant-loop-place
invariant-loop-place l = record {
  kept : IsInOrder l.reader;
  sound : Sound l.fn.goal (reverse l.stack.items) (state_of l.reader);
  at : At l.fn.goal (take l.place l.tokens) (drop l.place l.tokens) (reverse l.stack.items) (state_of l.reader);
}
