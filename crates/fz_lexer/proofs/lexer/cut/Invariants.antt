use Rattle.std.proofs.Common.{◌≤◌, ◌-◌, length, drop}
use Rattle.fz_lexer.specs.Tokens.{Cut}
use Rattle.fz_lexer.proofs.lexer.cut.Given as goal

abbrev pub invariant-loop-place : goal.invariant-loop-place
invariant-loop-place l = record {
  within : l.place ≤ length l.bytes;
  count : length l.tokens.items ≤ l.most;
  cut : Cut 0 l.bytes l.tokens.items l.place (drop l.place l.bytes);
}

abbrev pub decreases-loop-place : goal.decreases-loop-place
decreases-loop-place l = length l.bytes - l.place
