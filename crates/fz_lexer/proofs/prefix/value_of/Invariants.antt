use Rattle.std.proofs.Common.{◌≡◌, ◌≤◌, ◌^◌, true, drop}
use Rattle.fz_lexer.specs.Bytes.{value_from, every_byte, is_digit}
use Rattle.fz_lexer.proofs.prefix.value_of.Given as goal

abbrev pub invariant-loop-b : goal.invariant-loop-b
invariant-loop-b l = record {
  small : l.value ≤ 2 ^ 50;
  same : value_from 0 l.digits ≡ value_from l.value (drop l.b-index l.digits);
  digits : every_byte is_digit (drop l.b-index l.digits) ≡ true;
}
