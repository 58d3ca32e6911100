use Rattle.std.proofs.Common.{◌≡◌, ◌-◌, ◌≤◌, ◌++◌, reverse, take, drop}
use Rattle.fz_parser.specs.declared.tables.TheConstants.{ITEMS}
use Rattle.fz_parser.proofs.parser.push_body.Given as goal

abbrev pub invariant-loop-rest : goal.invariant-loop-rest
invariant-loop-rest l = record {
  low : l.start ≤ l.rest;
  high : l.rest ≤ l.initial.rest;
  same : reverse l.stack.items ≡ take (l.initial.rest - l.rest) (drop l.rest ITEMS) ++ reverse l.initial.stack.items;
}

abbrev pub decreases-loop-rest : goal.decreases-loop-rest
decreases-loop-rest l = l.rest
