use Rattle.std.proofs.Common.{◌≡◌, drop, length}
use Rattle.table_store.proofs.GroupLemmas.{HaveBefore}
use Rattle.table_store.proofs.grouping.groups.Given as goal

abbrev pub invariant-loop-row : goal.invariant-loop-row
invariant-loop-row l = record {
  as_many : length l.groups.items ≡ length l.keys;
  before : HaveBefore (λ group. group.items) l.column l.table l.row (drop l.row l.table) l.groups.items l.keys;
}
