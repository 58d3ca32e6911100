use Rattle.std.proofs.Common.{◌≡◌, ◌+◌, drop}
use Rattle.metric_values.specs.Tables.{apart}
use Rattle.value_distance.proofs.rows.tables_apart.Given as goal

abbrev pub invariant-loop-k : goal.invariant-loop-k
invariant-loop-k l = l.sum + apart (drop l.k l.x) (drop l.k l.y) ≡ apart l.x l.y
