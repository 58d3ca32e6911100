use Rattle.std.proofs.Common.{◌≡◌, length, map}
use Rattle.metric_values.specs.Cells.{chosen_of}
use Rattle.metric_values.specs.Columns.{cells_of}
use Rattle.table_store.proofs.GatheringLemmas.{columns_of}
use Rattle.table_store.proofs.gathering.gathered.Given as goal

abbrev pub invariant-loop-k : goal.invariant-loop-k
invariant-loop-k l = record {
  so_far : map cells_of l.columns.items ≡ columns_of l.k (chosen_of l.table l.rows);
}
