use Rattle.csv.specs.Records.{fields_of}
use Rattle.table_store.proofs.GrowthLemmas.{HasTaken}
use Rattle.table_store.proofs.columns.push_row.Given as goal

abbrev pub invariant-loop-col : goal.invariant-loop-col
invariant-loop-col l = record { taken : HasTaken l.col (fields_of l.fields) l.fn.columns.items l.columns.items }
