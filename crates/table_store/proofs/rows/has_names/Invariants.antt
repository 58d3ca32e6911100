use Rattle.std.proofs.Common.{◌≡◌, drop, map, nat_eq}
use Rattle.std.specs.Cmp.Lexicographic.{pointwise}
use Rattle.csv.specs.Records.{fields_of}
use Rattle.table_store.specs.Schema.{column_name}
use Rattle.table_store.proofs.rows.has_names.Given as goal

abbrev pub invariant-loop-i : goal.invariant-loop-i
invariant-loop-i l = record {
  so_far : pointwise (pointwise nat_eq) (fields_of l.fields) (map column_name l.schema)
      ≡ pointwise (pointwise nat_eq) (drop l.i (fields_of l.fields)) (map column_name (drop l.i l.schema));
}
