-- The columns are all of the rows', and so the rows side by side.
use Rattle.std.proofs.Common.{◌≡◌, ◌<◌, ◌∙◌, ℕ, IfOk, List, length, map, get_or, ap, sym, subst, suc, arith}
use Rattle.std.specs.List.{All}
use Rattle.std.proofs.lemmas.List.{get_or-map, length-map}
use Rattle.std.proofs.lemmas.List.Elements.{All-map}
use Rattle.fz_ast.specs.Rows.{column_type}
use Rattle.metric_values.specs.Cells.{AllLong, AreRows, cell_at, chosen_of, columns_in, row_at, side_by_side}
use Rattle.metric_values.specs.Columns.{cells_of}
use Rattle.metric_values.specs.Typed.{TypedFlat}
use Rattle.metric_values.specs.Values.{Flat, UnitF}
use Rattle.table_store.specs.Schema.{NamedColumn, column_kind, row_of_schema}
use Rattle.table_store.proofs.GatheringLemmas.{cell_typed, columns_count, columns_long, columns_of, every_column, row_width}
use Rattle.table_store.proofs.GroupLaws.{rows_wide}
use Rattle.table_store.proofs.GrowthLemmas.{long_columns}
use Rattle.table_store.proofs.gathering.gathered.Goals as goal

pub gathered_column-requires-clause-column : goal.gathered_column-requires-clause-column
gathered_column-requires-clause-column c =
    let low : c.loop-k.k < length c.args.schema.now = grind (arith, c.columns-kinds.ensures.columns) in
    rows_wide c.args.schema.now c.loop-k.k c.args.table.now c.requires.typed low

pub gathered_column-requires-clause-kind : goal.gathered_column-requires-clause-kind
gathered_column-requires-clause-kind c =
    let schema = c.args.schema.now in
    let column = c.index-kinds-k.result in
    let low : c.loop-k.k < length schema = grind (arith, c.columns-kinds.ensures.columns) in
    let there : c.loop-k.k < length (map column_kind schema) = omega (arith, low, length-map schema column_kind) in
    let kind : get_or (map column_kind schema) c.loop-k.k column.kind ≡ c.kind.result =
    get_or-map column_kind schema c.loop-k.k column column.kind low
    ∙ ap column_kind (sym (c.index-kinds-k.is ∙ ap (λ (columns : List NamedColumn). get_or columns c.loop-k.k column) c.columns-kinds.ensures.columns))
    ∙ sym c.kind.ensures in
    λ j d l. subst (λ k. TypedFlat (column_type k) (cell_at c.loop-k.k (get_or c.args.table.now j d))) kind
    (cell_typed (map column_kind schema) c.loop-k.k column.kind (get_or c.args.table.now j d) (c.requires.typed j d l) there)

module _ (c : goal.After-loop-k) where
  all : c.loop-k.k ≡ length c.args.schema.now
  all = grind (arith, c.columns-kinds.ensures.columns)

  count : length c.loop-k.columns.items ≡ c.loop-k.k
  count =
      let rows = chosen_of c.args.table.now c.args.rows.now in
      omega (
        arith,
        length-map c.loop-k.columns.items cells_of,
        ap (λ (columns : List (List Flat)). length columns) c.loop-k.invariant.so_far,
        columns_count c.loop-k.k rows,
      )

pub new-requires-clause-columns : goal.new-requires-clause-columns
new-requires-clause-columns c =
    let rows = chosen_of c.args.table.now c.args.rows.now in
    let some : 0 < length c.loop-k.columns.items = omega (arith, all c, count c, c.columns-kinds.ensures.legal.some) in
    long_columns (length rows) c.loop-k.columns.items some (subst (AllLong (length rows)) (sym c.loop-k.invariant.so_far) (columns_long c.loop-k.k rows))

pub new-requires-clause-narrow : goal.new-requires-clause-narrow
new-requires-clause-narrow c = omega (arith, all c, count c, c.columns-kinds.ensures.legal.few)

-- rows of a schema's type have as many columns
wide : (schema : List NamedColumn) (table : List Flat) (numbers : List ℕ) → All (TypedFlat (row_of_schema schema)) table → AreRows table numbers
    → 0 < length schema
    → All (λ x. columns_in x ≡ length schema) (chosen_of table numbers)
wide schema table numbers typed there some =
    All-map (λ x. columns_in x ≡ length schema) (row_at table) numbers
    (λ k d l. row_width (map column_kind schema) (row_at table (get_or numbers k d)) (typed (get_or numbers k d) UnitF (there k d l))
    (omega (arith, some, length-map schema column_kind)) ∙ length-map schema column_kind)

pub returns : goal.returns
returns c =
    let rows = chosen_of c.args.table.now c.args.rows.now in
    let legal = c.columns-kinds.ensures.legal in
    let width = wide c.args.schema.now c.args.table.now c.args.rows.now c.requires.typed c.requires.there legal.some in
    let last : c.loop-k.k ≡ length c.args.schema.now = grind (arith, c.columns-kinds.ensures.columns) in
    let same : side_by_side (map cells_of c.loop-k.columns.items) ≡ rows =
    ap side_by_side (c.loop-k.invariant.so_far ∙ ap (λ (n : ℕ). columns_of n rows) last)
    ∙ every_column (length c.args.schema.now) rows legal.some width in
    subst (λ (t : List Flat). IfOk c.new.result (λ copy. copy ≡ t)) same c.new.ensures
