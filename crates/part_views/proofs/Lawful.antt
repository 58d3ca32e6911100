-- The partitions of an owner in a catalog divide its tables.
use Rattle.std.proofs.Common.{◌≡◌, ◌∙◌, ℕ, zero, suc, Some, List, [], ◌∷◌, map, get_or, refl, ap}
use Rattle.std.specs.Prelude.{slice_get, option_map}
use Rattle.std.proofs.lemmas.List.{get_or-map}
use Rattle.std.proofs.lemmas.List.Elements.{All-weaker}
use Rattle.std.proofs.lemmas.Option.{slice_get-get_or, slice_get-map}
use Rattle.fz_ast.specs.Rows.{row_type}
use Rattle.fz_ast.specs.Types.{TextT}
use Rattle.fz_ast.specs.declared.row.Column.{Column}
use Rattle.fz_ast.specs.declared.row.Column.TheVariants.{Num, Text}
use Rattle.table_store.specs.Schema.{column_kind}
use Rattle.owner_catalog.specs.Entries.{OwnerEntry, PartitionEntry, TableEntry, owner_signature, table_columns, table_type_of}
use Rattle.owner_catalog.specs.Lawful.{IsOwner, IsPartition}
use Rattle.part_views.specs.Partitions.{ArePartitions, IsPartitionOf, cell_type}

-- the cells of a text column are texts
text_cells : (kinds : List Column) (k : ℕ) → slice_get kinds k ≡ Some Text → cell_type k (row_type kinds) ≡ TextT
unfolding row_type
text_cells [] k is = absurd cc
text_cells (Text ∷ []) zero is = refl
text_cells (Num ∷ []) zero is = absurd cc
text_cells (c ∷ []) (suc k) is = absurd cc
text_cells (Text ∷ d ∷ kinds) zero is = refl
text_cells (Num ∷ d ∷ kinds) zero is = absurd cc
text_cells (c ∷ d ∷ kinds) (suc k) is = text_cells (d ∷ kinds) k is

divides : (tables : List TableEntry) (partition : PartitionEntry) → IsPartition tables partition → IsPartitionOf (map table_type_of tables) partition
divides tables partition legal =
    let none : TableEntry = record { name = []; file = []; columns = [] } in
    let table = get_or tables partition.table none in
    let columns : get_or (map table_columns tables) partition.table [] ≡ table.columns = get_or-map table_columns tables partition.table none [] legal.table in
    let column : slice_get table.columns partition.column ≡ Some legal.column = rw columns at legal.there in
    let kind : slice_get (map column_kind table.columns) partition.column ≡ Some Text =
    slice_get-map column_kind table.columns partition.column ∙ ap (option_map column_kind) column ∙ ap Some legal.text in
    record {
      table = table_type_of table;
      there = slice_get-map table_type_of tables partition.table ∙ ap (option_map table_type_of) (slice_get-get_or tables partition.table none legal.table);
      text = text_cells (map column_kind table.columns) partition.column kind;
      few = legal.few;
      distinct = legal.distinct;
    }

pub owner_partitions : (owner : OwnerEntry) → IsOwner owner → ArePartitions (owner_signature owner) owner.partitions
owner_partitions owner legal = record {
  few = legal.few_partitions;
  each = All-weaker (IsPartition owner.tables) (IsPartitionOf (owner_signature owner)) (divides owner.tables) owner.partitions legal.partitions;
}
