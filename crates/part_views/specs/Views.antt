-- What a view shows: the whole shows every table, and a part its partition's table alone, with the rows of its key.
use Rattle.std.specs.Prelude.{ℕ, List, [], ◌∷◌, filter, get_or, slice_get, Option, Some, None}
use Rattle.partition_charge.specs.declared.view.View.{View}
use Rattle.partition_charge.specs.declared.view.View.TheVariants.{Whole, Part}
use Rattle.fz_ast.specs.Signature.{Signature, TableType}
use Rattle.metric_values.specs.Cells.{cell_at}
use Rattle.metric_values.specs.Tables.{Dataset}
use Rattle.metric_values.specs.Values.{Flat}
use Rattle.table_store.specs.Groups.{has_text}
use Rattle.owner_catalog.specs.Entries.{PartitionEntry}

-- the rows whose cell in a column equals the key, in order
abbrev pub rows_with_key : (column : ℕ) → (key : List ℕ) → List Flat → List Flat
rows_with_key column key rows = filter (λ row. has_text key (cell_at column row)) rows

-- a table alone
abbrev pub alone : Option TableType → Signature
alone None = []
alone (Some table) = table ∷ []

-- the table that a partition divides; no table where there is no such partition
abbrev pub divided_table : Signature → Option PartitionEntry → Signature
divided_table tables None = []
divided_table tables (Some partition) = alone (slice_get tables partition.table)

-- the tables that a program may name in a view
unfoldable pub signature_in : Signature → List PartitionEntry → View → Signature
signature_in tables partitions Whole = tables
signature_in tables partitions (Part p j) = divided_table tables (slice_get partitions p)

-- the rows of a key; none where there is no such key
abbrev pub rows_of_key : (column : ℕ) → Option (List ℕ) → List Flat → List Flat
rows_of_key column None rows = []
rows_of_key column (Some key) rows = rows_with_key column key rows

-- the rows of a partition's part
abbrev pub part_rows : Option PartitionEntry → (part : ℕ) → Dataset → Dataset
part_rows None part rows = []
part_rows (Some partition) part rows =
    rows_of_key partition.column (slice_get partition.keys part) (get_or rows partition.table []) ∷ []

-- the rows of each table that a view shows
unfoldable pub rows_in : List PartitionEntry → View → Dataset → Dataset
rows_in partitions Whole rows = rows
rows_in partitions (Part p j) rows = part_rows (slice_get partitions p) j rows
