-- The table that a file of CSV holds, or what is wrong with the file.
use Rattle.std.specs.Prelude.{◌≡◌, ℕ, ◌+◌, ◌^◌, ◌≤◌, List, [], ◌∷◌, map, length, Option, Some, None, Result, Ok, Err, nat_eq, nat_lt, if◌then◌else◌, ℤ}
use Rattle.std.specs.Cmp.Lexicographic.{pointwise}
use Rattle.csv.specs.Reading.{AreRecords, default_config, records, strip_bom}
use Rattle.csv.specs.declared.parser.State.TheVariants as st
use Rattle.fz_ast.specs.declared.row.Column.{Column}
use Rattle.fz_ast.specs.declared.row.Column.TheVariants.{Num, Text}
use Rattle.metric_values.specs.Values.{Flat, NumF, TextF, UnitF, PairF}
use Rattle.table_store.specs.Cell.{cell_number, cell_value, longest_text}
use Rattle.table_store.specs.Schema.{NamedColumn, column_kind, column_name}
use Rattle.table_store.specs.declared.TableFault.{TableFault}
use Rattle.table_store.specs.declared.TableFault.TheVariants.{BadHeader, BadRecord, BadCell, TooManyRows}

-- how many rows a table may have
abbrev pub most_rows : ℕ
most_rows = 2 ^ 20

-- the text of a file: without a byte order mark, and without another, which csv takes off itself
abbrev pub text_of_file : List ℕ → List ℕ
text_of_file bytes = strip_bom (strip_bom bytes)

-- the records of a file, as csv reads them at its defaults, the header first
abbrev pub records_of : List ℕ → List (List (List ℕ))
records_of bytes = records default_config (text_of_file bytes)

-- the first, before what follows: all of them, or the first fault
abbrev pub before_rest : Result Flat TableFault → Result (List Flat) TableFault → Result (List Flat) TableFault
before_rest (Err fault) rest = Err fault
before_rest (Ok first) (Err fault) = Err fault
before_rest (Ok first) (Ok rest) = Ok (first ∷ rest)

-- what a cell holds, or that it isn't of its column's kind
abbrev pub cell_or_fault : (row column : ℕ) → Option Flat → Result Flat TableFault
cell_or_fault row column None = Err (BadCell row column)
cell_or_fault row column (Some cell) = Ok cell

-- the cells of a row from a column on, by the columns' kinds, or the first that isn't of its column's kind
unfoldable pub cells_from : (row column : ℕ) → List Column → List (List ℕ) → Result (List Flat) TableFault
cells_from row column (kind ∷ kinds) (field ∷ fields) =
    before_rest (cell_or_fault row column (cell_value kind field)) (cells_from row (column + 1) kinds fields)
cells_from row column kinds fields = Ok []

-- a row of these cells: the only cell, or the first paired with the row of the others
abbrev pub row_of_cells : List Flat → Flat
row_of_cells [] = UnitF
row_of_cells (cell ∷ []) = cell
row_of_cells (cell ∷ second ∷ more) = PairF cell (row_of_cells (second ∷ more))

-- a row of cells that are in order, or that it is one too many
abbrev pub row_or_fault : ℕ → Result (List Flat) TableFault → Result Flat TableFault
row_or_fault row (Err fault) = Err fault
row_or_fault row (Ok cells) = if nat_lt row most_rows then Ok (row_of_cells cells) else Err TooManyRows

-- the row that a record writes, or its fault
abbrev pub row_in : List Column → ℕ → List (List ℕ) → Result Flat TableFault
row_in kinds row fields =
    if nat_eq (length fields) (length kinds) then row_or_fault row (cells_from row 0 kinds fields) else Err (BadRecord row)

-- the rows from this one on, or the first fault among them
unfoldable pub rows_from : List Column → ℕ → List (List (List ℕ)) → Result (List Flat) TableFault
rows_from kinds row [] = Ok []
rows_from kinds row (fields ∷ rest) = before_rest (row_in kinds row fields) (rows_from kinds (row + 1) rest)

-- the rows of records whose first has the columns' names, in order
abbrev pub rows_under : List NamedColumn → List (List (List ℕ)) → Result (List Flat) TableFault
rows_under schema [] = Err BadHeader
rows_under schema (header ∷ rows) =
    if pointwise (pointwise nat_eq) header (map column_name schema) then rows_from (map column_kind schema) 0 rows else Err BadHeader

-- the table of these columns that the bytes of a file hold, or the first fault in them
unfoldable pub table_in_file : List NamedColumn → List ℕ → Result (List Flat) TableFault
table_in_file schema bytes = rows_under schema (records_of bytes)

-- what a cell of a column of this kind writes
pub data Writes : Column → List ℕ → Flat → Type 0 where
  a_number : {cell : List ℕ} {number : ℤ} → cell_number cell ≡ Some number → Writes Num cell (NumF number)
  a_text : {cell : List ℕ} → length cell ≤ longest_text → Writes Text cell (TextF cell)

-- a record of a cell for each column, which writes a row
pub data WritesRow : List Column → List (List ℕ) → Flat → Type 0 where
  only_cell : {kind : Column} {cell : List ℕ} {x : Flat} → Writes kind cell x → WritesRow (kind ∷ []) (cell ∷ []) x
  first_cell : {kind : Column} {kinds : List Column} {cell : List ℕ} {cells : List (List ℕ)} {x y : Flat} → Writes kind cell x → WritesRow kinds cells y
      → WritesRow (kind ∷ kinds) (cell ∷ cells) (PairF x y)

-- records that write these rows, one each
pub data WriteRows (kinds : List Column) : List (List (List ℕ)) → List Flat → Type 0 where
  no_rows : WriteRows kinds [] []
  first_row : {cells : List (List ℕ)} {records : List (List (List ℕ))} {x : Flat} {rows : List Flat} → WritesRow kinds cells x → WriteRows kinds records rows
      → WriteRows kinds (cells ∷ records) (x ∷ rows)

-- The same in other words: the records are the columns' names and then one for each row, which writes it cell by cell,
-- and there are not too many.
pub record IsTable (schema : List NamedColumn) (bytes : List ℕ) (rows : List Flat) : Type 0 where
  pub body : List (List (List ℕ))
  pub read : AreRecords default_config st.StartRecord (text_of_file bytes) (map column_name schema ∷ body)
  pub written : WriteRows (map column_kind schema) body rows
  pub few : length rows ≤ most_rows
