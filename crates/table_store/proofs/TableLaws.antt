-- Laws of tables: what the two definitions of a table say is the same, and a table has rows of its schema's type.
use Rattle.std.proofs.Common.{◌≡◌, ◌≢◌, ◌+◌, ◌<◌, ◌≤◌, ◌∙◌, ℕ, suc, Bool, true, false, List, [], ◌∷◌, map, length, nat_eq, Option, Some, None, Result, Ok, Err, ℤ, refl, sym, ap, subst, arith}
use Rattle.std.specs.Prelude.{if◌then◌else◌, nat_le, nat_lt, option_map}
use Rattle.std.specs.List.{All}
use Rattle.std.proofs.lemmas.List.{length-map}
use Rattle.std.proofs.lemmas.List.Elements.{All-cons, All-nil}
use Rattle.std.specs.Cmp.Lexicographic.{bytes_decides, pointwise, pointwise_decides}
use Rattle.csv.specs.Reading.{AreRecords, default_config}
use Rattle.csv.specs.declared.parser.State.TheVariants as st
use Rattle.fz_ast.specs.Rows.{column_type, row_type}
use Rattle.fz_ast.specs.declared.row.Column.{Column}
use Rattle.fz_ast.specs.declared.row.Column.TheVariants.{Num, Text}
use Rattle.metric_values.specs.Typed.{TypedFlat}
use Rattle.metric_values.specs.Values.{Flat, NumF, TextF, PairF}
use Rattle.table_store.specs.Cell.{cell_number, cell_value, longest_text}
use Rattle.table_store.specs.Schema.{NamedColumn, column_kind, column_name, row_of_schema}
use Rattle.table_store.specs.Table.{IsTable, WriteRows, first_row, no_rows, Writes, a_number, a_text, WritesRow, first_cell, only_cell, before_rest, cell_or_fault, cells_from, most_rows, records_of, row_in, row_of_cells, row_or_fault, rows_from, rows_under, table_in_file, text_of_file}
use Rattle.table_store.specs.declared.TableFault.{TableFault}
use Rattle.table_store.specs.declared.TableFault.TheVariants.{BadHeader, BadRecord, TooManyRows, NoMemory}
use Rattle.table_store.proofs.CellLemmas.{cell_number-in_range}
use Rattle.table_store.proofs.RecordLemmas.{records_from-are, records_from-only}

-- a cell writes what it holds
writes : (kind : Column) (cell : List ℕ) (x : Flat) → cell_value kind cell ≡ Some x → Writes kind cell x
writes Num cell x e = by_number (cell_number cell) refl e
  where
    by_number : (o : Option ℤ) → cell_number cell ≡ o → option_map NumF o ≡ Some x → Writes Num cell x
    by_number None w h = cc h
    by_number (Some z) w h = let same : NumF z ≡ x = cc in subst (Writes Num cell) same (a_number w)
writes Text cell x e = by_length (nat_le (length cell) longest_text) refl e
  where
    by_length : (b : Bool) → nat_le (length cell) longest_text ≡ b → (if b then Some (TextF cell) else None) ≡ Some x → Writes Text cell x
    by_length true w h = let same : TextF cell ≡ x = cc in subst (Writes Text cell) same (a_text (grind arith))
    by_length false w h = cc h

written : {kind : Column} {cell : List ℕ} {x : Flat} → Writes kind cell x → cell_value kind cell ≡ Some x
written (a_number w) = rw w refl
written (a_text {cell = cell} w) = let short : nat_le (length cell) longest_text ≡ true = grind arith in rw short refl

-- what comes of a first part and the rest, where nothing is at fault
record BothGood (first : Result Flat TableFault) (rest : Result (List Flat) TableFault) (all : List Flat) : Type 0 where
  x : Flat
  xs : List Flat
  first_is : first ≡ Ok x
  rest_is : rest ≡ Ok xs
  all_is : x ∷ xs ≡ all

both_good : (first : Result Flat TableFault) (rest : Result (List Flat) TableFault) (all : List Flat) → before_rest first rest ≡ Ok all
    → BothGood first rest all
both_good (Err fault) rest all e = cc e
both_good (Ok x) (Err fault) all e = cc e
both_good (Ok x) (Ok xs) all e = record { x = x; xs = xs; first_is = refl; rest_is = refl; all_is = (let same : x ∷ xs ≡ all = cc in same) }

cell_good : (row column : ℕ) (o : Option Flat) (x : Flat) → cell_or_fault row column o ≡ Ok x → o ≡ Some x
cell_good row column None x e = cc e
cell_good row column (Some y) x e = let same : y ≡ x = cc in ap Some same

-- a record's cells write the row that they make
cells_write : (row column : ℕ) (kinds : List Column) (fields : List (List ℕ)) (cells : List Flat) → length fields ≡ length kinds → 0 < length kinds
    → cells_from row column kinds fields ≡ Ok cells → WritesRow kinds fields (row_of_cells cells)
unfolding cells_from
cells_write row column [] fields cells even some e = absurd (omega arith)
cells_write row column (k ∷ kinds) [] cells even some e = absurd (omega (arith, even))
cells_write row column (k ∷ []) (f ∷ []) cells even some e =
    let h = both_good _ _ cells e in
    let none : h.xs ≡ [] = let same : Ok [] ≡ Ok h.xs = h.rest_is in cc in
    let one : h.x ∷ [] ≡ cells = ap (λ (xs : List Flat). h.x ∷ xs) (sym none) ∙ h.all_is in
    subst (λ (xs : List Flat). WritesRow (k ∷ []) (f ∷ []) (row_of_cells xs)) one
    (only_cell (writes k f h.x (cell_good row column (cell_value k f) h.x h.first_is)))
cells_write row column (k ∷ []) (f ∷ g ∷ fields) cells even some e = absurd (omega (arith, even))
cells_write row column (k ∷ l ∷ kinds) (f ∷ []) cells even some e = absurd (omega (arith, even))
cells_write row column (k ∷ l ∷ kinds) (f ∷ g ∷ fields) cells even some e =
    let h = both_good _ _ cells e in
    let first = writes k f h.x (cell_good row column (cell_value k f) h.x h.first_is) in
    let rest = cells_write row (column + 1) (l ∷ kinds) (g ∷ fields) h.xs (omega (arith, even)) (omega arith) h.rest_is in
    let second = both_good _ _ h.xs h.rest_is in
    subst (λ (xs : List Flat). WritesRow (k ∷ l ∷ kinds) (f ∷ g ∷ fields) (row_of_cells xs)) h.all_is
    (subst (λ (xs : List Flat). WritesRow (k ∷ l ∷ kinds) (f ∷ g ∷ fields) (row_of_cells (h.x ∷ xs))) second.all_is
    (first_cell first (subst (λ (xs : List Flat). WritesRow (l ∷ kinds) (g ∷ fields) (row_of_cells xs)) (sym second.all_is) rest)))

-- and the other way round
record AreCells (row column : ℕ) (kinds : List Column) (fields : List (List ℕ)) (x : Flat) : Type 0 where
  first : Flat
  rest : List Flat
  are : cells_from row column kinds fields ≡ Ok (first ∷ rest)
  is : row_of_cells (first ∷ rest) ≡ x

cells_written : (row column : ℕ) {kinds : List Column} {fields : List (List ℕ)} {x : Flat} → WritesRow kinds fields x → AreCells row column kinds fields x
unfolding cells_from
cells_written row column (only_cell {x = x} w) = record { first = x; rest = []; are = rw (written w) refl; is = refl }
cells_written row column (first_cell {x = x} w more) =
    let rest = cells_written row (column + 1) more in
    record { first = x; rest = rest.first ∷ rest.rest; are = rw (written w, rest.are) refl; is = ap (PairF x) rest.is }

row_long : {kinds : List Column} {fields : List (List ℕ)} {x : Flat} → WritesRow kinds fields x → length fields ≡ length kinds
row_long (only_cell w) = refl
row_long (first_cell w more) = ap suc (row_long more)

row_some : {kinds : List Column} {fields : List (List ℕ)} {x : Flat} → WritesRow kinds fields x → 0 < length kinds
row_some (only_cell w) = omega arith
row_some (first_cell w more) = omega arith

-- a record that is a row
record IsRow (kinds : List Column) (row : ℕ) (fields : List (List ℕ)) (x : Flat) : Type 0 where
  cells : WritesRow kinds fields x
  room : row < most_rows

row_in-ok : (kinds : List Column) (row : ℕ) (fields : List (List ℕ)) (x : Flat) → 0 < length kinds → row_in kinds row fields ≡ Ok x → IsRow kinds row fields x
row_in-ok kinds row fields x some e = by_length (nat_eq (length fields) (length kinds)) refl e
  where
    by_room : (cells : List Flat) (b : Bool) → nat_lt row most_rows ≡ b → length fields ≡ length kinds → cells_from row 0 kinds fields ≡ Ok cells
        → (if b then Ok (row_of_cells cells) else Err TooManyRows) ≡ Ok x → IsRow kinds row fields x
    by_room cells true t even w h =
        let same : row_of_cells cells ≡ x = cc in
        record { cells = subst (WritesRow kinds fields) same (cells_write row 0 kinds fields cells even some w); room = grind arith }
    by_room cells false t even w h = cc h

    by_cells : (o : Result (List Flat) TableFault) → cells_from row 0 kinds fields ≡ o → length fields ≡ length kinds → row_or_fault row o ≡ Ok x
        → IsRow kinds row fields x
    by_cells (Err fault) w even h = cc h
    by_cells (Ok cells) w even h = by_room cells (nat_lt row most_rows) refl even w h

    by_length : (b : Bool) → nat_eq (length fields) (length kinds) ≡ b
        → (if b then row_or_fault row (cells_from row 0 kinds fields) else Err (BadRecord row)) ≡ Ok x → IsRow kinds row fields x
    by_length true t h = by_cells (cells_from row 0 kinds fields) refl (grind arith) h
    by_length false t h = cc h

row_in-is : (kinds : List Column) (row : ℕ) (fields : List (List ℕ)) (x : Flat) → WritesRow kinds fields x → row < most_rows → row_in kinds row fields ≡ Ok x
row_in-is kinds row fields x w room =
    let even : nat_eq (length fields) (length kinds) ≡ true = grind (arith, row_long w) in
    let cells = cells_written row 0 w in
    let test : nat_lt row most_rows ≡ true = grind arith in
    rw (even, cells.are, test) (ap Ok cells.is)

-- records that are rows
record AreRows (kinds : List Column) (row : ℕ) (records : List (List (List ℕ))) (rows : List Flat) : Type 0 where
  written : WriteRows kinds records rows
  few : row ≤ most_rows → row + length rows ≤ most_rows

rows_from-ok : (kinds : List Column) (row : ℕ) (records : List (List (List ℕ))) (rows : List Flat) → 0 < length kinds → rows_from kinds row records ≡ Ok rows
    → AreRows kinds row records rows
unfolding rows_from
rows_from-ok kinds row [] rows some e =
    let none : [] ≡ rows = cc in
    subst (AreRows kinds row []) none (record { written = no_rows; few = λ h. omega arith })
rows_from-ok kinds row (fields ∷ records) rows some e =
    let h = both_good _ _ rows e in
    let first = row_in-ok kinds row fields h.x some h.first_is in
    let rest = rows_from-ok kinds (row + 1) records h.xs some h.rest_is in
    subst (AreRows kinds row (fields ∷ records)) h.all_is
    (record { written = first_row first.cells rest.written; few = λ l. omega (arith, first.room, rest.few) })

rows_from-are : (kinds : List Column) (row : ℕ) {records : List (List (List ℕ))} {rows : List Flat} → WriteRows kinds records rows
    → row + length rows ≤ most_rows
    → rows_from kinds row records ≡ Ok rows
unfolding rows_from
rows_from-are kinds row no_rows few = refl
rows_from-are kinds row (first_row {cells = fields} {x = x} w more) few =
    rw (row_in-is kinds row fields x w (omega arith), rows_from-are kinds (row + 1) more (omega arith)) refl

-- a table's rows stand under its header
under_header : (schema : List NamedColumn) (records : List (List (List ℕ))) (rows : List Flat) → rows_under schema records ≡ Ok rows
    → (body : List (List (List ℕ))) × (records ≡ map column_name schema ∷ body) × (rows_from (map column_kind schema) 0 body ≡ Ok rows)
under_header schema [] rows e = cc e
under_header schema (header ∷ body) rows e = by_header (pointwise (pointwise nat_eq) header (map column_name schema)) refl e
  where
    by_header : (b : Bool) → pointwise (pointwise nat_eq) header (map column_name schema) ≡ b
        → (if b then rows_from (map column_kind schema) 0 body else Err BadHeader) ≡ Ok rows
        → (rest : List (List (List ℕ))) × (header ∷ body ≡ map column_name schema ∷ rest) × (rows_from (map column_kind schema) 0 rest ≡ Ok rows)
    by_header true t h = (body, ap (λ (f : List (List ℕ)). f ∷ body) ((pointwise_decides bytes_decides header (map column_name schema)).0 t), h)
    by_header false t h = cc h

-- the bytes are a table with these rows exactly where the table of the bytes is these rows
pub IsTable-from_table_in_file : (schema : List NamedColumn) (bytes : List ℕ) (rows : List Flat) → 0 < length schema → table_in_file schema bytes ≡ Ok rows
    → IsTable schema bytes rows
unfolding table_in_file
IsTable-from_table_in_file schema bytes rows some e =
    let text = text_of_file bytes in
    let under = under_header schema (records_of bytes) rows e in
    let are = rows_from-ok (map column_kind schema) 0 under.0 rows (omega (arith, some, length-map schema column_kind)) under.2 in
    record {
      body = under.0;
      read = subst (AreRecords default_config st.StartRecord text) under.1
          (records_from-are default_config (length text + 1) st.StartRecord text refl (omega arith));
      written = are.written;
      few = omega (arith, are.few);
    }

pub table_in_file-IsTable : (schema : List NamedColumn) (bytes : List ℕ) (rows : List Flat) → IsTable schema bytes rows → table_in_file schema bytes ≡ Ok rows
unfolding table_in_file
table_in_file-IsTable schema bytes rows h =
    let same = records_from-only default_config st.StartRecord (text_of_file bytes) _ refl h.read in
    let names = map column_name schema in
    let same_names : pointwise (pointwise nat_eq) names names ≡ true = (pointwise_decides bytes_decides names names).1 refl in
    rw (same, same_names) (rows_from-are (map column_kind schema) 0 h.written (omega (arith, h.few)))

-- so the bytes are at most one table
pub IsTable-unique : (schema : List NamedColumn) (bytes : List ℕ) (a b : List Flat) → IsTable schema bytes a → IsTable schema bytes b → a ≡ b
IsTable-unique schema bytes a b h k =
    let e : Ok a ≡ Ok b = sym (table_in_file-IsTable schema bytes a h) ∙ table_in_file-IsTable schema bytes b k in cc

-- rows that records write are of their kinds' type
typed_cell : {kind : Column} {cell : List ℕ} {x : Flat} → Writes kind cell x → TypedFlat (column_type kind) x
typed_cell (a_number {cell = cell} {number = z} w) = cell_number-in_range cell z w
typed_cell (a_text w) = w

typed_pair : (k : Column) (kinds : List Column) (x y : Flat) → 0 < length kinds → TypedFlat (column_type k) x → TypedFlat (row_type kinds) y
    → TypedFlat (row_type (k ∷ kinds)) (PairF x y)
unfolding row_type
typed_pair k [] x y some a b = absurd (omega arith)
typed_pair k (l ∷ kinds) x y some a b = (a, b)

typed_row : {kinds : List Column} {fields : List (List ℕ)} {x : Flat} → WritesRow kinds fields x → TypedFlat (row_type kinds) x
unfolding row_type
typed_row (only_cell w) = typed_cell w
typed_row (first_cell {kind = k} {kinds = kinds} {x = x} {y = y} w more) = typed_pair k kinds x y (row_some more) (typed_cell w) (typed_row more)

typed_rows : (kinds : List Column) {records : List (List (List ℕ))} {rows : List Flat} → WriteRows kinds records rows → All (TypedFlat (row_type kinds)) rows
typed_rows kinds no_rows = All-nil (TypedFlat (row_type kinds))
typed_rows kinds (first_row {x = x} {rows = rows} w more) = All-cons (TypedFlat (row_type kinds)) x rows (typed_row w) (typed_rows kinds more)

-- a table's rows are of its schema's type
pub table_in_file-typed : (schema : List NamedColumn) (bytes : List ℕ) (rows : List Flat) → 0 < length schema → table_in_file schema bytes ≡ Ok rows
    → All (TypedFlat (row_of_schema schema)) rows
table_in_file-typed schema bytes rows some e =
    let table = IsTable-from_table_in_file schema bytes rows some e in
    typed_rows (map column_kind schema) table.written

-- no bytes are at fault for want of memory
cells_from-memory : (row column : ℕ) (kinds : List Column) (fields : List (List ℕ)) → cells_from row column kinds fields ≡ Err NoMemory → ⊥
unfolding cells_from
cells_from-memory row column [] fields e = cc e
cells_from-memory row column (k ∷ kinds) [] e = cc e
cells_from-memory row column (k ∷ kinds) (f ∷ fields) e = by_parts (cell_value k f) (cells_from row (column + 1) kinds fields)
    (cells_from-memory row (column + 1) kinds fields) e
  where
    by_parts : (o : Option Flat) (rest : Result (List Flat) TableFault) → (rest ≡ Err NoMemory → ⊥)
        → before_rest (cell_or_fault row column o) rest ≡ Err NoMemory → ⊥
    by_parts None rest next h = cc h
    by_parts (Some x) (Err fault) next h = next (ap (λ (y : TableFault). Err y) (let same : fault ≡ NoMemory = cc in same))
    by_parts (Some x) (Ok cells) next h = cc h

row_in-memory : (kinds : List Column) (row : ℕ) (fields : List (List ℕ)) → row_in kinds row fields ≡ Err NoMemory → ⊥
row_in-memory kinds row fields e = by_length (nat_eq (length fields) (length kinds)) e
  where
    by_room : (cells : List Flat) (b : Bool) → (if b then Ok (row_of_cells cells) else Err TooManyRows) ≡ Err NoMemory → ⊥
    by_room cells true h = cc h
    by_room cells false h = cc h

    by_cells : (o : Result (List Flat) TableFault) → (o ≡ Err NoMemory → ⊥) → row_or_fault row o ≡ Err NoMemory → ⊥
    by_cells (Err fault) none h = none (ap (λ (y : TableFault). Err y) (let same : fault ≡ NoMemory = cc in same))
    by_cells (Ok cells) none h = by_room cells (nat_lt row most_rows) h

    by_length : (b : Bool) → (if b then row_or_fault row (cells_from row 0 kinds fields) else Err (BadRecord row)) ≡ Err NoMemory → ⊥
    by_length true h = by_cells (cells_from row 0 kinds fields) (cells_from-memory row 0 kinds fields) h
    by_length false h = cc h

rows_from-memory : (kinds : List Column) (row : ℕ) (records : List (List (List ℕ))) → rows_from kinds row records ≡ Err NoMemory → ⊥
unfolding rows_from
rows_from-memory kinds row [] e = cc e
rows_from-memory kinds row (fields ∷ records) e =
    by_parts (row_in kinds row fields) (rows_from kinds (row + 1) records) (row_in-memory kinds row fields) (rows_from-memory kinds (row + 1) records) e
  where
    by_parts : (a : Result Flat TableFault) (b : Result (List Flat) TableFault) → (a ≡ Err NoMemory → ⊥) → (b ≡ Err NoMemory → ⊥)
        → before_rest a b ≡ Err NoMemory → ⊥
    by_parts (Err fault) b first next h = first (ap (λ (y : TableFault). Err y) (let same : fault ≡ NoMemory = cc in same))
    by_parts (Ok x) (Err fault) first next h = next (ap (λ (y : TableFault). Err y) (let same : fault ≡ NoMemory = cc in same))
    by_parts (Ok x) (Ok xs) first next h = cc h

pub table_in_file-memory : (schema : List NamedColumn) (bytes : List ℕ) → table_in_file schema bytes ≢ Err NoMemory
unfolding table_in_file
table_in_file-memory schema bytes e = by_records (records_of bytes) e
  where
    by_header : (b : Bool) (rows : List (List (List ℕ))) → (if b then rows_from (map column_kind schema) 0 rows else Err BadHeader) ≡ Err NoMemory → ⊥
    by_header true rows h = rows_from-memory (map column_kind schema) 0 rows h
    by_header false rows h = cc h

    by_records : (records : List (List (List ℕ))) → rows_under schema records ≡ Err NoMemory → ⊥
    by_records [] h = cc h
    by_records (header ∷ rows) h = by_header (pointwise (pointwise nat_eq) header (map column_name schema)) rows h
