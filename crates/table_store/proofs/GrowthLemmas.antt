-- How columns grow by the cells of a record, one column after the other.
use Rattle.std.proofs.Common.{◌≡◌, ◌+◌, ◌<◌, ◌∙◌, ℕ, zero, suc, List, [], ◌∷◌, ◌++◌, ap, arith, get_or, length, map, set, take, Option, Some, None, Result, Ok, Err, Bor, refl, subst, sym, add-one}
use Rattle.std.specs.Prelude.{option_map, unwrap_or}
use Rattle.std.proofs.lemmas.List.{length-append, length-map, map-append}
use Rattle.std.proofs.Math.Seq.{take-suc}
use Rattle.csv.specs.Records.{field_at}
use Rattle.fz_ast.specs.declared.row.Column.{Column}
use Rattle.metric_values.specs.Cells.{AllLong, AreColumns, paired}
use Rattle.metric_values.specs.Columns.{cells_of, rows_of_columns}
use Rattle.metric_values.specs.Values.{Flat, PairF}
use Rattle.metric_values.specs.declared.column.Column.{Column as Cells}
use Rattle.metric_values.proofs.SideBySide.{rows_length}
use Rattle.table_store.specs.Cell.{cell_value}
use Rattle.table_store.specs.Growth.{AddsCell, AddsRow, kind_of}
use Rattle.table_store.specs.Schema.{NamedColumn, column_kind}
use Rattle.table_store.specs.Table.{before_rest, cell_or_fault, cells_from, row_of_cells}
use Rattle.table_store.specs.declared.TableFault.{TableFault}

-- the first columns, so many of them, have taken the cells of a record, and the others are as they were
abbrev pub HasTaken : ℕ → List (List ℕ) → (old new : List Cells) → Type 0
HasTaken zero fields old new = new ≡ old
HasTaken (suc k) (field ∷ fields) (a ∷ old) (b ∷ new) = AddsCell (cell_value (kind_of a) field) a b × HasTaken k fields old new
HasTaken (suc k) fields old new = ⊥

pub taken_length : (k : ℕ) (fields : List (List ℕ)) (old new : List Cells) → HasTaken k fields old new → length new ≡ length old
taken_length zero fields old new h = ap length h
taken_length (suc k) [] old new h = absurd h
taken_length (suc k) (f ∷ fields) [] new h = absurd h
taken_length (suc k) (f ∷ fields) (a ∷ old) [] h = absurd h
taken_length (suc k) (f ∷ fields) (a ∷ old) (b ∷ new) h = ap suc (taken_length k fields old new h.1)

-- the next column takes its cell
taken_more : (k : ℕ) (fields : List (List ℕ)) (old new : List Cells) (b d : Cells) (e : List ℕ) → HasTaken k fields old new → k < length old → k < length fields
    → AddsCell (cell_value (kind_of (get_or new k d)) (get_or fields k e)) (get_or new k d) b → HasTaken (suc k) fields old (set new k b)
taken_more zero [] old new b d e h l m adds = absurd (omega arith)
taken_more zero (f ∷ fields) [] new b d e h l m adds = absurd (omega arith)
taken_more zero (f ∷ fields) (a ∷ old) [] b d e h l m adds = cc h
taken_more zero (f ∷ fields) (a ∷ old) (c ∷ new) b d e h l m adds =
    let first : c ≡ a = cc in
    let rest : new ≡ old = cc in
    ((rw first at adds), rest)
taken_more (suc k) [] old new b d e h l m adds = absurd h
taken_more (suc k) (f ∷ fields) [] new b d e h l m adds = absurd h
taken_more (suc k) (f ∷ fields) (a ∷ old) [] b d e h l m adds = absurd h
taken_more (suc k) (f ∷ fields) (a ∷ old) (c ∷ new) b d e h l m adds = (h.0, taken_more k fields old new b d e h.1 (omega arith) (omega arith) adds)

-- what the cell behind the columns that have taken theirs is at fault for, the record is
before_fault : (o : Option Flat) (a b : Cells) (row c : ℕ) (rest : Result (List Flat) TableFault) (fault : TableFault) → AddsCell o a b → rest ≡ Err fault
    → before_rest (cell_or_fault row c o) rest ≡ Err fault
before_fault None a b row c rest fault adds e = absurd adds
before_fault (Some x) a b row c rest fault adds e = rw e refl

first_fault : (first : Result Flat TableFault) (rest : Result (List Flat) TableFault) (fault : TableFault) → first ≡ Err fault
    → before_rest first rest ≡ Err fault
first_fault first rest fault e = rw e refl

taken_fault : (row c k p : ℕ) (fields : List (List ℕ)) (old new : List Cells) (d : Cells) (e : List ℕ) (fault : TableFault) → HasTaken k fields old new
    → p ≡ c + k
    → k < length old → k < length fields → cell_or_fault row p (cell_value (kind_of (get_or new k d)) (get_or fields k e)) ≡ Err fault
    → cells_from row c (map kind_of old) fields ≡ Err fault
unfolding cells_from
taken_fault row c zero p [] old new d e fault h at l m bad = absurd (omega arith)
taken_fault row c zero p (f ∷ fields) [] new d e fault h at l m bad = absurd (omega arith)
taken_fault row c zero p (f ∷ fields) (a ∷ old) [] d e fault h at l m bad = cc h
taken_fault row c zero p (f ∷ fields) (a ∷ old) (b ∷ new) d e fault h at l m bad =
    let same : b ≡ a = cc in
    let place : c ≡ p = omega (arith, at) in
    first_fault _ _ fault (ap (λ (x : Cells). cell_or_fault row c (cell_value (kind_of x) f)) (sym same)
    ∙ ap (λ (n : ℕ). cell_or_fault row n (cell_value (kind_of b) f)) place ∙ bad)
taken_fault row c (suc k) p [] old new d e fault h at l m bad = absurd h
taken_fault row c (suc k) p (f ∷ fields) [] new d e fault h at l m bad = absurd h
taken_fault row c (suc k) p (f ∷ fields) (a ∷ old) [] d e fault h at l m bad = absurd h
taken_fault row c (suc k) p (f ∷ fields) (a ∷ old) (b ∷ new) d e fault h at l m bad =
    before_fault (cell_value (kind_of a) f) a b row c (cells_from row (c + 1) (map kind_of old) fields) fault h.0
    (taken_fault row (c + 1) k p fields old new d e fault h.1 (omega (arith, at)) (omega arith) (omega arith) bad)

-- a cell that was added
record HasAdded (o : Option Flat) (a b : Cells) : Type 0 where
  cell : Flat
  is : o ≡ Some cell
  kind_is : kind_of b ≡ kind_of a
  cells_are : cells_of b ≡ cells_of a ++ cell ∷ []

has_added : (o : Option Flat) (a b : Cells) → AddsCell o a b → HasAdded o a b
has_added None a b h = absurd h
has_added (Some x) a b h = record { cell = x; is = refl; kind_is = h.0; cells_are = h.1 }

longer : (a b : Cells) (x : Flat) (n : ℕ) → cells_of b ≡ cells_of a ++ x ∷ [] → length (cells_of a) ≡ n → length (cells_of b) ≡ n + 1
longer a b x n e h = ap length e ∙ length-append (cells_of a) (x ∷ []) ∙ ap (λ (m : ℕ). m + 1) h

paired_more : (xs ys : List Flat) (x y : Flat) → length xs ≡ length ys → paired (xs ++ x ∷ []) (ys ++ y ∷ []) ≡ paired xs ys ++ PairF x y ∷ []
paired_more [] [] x y h = refl
paired_more [] (b ∷ ys) x y h = absurd (omega (arith, h))
paired_more (a ∷ xs) [] x y h = absurd (omega (arith, h))
paired_more (a ∷ xs) (b ∷ ys) x y h = ap (λ (t : List Flat). PairF a b ∷ t) (paired_more xs ys x y (omega (arith, h)))

row_more : (x : Flat) (cells : List Flat) (first : Flat) (rest : List Flat) → cells ≡ first ∷ rest → PairF x (row_of_cells cells) ≡ row_of_cells (x ∷ cells)
row_more x cells first rest e = rw e refl

-- what all columns have taken
record TakesAll (row c n : ℕ) (fields : List (List ℕ)) (old new : List Cells) : Type 0 where
  cells : List Flat
  some : (first : Flat) × (rest : List Flat) × (cells ≡ first ∷ rest)
  written : cells_from row c (map kind_of old) fields ≡ Ok cells
  kinds_are : map kind_of new ≡ map kind_of old
  long : AllLong (n + 1) (map cells_of new)
  rows : rows_of_columns new ≡ rows_of_columns old ++ row_of_cells cells ∷ []

takes_one : (row c n : ℕ) (f : List ℕ) (a b : Cells) → HasAdded (cell_value (kind_of a) f) a b → length (cells_of a) ≡ n
    → TakesAll row c n (f ∷ []) (a ∷ []) (b ∷ [])
unfolding cells_from
takes_one row c n f a b added long = record {
  cells = added.cell ∷ [];
  some = (added.cell, [], refl);
  written = rw added.is refl;
  kinds_are = ap (λ (k : Column). k ∷ []) added.kind_is;
  long = (longer a b added.cell n added.cells_are long, tt);
  rows = added.cells_are;
}

takes_more : (row c n : ℕ) (f g : List ℕ) (fields : List (List ℕ)) (a b a2 b2 : Cells) (old new : List Cells) → HasAdded (cell_value (kind_of a) f) a b
    → length (cells_of a) ≡ n
    → AllLong n (map cells_of (a2 ∷ old)) → TakesAll row (c + 1) n (g ∷ fields) (a2 ∷ old) (b2 ∷ new)
    → TakesAll row c n (f ∷ g ∷ fields) (a ∷ a2 ∷ old) (b ∷ b2 ∷ new)
unfolding cells_from
takes_more row c n f g fields a b a2 b2 old new added long others rest =
    let same : length (cells_of a) ≡ length (rows_of_columns (a2 ∷ old)) = long ∙ sym (rows_length n a2 old others) in
    record {
      cells = added.cell ∷ rest.cells;
      some = (added.cell, rest.cells, refl);
      written = ap (λ (o : Option Flat). before_rest (cell_or_fault row c o) (cells_from row (c + 1) (map kind_of (a2 ∷ old)) (g ∷ fields))) added.is
          ∙ ap (before_rest (Ok added.cell)) rest.written;
      kinds_are = ap (λ (k : Column). k ∷ map kind_of (b2 ∷ new)) added.kind_is ∙ ap (λ (ks : List Column). kind_of a ∷ ks) rest.kinds_are;
      long = (longer a b added.cell n added.cells_are long, rest.long);
      rows = ap (λ (xs : List Flat). paired xs (rows_of_columns (b2 ∷ new))) added.cells_are ∙ ap (paired (cells_of a ++ added.cell ∷ [])) rest.rows
          ∙ paired_more (cells_of a) (rows_of_columns (a2 ∷ old)) added.cell (row_of_cells rest.cells) same
          ∙ ap (λ (row : Flat). paired (cells_of a) (rows_of_columns (a2 ∷ old)) ++ row ∷ [])
          (row_more added.cell rest.cells rest.some.0 rest.some.1 rest.some.2);
    }

takes_all : (row c n : ℕ) (fields : List (List ℕ)) (old new : List Cells) → HasTaken (length old) fields old new → length fields ≡ length old → 0 < length old
    → AllLong n (map cells_of old) → TakesAll row c n fields old new
takes_all row c n fields [] new h e some long = absurd (omega arith)
takes_all row c n [] (a ∷ old) new h e some long = absurd h
takes_all row c n (f ∷ fields) (a ∷ old) [] h e some long = absurd h
takes_all row c n (f ∷ []) (a ∷ []) (b ∷ []) h e some long = takes_one row c n f a b (has_added (cell_value (kind_of a) f) a b h.0) long.0
takes_all row c n (f ∷ []) (a ∷ []) (b ∷ b2 ∷ new) h e some long = cc h.1
takes_all row c n (f ∷ g ∷ fields) (a ∷ []) (b ∷ new) h e some long = absurd (omega (arith, e))
takes_all row c n (f ∷ []) (a ∷ a2 ∷ old) (b ∷ new) h e some long = absurd (omega (arith, e))
takes_all row c n (f ∷ g ∷ fields) (a ∷ a2 ∷ old) (b ∷ []) h e some long = absurd h.1
takes_all row c n (f ∷ g ∷ fields) (a ∷ a2 ∷ old) (b ∷ b2 ∷ new) h e some long =
    takes_more row c n f g fields a b a2 b2 old new (has_added (cell_value (kind_of a) f) a b h.0) long.0 long.1
    (takes_all row (c + 1) n (g ∷ fields) (a2 ∷ old) (b2 ∷ new) h.1 (omega (arith, e)) (omega arith) long.1)

pub adds_row : (row : ℕ) (fields : List (List ℕ)) (old new : List Cells) → HasTaken (length old) fields old new → length fields ≡ length old → 0 < length old
    → AllLong row (map cells_of old) → AddsRow row fields old new
adds_row row fields old new h e some long =
    let all = takes_all row 0 row fields old new h e some long in
    record { cells = all.cells; written = all.written; kinds_are = all.kinds_are; long = all.long; rows = all.rows }

-- the field at a place that a record has
pub field_there : (fields : List (List ℕ)) (k : ℕ) (o : Option (Bor (List ℕ))) (none cell : Bor (List ℕ)) → k < length fields
    → option_map (λ s. s.now) o ≡ field_at fields k
    → cell ≡ unwrap_or o none → cell.now ≡ get_or fields k []
unfolding field_at
field_there [] k o none cell h e is = absurd (omega arith)
field_there (f ∷ fields) zero None none cell h e is = cc e
field_there (f ∷ fields) zero (Some s) none cell h e is = cc e
field_there (f ∷ fields) (suc k) o none cell h e is = field_there fields k o none cell (omega arith) e is

-- the next column takes its cell, or refuses it
module _ (row k : ℕ) (fields : List (List ℕ)) (old new : List Cells) (a : Cells) (cell : List ℕ) (taken : HasTaken k fields old new) (under : k < length old)
    (there : k < length fields) (is : a ≡ get_or new k a) (field : cell ≡ get_or fields k []) where
  pub cell_taken : (b : Cells) → AddsCell (cell_value (kind_of a) cell) a b → HasTaken (k + 1) fields old (set new k b)
  cell_taken b adds =
      let at_field : AddsCell (cell_value (kind_of a) (get_or fields k [])) a b = subst (λ (f : List ℕ). AddsCell (cell_value (kind_of a) f) a b) field adds in
      let at_column = subst (λ (x : Cells). AddsCell (cell_value (kind_of x) (get_or fields k [])) x b) is at_field in
      subst (λ (n : ℕ). HasTaken n fields old (set new k b)) (sym (add-one k)) (taken_more k fields old new b a [] taken under there at_column)

  pub cell_refused : (fault : TableFault) → cell_or_fault row k (cell_value (kind_of a) cell) ≡ Err fault
      → cells_from row 0 (map kind_of old) fields ≡ Err fault
  cell_refused fault bad =
      taken_fault row 0 k k fields old new a [] fault taken (omega arith) under there
      (ap (λ (x : Cells). cell_or_fault row k (cell_value (kind_of x) (get_or fields k []))) (sym is)
      ∙ ap (λ (f : List ℕ). cell_or_fault row k (cell_value (kind_of a) f)) (sym field) ∙ bad)

-- columns without cells
pub no_rows : (columns : List Cells) → AllLong 0 (map cells_of columns) → rows_of_columns columns ≡ []
no_rows [] long = refl
no_rows (a ∷ columns) long = none (rows_of_columns (a ∷ columns)) (rows_length 0 a columns long)
  where
    none : (rows : List Flat) → length rows ≡ 0 → rows ≡ []
    none [] e = refl
    none (x ∷ rows) e = absurd (omega (arith, e))

pub long_columns : (n : ℕ) (columns : List Cells) → 0 < length columns → AllLong n (map cells_of columns) → AreColumns (map cells_of columns)
long_columns n [] some long = absurd (omega arith)
long_columns n (a ∷ columns) some long = subst (λ (m : ℕ). AllLong m (map cells_of columns)) (sym long.0) long.1

pub long_more : (n : ℕ) (columns : List (List Flat)) (cells : List Flat) → AllLong n columns → length cells ≡ n → AllLong n (columns ++ cells ∷ [])
long_more n [] cells long e = (e, tt)
long_more n (a ∷ columns) cells long e = (long.0, long_more n columns cells long.1 e)

pub kinds_more : (columns : List Cells) (schema : List NamedColumn) (i : ℕ) (d : NamedColumn) (column : Cells) → i < length schema
    → map kind_of columns ≡ map column_kind (take i schema)
    → kind_of column ≡ (get_or schema i d).kind → map kind_of (columns ++ column ∷ []) ≡ map column_kind (take (i + 1) schema)
kinds_more columns schema i d column h e kind =
    map-append kind_of columns (column ∷ []) ∙ ap (λ (ks : List Column). ks ++ kind_of column ∷ []) e
    ∙ ap (λ (k : Column). map column_kind (take i schema) ++ k ∷ []) kind
    ∙ sym (map-append column_kind (take i schema) (get_or schema i d ∷ [])) ∙ ap (map column_kind) (sym (take_one_more i schema d h))
  where
    take_one_more : (i : ℕ) (schema : List NamedColumn) (d : NamedColumn) → i < length schema → take (i + 1) schema ≡ take i schema ++ get_or schema i d ∷ []
    take_one_more i schema d h = rw add-one (take-suc schema i d h)

pub same_width : (columns : List Cells) (schema : List NamedColumn) → map kind_of columns ≡ map column_kind schema → length columns ≡ length schema
same_width columns schema e = sym (length-map columns kind_of) ∙ ap length e ∙ length-map schema column_kind
