-- Laws of groups: a group's rows are there, they are the rows with its text in their order, and no row is in two groups.
use Rattle.std.proofs.Common.{◌≡◌, ◌+◌, ◌<◌, ◌≤◌, ◌∙◌, ℕ, zero, suc, Bool, true, false, List, [], ◌∷◌, ◌++◌, ap, arith, append_assoc, length, map, refl, sym}
use Rattle.std.specs.Prelude.{filter, if◌then◌else◌}
use Rattle.std.specs.List.{All}
use Rattle.std.proofs.lemmas.List.{length-append, length-map}
use Rattle.std.proofs.lemmas.List.Elements.{All-cons, All-nil}
use Rattle.std.proofs.lemmas.Slice.Eq.{bytes_eq-Decides}
use Rattle.std.proofs.Math.Seq.{get_or-append_seam}
use Rattle.fz_ast.specs.Rows.{row_type}
use Rattle.fz_ast.specs.declared.row.Column.{Column}
use Rattle.metric_values.specs.Cells.{AreRows, cell_at, chosen_of, columns_in}
use Rattle.metric_values.specs.Typed.{TypedFlat}
use Rattle.metric_values.specs.Values.{Flat, NumF, TextF, UnitF, PairF, InlF, InrF, BangF}
use Rattle.table_store.specs.Groups.{has_text, rows_with, rows_with_from}
use Rattle.table_store.specs.Schema.{NamedColumn, column_kind, row_of_schema}

rows_from_there : (n end column : ℕ) (text : List ℕ) (rows : List Flat) → n + length rows ≤ end → All (λ i. i < end) (rows_with_from n column text rows)
rows_from_there n end column text [] h = All-nil (λ i. i < end)
rows_from_there n end column text (x ∷ rows) h = by (has_text text (cell_at column x)) (rows_from_there (n + 1) end column text rows (omega arith))
  where
    by : (b : Bool) → All (λ i. i < end) (rows_with_from (n + 1) column text rows)
        → All (λ i. i < end) (if b then n ∷ rows_with_from (n + 1) column text rows else rows_with_from (n + 1) column text rows)
    by true more = All-cons (λ i. i < end) n _ (omega arith) more
    by false more = more

-- the rows of a group are there
pub rows_with_there : (column : ℕ) (text : List ℕ) (rows : List Flat) → AreRows rows (rows_with column text rows)
rows_with_there column text rows = rows_from_there 0 (length rows) column text rows (omega arith)

chosen_behind : (before rows : List Flat) (column : ℕ) (text : List ℕ)
    → chosen_of (before ++ rows) (rows_with_from (length before) column text rows) ≡ filter (λ x. has_text text (cell_at column x)) rows
chosen_behind before [] column text = refl
chosen_behind before (x ∷ rows) column text =
    by (has_text text (cell_at column x))
    (ap (λ (all : List Flat). chosen_of all (rows_with_from (length before + 1) column text rows)) (sym (append_assoc before (x ∷ []) rows))
    ∙ ap (λ (n : ℕ). chosen_of ((before ++ x ∷ []) ++ rows) (rows_with_from n column text rows)) (sym (length-append before (x ∷ [])))
    ∙ chosen_behind (before ++ x ∷ []) rows column text)
  where
    by : (b : Bool) → chosen_of (before ++ x ∷ rows) (rows_with_from (length before + 1) column text rows) ≡ filter (λ y. has_text text (cell_at column y)) rows
        → chosen_of (before ++ x ∷ rows) (if b then length before ∷ rows_with_from (length before + 1) column text rows else rows_with_from
        (length before + 1) column text rows)
        ≡ (if b then x ∷ filter (λ y. has_text text (cell_at column y)) rows else filter (λ y. has_text text (cell_at column y)) rows)
    by true more = let here = get_or-append_seam before x rows UnitF in λ i. here i ∷ more i
    by false more = more

-- they are the rows with this text, in their order
pub rows_with_chosen : (column : ℕ) (text : List ℕ) (rows : List Flat)
    → chosen_of rows (rows_with column text rows) ≡ filter (λ x. has_text text (cell_at column x)) rows
rows_with_chosen column text rows = chosen_behind [] rows column text

-- a cell is no two texts
pub one_text : (x : Flat) (a b : List ℕ) → has_text a x ≡ true → has_text b x ≡ true → a ≡ b
one_text (TextF s) a b h k = sym ((bytes_eq-Decides s a).0 h) ∙ (bytes_eq-Decides s b).0 k
one_text (NumF z) a b h k = cc h
one_text UnitF a b h k = cc h
one_text (PairF x y) a b h k = cc h
one_text (InlF x) a b h k = cc h
one_text (InrF x) a b h k = cc h
one_text (BangF x) a b h k = cc h

-- rows of a schema's type have a cell for each column
wide : (kinds : List Column) (column : ℕ) (x : Flat) → TypedFlat (row_type kinds) x → column < length kinds → column < columns_in x
unfolding row_type
wide [] column x t h = absurd (omega arith)
wide (k ∷ []) column x t h = omega (arith, some x)
  where
    some : (x : Flat) → 0 < columns_in x
    some (PairF a b) = omega arith
    some (NumF z) = omega arith
    some (TextF s) = omega arith
    some UnitF = omega arith
    some (InlF a) = omega arith
    some (InrF a) = omega arith
    some (BangF a) = omega arith
wide (k ∷ l ∷ kinds) zero (PairF a b) t h = omega arith
wide (k ∷ l ∷ kinds) (suc column) (PairF a b) t h = let rest = wide (l ∷ kinds) column b t.1 (omega arith) in omega (arith, rest)
wide (k ∷ l ∷ kinds) column (NumF z) t h = absurd t
wide (k ∷ l ∷ kinds) column (TextF s) t h = absurd t
wide (k ∷ l ∷ kinds) column UnitF t h = absurd t
wide (k ∷ l ∷ kinds) column (InlF a) t h = absurd t
wide (k ∷ l ∷ kinds) column (InrF a) t h = absurd t
wide (k ∷ l ∷ kinds) column (BangF a) t h = absurd t

pub rows_wide : (schema : List NamedColumn) (column : ℕ) (rows : List Flat) → All (TypedFlat (row_of_schema schema)) rows → column < length schema
    → All (λ row. column < columns_in row) rows
rows_wide schema column rows typed h = λ k d l. wide (map column_kind schema) column _ (typed k d l) (omega (arith, h, length-map schema column_kind))
