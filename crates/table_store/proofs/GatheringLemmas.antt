-- Columns filled from rows make these rows again.
use Rattle.std.proofs.Common.{◌≡◌, ◌<◌, ◌∙◌, ℕ, zero, suc, List, [], ◌∷◌, ◌++◌, ap, arith, get_or, length, map, refl, sym}
use Rattle.std.specs.List.{All}
use Rattle.std.proofs.lemmas.List.{length-append, length-map}
use Rattle.std.proofs.lemmas.List.Elements.{All-cons, All-head, All-tail}
use Rattle.fz_ast.specs.Rows.{column_type, row_type}
use Rattle.fz_ast.specs.declared.row.Column.{Column}
use Rattle.fz_ast.specs.declared.row.Column.TheVariants.{Num, Text}
use Rattle.metric_values.specs.Cells.{AllLong, cell_at, columns_in, paired, side_by_side}
use Rattle.metric_values.specs.Typed.{TypedFlat}
use Rattle.metric_values.specs.Values.{Flat, NumF, TextF, UnitF, PairF, InlF, InrF, BangF}
use Rattle.table_store.proofs.GrowthLemmas.{long_more}

-- the first columns of rows, so many
abbrev pub columns_of : ℕ → List Flat → List (List Flat)
columns_of zero rows = []
columns_of (suc n) rows = columns_of n rows ++ map (cell_at n) rows ∷ []

pub columns_long : (n : ℕ) (rows : List Flat) → AllLong (length rows) (columns_of n rows)
columns_long zero rows = tt
columns_long (suc n) rows = long_more (length rows) (columns_of n rows) (map (cell_at n) rows) (columns_long n rows) (length-map rows (cell_at n))

pub columns_count : (n : ℕ) (rows : List Flat) → length (columns_of n rows) ≡ n
columns_count zero rows = refl
columns_count (suc n) rows = omega (arith, length-append (columns_of n rows) (map (cell_at n) rows ∷ []), columns_count n rows)

-- what stands behind a row's first column
abbrev behind : Flat → Flat
behind (PairF a b) = b
behind x = UnitF

unit_cell : (k : ℕ) → cell_at k UnitF ≡ UnitF
unit_cell zero = refl
unit_cell (suc k) = refl

cell_behind : (k : ℕ) (x : Flat) → cell_at (suc k) x ≡ cell_at k (behind x)
cell_behind k (PairF a b) = refl
cell_behind k (NumF z) = sym (unit_cell k)
cell_behind k (TextF s) = sym (unit_cell k)
cell_behind k UnitF = sym (unit_cell k)
cell_behind k (InlF a) = sym (unit_cell k)
cell_behind k (InrF a) = sym (unit_cell k)
cell_behind k (BangF a) = sym (unit_cell k)

cells_behind : (k : ℕ) (rows : List Flat) → map (cell_at (suc k)) rows ≡ map (cell_at k) (map behind rows)
cells_behind k [] = refl
cells_behind k (x ∷ rows) = let here = cell_behind k x in let more = cells_behind k rows in λ i. here i ∷ more i

columns_behind : (n : ℕ) (rows : List Flat) → columns_of (suc n) rows ≡ map (cell_at 0) rows ∷ columns_of n (map behind rows)
columns_behind zero rows = refl
columns_behind (suc n) rows =
    let first = columns_behind n rows in
    let last = cells_behind n rows in
    λ i. first i ++ last i ∷ []

one_column : (rows : List Flat) → All (λ x. columns_in x ≡ 1) rows → map (cell_at 0) rows ≡ rows
one_column [] narrow = refl
one_column (x ∷ rows) narrow =
    let here = whole x (All-head (λ x. columns_in x ≡ 1) x rows narrow) in
    let more = one_column rows (All-tail (λ x. columns_in x ≡ 1) x rows narrow) in
    λ i. here i ∷ more i
  where
    some : (x : Flat) → 0 < columns_in x
    some (PairF a b) = omega arith
    some (NumF z) = omega arith
    some (TextF s) = omega arith
    some UnitF = omega arith
    some (InlF a) = omega arith
    some (InrF a) = omega arith
    some (BangF a) = omega arith

    whole : (x : Flat) → columns_in x ≡ 1 → cell_at 0 x ≡ x
    whole (PairF a b) h = absurd (omega (arith, h, some b))
    whole (NumF z) h = refl
    whole (TextF s) h = refl
    whole UnitF h = refl
    whole (InlF a) h = refl
    whole (InrF a) h = refl
    whole (BangF a) h = refl

pairs : (n : ℕ) (rows : List Flat) → All (λ x. columns_in x ≡ suc (suc n)) rows
    → (paired (map (cell_at 0) rows) (map behind rows) ≡ rows) × All (λ x. columns_in x ≡ suc n) (map behind rows)
pairs n [] wide = (refl, λ k d l. absurd (omega (arith, l)))
pairs n (x ∷ rows) wide = by x (All-head (λ x. columns_in x ≡ suc (suc n)) x rows wide) (pairs n rows (All-tail (λ x. columns_in x ≡ suc (suc n)) x rows wide))
  where
    by : (x : Flat) → columns_in x ≡ suc (suc n)
        → (paired (map (cell_at 0) rows) (map behind rows) ≡ rows) × All (λ x. columns_in x ≡ suc n) (map behind rows)
        → (paired (map (cell_at 0) (x ∷ rows)) (map behind (x ∷ rows)) ≡ x ∷ rows) × All (λ x. columns_in x ≡ suc n) (map behind (x ∷ rows))
    by (PairF a b) h more =
        ((λ i. PairF a b ∷ more.0 i), All-cons (λ x. columns_in x ≡ suc n) b (map behind rows) (omega (arith, h)) more.1)
    by (NumF z) h more = absurd (omega (arith, h))
    by (TextF s) h more = absurd (omega (arith, h))
    by UnitF h more = absurd (omega (arith, h))
    by (InlF a) h more = absurd (omega (arith, h))
    by (InrF a) h more = absurd (omega (arith, h))
    by (BangF a) h more = absurd (omega (arith, h))

columns_whole : (n : ℕ) (rows : List Flat) → All (λ x. columns_in x ≡ suc n) rows → side_by_side (columns_of (suc n) rows) ≡ rows
columns_whole zero rows wide = one_column rows wide
columns_whole (suc n) rows wide =
    let two = pairs n rows wide in
    let rest = columns_whole n (map behind rows) two.1 in
    ap side_by_side (columns_behind (suc n) rows ∙ ap (λ (cs : List (List Flat)). map (cell_at 0) rows ∷ cs) (columns_behind n (map behind rows)))
    ∙ ap (paired (map (cell_at 0) rows)) (ap side_by_side (sym (columns_behind n (map behind rows))) ∙ rest)
    ∙ two.0

-- all columns side by side are the rows
pub every_column : (n : ℕ) (rows : List Flat) → 0 < n → All (λ x. columns_in x ≡ n) rows → side_by_side (columns_of n rows) ≡ rows
every_column zero rows some wide = absurd (omega (arith, some))
every_column (suc n) rows some wide = columns_whole n rows wide

-- a row's cells are of its columns' kinds
pub cell_typed : (kinds : List Column) (k : ℕ) (d : Column) (x : Flat) → TypedFlat (row_type kinds) x → k < length kinds
    → TypedFlat (column_type (get_or kinds k d)) (cell_at k x)
unfolding row_type
cell_typed [] k d x t h = absurd (omega arith)
cell_typed (c ∷ []) zero d x t h = only c x t
  where
    only : (c : Column) (x : Flat) → TypedFlat (column_type c) x → TypedFlat (column_type c) (cell_at 0 x)
    only Num (NumF z) t = t
    only Text (TextF s) t = t
    only Num (TextF s) t = absurd t
    only Text (NumF z) t = absurd t
    only Num UnitF t = absurd t
    only Text UnitF t = absurd t
    only Num (PairF a b) t = absurd t
    only Text (PairF a b) t = absurd t
    only Num (InlF a) t = absurd t
    only Text (InlF a) t = absurd t
    only Num (InrF a) t = absurd t
    only Text (InrF a) t = absurd t
    only Num (BangF a) t = absurd t
    only Text (BangF a) t = absurd t
cell_typed (c ∷ []) (suc k) d x t h = absurd (omega arith)
cell_typed (c ∷ l ∷ kinds) zero d (PairF a b) t h = t.0
cell_typed (c ∷ l ∷ kinds) (suc k) d (PairF a b) t h = cell_typed (l ∷ kinds) k d b t.1 (omega arith)
cell_typed (c ∷ l ∷ kinds) k d (NumF z) t h = absurd t
cell_typed (c ∷ l ∷ kinds) k d (TextF s) t h = absurd t
cell_typed (c ∷ l ∷ kinds) k d UnitF t h = absurd t
cell_typed (c ∷ l ∷ kinds) k d (InlF a) t h = absurd t
cell_typed (c ∷ l ∷ kinds) k d (InrF a) t h = absurd t
cell_typed (c ∷ l ∷ kinds) k d (BangF a) t h = absurd t

-- a row has as many columns as kinds
pub row_width : (kinds : List Column) (x : Flat) → TypedFlat (row_type kinds) x → 0 < length kinds → columns_in x ≡ length kinds
unfolding row_type
row_width [] x t h = absurd (omega arith)
row_width (c ∷ []) x t h = only c x t
  where
    only : (c : Column) (x : Flat) → TypedFlat (column_type c) x → columns_in x ≡ 1
    only Num (NumF z) t = refl
    only Text (TextF s) t = refl
    only Num (TextF s) t = absurd t
    only Text (NumF z) t = absurd t
    only Num UnitF t = refl
    only Text UnitF t = refl
    only Num (PairF a b) t = absurd t
    only Text (PairF a b) t = absurd t
    only Num (InlF a) t = refl
    only Text (InlF a) t = refl
    only Num (InrF a) t = refl
    only Text (InrF a) t = refl
    only Num (BangF a) t = refl
    only Text (BangF a) t = refl
row_width (c ∷ l ∷ kinds) (PairF a b) t h = ap suc (row_width (l ∷ kinds) b t.1 (omega arith))
row_width (c ∷ l ∷ kinds) (NumF z) t h = absurd t
row_width (c ∷ l ∷ kinds) (TextF s) t h = absurd t
row_width (c ∷ l ∷ kinds) UnitF t h = absurd t
row_width (c ∷ l ∷ kinds) (InlF a) t h = absurd t
row_width (c ∷ l ∷ kinds) (InrF a) t h = absurd t
row_width (c ∷ l ∷ kinds) (BangF a) t h = absurd t
