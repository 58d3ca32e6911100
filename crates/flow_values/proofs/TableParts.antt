-- Parts of a table's rows as values.
use Rattle.std.proofs.Common.{◌≡◌, ◌<◌, ◌≤◌, ◌+◌, ℕ, zero, suc, List, ap, arith, length, refl, sym}
use Rattle.std.specs.List.{All}
use Rattle.metric_values.specs.Cells.{cell_at, columns_in, from_column, row_at}
use Rattle.metric_values.specs.Values.{BangF, Flat, InlF, InrF, NumF, PairF, PairV, TextF, UnitF, value_of}

pub columns_some : (x : Flat) → 0 < columns_in x
columns_some (NumF z) = omega arith
columns_some (TextF s) = omega arith
columns_some UnitF = omega arith
columns_some (PairF a b) = omega arith
columns_some (InlF a) = omega arith
columns_some (InrF a) = omega arith
columns_some (BangF a) = omega arith

last_cell : (k : ℕ) (x : Flat) → suc k ≡ columns_in x → from_column k x ≡ cell_at k x
last_cell zero (NumF z) h = refl
last_cell zero (TextF s) h = refl
last_cell zero UnitF h = refl
last_cell zero (PairF a b) h = absurd (omega (arith, h, columns_some b))
last_cell zero (InlF a) h = refl
last_cell zero (InrF a) h = refl
last_cell zero (BangF a) h = refl
last_cell (suc k) (NumF z) h = refl
last_cell (suc k) (TextF s) h = refl
last_cell (suc k) UnitF h = refl
last_cell (suc k) (PairF a b) h = last_cell k b (omega (arith, h))
last_cell (suc k) (InlF a) h = refl
last_cell (suc k) (InrF a) h = refl
last_cell (suc k) (BangF a) h = refl

more_paired : (k : ℕ) (x : Flat) → suc k < columns_in x → PairV (value_of (cell_at k x)) (value_of (from_column (suc k) x)) ≡ value_of (from_column k x)
more_paired zero (NumF z) h = absurd (omega arith)
more_paired zero (TextF s) h = absurd (omega arith)
more_paired zero UnitF h = absurd (omega arith)
more_paired zero (PairF a b) h = refl
more_paired zero (InlF a) h = absurd (omega arith)
more_paired zero (InrF a) h = absurd (omega arith)
more_paired zero (BangF a) h = absurd (omega arith)
more_paired (suc k) (NumF z) h = absurd (omega arith)
more_paired (suc k) (TextF s) h = absurd (omega arith)
more_paired (suc k) UnitF h = absurd (omega arith)
more_paired (suc k) (PairF a b) h = more_paired k b (omega arith)
more_paired (suc k) (InlF a) h = absurd (omega arith)
more_paired (suc k) (InrF a) h = absurd (omega arith)
more_paired (suc k) (BangF a) h = absurd (omega arith)

-- of a table as wide as n
module _ (rows : List Flat) (n : ℕ) (wide : All (λ row. columns_in row ≡ n) rows) (i k : ℕ) (there : i < length rows) where
  pub last_part : k + 1 ≡ n → value_of (cell_at k (row_at rows i)) ≡ value_of (from_column k (row_at rows i))
  last_part h = ap value_of (sym (last_cell k (row_at rows i) (omega (arith, h, wide i UnitF there))))

  pub last_of_row : n ≤ k + 1 → k < columns_in (row_at rows i) → cell_at k (row_at rows i) ≡ from_column k (row_at rows i)
  last_of_row h l = sym (last_cell k (row_at rows i) (omega (arith, h, l, wide i UnitF there)))

  pub more_of_row : k + 1 < n → suc k < columns_in (row_at rows i)
  more_of_row h = omega (arith, h, wide i UnitF there)

  pub paired_part : k + 1 < n → PairV (value_of (cell_at k (row_at rows i))) (value_of (from_column (suc k) (row_at rows i))) ≡ value_of (from_column k (row_at rows i))
  paired_part h = more_paired k (row_at rows i) (omega (arith, h, wide i UnitF there))
