-- Rows column by column, and datasets table by table.
use Rattle.std.proofs.Common.{◌≡◌, refl, arith, [], ◌∷◌, ℕ, zero, suc, ◌+◌, ◌<◌, ◌≤◌, length, drop, get_or, ◌⊎◌, inl, inr}
use Rattle.std.specs.Prelude.{min, ⊤}
use Rattle.std.specs.declared.cmp.Ordering.{Ordering}
use Rattle.std.specs.declared.cmp.Ordering.TheVariants.{Less, Equal, Greater}
use Rattle.std.specs.Cmp.{ranked}
use Rattle.std.specs.Ordering.{MatchOrdering, nat_cmp}
use Rattle.metric_values.specs.Cells.{cell_at, columns_in, from_column}
use Rattle.metric_values.specs.Distances.{bag_distance}
use Rattle.metric_values.specs.Tables.{Dataset, apart}
use Rattle.metric_values.specs.Values.{Flat, NumF, TextF, UnitF, PairF, InlF, InrF, BangF}
use Rattle.value_distance.specs.Order.{element_cmp}

pub some_columns : (a : Flat) → 1 ≤ columns_in a
some_columns (PairF a b) = omega arith
some_columns (NumF z) = omega arith
some_columns (TextF s) = omega arith
some_columns UnitF = omega arith
some_columns (InlF a) = omega arith
some_columns (InrF a) = omega arith
some_columns (BangF a) = omega arith

-- before the last column there is a cell and a rest
rest_at : (k : ℕ) (a : Flat) → k + 1 < columns_in a → from_column k a ≡ PairF (cell_at k a) (from_column (k + 1) a)
rest_at zero (PairF a b) h = refl
rest_at (suc k) (PairF a b) h = let e : suc k + 1 ≡ suc (k + 1) = omega arith in rw e (rest_at k b (omega arith))
rest_at k (NumF z) h = absurd (omega arith)
rest_at k (TextF s) h = absurd (omega arith)
rest_at k UnitF h = absurd (omega arith)
rest_at k (InlF a) h = absurd (omega arith)
rest_at k (InrF a) h = absurd (omega arith)
rest_at k (BangF a) h = absurd (omega arith)

abbrev IsPairF : Flat → Type 0
IsPairF (PairF a b) = ⊤
IsPairF x = ⊥

-- at the last column there is a cell alone
last_at : (k : ℕ) (a : Flat) → k + 1 ≡ columns_in a → (from_column k a ≡ cell_at k a) × (IsPairF (from_column k a) → ⊥)
last_at zero (PairF a b) h = let e = some_columns b in absurd (omega (arith, e))
last_at (suc k) (PairF a b) h = last_at k b (omega arith)
last_at zero (NumF z) h = (refl, λ p. p)
last_at zero (TextF s) h = (refl, λ p. p)
last_at zero UnitF h = (refl, λ p. p)
last_at zero (InlF a) h = (refl, λ p. p)
last_at zero (InrF a) h = (refl, λ p. p)
last_at zero (BangF a) h = (refl, λ p. p)
last_at (suc k) (NumF z) h = absurd (omega arith)
last_at (suc k) (TextF s) h = absurd (omega arith)
last_at (suc k) UnitF h = absurd (omega arith)
last_at (suc k) (InlF a) h = absurd (omega arith)
last_at (suc k) (InrF a) h = absurd (omega arith)
last_at (suc k) (BangF a) h = absurd (omega arith)

-- a cell stands before a pair
below_pair : (x a b : Flat) → (IsPairF x → ⊥) → (element_cmp x (PairF a b) ≡ Less) × (element_cmp (PairF a b) x ≡ Greater)
below_pair (NumF z) a b h = (refl, refl)
below_pair (TextF s) a b h = (refl, refl)
below_pair UnitF a b h = (refl, refl)
below_pair (InlF x) a b h = (refl, refl)
below_pair (InrF x) a b h = (refl, refl)
below_pair (BangF x) a b h = (refl, refl)
below_pair (PairF x y) a b h = absurd (h tt)

-- a column whose cells are equal leaves the rest to decide, and one whose cells differ decides

pub equal_cells : (k : ℕ) (a b : Flat) (r o : Ordering) → k + 1 < columns_in a → k + 1 < columns_in b → r ≡ element_cmp (cell_at k a) (cell_at k b) → r ≡ Equal → element_cmp (from_column k a) (from_column k b) ≡ o
    → element_cmp (from_column (k + 1) a) (from_column (k + 1) b) ≡ o
equal_cells k a b r o h i e f g =
    let c : element_cmp (cell_at k a) (cell_at k b) ≡ Equal = rw (← e) f in
    rw (rest_at k a h, rest_at k b i, c) at g

pub unequal_cells : (k : ℕ) (a b : Flat) (r o : Ordering) → k + 1 < columns_in a → k + 1 < columns_in b → r ≡ element_cmp (cell_at k a) (cell_at k b) → (r ≡ Equal → ⊥) → element_cmp (from_column k a) (from_column k b) ≡ o → r ≡ o
unequal_cells k a b r o h i e f g = go r e f
  where
    go : (s : Ordering) → s ≡ element_cmp (cell_at k a) (cell_at k b) → (s ≡ Equal → ⊥) → s ≡ o
    go Less p n = rw (rest_at k a h, rest_at k b i, ← p) at g
    go Equal p n = absurd (n refl)
    go Greater p n = rw (rest_at k a h, rest_at k b i, ← p) at g

pub last_cells : (k : ℕ) (a b : Flat) (r o : Ordering) → k + 1 ≡ columns_in a → k + 1 ≡ columns_in b → r ≡ element_cmp (cell_at k a) (cell_at k b) → element_cmp (from_column k a) (from_column k b) ≡ o → r ≡ o
last_cells k a b r o h i e g = rw ((last_at k a h).0, (last_at k b i).0, ← e) at g

pub left_ends : (k : ℕ) (a b : Flat) (o : Ordering) → k + 1 ≡ columns_in a → k + 1 < columns_in b → element_cmp (from_column k a) (from_column k b) ≡ o → Less ≡ o
left_ends k a b o h i g = let e = (below_pair (from_column k a) (cell_at k b) (from_column (k + 1) b) (last_at k a h).1).0 in rw (rest_at k b i, e) at g

pub right_ends : (k : ℕ) (a b : Flat) (o : Ordering) → k + 1 < columns_in a → k + 1 ≡ columns_in b → element_cmp (from_column k a) (from_column k b) ≡ o → Greater ≡ o
right_ends k a b o h i g = let e = (below_pair (from_column k b) (cell_at k a) (from_column (k + 1) a) (last_at k b i).1).1 in rw (rest_at k a h, e) at g

-- one table more

pub apart_step : (X Y : Dataset) (k n m t : ℕ) → k < length X → k < length Y → m ≡ bag_distance (get_or X k []) (get_or Y k []) → n + apart (drop k X) (drop k Y) ≡ t → n + m + apart (drop (k + 1) X) (drop (k + 1) Y) ≡ t
apart_step [] Y k n m t h i e g = absurd (omega arith)
apart_step (xs ∷ X) [] k n m t h i e g = absurd (omega arith)
apart_step (xs ∷ X) (ys ∷ Y) zero n m t h i e g = omega (arith, e, g)
apart_step (xs ∷ X) (ys ∷ Y) (suc k) n m t h i e g = let f : suc k + 1 ≡ suc (k + 1) = omega arith in rw f (apart_step X Y k n m t (omega arith) (omega arith) e g)

pub apart_end : (X Y : Dataset) (k : ℕ) → (length X ≤ k) ⊎ (length Y ≤ k) → apart (drop k X) (drop k Y) ≡ 0
apart_end [] Y zero h = refl
apart_end [] Y (suc k) h = refl
apart_end (xs ∷ X) [] zero h = refl
apart_end (xs ∷ X) [] (suc k) h = go (drop k X)
  where
    go : (Z : Dataset) → apart Z [] ≡ 0
    go [] = refl
    go (zs ∷ Z) = refl
apart_end (xs ∷ X) (ys ∷ Y) zero (inl h) = absurd (omega arith)
apart_end (xs ∷ X) (ys ∷ Y) zero (inr h) = absurd (omega arith)
apart_end (xs ∷ X) (ys ∷ Y) (suc k) (inl h) = apart_end X Y k (inl (omega arith))
apart_end (xs ∷ X) (ys ∷ Y) (suc k) (inr h) = apart_end X Y k (inr (omega arith))

pub apart_through : (X Y : Dataset) (k n t : ℕ) → (length X ≤ k) ⊎ (length Y ≤ k) → n + apart (drop k X) (drop k Y) ≡ t → n ≡ t
apart_through X Y k n t h e = let f = apart_end X Y k h in omega (arith, e, f)

-- where one row has fewer columns, it ends first
pub ends_by_width : (w v k : ℕ) (a b : Flat) (o : Ordering) → columns_in a ≡ w → columns_in b ≡ v → k + 1 ≤ w → k + 1 ≤ v → (w ≤ k + 1) ⊎ (v ≤ k + 1) → (nat_cmp w v ≡ Equal → ⊥) → element_cmp (from_column k a) (from_column k b) ≡ o → nat_cmp w v ≡ o
ends_by_width w v k a b o e f h i j n g = go (nat_cmp w v) refl (ranked w v (nat_cmp w v) refl)
  where
    go : (s : Ordering) → nat_cmp w v ≡ s → MatchOrdering s (w < v) (w ≡ v) (v < w) → s ≡ o
    go Less p l = elim j [ inl m ↦ left_ends k a b o (omega (arith, m, h, e)) (omega (arith, f, l, h)) g | inr m ↦ absurd (omega (arith, m, l, h)) ]
    go Equal p l = absurd (n p)
    go Greater p l = elim j [ inl m ↦ absurd (omega (arith, m, l, i)) | inr m ↦ right_ends k a b o (omega (arith, e, l, i)) (omega (arith, m, f, i)) g ]

pub same_width : (w v : ℕ) (r : Ordering) → r ≡ nat_cmp w v → r ≡ Equal → w ≡ v
same_width w v r e f = rw f at (ranked w v r e)

pub min_is_one : (a b m : ℕ) → m ≡ min a b → (a ≤ m) ⊎ (b ≤ m)
min_is_one a b m e = go (nat_cmp a b) (ranked a b (nat_cmp a b) refl)
  where
    go : (s : Ordering) → MatchOrdering s (a < b) (a ≡ b) (b < a) → (a ≤ m) ⊎ (b ≤ m)
    go Less l = inl (omega (arith, l, e))
    go Equal l = inl (omega (arith, l, e))
    go Greater l = inr (omega (arith, l, e))
