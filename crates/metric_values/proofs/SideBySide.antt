-- Rows of columns: how many there are, how wide they are, and their cells.
use Rattle.std.proofs.Common.{◌≡◌, ◌<◌, ◌∙◌, ℕ, zero, suc, List, [], ◌∷◌, ap, arith, get_or, length, map, refl, subst, sym, ℤ}
use Rattle.std.proofs.lemmas.List.{get_or_default, length-map}
use Rattle.std.specs.List.{All}
use Rattle.metric_values.specs.Cells.{AllLong, AreColumns, AreRows, cell_at, chosen_of, columns_in, first_cell, paired, row_at, side_by_side}
use Rattle.metric_values.specs.Columns.{cells_of, rows_of_columns}
use Rattle.metric_values.specs.Rows.{AreChosen, IsNumbered, IsColumnTable, place_in, rows_of_table}
use Rattle.std.specs.Arc.{arc_value}
use Rattle.metric_values.specs.declared.table.Rows.{Rows}
use Rattle.metric_values.specs.declared.table.Rows.TheVariants.{Whole, Chosen}
use Rattle.metric_values.specs.Values.{Flat, NumF, PairF, TextF, UnitF}
use Rattle.metric_values.specs.declared.column.Column.{Column}
use Rattle.metric_values.specs.declared.column.Column.TheVariants.{Numbers, Texts}

paired_length : (xs ys : List Flat) → length xs ≡ length ys → length (paired xs ys) ≡ length xs
paired_length [] ys h = refl
paired_length (x ∷ xs) [] h = absurd (omega (arith, h))
paired_length (x ∷ xs) (y ∷ ys) h = ap suc (paired_length xs ys (omega (arith, h)))

paired_at : (xs ys : List Flat) (i : ℕ) → length xs ≡ length ys → i < length xs → row_at (paired xs ys) i ≡ PairF (row_at xs i) (row_at ys i)
paired_at [] ys i e h = absurd (omega arith)
paired_at (x ∷ xs) [] i e h = absurd (omega (arith, e))
paired_at (x ∷ xs) (y ∷ ys) zero e h = refl
paired_at (x ∷ xs) (y ∷ ys) (suc i) e h = paired_at xs ys i (omega (arith, e)) (omega arith)

-- a cell of a column isn't a pair
number_whole : (zs : List ℤ) (i : ℕ) → (columns_in (row_at (map NumF zs) i) ≡ 1) × (first_cell (row_at (map NumF zs) i) ≡ row_at (map NumF zs) i)
number_whole [] i = (refl, refl)
number_whole (z ∷ zs) zero = (refl, refl)
number_whole (z ∷ zs) (suc i) = number_whole zs i

text_whole : (ss : List (List ℕ)) (i : ℕ) → (columns_in (row_at (map TextF ss) i) ≡ 1) × (first_cell (row_at (map TextF ss) i) ≡ row_at (map TextF ss) i)
text_whole [] i = (refl, refl)
text_whole (s ∷ ss) zero = (refl, refl)
text_whole (s ∷ ss) (suc i) = text_whole ss i

whole : (c : Column) (i : ℕ) → (columns_in (row_at (cells_of c) i) ≡ 1) × (first_cell (row_at (cells_of c) i) ≡ row_at (cells_of c) i)
whole (Numbers v) i = number_whole v.items i
whole (Texts t) i = text_whole t i

-- columns of one length
abbrev pub Long : ℕ → List Column → Type 0
Long n cs = AllLong n (map cells_of cs)

pub are_long : (cs : List Column) → AreColumns (map cells_of cs) → (c : Column) → Long (length (cells_of (get_or cs 0 c))) cs
are_long [] a c = absurd a
are_long (d ∷ ds) a c = (refl, a)

pub are_some : (cs : List Column) → AreColumns (map cells_of cs) → 0 < length cs
are_some [] a = absurd a
are_some (d ∷ ds) a = omega arith

pub rows_length : (n : ℕ) (c : Column) (cs : List Column) → Long n (c ∷ cs) → length (rows_of_columns (c ∷ cs)) ≡ n
rows_length n c [] a = a.0
rows_length n c (d ∷ ds) a = paired_length (cells_of c) (rows_of_columns (d ∷ ds)) (a.0 ∙ sym (rows_length n d ds a.1)) ∙ a.0

row_is : (n : ℕ) (c d : Column) (ds : List Column) (i : ℕ) → Long n (c ∷ d ∷ ds) → i < n → row_at (rows_of_columns (c ∷ d ∷ ds)) i ≡ PairF (row_at (cells_of c) i) (row_at (rows_of_columns (d ∷ ds)) i)
row_is n c d ds i a h = paired_at (cells_of c) (rows_of_columns (d ∷ ds)) i (a.0 ∙ sym (rows_length n d ds a.1)) (omega (arith, a.0, h))

row_wide : (n : ℕ) (c : Column) (cs : List Column) (i : ℕ) → Long n (c ∷ cs) → i < n → columns_in (row_at (rows_of_columns (c ∷ cs)) i) ≡ length (c ∷ cs)
row_wide n c [] i a h = (whole c i).0
row_wide n c (d ∷ ds) i a h = ap columns_in (row_is n c d ds i a h) ∙ ap suc (row_wide n d ds i a.1 h)

row_cell : (n : ℕ) (c : Column) (cs : List Column) (k i : ℕ) (e : Column) → Long n (c ∷ cs) → i < n → k < length (c ∷ cs) → cell_at k (row_at (rows_of_columns (c ∷ cs)) i) ≡ row_at (cells_of (get_or (c ∷ cs) k e)) i
row_cell n c [] zero i e a h l = (whole c i).1
row_cell n c [] (suc k) i e a h l = absurd (omega arith)
row_cell n c (d ∷ ds) zero i e a h l = ap (cell_at 0) (row_is n c d ds i a h)
row_cell n c (d ∷ ds) (suc k) i e a h l = ap (cell_at (suc k)) (row_is n c d ds i a h) ∙ row_cell n d ds k i e a.1 h (omega arith)

-- for any columns of a table
pub all_length : (cs : List Column) → AreColumns (map cells_of cs) → (c : Column) → length (rows_of_columns cs) ≡ length (cells_of (get_or cs 0 c))
all_length [] a c = absurd a
all_length (d ∷ ds) a c = rows_length (length (cells_of d)) d ds (refl, a)

pub long_at : (n : ℕ) (cs : List Column) (k : ℕ) (c : Column) → Long n cs → k < length cs → length (cells_of (get_or cs k c)) ≡ n
long_at n [] k c a h = absurd (omega arith)
long_at n (d ∷ ds) zero c a h = a.0
long_at n (d ∷ ds) (suc k) c a h = long_at n ds k c a.1 (omega arith)

pub column_length : (cs : List Column) → AreColumns (map cells_of cs) → (k : ℕ) (c : Column) → k < length cs → length (cells_of (get_or cs k c)) ≡ length (rows_of_columns cs)
column_length [] a k c h = absurd a
column_length (d ∷ ds) a k c h = long_at (length (cells_of d)) (d ∷ ds) k c (refl, a) h ∙ sym (rows_length (length (cells_of d)) d ds (refl, a))

pub all_wide : (cs : List Column) → AreColumns (map cells_of cs) → (i : ℕ) → i < length (rows_of_columns cs) → columns_in (row_at (rows_of_columns cs) i) ≡ length cs
all_wide [] a i h = absurd a
all_wide (c ∷ cs) a i h = row_wide (length (cells_of c)) c cs i (refl, a) (omega (arith, h, rows_length (length (cells_of c)) c cs (refl, a)))

pub all_cells : (cs : List Column) → AreColumns (map cells_of cs) → (k i : ℕ) (e : Column) → i < length (rows_of_columns cs) → k < length cs → cell_at k (row_at (rows_of_columns cs) i) ≡ row_at (cells_of (get_or cs k e)) i
all_cells [] a k i e h l = absurd a
all_cells (c ∷ cs) a k i e h l = row_cell (length (cells_of c)) c cs k i e (refl, a) (omega (arith, h, rows_length (length (cells_of c)) c cs (refl, a))) l

-- chosen rows
pub chosen_length : (rows : List Flat) (numbers : List ℕ) → length (chosen_of rows numbers) ≡ length numbers
chosen_length rows numbers = length-map numbers (row_at rows)

pub chosen_at : (rows : List Flat) (numbers : List ℕ) (i d : ℕ) → i < length numbers → row_at (chosen_of rows numbers) i ≡ row_at rows (get_or numbers i d)
chosen_at rows [] i d h = absurd (omega arith)
chosen_at rows (n ∷ ns) zero d h = refl
chosen_at rows (n ∷ ns) (suc i) d h = chosen_at rows ns i d (omega arith)

-- a table's rows lie in its columns
rest_of_all : (P : ℕ → Type 0) (x : ℕ) (xs : List ℕ) → All P (x ∷ xs) → All P xs
rest_of_all P x xs a = λ k d l. a (suc k) d (omega (arith, l))

pub numbered : (cs : List Column) (r : Rows) (i : ℕ) → i < length (rows_of_table cs r) → IsNumbered r i
numbered cs Whole i h = tt
numbered cs (Chosen v) i h = omega (arith, h, chosen_length (rows_of_columns cs) (arc_value v).items)

pub place_row : (cs : List Column) (r : Rows) (i : ℕ) → IsNumbered r i → row_at (rows_of_table cs r) i ≡ row_at (rows_of_columns cs) (place_in r i)
place_row cs Whole i h = refl
place_row cs (Chosen v) i h = chosen_at (rows_of_columns cs) (arc_value v).items i 0 h

pub place_below : (cs : List Column) (r : Rows) → AreChosen cs r → (i : ℕ) → i < length (rows_of_table cs r) → place_in r i < length (rows_of_columns cs)
place_below cs Whole a i h = h
place_below cs (Chosen v) a i h = a i 0 (omega (arith, h, chosen_length (rows_of_columns cs) (arc_value v).items))

pub places_rows : (cs : List Column) (r : Rows) (numbers : List ℕ) → All (IsNumbered r) numbers → chosen_of (rows_of_columns cs) (map (place_in r) numbers) ≡ chosen_of (rows_of_table cs r) numbers
places_rows cs r [] a = refl
places_rows cs r (n ∷ ns) a =
    let e = sym (place_row cs r n (a 0 0 (omega arith))) in
    let m = places_rows cs r ns (rest_of_all (IsNumbered r) n ns a) in
    λ i. e i ∷ m i

pub places_there : (cs : List Column) (r : Rows) → AreChosen cs r → (numbers : List ℕ) → AreRows (rows_of_table cs r) numbers → AreRows (rows_of_columns cs) (map (place_in r) numbers)
places_there cs r c [] a k d l = absurd (omega (arith, l))
places_there cs r c (n ∷ ns) a zero d l = place_below cs r c n (a 0 0 (omega arith))
places_there cs r c (n ∷ ns) a (suc k) d l = places_there cs r c ns (rest_of_all (λ i. i < length (rows_of_table cs r)) n ns a) k d (omega (arith, l))

pub all_numbered : (cs : List Column) (r : Rows) (numbers : List ℕ) → AreRows (rows_of_table cs r) numbers → All (IsNumbered r) numbers
all_numbered cs r numbers a = λ k d l. numbered cs r (get_or numbers k d) (a k d l)

pub table_wide : (cs : List Column) (r : Rows) → AreColumns (map cells_of cs) → AreChosen cs r → All (λ row. columns_in row ≡ length cs) (rows_of_table cs r)
table_wide cs r a c k d l =
    let e = get_or_default (rows_of_table cs r) k d UnitF l ∙ place_row cs r k (numbered cs r k l) in
    ap columns_in e ∙ all_wide cs a (place_in r k) (place_below cs r c k l)

pub table_cell : (cs : List Column) (r : Rows) → AreColumns (map cells_of cs) → AreChosen cs r → (k i : ℕ) (e : Column) → i < length (rows_of_table cs r) → k < length cs → cell_at k (row_at (rows_of_table cs r) i) ≡ row_at (cells_of (get_or cs k e)) (place_in r i)
table_cell cs r a c k i e h l = ap (cell_at k) (place_row cs r i (numbered cs r i h)) ∙ all_cells cs a k (place_in r i) e (place_below cs r c i h) l

-- a table that is seen as its rows
module _ (cs : List Column) (r : Rows) (t : IsColumnTable cs r) (rows : List Flat) (view : rows_of_table cs r ≡ rows) (i : ℕ) (there : i < length rows) where
  pub seen_row : i < length (rows_of_table cs r)
  seen_row = subst (λ xs. i < length xs) (sym view) there

  pub seen_column : (k : ℕ) → k < columns_in (row_at rows i) → k < length cs
  seen_column k h = omega (arith, h, table_wide cs r t.equal t.chosen i UnitF seen_row, ap (λ xs. columns_in (row_at xs i)) view)

  pub seen_cell : (k : ℕ) → k < columns_in (row_at rows i) → (c : Column) → cell_at k (row_at rows i) ≡ row_at (cells_of (get_or cs k c)) (place_in r i)
  seen_cell k h c = ap (λ xs. cell_at k (row_at xs i)) (sym view) ∙ table_cell cs r t.equal t.chosen k i c seen_row (seen_column k h)

  pub seen_place : (k : ℕ) → k < columns_in (row_at rows i) → (c : Column) → place_in r i < length (cells_of (get_or cs k c))
  seen_place k h c = omega (arith, column_length cs t.equal k c (seen_column k h), place_below cs r t.chosen i seen_row)
