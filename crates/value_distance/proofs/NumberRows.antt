-- The rows of one column.
use Rattle.std.proofs.Common.{◌≡◌, ◌∙◌, ◌<◌, ◌+◌, arith, refl, sym, List, [], ◌∷◌, ◌++◌, ℕ, length, map, take}
use Rattle.std.specs.List.{All}
use Rattle.std.proofs.lemmas.List.Elements.{All-get_or}
use Rattle.metric_values.specs.Cells.{cell_at, columns_in, row_at}
use Rattle.metric_values.specs.Values.{BangF, Flat, InlF, InrF, NumF, PairF, TextF, UnitF}
use Rattle.value_distance.proofs.Gathered.{mapped_pushed, one_element_more}
use Rattle.value_distance.proofs.RowParts.{some_columns}

-- a row of one column is its cell
lone_cell : (x : Flat) → columns_in x ≡ 1 → cell_at 0 x ≡ x
lone_cell (PairF a b) h = let k = some_columns b in absurd (omega (arith, h, k))
lone_cell (NumF y) h = refl
lone_cell (TextF s) h = refl
lone_cell UnitF h = refl
lone_cell (InlF a) h = refl
lone_cell (InrF a) h = refl
lone_cell (BangF a) h = refl

pub lone_more : {H : Type 0} (f : H → Flat) (hs : List H) (h : H) (xs : List Flat) (i n : ℕ) → i < length xs → n ≡ 1 → All (λ row. columns_in row ≡ n) xs → f h ≡ cell_at 0 (row_at xs i) → map f hs ≡ take i xs
    → map f (hs ++ h ∷ []) ≡ take (i + 1) xs
lone_more f hs h xs i n l w a e m =
    let c : columns_in (row_at xs i) ≡ 1 = All-get_or (λ row. columns_in row ≡ n) xs i UnitF l a ∙ w in
    mapped_pushed f hs h ∙ (λ k. m k ++ (e ∙ lone_cell (row_at xs i) c) k ∷ []) ∙ sym (one_element_more xs i l)
