-- The names of tables, bound from the last to the first.
use Rattle.std.proofs.Common.{◌≡◌, ap, arith, refl}
use Rattle.std.proofs.Math.ListN.{drop_of_length-le}
use Rattle.std.proofs.Common.{get_or}
use Rattle.std.specs.Prelude.{Some, [], drop, length, slice_get, suc, zero, ℕ, ◌+◌, ◌<◌, ◌≤◌, ◌∷◌}
use Rattle.fz_ast.specs.Signature.{IsSignature, Signature, TableType}
use Rattle.metric_values.specs.Tables.{Dataset, IsDataset, rows_of}
use Rattle.metric_values.specs.Values.{BagV, Bind, Empty}

pub as_many : (ts : Signature) (X : Dataset) → IsDataset ts X → length X ≡ length ts
as_many [] [] h = refl
as_many [] (xs ∷ X) h = absurd h
as_many (t ∷ ts) [] h = absurd h
as_many (t ∷ ts) (xs ∷ X) h = ap suc (as_many ts X h.1)

pub rows_of_none : (ts : Signature) (X : Dataset) (n : ℕ) → n ≡ length ts → rows_of (drop n ts) (drop n X) ≡ Empty
rows_of_none ts X n h =
    let l : length ts ≤ n = omega (arith, h) in
    let e : drop n ts ≡ [] = drop_of_length-le ts l in
    rw e refl

pub rows_of_more : (ts : Signature) (X : Dataset) → IsDataset ts X → (i : ℕ) (t : TableType) → slice_get ts i ≡ Some t
    → Bind t.name (BagV (get_or X i [])) (rows_of (drop (i + 1) ts) (drop (i + 1) X)) ≡ rows_of (drop i ts) (drop i X)
rows_of_more [] [] h i t e = cc
rows_of_more [] (xs ∷ X) h i t e = absurd h
rows_of_more (u ∷ ts) [] h i t e = absurd h
rows_of_more (u ∷ ts) (xs ∷ X) h zero t e = let k : t ≡ u = cc e in rw k refl
rows_of_more (u ∷ ts) (xs ∷ X) h (suc i) t e = let k : suc i + 1 ≡ suc (i + 1) = omega arith in rw k (rows_of_more ts X h.1 i t e)

pub signature_of_all : (ts : Signature) → (0 < length ts → IsSignature ts) → IsSignature ts
signature_of_all [] h = tt
signature_of_all (t ∷ ts) h = h (omega arith)
