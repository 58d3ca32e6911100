-- What is derivable of a whole program over its tables.
use Rattle.std.proofs.Common.{refl, subst}
use Rattle.std.specs.Prelude.{List, [], ℤ, ◌∷◌, ◌≡◌}
use Rattle.fz_frac.proofs.Laws.{greater-left, greater-right, mul-add', none-least, ⊑-refl, ◌⊕◌, ◌⊗◌, ◌⨾◌}
use Rattle.fz_frac.specs.Distance.{Distance, Fin, greater, mul, none, ◌⊑◌}
use Rattle.fz_ast.specs.Limits.{IsNumber, TermLimits}
use Rattle.fz_ast.specs.Signature.{IsSignature, Signature, table_type}
use Rattle.fz_ast.specs.Terms.{Term}
use Rattle.fz_ast.specs.Types.{NumT}
use Rattle.metric_values.proofs.Removal.{differ_by}
use Rattle.metric_values.specs.Distances.{bag_distance, gap}
use Rattle.metric_values.specs.Tables.{Dataset, IsDataset, apart, rows_of}
use Rattle.metric_values.specs.Values.{BagV, NumV, Value}
use Rattle.term_meanings.proofs.Closeness.{Close}
use Rattle.term_meanings.proofs.FlatTyping.{typed_ground}
use Rattle.term_meanings.proofs.Nearness.{sum_whole}
use Rattle.term_meanings.specs.Environments.{NearEnv, TypedEnv, dot, near_bind, near_empty, typed_bind, typed_empty}
use Rattle.term_meanings.specs.Means.{Means}
use Rattle.term_meanings.specs.Near.{NearNum, TypedNum, near_bag, near_num, typed_num}
use Rattle.term_meanings.proofs.Fine.{Fine}
use Rattle.fz_derive.proofs.Bounds.{fine, law}
use Rattle.fz_derive.specs.ByPlace.{Derivable}
use Rattle.fz_derive.specs.Judged.{names_of}
use Rattle.term_meanings.specs.Scopes.{AllTypes}
use Rattle.term_meanings.specs.Sensitivities.{Sensitivities}

-- a signature's names have types that can be written
pub context_ok : (ts : Signature) → IsSignature ts → AllTypes (names_of ts)
context_ok [] h = tt
context_ok (t ∷ ts) h = (record { well_formed = rw (h.2, h.3) refl; limits = h.4 }, context_ok ts h.5)

env_typed : (ts : Signature) (X : Dataset) → IsDataset ts X → TypedEnv (names_of ts) (rows_of ts X)
env_typed [] [] h = typed_empty
env_typed [] (xs ∷ X) h = absurd h
env_typed (t ∷ ts) [] h = absurd h
env_typed (t ∷ ts) (xs ∷ X) h = typed_bind (typed_ground (table_type t) (BagV xs) h.0) (env_typed ts X h.1)

-- the greatest over the tables
abbrev pub greatest_in : Sensitivities → Distance
greatest_in [] = none
greatest_in (t ∷ D) = greater t (greatest_in D)

-- each table's distance
abbrev gaps : Dataset → Dataset → List Distance
gaps (xs ∷ X) (ys ∷ Y) = Fin (bag_distance xs ys) 1 ∷ gaps X Y
gaps X Y = []

env_near : (ts : Signature) (X Y : Dataset) → IsDataset ts X → IsDataset ts Y → NearEnv (names_of ts) (rows_of ts X) (rows_of ts Y) (gaps X Y)
env_near [] [] [] h k = near_empty
env_near [] (xs ∷ X) Y h k = absurd h
env_near [] [] (ys ∷ Y) h k = absurd k
env_near (t ∷ ts) [] Y h k = absurd h
env_near (t ∷ ts) (xs ∷ X) [] h k = absurd k
env_near (t ∷ ts) (xs ∷ X) (ys ∷ Y) h k = near_bind (near_bag _ (differ_by xs ys) (⊑-refl _)) (env_near ts X Y h.1 k.1)

dot_apart : (D : Sensitivities) (X Y : Dataset) → dot D (gaps X Y) ⊑ mul (greatest_in D) (Fin (apart X Y) 1)
dot_apart [] X Y = none-least _
dot_apart (d ∷ D) [] Y = none-least _
dot_apart (d ∷ D) (xs ∷ X) [] = none-least _
dot_apart (d ∷ D) (xs ∷ X) (ys ∷ Y) =
    let n = bag_distance xs ys in let m = apart X Y in
    ((greater-left d (greatest_in D) ⊗ ⊑-refl (Fin n 1)) ⊕ (dot_apart D X Y ⨾ (greater-right d (greatest_in D) ⊗ ⊑-refl (Fin m 1))))
    ⨾ mul-add' (greater d (greatest_in D)) (Fin n 1) (Fin m 1) ⨾ (⊑-refl (greater d (greatest_in D)) ⊗ sum_whole n m)

num_value : (v : Value) → TypedNum v → (z : ℤ) × (v ≡ NumV z) × IsNumber z
num_value _ (typed_num {z = z} l) = (z, refl, l)

gap_le : (v w : ℤ) (d : Distance) → NearNum (NumV v) (NumV w) d → Fin (gap v w) 1 ⊑ d
gap_le v w d (near_num h) = h

pub has_value : (ts : Signature) (e : Term) (D : Sensitivities) → IsSignature ts → Derivable (names_of ts) e NumT D → (X : Dataset) → IsDataset ts X → (z : ℤ) × Means (rows_of ts X) e (NumV z) × IsNumber z
has_value ts e D s p X h =
    let f : Fine (rows_of ts X) e NumT = fine (context_ok ts s) p (rows_of ts X) (env_typed ts X h) in
    let z = num_value f.has.0 (f.all f.has.1.0 f.has.0 f.has.1.1) in
    (z.0, subst (λ v. Means (rows_of ts X) e v) z.1 f.has.1, z.2)

pub bounded : (ts : Signature) (e : Term) (D : Sensitivities) → IsSignature ts → Derivable (names_of ts) e NumT D → (X Y : Dataset) → IsDataset ts X → IsDataset ts Y
    → (y z : ℤ) → Means (rows_of ts X) e (NumV y) → Means (rows_of ts Y) e (NumV z) → Fin (gap y z) 1 ⊑ mul (greatest_in D) (Fin (apart X Y) 1)
bounded ts e D s p X Y h k y z m n =
    let c : Close (rows_of ts X) (rows_of ts Y) e NumT (dot D (gaps X Y)) = law (context_ok ts s) p (rows_of ts X) (rows_of ts Y) (gaps X Y) (env_typed ts X h) (env_typed ts Y k) (env_near ts X Y h k) in
    gap_le y z _ (c.by m.0 n.0 (NumV y) (NumV z) m.1 n.1) ⨾ dot_apart D X Y
