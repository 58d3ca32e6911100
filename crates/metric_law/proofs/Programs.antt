-- What the law says of whole programs over tables.
use Rattle.std.proofs.Common.{refl, subst}
use Rattle.std.specs.Prelude.{List, [], ℤ, ◌∷◌, ◌≡◌}
use Rattle.fz_frac.proofs.Laws.{greater-left, greater-right, mul-add', none-least, ⊑-refl, ◌⊕◌, ◌⊗◌, ◌⨾◌}
use Rattle.fz_frac.specs.Distance.{Distance, Fin, greater, mul, ◌⊑◌}
use Rattle.fz_ast.specs.Limits.{IsNumber, TermLimits}
use Rattle.fz_ast.specs.Signature.{IsSignature, Signature, table_type}
use Rattle.fz_ast.specs.Terms.{Term}
use Rattle.fz_ast.specs.Types.{NumT}
use Rattle.linear_types.proofs.Programs.{accepted}
use Rattle.linear_types.proofs.Sound.{sound}
use Rattle.linear_types.specs.Program.{Accepted, context_of, greatest_of, sensitivity_of}
use Rattle.linear_types.specs.Sensitivities.{Sensitivities}
use Rattle.linear_types.specs.Typing.{AllTypes, Typing}
use Rattle.metric_values.proofs.Removal.{differ_by}
use Rattle.metric_values.specs.Distances.{bag_distance, gap}
use Rattle.metric_values.specs.Tables.{Dataset, IsDataset, apart, rows_of}
use Rattle.metric_values.specs.Values.{BagV, NumV, Value}
use Rattle.metric_law.proofs.Closeness.{Close}
use Rattle.metric_law.proofs.Fine.{Fine, fine}
use Rattle.metric_law.proofs.FlatTyping.{typed_ground}
use Rattle.metric_law.proofs.Metric.{law}
use Rattle.metric_law.proofs.Nearness.{sum_whole}
use Rattle.metric_law.specs.Law.{NearEnv, ProgramsAreBounded, ProgramsHaveValues, TypedEnv, dot, near_bind, near_empty, typed_bind, typed_empty}
use Rattle.metric_law.specs.Means.{Means}
use Rattle.metric_law.specs.Near.{NearNum, TypedNum, near_bag, near_num, typed_num}

-- a signature's names have types that can be written
pub context_ok : (ts : Signature) → IsSignature ts → AllTypes (context_of ts)
context_ok [] h = tt
context_ok (t ∷ ts) h = (record { well_formed = rw (h.2, h.3) refl; limits = h.4 }, context_ok ts h.5)

env_typed : (ts : Signature) (X : Dataset) → IsDataset ts X → TypedEnv (context_of ts) (rows_of ts X)
env_typed [] [] h = typed_empty
env_typed [] (xs ∷ X) h = absurd h
env_typed (t ∷ ts) [] h = absurd h
env_typed (t ∷ ts) (xs ∷ X) h = typed_bind (typed_ground (table_type t) (BagV xs) h.0) (env_typed ts X h.1)

-- each table's distance
abbrev gaps : Dataset → Dataset → List Distance
gaps (xs ∷ X) (ys ∷ Y) = Fin (bag_distance xs ys) 1 ∷ gaps X Y
gaps X Y = []

env_near : (ts : Signature) (X Y : Dataset) → IsDataset ts X → IsDataset ts Y → NearEnv (context_of ts) (rows_of ts X) (rows_of ts Y) (gaps X Y)
env_near [] [] [] h k = near_empty
env_near [] (xs ∷ X) Y h k = absurd h
env_near [] [] (ys ∷ Y) h k = absurd k
env_near (t ∷ ts) [] Y h k = absurd h
env_near (t ∷ ts) (xs ∷ X) [] h k = absurd k
env_near (t ∷ ts) (xs ∷ X) (ys ∷ Y) h k = near_bind (near_bag _ (differ_by xs ys) (⊑-refl _)) (env_near ts X Y h.1 k.1)

dot_apart : (D : Sensitivities) (X Y : Dataset) → dot D (gaps X Y) ⊑ mul (greatest_of D) (Fin (apart X Y) 1)
dot_apart [] X Y = none-least _
dot_apart (d ∷ D) [] Y = none-least _
dot_apart (d ∷ D) (xs ∷ X) [] = none-least _
dot_apart (d ∷ D) (xs ∷ X) (ys ∷ Y) =
    let n = bag_distance xs ys in let m = apart X Y in
    ((greater-left d (greatest_of D) ⊗ ⊑-refl (Fin n 1)) ⊕ (dot_apart D X Y ⨾ (greater-right d (greatest_of D) ⊗ ⊑-refl (Fin m 1))))
    ⨾ mul-add' (greater d (greatest_of D)) (Fin n 1) (Fin m 1) ⨾ (⊑-refl (greater d (greatest_of D)) ⊗ sum_whole n m)

num_value : (v : Value) → TypedNum v → (z : ℤ) × (v ≡ NumV z) × IsNumber z
num_value _ (typed_num {z = z} l) = (z, refl, l)

gap_le : (v w : ℤ) (d : Distance) → NearNum (NumV v) (NumV w) d → Fin (gap v w) 1 ⊑ d
gap_le v w d (near_num h) = h

pub has_value : (ts : Signature) (e : Term) (D : Sensitivities) → IsSignature ts → Typing (context_of ts) e NumT D → (X : Dataset) → IsDataset ts X → (z : ℤ) × Means (rows_of ts X) e (NumV z) × IsNumber z
has_value ts e D s p X h =
    let f : Fine (rows_of ts X) e NumT = fine (context_ok ts s) p (rows_of ts X) (env_typed ts X h) in
    let z = num_value f.has.0 (f.all f.has.1.0 f.has.0 f.has.1.1) in
    (z.0, subst (λ v. Means (rows_of ts X) e v) z.1 f.has.1, z.2)

pub bounded : (ts : Signature) (e : Term) (D : Sensitivities) → IsSignature ts → Typing (context_of ts) e NumT D → (X Y : Dataset) → IsDataset ts X → IsDataset ts Y
    → (y z : ℤ) → Means (rows_of ts X) e (NumV y) → Means (rows_of ts Y) e (NumV z) → Fin (gap y z) 1 ⊑ mul (greatest_of D) (Fin (apart X Y) 1)
bounded ts e D s p X Y h k y z m n =
    let c : Close (rows_of ts X) (rows_of ts Y) e NumT (dot D (gaps X Y)) = law (context_ok ts s) p (rows_of ts X) (rows_of ts Y) (gaps X Y) (env_typed ts X h) (env_typed ts Y k) (env_near ts X Y h k) in
    gap_le y z _ (c.by m.0 n.0 (NumV y) (NumV z) m.1 n.1) ⨾ dot_apart D X Y

pub typed_program : (ts : Signature) (t : Term) (D : Sensitivities) (r : Distance) → TermLimits t → sensitivity_of ts t ≡ Accepted D r → Typing (context_of ts) t NumT D
typed_program ts t D r l h = sound t (context_of ts) l NumT D (accepted ts t D r h).0

pub program_value : ProgramsHaveValues
program_value ts t D r s l h X k = has_value ts t D s (typed_program ts t D r l h) X k

pub program_bound : ProgramsAreBounded
program_bound ts t D r s l h X Y j k y z m n = rw (accepted ts t D r h).1 (bounded ts t D s (typed_program ts t D r l h) X Y j k y z m n)
