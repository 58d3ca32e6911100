-- What an accepted program's number is, and how far two are apart.
use Rattle.std.proofs.Common.{◌≡◌, ℕ, ◌*◌, ◌/◌, List, refl, subst, arith}
use Rattle.std.specs.Prelude.{ℤ}
use Rattle.fz_frac.specs.Distance.{Distance, Fin, Inf, den, ◌⊑◌}
use Rattle.fz_frac.specs.Lowest.{gcd, lowest}
use Rattle.fz_frac.proofs.Laws.{den_of, den_pos, ⊑-refl, ◌⨾◌, ◌⊗◌}
use Rattle.fz_frac.proofs.Lowest.{lowest as lowest_parts}
use Rattle.fz_ast.specs.Limits.{TermLimits}
use Rattle.fz_ast.specs.Signature.{Signature}
use Rattle.fz_ast.specs.Terms.{Term}
use Rattle.fz_parser.proofs.Limits.{term_limits}
use Rattle.linear_types.specs.Program.{Acceptance, Accepted, Faulty, sensitivity_of}
use Rattle.linear_types.specs.Sensitivities.{Sensitivities}
use Rattle.metric_values.specs.Tables.{rows_of}
use Rattle.metric_values.specs.Values.{NumV}
use Rattle.metric_law.specs.Means.{Means}
use Rattle.metric_law.proofs.Programs.{program_bound, program_value}
use Rattle.metric_law.proofs.Unique.{same_value}
use Rattle.answer_path.specs.Reading.{read, IsReading}
use Rattle.shape_law.specs.Walk.{WalkOutcome, Shaped, Stops, TooManyWalks, shape}
use Rattle.answer_path.specs.Admission.{accepted, admission_of, admitted_by, shaped_by, HasValue}
use Rattle.answer_path.specs.Laws.{OneValue, AcceptedAreBounded, AcceptedHaveValues}
use Rattle.answer_path.proofs.Readings.{one_reading}

-- lowest terms are the same number
pub lowest_most : (d : Distance) → d ⊑ lowest d
lowest_most (Fin p q) =
    let l = lowest_parts p (den q) (den_pos q) in
    let n : ℕ = p / gcd p (den q) in
    let d : ℕ = den q / gcd p (den q) in
    let e : p * d ≡ n * den q = crossed (gcd p (den q)) n d p (den q) l.top l.low in
    record { le = rw (den_of d l.pos_d) (omega (arith, e)) }
  where
    crossed : (g n d p q : ℕ) → p ≡ g * n → q ≡ g * d → p * d ≡ n * q
    crossed g n d p q a b = rw (a, b) (omega arith)
lowest_most Inf = ⊑-refl Inf

-- what it is to be accepted
pub accepted_is : (ts : Signature) (e t : Term) (r : Distance) → admission_of ts (read e) ≡ accepted t r → (D : Sensitivities) × (s : Distance) × (sensitivity_of ts e ≡ Accepted D s) × (t ≡ e) × (r ≡ lowest s)
unfolding admission_of
accepted_is ts e t r h = go (sensitivity_of ts e) refl h
  where
    shaped : (s : Distance) (o : WalkOutcome) → shaped_by e (lowest s) o ≡ accepted t r → (t ≡ e) × (r ≡ lowest s)
    shaped s (Shaped p k) h = (cc h, cc h)
    shaped s (Stops fault) h = absurd (cc h)
    shaped s TooManyWalks h = absurd (cc h)

    go : (a : Acceptance) → sensitivity_of ts e ≡ a → admitted_by ts e a ≡ accepted t r → (D : Sensitivities) × (s : Distance) × (sensitivity_of ts e ≡ Accepted D s) × (t ≡ e) × (r ≡ lowest s)
    go (Accepted D s) q k = let h = shaped s (shape ts e) k in (D, s, q, h.0, h.1)
    go (Faulty f) q k = absurd (cc k)

-- what is read keeps the limits
pub read_limits : (w : List ℕ) (e : Term) → IsReading w (read e) → TermLimits e
unfolding IsReading
read_limits w e h = term_limits h.0 e h.2.term

pub same_term : (w : List ℕ) (e d : Term) → IsReading w (read e) → IsReading w (read d) → e ≡ d
same_term w e d h k = cc (one_reading w (read e) (read d) h k)

pub accepted_have_values : AcceptedHaveValues
unfolding HasValue
accepted_have_values ts w e t r s h a X x =
    let b = accepted_is ts e t r a in
    let v = program_value ts e b.0 b.1 s (read_limits w e h) b.2 X x in
    (v.0, (e, h, v.1), v.2)

-- the value of the reading's term
pub value_of_reading : (ts : Signature) (X : _) (w : List ℕ) (e : Term) (z : ℤ) → IsReading w (read e) → HasValue ts X w z → Means (rows_of ts X) e (NumV z)
unfolding HasValue
value_of_reading ts X w e z h v = subst (λ d. Means (rows_of ts X) d (NumV z)) (same_term w v.0 e v.1 h) v.2

pub one_value : OneValue
unfolding HasValue
one_value ts X w y z h k =
    let m = value_of_reading ts X w h.0 z h.1 k in
    cc (same_value h.2.0 m.0 (rows_of ts X) (h.0) (NumV y) (NumV z) h.2.1 m.1)

pub accepted_are_bounded : AcceptedAreBounded
accepted_are_bounded ts w e t r s h a X Y j k y z m n =
    let b = accepted_is ts e t r a in
    let l = program_bound ts e b.0 b.1 s (read_limits w e h) b.2 X Y j k y z (value_of_reading ts X w e y h m) (value_of_reading ts Y w e z h n) in
    rw b.4 (l ⨾ (lowest_most b.1 ⊗ ⊑-refl _))
