-- A loop over places: what is done and what is left.
use Rattle.std.proofs.Common.{◌≡◌, ℕ, suc, ◌+◌, ◌<◌, ◌≤◌, refl, ap, sym, arith, true, List, [], ◌∷◌, ◌++◌, drop, drop-cons, drop_of_length-le, get_or, length, add-one, ◌∙◌, ◌↔◌, subst}
use Rattle.std.specs.Prelude.{◌||◌, Result, Ok, Err, IfOk, IsErr, IsTrue}
use Rattle.fz_frac.specs.Distance.{Distance, ◌≈◌, mul}
use Rattle.fz_frac.specs.Lowest.{is_out}
use Rattle.fz_frac.specs.Sens.{distance_of}
use Rattle.fz_frac.specs.declared.frac.Range.{Range}
use Rattle.fz_frac.specs.declared.sens.Sens.{Sens}
use Rattle.fz_frac.proofs.Lowest.{sens_fits, out_same}
use Rattle.linear_types.specs.Sensitivities.{Sensitivities, each, scale}
use Rattle.linear_types.specs.Inferred.{any_out}
use Rattle.linear_types.specs.Places.{AllAlike, IsGiven, IsAnswer, IsNext, distances}
use Rattle.linear_types.proofs.Alike.{alike_refl, kept_in_range}

pub answer_of : (r : Result Sens Range) (d : Distance) → IfOk r (λ s. distance_of s ≈ d) → (IsErr r ↔ IsTrue (is_out d)) → IsAnswer r d
answer_of (Ok s) d h k = h
answer_of (Err f) d h k = k.0 refl

-- of the whole D, E is left where v is done
pub record Rest (v : List Sens) (D E : Sensitivities) : Type 0 where
  pub in_range : any_out D ≡ any_out E
  pub alike : (R : Sensitivities) → AllAlike R E → AllAlike (distances v ++ R) D

pub rest_start : (D : Sensitivities) → Rest [] D D
rest_start D = record { in_range = refl; alike = λ R h. h }

pushed : (v : List Sens) (s : Sens) (R : Sensitivities) → distances (v ++ s ∷ []) ++ R ≡ distances v ++ distance_of s ∷ R
pushed [] s R = refl
pushed (x ∷ v) s R = ap (λ L. distance_of x ∷ L) (pushed v s R)

rest_step : (v : List Sens) (D E : Sensitivities) (d : Distance) (s : Sens) → Rest v D (d ∷ E) → distance_of s ≈ d → Rest (v ++ s ∷ []) D E
rest_step v D E d s r h = record {
  in_range = r.in_range ∙ ap (λ t. t || any_out E) (out_same (distance_of s) d h (sens_fits s));
  alike = λ R k. let P : Sensitivities → Type 0 = λ L. AllAlike L D in subst P (sym (pushed v s R)) (r.alike (distance_of s ∷ R) (h, k));
}

append_nil : (D : Sensitivities) → D ++ [] ≡ D
append_nil [] = refl
append_nil (d ∷ D) = ap (λ L. d ∷ L) (append_nil D)

rest_end : (v : List Sens) (D : Sensitivities) → Rest v D [] → IsGiven v D
rest_end v D r = record { in_range = r.in_range; alike = record { all = let P : Sensitivities → Type 0 = λ L. AllAlike L D in subst P (append_nil (distances v)) (r.alike [] tt) } }

pub next_step : (v : List Sens) (D E F : Sensitivities) (s : Sens) (r : Result Sens Range) → r ≡ Ok s → IsNext r E F → Rest v D E → Rest (v ++ s ∷ []) D F
next_step v D E F s r e h k = rest_step v D F h.amount s (subst (λ (L : Sensitivities). Rest v D L) h.is k) (subst (λ (q : Result Sens Range). IsAnswer q h.amount) e h.answer)

pub next_out : (v : List Sens) (D E F : Sensitivities) (f : Range) (r : Result Sens Range) → r ≡ Err f → IsNext r E F → Rest v D E → any_out D ≡ true
next_out v D E F f r e h k =
    let i = subst (λ (L : Sensitivities). Rest v D L) h.is k in
    i.in_range ∙ ap (λ t. t || any_out F) (subst (λ (q : Result Sens Range). IsAnswer q h.amount) e h.answer)

pub ends : (v : List Sens) (D E : Sensitivities) → E ≡ [] → Rest v D E → IsGiven v D
ends v D E e r = rest_end v D (subst (λ (L : Sensitivities). Rest v D L) e r)

-- places that are left

each_nil : (f : Distance → Distance → Distance) (D : Sensitivities) → each f D [] ≡ D
each_nil f [] = refl
each_nil f (d ∷ D) = refl

past : (v : List Sens) (i : ℕ) → length v ≤ i → drop i v ≡ []
past v i h = drop_of_length-le v h

at : (v : List Sens) (i : ℕ) (s : Sens) → i < length v → s ≡ get_or v i s → drop i v ≡ s ∷ drop (i + 1) v
at v i s h e = rw (add-one, drop-cons v i s) (ap (λ t. t ∷ drop (suc i) v) (sym e))

pub each_left : (f : Distance → Distance → Distance) (A B : List Sens) (i : ℕ) (s : Sens) → i < length A → length B ≤ i → s ≡ get_or A i s
    → each f (distances (drop i A)) (distances (drop i B)) ≡ distance_of s ∷ each f (distances (drop (i + 1) A)) (distances (drop (i + 1) B))
each_left f A B i s h k is =
    let e = at A i s h is in let g = past B i k in let m : length B ≤ i + 1 = omega arith in let n = past B (i + 1) m in
    rw (e, g, n) (ap (λ L. distance_of s ∷ L) (sym (each_nil f (distances (drop (i + 1) A)))))

pub each_right : (f : Distance → Distance → Distance) (A B : List Sens) (i : ℕ) (s : Sens) → length A ≤ i → i < length B → s ≡ get_or B i s
    → each f (distances (drop i A)) (distances (drop i B)) ≡ distance_of s ∷ each f (distances (drop (i + 1) A)) (distances (drop (i + 1) B))
each_right f A B i s k h is =
    let e = at B i s h is in let g = past A i k in let m : length A ≤ i + 1 = omega arith in let n = past A (i + 1) m in
    rw (e, g, n) refl

pub each_both : (f : Distance → Distance → Distance) (A B : List Sens) (i : ℕ) (s t : Sens) → i < length A → i < length B → s ≡ get_or A i s → t ≡ get_or B i t
    → each f (distances (drop i A)) (distances (drop i B)) ≡ f (distance_of s) (distance_of t) ∷ each f (distances (drop (i + 1) A)) (distances (drop (i + 1) B))
each_both f A B i s t h k is it = let e = at A i s h is in let g = at B i t k it in rw (e, g) refl

pub next_is : (r : Result Sens Range) (D E : Sensitivities) (d : Distance) → D ≡ d ∷ E → IsAnswer r d → IsNext r D E
next_is r D E d e h = record { amount = d; is = e; answer = h }

pub next_product : (r : Distance) (A : List Sens) (i : ℕ) (s : Sens) (q : Result Sens Range) → i < length A → s ≡ get_or A i s → IsAnswer q (mul r (distance_of s)) → IsNext q (scale r (distances (drop i A))) (scale r (distances (drop (i + 1) A)))
next_product r A i s q h is k = let e = at A i s h is in rw e (record { amount = mul r (distance_of s); is = refl; answer = k })

pub each_done : (f : Distance → Distance → Distance) (A B : List Sens) (n : ℕ) → length A ≤ n → length B ≤ n → each f (distances (drop n A)) (distances (drop n B)) ≡ []
each_done f A B n h k = rw (past A n h, past B n k) refl

pub scale_done : (r : Distance) (A : List Sens) (n : ℕ) → length A ≤ n → scale r (distances (drop n A)) ≡ []
scale_done r A n h = rw (past A n h) refl

-- what is kept as it stands

pub kept_step : (v : List Sens) (D E : Sensitivities) (s : Sens) → distances v ++ distance_of s ∷ E ≡ D → distances (v ++ s ∷ []) ++ E ≡ D
kept_step v D E s h = pushed v s E ∙ h

pub kept_end : (v : List Sens) (D E : Sensitivities) → E ≡ [] → distances v ++ E ≡ D → IsGiven v D
kept_end v D E e h =
    let k : distances v ≡ D = sym (append_nil (distances v)) ∙ (ap (λ L. distances v ++ L) (sym e) ∙ h) in
    rw (← k) (record { in_range = kept_in_range v; alike = alike_refl (distances v) })
