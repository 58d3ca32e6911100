-- The sensitivities of a whole program, table by table.
use Rattle.std.proofs.Common.{◌≡◌, ℕ, zero, suc, ◌+◌, ◌<◌, refl, ap, ◌∙◌, cond, true, false, add-one, [], ◌∷◌, length, drop, get_or}
use Rattle.std.specs.Prelude.{Some, bytes_eq, slice_get}
use Rattle.std.proofs.lemmas.List.{drop_more}
use Rattle.std.proofs.lemmas.Option.{get_or_from_slice_get, slice_get_within}
use Rattle.fz_frac.proofs.Laws.{≈-refl, ≈-sym}
use Rattle.fz_frac.specs.Distance.{Distance, Fin, Inf, none, ◌≈◌}
use Rattle.fz_ast.specs.Signature.{Signature, TableType}
use Rattle.fz_ast.specs.Terms.{Name}
use Rattle.linear_types.proofs.Alike.{greater_alike}
use Rattle.linear_types.specs.Laws.{FiniteBelow, sensitivity_at}
use Rattle.linear_types.specs.Places.{AllAlike, AreAlike}
use Rattle.linear_types.specs.Program.{greatest_of, sensitivity_to}
use Rattle.linear_types.specs.Sensitivities.{Sensitivities, first, rest}

first_drop : (D : Sensitivities) (i : ℕ) → first (drop i D) ≡ sensitivity_at D i
first_drop [] zero = refl
first_drop [] (suc i) = refl
first_drop (d ∷ D) zero = refl
first_drop (d ∷ D) (suc i) = first_drop D i

rest_drop : (D : Sensitivities) (i : ℕ) → rest (drop i D) ≡ drop (suc i) D
rest_drop [] zero = refl
rest_drop [] (suc i) = refl
rest_drop (d ∷ D) zero = refl
rest_drop (d ∷ D) (suc i) = rest_drop D i

-- one more table in front
to_one_more : (ts : Signature) (D : Sensitivities) (i : ℕ) (t : TableType) (x : Name) → i < length ts → get_or ts i t ≡ t
    → sensitivity_to (drop i ts) (drop i D) x ≡ cond (bytes_eq t.name x) (sensitivity_at D i) (sensitivity_to (drop (i + 1) ts) (drop (i + 1) D) x)
to_one_more ts D i t x l e =
    let f : drop i ts ≡ t ∷ drop (i + 1) ts = drop_more ts i t l ∙ ap (λ u. u ∷ drop (i + 1) ts) e in
    rw (f, first_drop D i, rest_drop D i, add-one) refl

pub by_name_more : (ts : Signature) (D : Sensitivities) (i j : ℕ) (t : TableType) (x : Name) (r a : Distance) → j + 1 ≡ i → slice_get ts j ≡ Some t → r ≡ sensitivity_at D j → a ≡ sensitivity_to (drop i ts) (drop i D) x
    → cond (bytes_eq t.name x) r a ≡ sensitivity_to (drop j ts) (drop j D) x
by_name_more ts D i j t x r a e g h k = rw (to_one_more ts D j t x (slice_get_within ts j t g) (get_or_from_slice_get ts j t t g), e, h, k) refl

greatest_same : (D E : Sensitivities) → AllAlike D E → greatest_of D ≈ greatest_of E
greatest_same [] [] h = ≈-refl none
greatest_same (d ∷ D) (e ∷ E) h = greater_alike h.0 (greatest_same D E h.1)
greatest_same [] (e ∷ E) h = absurd h
greatest_same (d ∷ D) [] h = absurd h

pub greatest_alike : (D E : Sensitivities) → AreAlike D E → greatest_of D ≈ greatest_of E
greatest_alike D E h = greatest_same D E h.all

at_same : (D E : Sensitivities) (i : ℕ) → AllAlike D E → sensitivity_at D i ≈ sensitivity_at E i
at_same [] [] i h = ≈-refl none
at_same (d ∷ D) (e ∷ E) zero h = h.0
at_same (d ∷ D) (e ∷ E) (suc i) h = at_same D E i h.1
at_same [] (e ∷ E) i h = absurd h
at_same (d ∷ D) [] i h = absurd h

only_inf : (d : Distance) → Inf ≈ d → d ≡ Inf
only_inf Inf h = refl
only_inf (Fin p q) h = absurd h.le.le

pub inf_alike : (D E : Sensitivities) (i : ℕ) → AreAlike D E → sensitivity_at D i ≡ Inf → sensitivity_at E i ≡ Inf
inf_alike D E i h e = let k = at_same D E i h.all in only_inf (sensitivity_at E i) (rw (← e) k)

pub finite_alike : (D E : Sensitivities) (n : ℕ) → AreAlike D E → FiniteBelow D n → FiniteBelow E n
finite_alike D E n h q = λ i l e. let k = at_same D E i h.all in q i l (only_inf (sensitivity_at D i) (rw (← e) (≈-sym k)))

to_same : (ts : Signature) (D E : Sensitivities) (x : Name) → AllAlike D E → sensitivity_to ts D x ≈ sensitivity_to ts E x
to_same [] D E x h = ≈-refl none
to_same (t ∷ ts) [] [] x h = ≈-refl (sensitivity_to (t ∷ ts) [] x)
to_same (t ∷ ts) (d ∷ D) (e ∷ E) x h = elim (bytes_eq t.name x) as (λ b. cond b d (sensitivity_to ts D x) ≈ cond b e (sensitivity_to ts E x)) [ true ↦ h.0 | false ↦ to_same ts D E x h.1 ]
to_same (t ∷ ts) [] (e ∷ E) x h = absurd h
to_same (t ∷ ts) (d ∷ D) [] x h = absurd h

pub to_alike : (ts : Signature) (D E : Sensitivities) (x : Name) → AreAlike D E → sensitivity_to ts D x ≈ sensitivity_to ts E x
to_alike ts D E x h = to_same ts D E x h.all
