-- What `map` and `filter` give, by steps.
use Rattle.std.proofs.Common.{◌≡◌, ℕ, List, [], ◌∷◌, ◌++◌, Bool, true, false, Option, Some, None, refl, ap, sym, ◌∙◌, inl, inr}
use Rattle.std.specs.Prelude.{cond}
use Rattle.metric_law.specs.Means.{Applies, Maps, MeansIn, Splits, apply, apply_fn}
use Rattle.run_values.specs.Parts.{IsClosure, is_fn, is_fun}
use Rattle.metric_values.specs.Values.{Flat, InlV, InrV, UnitV, Value, value_of}
use Rattle.run_values.proofs.Bags.{flat_of_value}
use Rattle.flow_values.specs.Computed.{agree, chosen, computed, given, images, is_true}
use Rattle.flow_values.specs.Steps.{AllGo, Goes, Step, all_through, listed, stepped, through}
use Rattle.flow_values.proofs.Computed.{maps_are, means_computed, splits_are}

goes_end : (o : Option Flat) → Goes [] o
goes_end None = tt
goes_end (Some x) = tt

pub maps_go : (n : ℕ) (c : Value) (xs ys : List Flat) → Maps (MeansIn n) c xs ys → AllGo (record { function = c; left = n; keeps = None } ∷ []) xs
maps_go n c [] ys h = tt
maps_go n c (x ∷ xs) ys h =
    ((record { value = value_of h.0; gives = h.2; is = ap value_of (flat_of_value h.0) }, goes_end (stepped (record { function = c; left = n; keeps = None }) x)), maps_go n c xs h.1 h.3)

pub splits_go : (n : ℕ) (keep : Bool) (c : Value) (xs ys zs : List Flat) → Splits (MeansIn n) c xs ys zs → AllGo (record { function = c; left = n; keeps = Some keep } ∷ []) xs
splits_go n keep c [] ys zs h = tt
splits_go n keep c (x ∷ xs) ys zs (inl h) =
    ((record { value = InlV UnitV; gives = h.1; is = (true, refl) }, goes_end (stepped (record { function = c; left = n; keeps = Some keep }) x)), splits_go n keep c xs h.0 zs h.2)
splits_go n keep c (x ∷ xs) ys zs (inr h) =
    ((record { value = InrV UnitV; gives = h.1; is = (false, refl) }, goes_end (stepped (record { function = c; left = n; keeps = Some keep }) x)), splits_go n keep c xs ys h.0 h.2)

through_images : (n : ℕ) (c : Value) (xs : List Flat) → all_through (record { function = c; left = n; keeps = None } ∷ []) xs ≡ images (computed n) c xs
through_images n c [] = refl
through_images n c (x ∷ xs) = ap (λ ys. listed (stepped (record { function = c; left = n; keeps = None }) x) ++ ys) (through_images n c xs)

listed_or : (b : Bool) (x : Flat) (s : Step) (xs ys : List Flat) → xs ≡ ys → listed (through [] (cond b (Some x) None)) ++ xs ≡ cond b (x ∷ ys) ys
listed_or true x s xs ys e = ap (λ ys. x ∷ ys) e
listed_or false x s xs ys e = e

through_chosen : (n : ℕ) (k : Bool) (c : Value) (xs : List Flat) → all_through (record { function = c; left = n; keeps = Some k } ∷ []) xs ≡ chosen (computed n) k c xs
through_chosen n k c [] = refl
through_chosen n k c (x ∷ xs) =
    listed_or (agree k (is_true (given (computed n) c x))) x (record { function = c; left = n; keeps = Some k }) _ _ (through_chosen n k c xs)

pub maps_through : (n : ℕ) (c : Value) (xs ys : List Flat) → Maps (MeansIn n) c xs ys → all_through (record { function = c; left = n; keeps = None } ∷ []) xs ≡ ys
maps_through n c xs ys h = through_images n c xs ∙ sym (maps_are (MeansIn n) (computed n) (λ γ e v m. means_computed n γ e v m) c xs ys h)

pub kept_through : (n : ℕ) (c : Value) (xs ys zs : List Flat) → Splits (MeansIn n) c xs ys zs → all_through (record { function = c; left = n; keeps = Some true } ∷ []) xs ≡ ys
kept_through n c xs ys zs h = through_chosen n true c xs ∙ sym (splits_are (MeansIn n) (computed n) (λ γ e v m. means_computed n γ e v m) c xs ys zs h).0

pub others_through : (n : ℕ) (c : Value) (xs ys zs : List Flat) → Splits (MeansIn n) c xs ys zs → all_through (record { function = c; left = n; keeps = Some false } ∷ []) xs ≡ zs
others_through n c xs ys zs h = through_chosen n false c xs ∙ sym (splits_are (MeansIn n) (computed n) (λ γ e v m. means_computed n γ e v m) c xs ys zs h).1

-- what isn't a function gives nothing for an element
closure_in : (n : ℕ) {c u v : Value} → Applies (MeansIn n) c u v → IsClosure c
closure_in n (apply k) = is_fun
closure_in n (apply_fn k) = is_fn

pub no_function : (s : Step) (xs : List Flat) → (IsClosure s.function → ⊥) → AllGo (s ∷ []) xs → xs ≡ []
no_function s [] h g = refl
no_function s (x ∷ xs) h g = absurd (h (closure_in s.left g.0.0.gives))
