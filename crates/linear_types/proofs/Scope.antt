-- A term has sensitivities to names in scope alone, and so an accepted program has none at inf.
use Rattle.std.proofs.Common.{ap, arith, refl, subst}
use Rattle.std.specs.Prelude.{Bool, None, Some, [], bytes_eq, cond, false, length, suc, true, zero, ℕ, ◌∷◌, ◌≡◌, ◌≤◌}
use Rattle.fz_frac.proofs.Laws.{greater-left, greater-right, none-least, ◌⨾◌}
use Rattle.fz_frac.specs.Distance.{Distance, Inf, add, greater, is_le, none, ◌⊑◌}
use Rattle.fz_ast.specs.Signature.{Signature}
use Rattle.fz_ast.specs.Terms.{Name, Term}
use Rattle.fz_ast.specs.Types.{NumT, Ty}
use Rattle.linear_types.proofs.Programs.{accepted}
use Rattle.linear_types.proofs.Sound.{sound}
use Rattle.linear_types.specs.Laws.{AcceptedIsBounded, names_in}
use Rattle.linear_types.specs.Program.{context_of, first_unbounded, greatest_of, is_endless, sensitivity_to}
use Rattle.linear_types.specs.Sensitivities.{Sensitivities, each, join, plus, rest, scale}
use Rattle.linear_types.specs.Typing.{Context, IsBound, Typing, here, is_app, is_at_most, is_bang, is_case, is_clip, is_eq_num, is_eq_text, is_filter, is_fn, is_fst, is_fun, is_greatest, is_if, is_inl, is_inr, is_least, is_let, is_let_bang, is_let_pair, is_map, is_minus, is_num, is_pair, is_plus, is_size, is_snd, is_split, is_sum, is_text, is_times, is_union, is_unit, is_var, is_with, size_of, there, widest_of}

each_within : (f : Distance → Distance → Distance) (D E : Sensitivities) (n : ℕ) → length D ≤ n → length E ≤ n → length (each f D E) ≤ n
each_within f [] E n h k = k
each_within f (t ∷ D) [] n h k = h
each_within f (t ∷ D) (u ∷ E) zero h k = absurd (omega arith)
each_within f (t ∷ D) (u ∷ E) (suc n) h k = let r = each_within f D E n (omega arith) (omega arith) in omega (arith, r)

scale_within : (r : Distance) (D : Sensitivities) (n : ℕ) → length D ≤ n → length (scale r D) ≤ n
scale_within r [] n h = h
scale_within r (t ∷ D) zero h = absurd (omega arith)
scale_within r (t ∷ D) (suc n) h = let k = scale_within r D n (omega arith) in omega (arith, k)

rest_within : (D : Sensitivities) (n : ℕ) → length D ≤ suc n → length (rest D) ≤ n
rest_within [] n h = omega arith
rest_within (t ∷ D) n h = omega (arith, h)

bound_within : {Γ : Context} {x : Name} {A : Ty} {D : Sensitivities} → IsBound Γ x A D → length D ≤ names_in Γ
bound_within (here e) = omega arith
bound_within (there e h) = let r = bound_within h in omega (arith, r)

-- what a rule adds for a bound name's part
with_part : (D E : Sensitivities) (r : Distance) (n : ℕ) → length D ≤ n → length E ≤ n → length (plus D (scale r E)) ≤ n
with_part D E r n h k = each_within add D (scale r E) n h (scale_within r E n k)

pub within : {Γ : Context} {e : Term} {A : Ty} {D : Sensitivities} → Typing Γ e A D → length D ≤ names_in Γ
within (is_var h) = bound_within h
within (is_num l) = omega arith
within (is_text l) = omega arith
within is_unit = omega arith
within (is_pair p q) = each_within add _ _ _ (within p) (within q)
within (is_with p q) = each_within greater _ _ _ (within p) (within q)
within (is_fst p) = within p
within (is_snd p) = within p
within (is_let_pair {D = D} p q) = with_part (rest (rest D)) _ _ _ (rest_within (rest D) _ (rest_within D _ (within q))) (within p)
within (is_inl p w g h) = within p
within (is_inr p w g h) = within p
within (is_case {D = D} {E = E} p q r g) = with_part (join (rest D) (rest E)) _ _ _ (each_within greater (rest D) (rest E) _ (rest_within D _ (within q)) (rest_within E _ (within r))) (within p)
within (is_if {D = D} {E = E} p q r g) = each_within add (join D E) _ _ (each_within greater D E _ (within q) (within r)) (within p)
within (is_fun {D = D} p w h) = rest_within D _ (within p)
within (is_fn {D = D} p w) = rest_within D _ (within p)
within (is_app p q) = each_within add _ _ _ (within p) (within q)
within (is_bang {r = r} {D = D} p w) = scale_within r D _ (within p)
within (is_let_bang {D = D} p q) = with_part (rest D) _ _ _ (rest_within D _ (within q)) (within p)
within (is_let {D = D} p q) = with_part (rest D) _ _ _ (rest_within D _ (within q)) (within p)
within (is_plus p q) = each_within add _ _ _ (within p) (within q)
within (is_minus p q) = each_within add _ _ _ (within p) (within q)
within (is_times {k = k} {D = D} p) = scale_within (size_of k) D _ (within p)
within (is_at_most {D = D} {E = E} p q) = each_within add (scale Inf D) (scale Inf E) _ (scale_within Inf D _ (within p)) (scale_within Inf E _ (within q))
within (is_eq_num {D = D} {E = E} p q) = each_within add (scale Inf D) (scale Inf E) _ (scale_within Inf D _ (within p)) (scale_within Inf E _ (within q))
within (is_eq_text p q) = each_within add _ _ _ (within p) (within q)
within (is_clip p l h) = within p
within (is_least p) = within p
within (is_greatest p) = within p
within (is_size p) = within p
within (is_sum {lo = lo} {hi = hi} {D = D} p) = scale_within (widest_of lo hi) D _ (within p)
within (is_union p q) = each_within add _ _ _ (within p) (within q)
within (is_map {D = D} p f q) = each_within add (scale Inf D) _ _ (scale_within Inf D _ (within p)) (within q)
within (is_filter {D = D} p q) = each_within add (scale Inf D) _ _ (scale_within Inf D _ (within p)) (within q)
within (is_split {D = D} p q) = each_within add (scale Inf D) _ _ (scale_within Inf D _ (within p)) (within q)

-- programs

names_of : (ts : Signature) → names_in (context_of ts) ≡ length ts
names_of [] = refl
names_of (t ∷ ts) = ap suc (names_of ts)

greater_finite : (a b : Distance) → is_endless a ≡ false → is_endless b ≡ false → is_endless (greater a b) ≡ false
greater_finite a b h k = go (is_le a b)
  where
    go : (t : Bool) → is_endless (cond t b a) ≡ false
    go true = k
    go false = h

all_finite : (ts : Signature) (D : Sensitivities) → length D ≤ length ts → first_unbounded ts D ≡ None → is_endless (greatest_of D) ≡ false
all_finite ts [] l h = refl
all_finite [] (d ∷ D) l h = absurd (omega (arith, l))
all_finite (t ∷ ts) (d ∷ D) l h = go (all_finite ts D (omega (arith, l))) (is_endless d) refl h
  where
    go : (first_unbounded ts D ≡ None → is_endless (greatest_of D) ≡ false) → (b : Bool) → is_endless d ≡ b → cond b (Some t.name) (first_unbounded ts D) ≡ None → is_endless (greater d (greatest_of D)) ≡ false
    go rec true e k = cc
    go rec false e k = greater_finite d (greatest_of D) e (rec k)

table_least : (ts : Signature) (D : Sensitivities) (x : Name) → sensitivity_to ts D x ⊑ greatest_of D
table_least [] D x = none-least _
table_least (t ∷ ts) [] x = go (bytes_eq t.name x) (table_least ts [] x)
  where
    go : (b : Bool) → sensitivity_to ts [] x ⊑ none → cond b none (sensitivity_to ts [] x) ⊑ none
    go true r = none-least _
    go false r = r
table_least (t ∷ ts) (d ∷ D) x = go (bytes_eq t.name x) (table_least ts D x)
  where
    go : (b : Bool) → sensitivity_to ts D x ⊑ greatest_of D → cond b d (sensitivity_to ts D x) ⊑ greater d (greatest_of D)
    go true r = greater-left d (greatest_of D)
    go false r = r ⨾ greater-right d (greatest_of D)

pub accepted_is_bounded : AcceptedIsBounded
accepted_is_bounded ts t D r l h =
    let a = accepted ts t D r h in
    let p = sound t (context_of ts) l NumT D a.0 in
    let n = subst (λ n. length D ≤ n) (names_of ts) (within p) in
    (p, a.1, rw a.1 (all_finite ts D n a.2), λ x. rw a.1 (table_least ts D x))
