-- The sensitivities of an accepted program have halves of 32 bits.
use Rattle.std.proofs.Common.{◌≡◌, ℕ, ◌/◌, ◌<◌, ◌^◌, Bool, true, false, cond, [], ◌∷◌, refl, sym, subst, arith}
use Rattle.std.specs.Prelude.{◌||◌, ◌&&◌, nat_le, not}
use Rattle.fz_frac.specs.Distance.{Distance, Fin, Inf, den, is_le, greater}
use Rattle.fz_frac.specs.Lowest.{gcd, gcd_in, lowest, is_out, widest}
use Rattle.fz_ast.specs.Limits.{TermLimits}
use Rattle.fz_ast.specs.Signature.{Signature}
use Rattle.fz_ast.specs.Terms.{Name, Term}
use Rattle.fz_ast.specs.Types.{Ty, NumT}
use Rattle.linear_types.specs.Fractions.{is_out_of_range}
use Rattle.linear_types.specs.Inferred.{any_out}
use Rattle.linear_types.specs.Program.{Accepted, sensitivity_of, context_of, greatest_of}
use Rattle.linear_types.specs.Sensitivities.{Sensitivities, join, rest}
use Rattle.linear_types.specs.Typing.{Context, IsBound, Typing, here, there, is_app, is_at_most, is_bang, is_case, is_clip, is_eq_num, is_eq_text, is_filter, is_fn, is_fst, is_fun, is_greatest, is_if, is_inl, is_inr, is_least, is_let, is_let_bang, is_let_pair, is_map, is_minus, is_num, is_pair, is_plus, is_size, is_snd, is_split, is_sum, is_text, is_times, is_union, is_unit, is_var, is_with}
use Rattle.linear_types.proofs.Agree as agree
use Rattle.linear_types.proofs.Programs.{accepted}
use Rattle.linear_types.proofs.Sound.{sound}

left : {a : Bool} (b : Bool) → (a || b) ≡ false → a ≡ false
left {a = false} b h = refl
left {a = true} b h = h

right : (a : Bool) {b : Bool} → (a || b) ≡ false → b ≡ false
right false h = h
right true h = absurd (cc h)

neither : {a b : Bool} → a ≡ false → b ≡ false → (a || b) ≡ false
neither e f = rw e f

bound_in : {Γ : Context} {x : Name} {A : Ty} {D : Sensitivities} → IsBound Γ x A D → any_out D ≡ false
unfolding is_out gcd gcd_in
bound_in (here e) = refl
bound_in (there e b) = bound_in b

rest_in : (D : Sensitivities) → any_out D ≡ false → any_out (rest D) ≡ false
rest_in [] h = h
rest_in (t ∷ D) h = right (is_out t) h

greater_in : (a b : Distance) → is_out a ≡ false → is_out b ≡ false → is_out (greater a b) ≡ false
greater_in a b h k = go (is_le a b)
  where
    go : (t : Bool) → is_out (cond t b a) ≡ false
    go true = k
    go false = h

join_in : (D E : Sensitivities) → any_out D ≡ false → any_out E ≡ false → any_out (join D E) ≡ false
join_in [] E h k = k
join_in (t ∷ D) [] h k = h
join_in (t ∷ D) (u ∷ E) h k = neither (greater_in t u (left _ h) (left _ k)) (join_in D E (right (is_out t) h) (right (is_out u) k))

-- what a derivation with fractions in range gives is in range
typed_in : {Γ : Context} {e : Term} {A : Ty} {D : Sensitivities} (p : Typing Γ e A D) → is_out_of_range p ≡ false → any_out D ≡ false
typed_in (is_var b) h = bound_in b
typed_in (is_num l) h = refl
typed_in (is_text l) h = refl
typed_in is_unit h = refl
typed_in (is_pair p q) h = right (is_out_of_range q) (right (is_out_of_range p) h)
typed_in (is_with {D = D} {E = E} p q) h = join_in D E (typed_in p (left _ h)) (typed_in q (right (is_out_of_range p) h))
typed_in (is_fst p) h = typed_in p h
typed_in (is_snd p) h = typed_in p h
typed_in (is_let_pair p q) h = right _ (right (is_out_of_range q) (right (is_out_of_range p) h))
typed_in (is_inl p w g k) h = typed_in p h
typed_in (is_inr p w g k) h = typed_in p h
typed_in (is_case p q r g) h = right _ (right (is_out_of_range r) (right (is_out_of_range q) (right (is_out_of_range p) h)))
typed_in (is_if p q r g) h = right (is_out_of_range r) (right (is_out_of_range q) (right (is_out_of_range p) h))
typed_in (is_fun {D = D} p w k) h = rest_in D (typed_in p h)
typed_in (is_fn {D = D} p w) h = rest_in D (typed_in p h)
typed_in (is_app p q) h = right (is_out_of_range q) (right (is_out_of_range p) h)
typed_in (is_bang p w) h = right (is_out_of_range p) h
typed_in (is_let_bang p q) h = right _ (right _ (right (is_out_of_range q) (right (is_out_of_range p) h)))
typed_in (is_let p q) h = right _ (right (is_out_of_range q) (right (is_out_of_range p) h))
typed_in (is_plus p q) h = right (is_out_of_range q) (right (is_out_of_range p) h)
typed_in (is_minus p q) h = right (is_out_of_range q) (right (is_out_of_range p) h)
typed_in (is_times p) h = right _ (right (is_out_of_range p) h)
typed_in (is_at_most p q) h = right _ (right _ (right (is_out_of_range q) (right (is_out_of_range p) h)))
typed_in (is_eq_num p q) h = right _ (right _ (right (is_out_of_range q) (right (is_out_of_range p) h)))
typed_in (is_eq_text p q) h = right (is_out_of_range q) (right (is_out_of_range p) h)
typed_in (is_clip p l k) h = typed_in p h
typed_in (is_least p) h = typed_in p h
typed_in (is_greatest p) h = typed_in p h
typed_in (is_size p) h = typed_in p h
typed_in (is_sum p) h = right _ (right (is_out_of_range p) h)
typed_in (is_union p q) h = right (is_out_of_range q) (right (is_out_of_range p) h)
typed_in (is_map p f q) h = right _ (right (is_out_of_range q) (right (is_out_of_range p) h))
typed_in (is_filter p q) h = right _ (right (is_out_of_range q) (right (is_out_of_range p) h))
typed_in (is_split p q) h = right _ (right (is_out_of_range q) (right (is_out_of_range p) h))

greatest_in : (D : Sensitivities) → any_out D ≡ false → is_out (greatest_of D) ≡ false
unfolding is_out gcd gcd_in
greatest_in [] h = refl
greatest_in (t ∷ D) h = greater_in t (greatest_of D) (left _ h) (greatest_in D (right (is_out t) h))

-- the sensitivity of an accepted program is in range
pub accepted_in : (ts : Signature) (e : Term) (D : Sensitivities) (r : Distance) → TermLimits e → sensitivity_of ts e ≡ Accepted D r → is_out r ≡ false
accepted_in ts e D r l h =
    let a = accepted ts e D r h in
    let p = sound e (context_of ts) l NumT D a.0 in
    subst (λ (d : Distance). is_out d ≡ false) (sym a.1) (greatest_in D (typed_in p ((agree.rule_is_complete (context_of ts) e NumT D p).0 a.0)))

-- in lowest terms it has halves of 32 bits
pub in_is_narrow : (s : Distance) (p q : ℕ) → lowest s ≡ Fin p q → is_out s ≡ false → (p < 2 ^ 32) × (q < 2 ^ 32)
unfolding is_out
in_is_narrow (Fin a b) p q is h =
    let over : p ≡ a / gcd a (den b) = cc is in
    let under : q ≡ den b / gcd a (den b) = cc is in
    rw (over, under) (both (a / gcd a (den b)) (den b / gcd a (den b)) h)
  where
    both : (n d : ℕ) → not (nat_le n widest && nat_le d widest) ≡ false → (n < 2 ^ 32) × (d < 2 ^ 32)
    both n d h = grind arith
in_is_narrow Inf p q is h = absurd (cc is)
