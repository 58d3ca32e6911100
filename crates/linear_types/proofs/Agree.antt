-- The function is the rules, and the rules are a function.
use Rattle.std.proofs.Common.{refl, sym, ap, ◌∙◌, true≢false}
use Rattle.std.specs.Prelude.{Bool, false, true, ◌↔◌, ◌≡◌, ◌∷◌}
use Rattle.fz_frac.specs.Distance.{Distance, Inf, greater, none, one, quotient}
use Rattle.fz_ast.specs.Terms.{Name, Term}
use Rattle.fz_ast.specs.Types.{Ty, TensorT, WithT, SumT, ArrowT, BangT, BagT, UnlimitedT}
use Rattle.fz_ast.specs.declared.span.Span.{Span}
use Rattle.linear_types.proofs.Complete.{Or, complete, gives, leaves}
use Rattle.linear_types.proofs.Sound.{sound}
use Rattle.linear_types.specs.Laws.{RuleIsComplete, RuleIsSound, RuleKeepsRange}
use Rattle.linear_types.specs.Sensitivities.{Sensitivities, above_zero, first, join, plus, rest, scale}
use Rattle.linear_types.specs.Typing.{Context, IsBound, Typing, Under, here, is_app, is_at_most, is_bang, is_case, is_clip, is_eq_num, is_eq_text, is_filter, is_fn, is_fst, is_fun, is_greatest, is_if, is_inl, is_inr, is_least, is_let, is_let_bang, is_let_pair, is_map, is_minus, is_num, is_pair, is_plus, is_size, is_snd, is_split, is_sum, is_text, is_times, is_union, is_unit, is_var, is_with, size_of, there, widest_of}
use Rattle.linear_types.specs.Inferred.{Has, Range, Untyped, Inferred}

no_both : {v : Inferred} {A : Ty} {D : Sensitivities} {s : Span} → v ≡ Has A D → v ≡ Untyped (Range s) → ⊥
no_both {A = A} {D = D} {s = s} h e = let k : Has A D ≡ Untyped (Range s) = sym h ∙ e in cc

in_range_only : {v : Inferred} {o : Bool} {A : Ty} {D : Sensitivities} → Or v o A D → (v ≡ Has A D) ↔ (o ≡ false)
in_range_only (gives n e) = (λ h. n, λ h. e)
in_range_only (leaves y s e) = (λ h. absurd (no_both h e), λ h. absurd (true≢false (sym y ∙ h)))

out_of_range_only : {v : Inferred} {o : Bool} {A : Ty} {D : Sensitivities} → Or v o A D → ((s : Span) × (v ≡ Untyped (Range s))) ↔ (o ≡ true)
out_of_range_only (gives n e) = (λ h. absurd (no_both e h.1), λ h. absurd (true≢false (sym h ∙ n)))
out_of_range_only (leaves y s e) = (λ h. y, λ h. (s, e))

pub rule_is_sound : RuleIsSound
rule_is_sound Γ t A D l h = sound t Γ l A D h

pub rule_is_complete : RuleIsComplete
rule_is_complete Γ t A D p = in_range_only (complete t p)

pub rule_keeps_range : RuleKeepsRange
rule_keeps_range Γ t A D p = out_of_range_only (complete t p)

-- one type, with one list of sensitivities
abbrev Same : Ty → Ty → Sensitivities → Sensitivities → Type 0
Same A B D E = (A ≡ B) × (D ≡ E)

-- equal parts make equal wholes
both : {P Q R : Type 0} (f : P → Q → R) {a b : P} {c d : Q} → a ≡ b → c ≡ d → f a c ≡ f b d
both {P = P} f {b = b} {c = c} p q = ap (λ (x : P). f x c) p ∙ ap (f b) q

-- the parts of a type, by which equal wholes have equal parts
abbrev first_part : Ty → Ty
first_part (TensorT A B) = A
first_part (WithT A B) = A
first_part (SumT A B) = A
first_part A = A

abbrev last_part : Ty → Ty
last_part (TensorT A B) = B
last_part (WithT A B) = B
last_part (SumT A B) = B
last_part (ArrowT A B) = B
last_part (BangT r A) = A
last_part A = A

abbrev bang_number : Ty → Distance
bang_number (BangT r A) = r
bang_number A = one

under : {Γ : Context} {x : Name} {b : Term} {X Y B : Ty} {E : Sensitivities} → X ≡ Y → Typing (Under x Y Γ) b B E → Typing (Under x X Γ) b B E
under e h = rw e h

same_bound : {Γ : Context} {x : Name} {A B : Ty} {D E : Sensitivities} → IsBound Γ x A D → IsBound Γ x B E → Same A B D E
same_bound (here e) (here f) = (refl, refl)
same_bound (here e) (there f k) = absurd (true≢false (sym e ∙ f))
same_bound (there e h) (here f) = absurd (true≢false (sym f ∙ e))
same_bound (there e h) (there f k) = let r = same_bound h k in (r.0, ap (λ (D : Sensitivities). none ∷ D) r.1)

pub unique : {Γ : Context} {e : Term} {A B : Ty} {D E : Sensitivities} → Typing Γ e A D → Typing Γ e B E → Same A B D E
unique (is_var h) (is_var k) = same_bound h k
unique (is_num h) (is_num k) = (refl, refl)
unique (is_text h) (is_text k) = (refl, refl)
unique is_unit is_unit = (refl, refl)
unique (is_pair p q) (is_pair p' q') = let a = unique p p' in let b = unique q q' in (both TensorT a.0 b.0, both plus a.1 b.1)
unique (is_with p q) (is_with p' q') = let a = unique p p' in let b = unique q q' in (both WithT a.0 b.0, both join a.1 b.1)
unique (is_fst p) (is_fst p') = let a = unique p p' in (ap first_part a.0, a.1)
unique (is_snd p) (is_snd p') = let a = unique p p' in (ap last_part a.0, a.1)
unique (is_let_pair {x = x} {y = y} {A = A} {B = B} p q) (is_let_pair {A = A'} {B = B'} p' q') =
    let a = unique p p' in let i : A ≡ A' = ap first_part a.0 in let j : B ≡ B' = ap last_part a.0 in
    let b = unique q (both_under i j q') in
    (b.0, both plus (ap (λ (D : Sensitivities). rest (rest D)) b.1) (both scale (ap (λ (D : Sensitivities). greater (first (rest D)) (first D)) b.1) a.1))
  where
    both_under : {Γ : Context} {b : Term} {C : Ty} {E : Sensitivities} → A ≡ A' → B ≡ B' → Typing (Under y B' (Under x A' Γ)) b C E → Typing (Under y B (Under x A Γ)) b C E
    both_under i j h = rw (i, j) h
unique (is_inl {T = T} p w g h) (is_inl p' w' g' h') = let a = unique p p' in (ap (λ (A : Ty). SumT A T) a.0, a.1)
unique (is_inr {T = T} p w g h) (is_inr p' w' g' h') = let a = unique p p' in (ap (SumT T) a.0, a.1)
unique (is_case {A = A} {B = B} p q r g) (is_case {A = A'} {B = B'} p' q' r' g') =
    let a = unique p p' in let i : A ≡ A' = ap first_part a.0 in let j : B ≡ B' = ap last_part a.0 in
    let b = unique q (under i q') in let c = unique r (under j r') in
    (b.0, both plus (both (λ (D E : Sensitivities). join (rest D) (rest E)) b.1 c.1) (both scale (both (λ (D E : Sensitivities). above_zero (greater (first D) (first E))) b.1 c.1) a.1))
unique (is_if p q r g) (is_if p' q' r' g') = let a = unique p p' in let b = unique q q' in let c = unique r r' in (b.0, both plus (both join b.1 c.1) a.1)
unique (is_fun {T = T} p w h) (is_fun p' w' h') = let a = unique p p' in (ap (ArrowT T) a.0, ap rest a.1)
unique (is_fn {T = T} p w) (is_fn p' w') = let a = unique p p' in (ap (UnlimitedT T) a.0, ap rest a.1)
unique (is_app p q) (is_app p' q') = let a = unique p p' in let b = unique q q' in (ap last_part a.0, both plus a.1 b.1)
unique (is_bang {r = r} p h) (is_bang p' h') = let a = unique p p' in (ap (BangT r) a.0, ap (scale r) a.1)
unique (is_let_bang {A = A} p q) (is_let_bang {A = A'} p' q') =
    let a = unique p p' in let i : A ≡ A' = ap last_part a.0 in let b = unique q (under i q') in
    (b.0, both plus (ap rest b.1) (both scale (both quotient (ap first b.1) (ap bang_number a.0)) a.1))
unique (is_let p q) (is_let p' q') = let a = unique p p' in let b = unique q (under a.0 q') in (b.0, both plus (ap rest b.1) (both scale (ap first b.1) a.1))
unique (is_plus p q) (is_plus p' q') = let a = unique p p' in let b = unique q q' in (refl, both plus a.1 b.1)
unique (is_minus p q) (is_minus p' q') = let a = unique p p' in let b = unique q q' in (refl, both plus a.1 b.1)
unique (is_times {k = k} p) (is_times p') = let a = unique p p' in (refl, ap (scale (size_of k)) a.1)
unique (is_at_most p q) (is_at_most p' q') = let a = unique p p' in let b = unique q q' in (refl, both plus (ap (scale Inf) a.1) (ap (scale Inf) b.1))
unique (is_eq_num p q) (is_eq_num p' q') = let a = unique p p' in let b = unique q q' in (refl, both plus (ap (scale Inf) a.1) (ap (scale Inf) b.1))
unique (is_eq_num p q) (is_eq_text p' q') = let a = unique p p' in absurd (cc a.0)
unique (is_eq_text p q) (is_eq_num p' q') = let a = unique p p' in absurd (cc a.0)
unique (is_eq_text p q) (is_eq_text p' q') = let a = unique p p' in let b = unique q q' in (refl, both plus a.1 b.1)
unique (is_clip p l h) (is_clip p' l' h') = let a = unique p p' in (refl, a.1)
unique (is_least p) (is_least p') = let a = unique p p' in (refl, a.1)
unique (is_greatest p) (is_greatest p') = let a = unique p p' in (refl, a.1)
unique (is_size p) (is_size p') = let a = unique p p' in (refl, a.1)
unique (is_sum {lo = lo} {hi = hi} p) (is_sum p') = let a = unique p p' in (refl, ap (scale (widest_of lo hi)) a.1)
unique (is_union p q) (is_union p' q') = let a = unique p p' in let b = unique q q' in (a.0, both plus a.1 b.1)
unique (is_map p f q) (is_map p' f' q') = let a = unique p p' in let b = unique q q' in (ap (λ (F : Ty). BagT (last_part F)) a.0, both plus (ap (scale Inf) a.1) b.1)
unique (is_filter p q) (is_filter p' q') = let a = unique p p' in let b = unique q q' in (b.0, both plus (ap (scale Inf) a.1) b.1)
unique (is_split p q) (is_split p' q') = let a = unique p p' in let b = unique q q' in (ap (λ (A : Ty). TensorT A A) b.0, both plus (ap (scale Inf) a.1) b.1)
