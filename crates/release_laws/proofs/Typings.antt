-- A term and its outline have the same type and sensitivities, by the rules and by the function.
use Rattle.std.proofs.Common.{arith, refl, sym, ◌∙◌}
use Rattle.std.proofs.lemmas.Int.{ints}
use Rattle.std.specs.Prelude.{pos, ◌≡◌, ◌↔◌}
use Rattle.fz_ast.specs.Limits.{IsNumber, TermLimits}
use Rattle.fz_ast.specs.Terms.{AppE, BangE, CaseE, ClipE, EqE, FilterE, FnE, FstE, FunE, GreatestE, IfE, InlE, InrE, LeE, LeastE, LetBangE, LetE, LetPairE, MapE, MinusE, NumE, PairE, PlusE, SizeE, SndE, SplitE, SumE, Term, TextE, TimesE, UnionE, UnitE, VarE, WithE, at}
use Rattle.fz_ast.specs.Types.{Ty}
use Rattle.linear_types.proofs.Agree.{rule_is_complete, rule_is_sound}
use Rattle.linear_types.specs.Fractions.{is_out_of_range}
use Rattle.linear_types.specs.Inferred.{Has}
use Rattle.linear_types.specs.Rule.{rule}
use Rattle.linear_types.specs.Sensitivities.{Sensitivities}
use Rattle.linear_types.specs.Typing.{Context, Typing, is_app, is_at_most, is_bang, is_case, is_clip, is_eq_num, is_eq_text, is_filter, is_fn, is_fst, is_fun, is_greatest, is_if, is_inl, is_inr, is_least, is_let, is_let_bang, is_let_pair, is_map, is_minus, is_num, is_pair, is_plus, is_size, is_snd, is_split, is_sum, is_text, is_times, is_union, is_unit, is_var, is_with}
use Rattle.release_laws.specs.Outline.{outline}

zero_is : IsNumber (pos 0)
zero_is = omega (arith, ints)

-- with the same fractions in range
pub forget : {Γ : Context} {t : Term} {A : Ty} {D : Sensitivities} (p : Typing Γ t A D) → (q : Typing Γ (outline t) A D) × (is_out_of_range q ≡ is_out_of_range p)
forget (is_var h) = (is_var h, refl)
forget (is_num l) = (is_num zero_is, refl)
forget (is_text l) = (is_text l, refl)
forget is_unit = (is_unit, refl)
forget (is_pair p q) = let xp = forget p in let xq = forget q in (is_pair xp.0 xq.0, rw (xp.1, xq.1) refl)
forget (is_with p q) = let xp = forget p in let xq = forget q in (is_with xp.0 xq.0, rw (xp.1, xq.1) refl)
forget (is_fst p) = let xp = forget p in (is_fst xp.0, rw xp.1 refl)
forget (is_snd p) = let xp = forget p in (is_snd xp.0, rw xp.1 refl)
forget (is_let_pair p q) = let xp = forget p in let xq = forget q in (is_let_pair xp.0 xq.0, rw (xp.1, xq.1) refl)
forget (is_inl p w g h) = let xp = forget p in (is_inl xp.0 w g h, rw xp.1 refl)
forget (is_inr p w g h) = let xp = forget p in (is_inr xp.0 w g h, rw xp.1 refl)
forget (is_case p q r g) = let xp = forget p in let xq = forget q in let xr = forget r in (is_case xp.0 xq.0 xr.0 g, rw (xp.1, xq.1, xr.1) refl)
forget (is_if p q r g) = let xp = forget p in let xq = forget q in let xr = forget r in (is_if xp.0 xq.0 xr.0 g, rw (xp.1, xq.1, xr.1) refl)
forget (is_fun p w h) = let xp = forget p in (is_fun xp.0 w h, rw xp.1 refl)
forget (is_fn p w) = let xp = forget p in (is_fn xp.0 w, rw xp.1 refl)
forget (is_app p q) = let xp = forget p in let xq = forget q in (is_app xp.0 xq.0, rw (xp.1, xq.1) refl)
forget (is_bang p w) = let xp = forget p in (is_bang xp.0 w, rw xp.1 refl)
forget (is_let_bang p q) = let xp = forget p in let xq = forget q in (is_let_bang xp.0 xq.0, rw (xp.1, xq.1) refl)
forget (is_let p q) = let xp = forget p in let xq = forget q in (is_let xp.0 xq.0, rw (xp.1, xq.1) refl)
forget (is_plus p q) = let xp = forget p in let xq = forget q in (is_plus xp.0 xq.0, rw (xp.1, xq.1) refl)
forget (is_minus p q) = let xp = forget p in let xq = forget q in (is_minus xp.0 xq.0, rw (xp.1, xq.1) refl)
forget (is_times p) = let xp = forget p in (is_times xp.0, rw xp.1 refl)
forget (is_at_most p q) = let xp = forget p in let xq = forget q in (is_at_most xp.0 xq.0, rw (xp.1, xq.1) refl)
forget (is_eq_num p q) = let xp = forget p in let xq = forget q in (is_eq_num xp.0 xq.0, rw (xp.1, xq.1) refl)
forget (is_eq_text p q) = let xp = forget p in let xq = forget q in (is_eq_text xp.0 xq.0, rw (xp.1, xq.1) refl)
forget (is_clip p l h) = let xp = forget p in (is_clip xp.0 l h, rw xp.1 refl)
forget (is_least p) = let xp = forget p in (is_least xp.0, rw xp.1 refl)
forget (is_greatest p) = let xp = forget p in (is_greatest xp.0, rw xp.1 refl)
forget (is_size p) = let xp = forget p in (is_size xp.0, rw xp.1 refl)
forget (is_sum p) = let xp = forget p in (is_sum xp.0, rw xp.1 refl)
forget (is_union p q) = let xp = forget p in let xq = forget q in (is_union xp.0 xq.0, rw (xp.1, xq.1) refl)
forget (is_map p g q) = let xp = forget p in let xq = forget q in (is_map xp.0 g xq.0, rw (xp.1, xq.1) refl)
forget (is_filter p q) = let xp = forget p in let xq = forget q in (is_filter xp.0 xq.0, rw (xp.1, xq.1) refl)
forget (is_split p q) = let xp = forget p in let xq = forget q in (is_split xp.0 xq.0, rw (xp.1, xq.1) refl)

pub recall : (t : Term) → TermLimits t → {Γ : Context} {A : Ty} {D : Sensitivities} → Typing Γ (outline t) A D → Typing Γ t A D
recall (at s (VarE x)) m (is_var h) = is_var h
recall (at s (NumE z)) m (is_num l) = is_num m
recall (at s (TextE t)) m (is_text l) = is_text l
recall (at s UnitE) m is_unit = is_unit
recall (at s (PairE a b)) m (is_pair p q) = is_pair (recall a m.0 p) (recall b m.1 q)
recall (at s (WithE a b)) m (is_with p q) = is_with (recall a m.0 p) (recall b m.1 q)
recall (at s (FstE e)) m (is_fst p) = is_fst (recall e m p)
recall (at s (SndE e)) m (is_snd p) = is_snd (recall e m p)
recall (at s (LetPairE x y e b)) m (is_let_pair p q) = is_let_pair (recall e m.2 p) (recall b m.3 q)
recall (at s (InlE u T e)) m (is_inl p w g h) = is_inl (recall e m.1 p) w g h
recall (at s (InrE u T e)) m (is_inr p w g h) = is_inr (recall e m.1 p) w g h
recall (at s (CaseE e x a y b)) m (is_case p q r g) = is_case (recall e m.0 p) (recall a m.2 q) (recall b m.4 r) g
recall (at s (IfE e a b)) m (is_if p q r g) = is_if (recall e m.0 p) (recall a m.1 q) (recall b m.2 r) g
recall (at s (FunE x u T e)) m (is_fun p w h) = is_fun (recall e m.2 p) w h
recall (at s (FnE x u T e)) m (is_fn p w) = is_fn (recall e m.2 p) w
recall (at s (AppE f a)) m (is_app p q) = is_app (recall f m.0 p) (recall a m.1 q)
recall (at s (BangE r e)) m (is_bang p w) = is_bang (recall e m.1 p) w
recall (at s (LetBangE x e b)) m (is_let_bang p q) = is_let_bang (recall e m.1 p) (recall b m.2 q)
recall (at s (LetE x e b)) m (is_let p q) = is_let (recall e m.1 p) (recall b m.2 q)
recall (at s (PlusE a b)) m (is_plus p q) = is_plus (recall a m.0 p) (recall b m.1 q)
recall (at s (MinusE a b)) m (is_minus p q) = is_minus (recall a m.0 p) (recall b m.1 q)
recall (at s (TimesE k e)) m (is_times p) = is_times (recall e m.1 p)
recall (at s (LeE a b)) m (is_at_most p q) = is_at_most (recall a m.0 p) (recall b m.1 q)
recall (at s (EqE a b)) m (is_eq_num p q) = is_eq_num (recall a m.0 p) (recall b m.1 q)
recall (at s (EqE a b)) m (is_eq_text p q) = is_eq_text (recall a m.0 p) (recall b m.1 q)
recall (at s (ClipE lo hi e)) m (is_clip p l h) = is_clip (recall e m.2 p) l h
recall (at s (LeastE e)) m (is_least p) = is_least (recall e m p)
recall (at s (GreatestE e)) m (is_greatest p) = is_greatest (recall e m p)
recall (at s (SizeE e)) m (is_size p) = is_size (recall e m p)
recall (at s (SumE lo hi e)) m (is_sum p) = is_sum (recall e m.2 p)
recall (at s (UnionE a b)) m (is_union p q) = is_union (recall a m.0 p) (recall b m.1 q)
recall (at s (MapE f b)) m (is_map p g q) = is_map (recall f m.0 p) g (recall b m.1 q)
recall (at s (FilterE f b)) m (is_filter p q) = is_filter (recall f m.0 p) (recall b m.1 q)
recall (at s (SplitE f b)) m (is_split p q) = is_split (recall f m.0 p) (recall b m.1 q)

pub limits_kept : (t : Term) → TermLimits t → TermLimits (outline t)
limits_kept (at s (VarE x)) m = m
limits_kept (at s (NumE z)) m = zero_is
limits_kept (at s (TextE t)) m = m
limits_kept (at s UnitE) m = m
limits_kept (at s (PairE a b)) m = (limits_kept a m.0, limits_kept b m.1)
limits_kept (at s (WithE a b)) m = (limits_kept a m.0, limits_kept b m.1)
limits_kept (at s (FstE e)) m = limits_kept e m
limits_kept (at s (SndE e)) m = limits_kept e m
limits_kept (at s (LetPairE x y e b)) m = (m.0, m.1, limits_kept e m.2, limits_kept b m.3)
limits_kept (at s (InlE u t e)) m = (m.0, limits_kept e m.1)
limits_kept (at s (InrE u t e)) m = (m.0, limits_kept e m.1)
limits_kept (at s (CaseE e x a y b)) m = (limits_kept e m.0, m.1, limits_kept a m.2, m.3, limits_kept b m.4)
limits_kept (at s (IfE e a b)) m = (limits_kept e m.0, limits_kept a m.1, limits_kept b m.2)
limits_kept (at s (FunE x u t e)) m = (m.0, m.1, limits_kept e m.2)
limits_kept (at s (FnE x u t e)) m = (m.0, m.1, limits_kept e m.2)
limits_kept (at s (AppE f a)) m = (limits_kept f m.0, limits_kept a m.1)
limits_kept (at s (BangE r e)) m = (m.0, limits_kept e m.1)
limits_kept (at s (LetBangE x e b)) m = (m.0, limits_kept e m.1, limits_kept b m.2)
limits_kept (at s (LetE x e b)) m = (m.0, limits_kept e m.1, limits_kept b m.2)
limits_kept (at s (PlusE a b)) m = (limits_kept a m.0, limits_kept b m.1)
limits_kept (at s (MinusE a b)) m = (limits_kept a m.0, limits_kept b m.1)
limits_kept (at s (TimesE k e)) m = (m.0, limits_kept e m.1)
limits_kept (at s (LeE a b)) m = (limits_kept a m.0, limits_kept b m.1)
limits_kept (at s (EqE a b)) m = (limits_kept a m.0, limits_kept b m.1)
limits_kept (at s (ClipE lo hi e)) m = (m.0, m.1, limits_kept e m.2)
limits_kept (at s (LeastE e)) m = limits_kept e m
limits_kept (at s (GreatestE e)) m = limits_kept e m
limits_kept (at s (SizeE e)) m = limits_kept e m
limits_kept (at s (SumE lo hi e)) m = (m.0, m.1, limits_kept e m.2)
limits_kept (at s (UnionE a b)) m = (limits_kept a m.0, limits_kept b m.1)
limits_kept (at s (MapE f b)) m = (limits_kept f m.0, limits_kept b m.1)
limits_kept (at s (FilterE f b)) m = (limits_kept f m.0, limits_kept b m.1)
limits_kept (at s (SplitE f b)) m = (limits_kept f m.0, limits_kept b m.1)

-- by the function: a type with sensitivities is the outline's exactly where it is the term's
pub same_rule : (Γ : Context) (t : Term) (A : Ty) (D : Sensitivities) → TermLimits t → (rule Γ t ≡ Has A D) ↔ (rule Γ (outline t) ≡ Has A D)
same_rule Γ t A D m = (to, from)
  where
    to : rule Γ t ≡ Has A D → rule Γ (outline t) ≡ Has A D
    to h =
        let p = rule_is_sound Γ t A D m h in
        let f = forget p in
        (rule_is_complete Γ (outline t) A D f.0).1 (f.1 ∙ (rule_is_complete Γ t A D p).0 h)

    from : rule Γ (outline t) ≡ Has A D → rule Γ t ≡ Has A D
    from h =
        let p = recall t m (rule_is_sound Γ (outline t) A D (limits_kept t m) h) in
        let f = forget p in
        (rule_is_complete Γ t A D p).1 (sym f.1 ∙ (rule_is_complete Γ (outline t) A D f.0).0 h)
