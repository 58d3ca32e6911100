-- A term and its bare term have the same typing: a derivation of the one is a derivation of the other.
use Rattle.fz_ast.specs.Bare.{bare}
use Rattle.fz_ast.specs.Terms.{AppE, BangE, CaseE, ClipE, EqE, FilterE, FnE, FstE, FunE, GreatestE, IfE, InlE, InrE, LeE, LeastE, LetBangE, LetE, LetPairE, MapE, MinusE, NumE, PairE, PlusE, SizeE, SndE, SplitE, SumE, Term, TextE, TimesE, UnionE, UnitE, VarE, WithE, at}
use Rattle.fz_ast.specs.Types.{Ty}
use Rattle.linear_types.specs.Laws.{SpansChangeNoTyping}
use Rattle.linear_types.specs.Sensitivities.{Sensitivities}
use Rattle.linear_types.specs.Typing.{Context, Typing, is_app, is_at_most, is_bang, is_case, is_clip, is_eq_num, is_eq_text, is_filter, is_fn, is_fst, is_fun, is_greatest, is_if, is_inl, is_inr, is_least, is_let, is_let_bang, is_let_pair, is_map, is_minus, is_num, is_pair, is_plus, is_size, is_snd, is_split, is_sum, is_text, is_times, is_union, is_unit, is_var, is_with}

forget : {Γ : Context} {t : Term} {A : Ty} {D : Sensitivities} → Typing Γ t A D → Typing Γ (bare t) A D
forget (is_var h) = is_var h
forget (is_num l) = is_num l
forget (is_text l) = is_text l
forget is_unit = is_unit
forget (is_pair p q) = is_pair (forget p) (forget q)
forget (is_with p q) = is_with (forget p) (forget q)
forget (is_fst p) = is_fst (forget p)
forget (is_snd p) = is_snd (forget p)
forget (is_let_pair p q) = is_let_pair (forget p) (forget q)
forget (is_inl p w g h) = is_inl (forget p) w g h
forget (is_inr p w g h) = is_inr (forget p) w g h
forget (is_case p q r g) = is_case (forget p) (forget q) (forget r) g
forget (is_if p q r g) = is_if (forget p) (forget q) (forget r) g
forget (is_fun p w h) = is_fun (forget p) w h
forget (is_fn p w) = is_fn (forget p) w
forget (is_app p q) = is_app (forget p) (forget q)
forget (is_bang p w) = is_bang (forget p) w
forget (is_let_bang p q) = is_let_bang (forget p) (forget q)
forget (is_let p q) = is_let (forget p) (forget q)
forget (is_plus p q) = is_plus (forget p) (forget q)
forget (is_minus p q) = is_minus (forget p) (forget q)
forget (is_times p) = is_times (forget p)
forget (is_at_most p q) = is_at_most (forget p) (forget q)
forget (is_eq_num p q) = is_eq_num (forget p) (forget q)
forget (is_eq_text p q) = is_eq_text (forget p) (forget q)
forget (is_clip p l h) = is_clip (forget p) l h
forget (is_least p) = is_least (forget p)
forget (is_greatest p) = is_greatest (forget p)
forget (is_size p) = is_size (forget p)
forget (is_sum p) = is_sum (forget p)
forget (is_union p q) = is_union (forget p) (forget q)
forget (is_map p g q) = is_map (forget p) g (forget q)
forget (is_filter p q) = is_filter (forget p) (forget q)
forget (is_split p q) = is_split (forget p) (forget q)

recall : (t : Term) {Γ : Context} {A : Ty} {D : Sensitivities} → Typing Γ (bare t) A D → Typing Γ t A D
recall (at s (VarE x)) (is_var h) = is_var h
recall (at s (NumE z)) (is_num l) = is_num l
recall (at s (TextE t)) (is_text l) = is_text l
recall (at s UnitE) is_unit = is_unit
recall (at s (PairE a b)) (is_pair p q) = is_pair (recall a p) (recall b q)
recall (at s (WithE a b)) (is_with p q) = is_with (recall a p) (recall b q)
recall (at s (FstE e)) (is_fst p) = is_fst (recall e p)
recall (at s (SndE e)) (is_snd p) = is_snd (recall e p)
recall (at s (LetPairE x y e b)) (is_let_pair p q) = is_let_pair (recall e p) (recall b q)
recall (at s (InlE u T e)) (is_inl p w g h) = is_inl (recall e p) w g h
recall (at s (InrE u T e)) (is_inr p w g h) = is_inr (recall e p) w g h
recall (at s (CaseE e x a y b)) (is_case p q r g) = is_case (recall e p) (recall a q) (recall b r) g
recall (at s (IfE e a b)) (is_if p q r g) = is_if (recall e p) (recall a q) (recall b r) g
recall (at s (FunE x u T e)) (is_fun p w h) = is_fun (recall e p) w h
recall (at s (FnE x u T e)) (is_fn p w) = is_fn (recall e p) w
recall (at s (AppE f a)) (is_app p q) = is_app (recall f p) (recall a q)
recall (at s (BangE r e)) (is_bang p w) = is_bang (recall e p) w
recall (at s (LetBangE x e b)) (is_let_bang p q) = is_let_bang (recall e p) (recall b q)
recall (at s (LetE x e b)) (is_let p q) = is_let (recall e p) (recall b q)
recall (at s (PlusE a b)) (is_plus p q) = is_plus (recall a p) (recall b q)
recall (at s (MinusE a b)) (is_minus p q) = is_minus (recall a p) (recall b q)
recall (at s (TimesE k e)) (is_times p) = is_times (recall e p)
recall (at s (LeE a b)) (is_at_most p q) = is_at_most (recall a p) (recall b q)
recall (at s (EqE a b)) (is_eq_num p q) = is_eq_num (recall a p) (recall b q)
recall (at s (EqE a b)) (is_eq_text p q) = is_eq_text (recall a p) (recall b q)
recall (at s (ClipE lo hi e)) (is_clip p l h) = is_clip (recall e p) l h
recall (at s (LeastE e)) (is_least p) = is_least (recall e p)
recall (at s (GreatestE e)) (is_greatest p) = is_greatest (recall e p)
recall (at s (SizeE e)) (is_size p) = is_size (recall e p)
recall (at s (SumE lo hi e)) (is_sum p) = is_sum (recall e p)
recall (at s (UnionE a b)) (is_union p q) = is_union (recall a p) (recall b q)
recall (at s (MapE f b)) (is_map p g q) = is_map (recall f p) g (recall b q)
recall (at s (FilterE f b)) (is_filter p q) = is_filter (recall f p) (recall b q)
recall (at s (SplitE f b)) (is_split p q) = is_split (recall f p) (recall b q)

pub spans_change_no_typing : SpansChangeNoTyping
spans_change_no_typing Γ t A D = (λ p. forget p, λ p. recall t p)
