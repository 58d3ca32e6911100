-- What the function answers for a term is so: a type that it has by the rules, or a fault that is a term's and no whole program's.
use Rattle.std.proofs.Common.{refl}
use Rattle.std.specs.Prelude.{Bool, [], bytes_eq, cond, false, true, ◌∷◌, ◌≡◌, ⊤}
use Rattle.fz_frac.proofs.Laws.{is_le-yes}
use Rattle.fz_frac.specs.Distance.{Distance, Inf, greater, is_le, none, one, quotient}
use Rattle.fz_ast.proofs.SameTypes.{same_type_is}
use Rattle.fz_ast.specs.Limits.{TermLimits, TypeLimits}
use Rattle.fz_ast.specs.Terms.{AppE, BangE, CaseE, ClipE, EqE, FilterE, FnE, FstE, FunE, GreatestE, IfE, InlE, InrE, LeE, LeastE, LetBangE, LetE, LetPairE, MapE, MinusE, Name, NumE, PairE, PlusE, SizeE, SndE, SplitE, SumE, Term, TermForm, TextE, TimesE, UnionE, UnitE, VarE, WithE, at, span_of}
use Rattle.fz_ast.specs.Types.{ArrowT, BagT, BangT, BoolT, Formed, NumT, SumT, TensorT, TextT, Ty, UnflatBag, UngroundSum, UnlimitedT, WellFormed, WithT, formed, is_flat, is_ground, same_type}
use Rattle.fz_ast.specs.declared.span.Span.{Span}
use Rattle.linear_types.specs.Inferred.{Exactly, Fault, Has, Inferred, Mismatch, NotFlat, NotGround, NotNum, Range, Untyped, TooSensitive, Unbounded, any_out, in_range, need, need_formed, one_part, three_parts, two_parts}
use Rattle.linear_types.specs.Rule.{app_rule, bang_rule, branches_rule, case_rule, clip_rule, eq_rule, exactly, fn_rule, fst_rule, fun_rule, halves, has_bound, has_scaled, has_sum, if_rule, inl_rule, inr_rule, le_rule, least_rule, let_bang_rule, let_pair_rule, let_rule, map_rule, pair_rule, past, plus_rule, rule, side_rule, size_rule, snd_rule, sum_rule, test_rule, times_rule, union_rule, var_rule, with_rule}
use Rattle.linear_types.specs.Sensitivities.{Sensitivities, above_zero, first, join, plus, rest, scale}
use Rattle.linear_types.specs.Typing.{Closed, Context, IsBound, IsType, Typing, Under, here, is_app, is_at_most, is_bang, is_case, is_clip, is_eq_num, is_eq_text, is_filter, is_fn, is_fst, is_fun, is_greatest, is_if, is_inl, is_inr, is_least, is_let, is_let_bang, is_let_pair, is_map, is_minus, is_num, is_pair, is_plus, is_size, is_snd, is_split, is_sum, is_text, is_times, is_union, is_unit, is_var, is_with, size_of, there, widest_of}

abbrev pub IsTerms : Fault → Type 0
IsTerms (Unbounded x) = ⊥
IsTerms (NotNum A) = ⊥
IsTerms f = ⊤

-- a type and sensitivities of which P holds, or a fault of a term
abbrev pub IsSo : (Ty → Sensitivities → Type 0) → Inferred → Type 0
IsSo P (Has A D) = P A D
IsSo P (Untyped f) = IsTerms f

pub record So (P : Ty → Sensitivities → Type 0) (v : Inferred) : Type 0 where
  pub so : IsSo P v

-- a term within its limits has this type by the rules
abbrev pub Typed : Context → Term → Ty → Sensitivities → Type 0
Typed Γ e A D = TermLimits e → Typing Γ e A D

module _ {P : Ty → Sensitivities → Type 0} where
  typed : {A : Ty} {D : Sensitivities} → P A D → So P (Has A D)
  typed p = record { so = p }

  refused : {f : Fault} → IsTerms f → So P (Untyped f)
  refused t = record { so = t }

  by_one : {Q : Ty → Sensitivities → Type 0} {v : Inferred} (k : Ty → Sensitivities → Inferred) → So Q v → ((A : Ty) (D : Sensitivities) → Q A D → So P (k A D)) → So P (one_part v k)
  by_one {v = Has A D} k h q = q A D h.so
  by_one {v = Untyped f} k h q = refused h.so

  by_two : {Q R : Ty → Sensitivities → Type 0} {v w : Inferred} (k : Ty → Sensitivities → Ty → Sensitivities → Inferred) → So Q v → So R w
      → ((A : Ty) (D : Sensitivities) (B : Ty) (E : Sensitivities) → Q A D → R B E → So P (k A D B E)) → So P (two_parts v w k)
  by_two {v = Has A D} {w = Has B E} k h i q = q A D B E h.so i.so
  by_two {v = Has A D} {w = Untyped f} k h i q = refused i.so
  by_two {v = Untyped f} k h i q = refused h.so

  by_three : {Q R S : Ty → Sensitivities → Type 0} {v w x : Inferred} (k : Ty → Sensitivities → Ty → Sensitivities → Ty → Sensitivities → Inferred) → So Q v → So R w → So S x
      → ((A : Ty) (D : Sensitivities) (B : Ty) (E : Sensitivities) (C : Ty) (F : Sensitivities) → Q A D → R B E → S C F → So P (k A D B E C F)) → So P (three_parts v w x k)
  by_three {v = Has A D} {w = Has B E} {x = Has C F} k h i j q = q A D B E C F h.so i.so j.so
  by_three {v = Has A D} {w = Has B E} {x = Untyped f} k h i j q = refused j.so
  by_three {v = Has A D} {w = Untyped f} k h i j q = refused i.so
  by_three {v = Untyped f} k h i j q = refused h.so

  by_need : (b : Bool) (f : Fault) {v : Inferred} → IsTerms f → (b ≡ true → So P v) → So P (need b f v)
  by_need true f t q = q refl
  by_need false f t q = refused t

  by_type : (u : Span) (A B : Ty) {v : Inferred} → (A ≡ B → So P v) → So P (exactly u A B v)
  by_type u A B q = by_need (same_type A B) (Mismatch u A (Exactly B)) tt (λ h. q (same_type_is A B h))

  by_formed : (u : Span) (w : Formed) {v : Inferred} → (w ≡ WellFormed → So P v) → So P (need_formed u w v)
  by_formed u WellFormed q = q refl
  by_formed u UngroundSum q = refused tt
  by_formed u UnflatBag q = refused tt

  by_range : (s : Span) (D : Sensitivities) {v : Inferred} → So P v → So P (in_range s D v)
  by_range s D {v} q = go (any_out D)
    where
      go : (b : Bool) → So P (cond b (Untyped (Range s)) v)
      go true = refused tt
      go false = q

  by_sum : (s : Span) (A : Ty) (D : Sensitivities) → P A D → So P (has_sum s A D)
  by_sum s A D p = by_range s D (typed p)

  by_bound : (s : Span) (A : Ty) (D : Sensitivities) (r : Distance) (E : Sensitivities) → P A (plus D (scale r E)) → So P (has_bound s A D r E)
  by_bound s A D r E p = by_range s (scale r E) (by_sum s A (plus D (scale r E)) p)

  by_scaled : (s : Span) (A : Ty) (r : Distance) (D : Sensitivities) → P A (scale r D) → So P (has_scaled s A r D)
  by_scaled s A r D p = by_range s (r ∷ []) (by_sum s A (scale r D) p)

  by_side : (u : Span) (T : Ty) (v : Span) (A : Ty) {o : Inferred} → (formed T ≡ WellFormed → is_ground T ≡ true → is_ground A ≡ true → So P o) → So P (side_rule u T v A o)
  by_side u T v A q = by_formed u (formed T) (λ w. by_need (is_ground T) (NotGround u) tt (λ g. by_need (is_ground A) (NotGround v) tt (λ h. q w g h)))

as_type : {Γ : Context} {e : Term} {A B : Ty} {D : Sensitivities} → A ≡ B → Typing Γ e A D → Typing Γ e B D
as_type i h = rw (← i) h

a_type : {T : Ty} → formed T ≡ WellFormed → TypeLimits T → IsType T
a_type w l = record { well_formed = w; limits = l }

so_var : (s : Span) (Γ : Context) (x : Name) → So (λ A D. IsBound Γ x A D) (var_rule s Γ x)
so_var s Closed x = refused tt
so_var s (Under y B Γ) x = go (so_var s Γ x) (bytes_eq y x) refl
  where
    go : So (λ A D. IsBound Γ x A D) (var_rule s Γ x) → (b : Bool) → bytes_eq y x ≡ b → So (λ A D. IsBound (Under y B Γ) x A D) (cond b (Has B (one ∷ [])) (past (var_rule s Γ x)))
    go r true e = typed (here e)
    go r false e = by_one (λ A D. Has A (none ∷ D)) r (λ A D h. typed (there e h))

name_so : {Γ : Context} {x : Name} {s : Span} {v : Inferred} → So (λ A D. IsBound Γ x A D) v → So (Typed Γ (at s (VarE x))) v
name_so {v = Has A D} h = typed (λ l. is_var h.so)
name_so {v = Untyped f} h = refused h.so

module _ {Γ : Context} {e : Term} (s u : Span) where
  so_fst : (T : Ty) (D : Sensitivities) → Typed Γ e T D → So (Typed Γ (at s (FstE e))) (fst_rule u T D)
  so_fst (WithT A B) D p = typed (λ l. is_fst (p l))
  so_fst T D p = refused tt

  so_snd : (T : Ty) (D : Sensitivities) → Typed Γ e T D → So (Typed Γ (at s (SndE e))) (snd_rule u T D)
  so_snd (WithT A B) D p = typed (λ l. is_snd (p l))
  so_snd T D p = refused tt

  so_size : (T : Ty) (D : Sensitivities) → Typed Γ e T D → So (Typed Γ (at s (SizeE e))) (size_rule u T D)
  so_size (BagT A) D p = typed (λ l. is_size (p l))
  so_size T D p = refused tt

  so_let_pair : (x y : Name) {b : Term} (body : Ty → Ty → Inferred) → ((A B : Ty) → So (Typed (Under y B (Under x A Γ)) b) (body A B))
      → (T : Ty) (E : Sensitivities) → Typed Γ e T E → So (Typed Γ (at s (LetPairE x y e b))) (let_pair_rule s u T E body)
  so_let_pair x y body q (TensorT A B) E p =
      by_one (λ C D. has_bound s C (rest (rest D)) (greater (first (rest D)) (first D)) E) (q A B)
      (λ C D r. by_bound s C (rest (rest D)) (greater (first (rest D)) (first D)) E (λ l. is_let_pair (p l.2) (r l.3)))
  so_let_pair x y body q T E p = refused tt

  so_let_bang : (x : Name) {b : Term} (body : Ty → Inferred) → ((A : Ty) → So (Typed (Under x A Γ) b) (body A))
      → (T : Ty) (E : Sensitivities) → Typed Γ e T E → So (Typed Γ (at s (LetBangE x e b))) (let_bang_rule s u T E body)
  so_let_bang x body q (BangT r A) E p =
      by_one (λ B D. in_range s (quotient (first D) r ∷ []) (has_bound s B (rest D) (quotient (first D) r) E)) (q A)
      (λ B D h. by_range s (quotient (first D) r ∷ []) (by_bound s B (rest D) (quotient (first D) r) E (λ l. is_let_bang (p l.1) (h l.2))))
  so_let_bang x body q T E p = refused tt

  so_case : (w : Span) (x y : Name) {a b : Term} (left right : Ty → Inferred) → ((A : Ty) → So (Typed (Under x A Γ) a) (left A)) → ((B : Ty) → So (Typed (Under y B Γ) b) (right B))
      → (T : Ty) (F : Sensitivities) → Typed Γ e T F → So (Typed Γ (at s (CaseE e x a y b))) (case_rule s u w T F left right)
  so_case w x y left right q r (SumT X Y) F p =
      by_two (branches_rule s w F) (q X) (r Y)
      (λ A D B E h k. by_type w B A (λ i. by_need (is_ground A) (NotGround s) tt (λ g.
      by_bound s A (join (rest D) (rest E)) (above_zero (greater (first D) (first E))) F (λ l. is_case (p l.0) (h l.2) (as_type i (k l.4)) g))))
  so_case w x y left right q r T F p = refused tt

module _ {Γ : Context} {f b : Term} (s u v : Span) where
  so_app : (T : Ty) (D : Sensitivities) (B : Ty) (E : Sensitivities) → Typed Γ f T D → Typed Γ b B E → So (Typed Γ (at s (AppE f b))) (app_rule s u v T D B E)
  so_app (ArrowT A C) D B E p q = by_type v B A (λ i. by_sum s C (plus D E) (λ l. is_app (p l.0) (as_type i (q l.1))))
  so_app T D B E p q = refused tt

  so_eq : (T : Ty) (D : Sensitivities) (B : Ty) (E : Sensitivities) → Typed Γ f T D → Typed Γ b B E → So (Typed Γ (at s (EqE f b))) (eq_rule s u v T D B E)
  so_eq NumT D B E p q = by_type v B NumT (λ i. by_sum s BoolT (plus (scale Inf D) (scale Inf E)) (λ l. is_eq_num (p l.0) (as_type i (q l.1))))
  so_eq TextT D B E p q = by_type v B TextT (λ i. by_sum s BoolT (plus D E) (λ l. is_eq_text (p l.0) (as_type i (q l.1))))
  so_eq T D B E p q = refused tt

  so_union : (T : Ty) (D : Sensitivities) (B : Ty) (E : Sensitivities) → Typed Γ f T D → Typed Γ b B E → So (Typed Γ (at s (UnionE f b))) (union_rule s u v T D B E)
  so_union (BagT A) D B E p q = by_type v B (BagT A) (λ i. by_sum s (BagT A) (plus D E) (λ l. is_union (p l.0) (as_type i (q l.1))))
  so_union T D B E p q = refused tt

  so_map : (T : Ty) (D : Sensitivities) (B : Ty) (E : Sensitivities) → Typed Γ f T D → Typed Γ b B E → So (Typed Γ (at s (MapE f b))) (map_rule s u v T D B E)
  so_map (ArrowT (BangT Inf A) C) D B E p q =
      by_need (is_flat C) (NotFlat u) tt (λ g. by_type v B (BagT A) (λ i. by_sum s (BagT C) (plus (scale Inf D) E) (λ l. is_map (p l.0) g (as_type i (q l.1)))))
  so_map T D B E p q = refused tt

  -- a test of the elements, by what it makes of theirs
  so_test : (M : Ty → Ty) (whole : TermForm) → (TermLimits (at s whole) → TermLimits f × TermLimits b)
      → ((A : Ty) (D E : Sensitivities) → Typing Γ f (UnlimitedT A BoolT) D → Typing Γ b (BagT A) E → Typing Γ (at s whole) (M A) (plus (scale Inf D) E))
      → (T : Ty) (D : Sensitivities) (B : Ty) (E : Sensitivities) → Typed Γ f T D → Typed Γ b B E → So (Typed Γ (at s whole)) (test_rule M s u v T D B E)
  so_test M whole parts make (ArrowT (BangT Inf A) C) D B E p q =
      by_type u (UnlimitedT A C) (UnlimitedT A BoolT) (λ i. by_type v B (BagT A) (λ j.
      by_sum s (M A) (plus (scale Inf D) E) (λ l. make A D E (as_type i (p (parts l).0)) (as_type j (q (parts l).1)))))
  so_test M whole parts make T D B E p q = refused tt

-- two numbers, and what a row makes of them
by_numbers : {P : Ty → Sensitivities → Type 0} {Γ : Context} {a b : Term} (s u v : Span) (C : Ty) (F : Sensitivities) (A : Ty) (D : Sensitivities) (B : Ty) (E : Sensitivities) → Typed Γ a A D → Typed Γ b B E
    → (Typed Γ a NumT D → Typed Γ b NumT E → P C F) → So P (exactly u A NumT (exactly v B NumT (has_sum s C F)))
by_numbers s u v C F A D B E p q make = by_type u A NumT (λ i. by_type v B NumT (λ j. by_sum s C F (make (λ l. as_type i (p l)) (λ l. as_type j (q l)))))

pub so : (t : Term) (Γ : Context) → So (Typed Γ t) (rule Γ t)
so (at s (VarE x)) Γ = name_so (so_var s Γ x)
so (at s (NumE z)) Γ = typed (λ l. is_num l)
so (at s (TextE t)) Γ = typed (λ l. is_text l)
so (at s UnitE) Γ = typed (λ l. is_unit)
so (at s (PairE a b)) Γ = by_two (pair_rule s) (so a Γ) (so b Γ) (λ A D B E p q. by_sum s (TensorT A B) (plus D E) (λ l. is_pair (p l.0) (q l.1)))
so (at s (WithE a b)) Γ = by_two with_rule (so a Γ) (so b Γ) (λ A D B E p q. typed (λ l. is_with (p l.0) (q l.1)))
so (at s (FstE e)) Γ = by_one (fst_rule (span_of e)) (so e Γ) (so_fst s (span_of e))
so (at s (SndE e)) Γ = by_one (snd_rule (span_of e)) (so e Γ) (so_snd s (span_of e))
so (at s (LetPairE x y e b)) Γ =
    let body = λ (A B : Ty). rule (Under y B (Under x A Γ)) b in
    by_one (λ T E. let_pair_rule s (span_of e) T E body) (so e Γ) (so_let_pair s (span_of e) x y body (λ A B. so b (Under y B (Under x A Γ))))
so (at s (InlE u T e)) Γ = by_one (inl_rule u T (span_of e)) (so e Γ) (λ A D p. by_side u T (span_of e) A (λ w g h. typed (λ l. is_inl (p l.1) (a_type w l.0) g h)))
so (at s (InrE u T e)) Γ = by_one (inr_rule u T (span_of e)) (so e Γ) (λ A D p. by_side u T (span_of e) A (λ w g h. typed (λ l. is_inr (p l.1) (a_type w l.0) g h)))
so (at s (CaseE e x a y b)) Γ =
    let left = λ (A : Ty). rule (Under x A Γ) a in let right = λ (B : Ty). rule (Under y B Γ) b in
    by_one (λ T F. case_rule s (span_of e) (span_of b) T F left right) (so e Γ) (so_case s (span_of e) (span_of b) x y left right (λ A. so a (Under x A Γ)) (λ B. so b (Under y B Γ)))
so (at s (IfE e a b)) Γ =
    by_three (if_rule s (span_of e) (span_of b)) (so e Γ) (so a Γ) (so b Γ)
    (λ T F A D B E p q r. by_type (span_of e) T BoolT (λ i. by_type (span_of b) B A (λ j. by_need (is_ground A) (NotGround s) tt (λ g.
    by_sum s A (plus (join D E) F) (λ l. is_if (as_type i (p l.0)) (q l.1) (as_type j (r l.2)) g)))))
so (at s (FunE x u T e)) Γ =
    by_one (fun_rule s x u T) (so e (Under x T Γ)) (λ A D p. by_formed u (formed T) (λ w. by_need (is_le (first D) one) (TooSensitive s x (first D)) tt (λ g.
    typed (λ l. is_fun (p l.2) (a_type w l.1) (is_le-yes (first D) one g)))))
so (at s (FnE x u T e)) Γ = by_one (fn_rule u T) (so e (Under x T Γ)) (λ A D p. by_formed u (formed T) (λ w. typed (λ l. is_fn (p l.2) (a_type w l.1))))
so (at s (AppE f a)) Γ = by_two (app_rule s (span_of f) (span_of a)) (so f Γ) (so a Γ) (so_app s (span_of f) (span_of a))
so (at s (BangE r e)) Γ = by_one (bang_rule s r) (so e Γ) (λ A D p. by_sum s (BangT r A) (scale r D) (λ l. is_bang (p l.1) l.0))
so (at s (LetBangE x e b)) Γ =
    let body = λ (A : Ty). rule (Under x A Γ) b in
    by_one (λ T E. let_bang_rule s (span_of e) T E body) (so e Γ) (so_let_bang s (span_of e) x body (λ A. so b (Under x A Γ)))
so (at s (LetE x e b)) Γ =
    by_one (λ A E. one_part (rule (Under x A Γ) b) (let_rule s E)) (so e Γ)
    (λ A E p. by_one (let_rule s E) (so b (Under x A Γ)) (λ B D q. by_bound s B (rest D) (first D) E (λ l. is_let (p l.1) (q l.2))))
so (at s (PlusE a b)) Γ =
    by_two (plus_rule s (span_of a) (span_of b)) (so a Γ) (so b Γ) (λ A D B E p q. by_numbers s (span_of a) (span_of b) NumT (plus D E) A D B E p q (λ h k l. is_plus (h l.0) (k l.1)))
so (at s (MinusE a b)) Γ =
    by_two (plus_rule s (span_of a) (span_of b)) (so a Γ) (so b Γ) (λ A D B E p q. by_numbers s (span_of a) (span_of b) NumT (plus D E) A D B E p q (λ h k l. is_minus (h l.0) (k l.1)))
so (at s (TimesE k e)) Γ = by_one (times_rule s (span_of e) k) (so e Γ) (λ A D p. by_type (span_of e) A NumT (λ i. by_scaled s NumT (size_of k) D (λ l. is_times (as_type i (p l.1)))))
so (at s (LeE a b)) Γ =
    by_two (le_rule s (span_of a) (span_of b)) (so a Γ) (so b Γ)
    (λ A D B E p q. by_numbers s (span_of a) (span_of b) BoolT (plus (scale Inf D) (scale Inf E)) A D B E p q (λ h k l. is_at_most (h l.0) (k l.1)))
so (at s (EqE a b)) Γ = by_two (eq_rule s (span_of a) (span_of b)) (so a Γ) (so b Γ) (so_eq s (span_of a) (span_of b))
so (at s (ClipE lo hi e)) Γ = by_one (clip_rule (span_of e)) (so e Γ) (λ A D p. by_type (span_of e) A NumT (λ i. typed (λ l. is_clip (as_type i (p l.2)) l.0 l.1)))
so (at s (LeastE e)) Γ = by_one (least_rule (span_of e)) (so e Γ) (λ A D p. by_type (span_of e) A (WithT NumT NumT) (λ i. typed (λ l. is_least (as_type i (p l)))))
so (at s (GreatestE e)) Γ = by_one (least_rule (span_of e)) (so e Γ) (λ A D p. by_type (span_of e) A (WithT NumT NumT) (λ i. typed (λ l. is_greatest (as_type i (p l)))))
so (at s (SizeE e)) Γ = by_one (size_rule (span_of e)) (so e Γ) (so_size s (span_of e))
so (at s (SumE lo hi e)) Γ =
    by_one (sum_rule s (span_of e) lo hi) (so e Γ) (λ A D p. by_type (span_of e) A (BagT NumT) (λ i. by_scaled s NumT (widest_of lo hi) D (λ l. is_sum (as_type i (p l.2)))))
so (at s (UnionE a b)) Γ = by_two (union_rule s (span_of a) (span_of b)) (so a Γ) (so b Γ) (so_union s (span_of a) (span_of b))
so (at s (MapE f b)) Γ = by_two (map_rule s (span_of f) (span_of b)) (so f Γ) (so b Γ) (so_map s (span_of f) (span_of b))
so (at s (FilterE f b)) Γ = by_two (test_rule BagT s (span_of f) (span_of b)) (so f Γ) (so b Γ) (so_test s (span_of f) (span_of b) BagT (FilterE f b) (λ l. l) (λ A D E p q. is_filter p q))
so (at s (SplitE f b)) Γ = by_two (test_rule halves s (span_of f) (span_of b)) (so f Γ) (so b Γ) (so_test s (span_of f) (span_of b) halves (SplitE f b) (λ l. l) (λ A D E p q. is_split p q))

pub sound : (t : Term) (Γ : Context) → TermLimits t → (A : Ty) (D : Sensitivities) → rule Γ t ≡ Has A D → Typing Γ t A D
sound t Γ l A D h = go (rule Γ t) (so t Γ) h
  where
    go : (v : Inferred) → So (Typed Γ t) v → v ≡ Has A D → Typing Γ t A D
    go (Has B E) k e = let i : B ≡ A = cc e in let j : E ≡ D = cc e in rw (← i, ← j) (k.so l)
    go (Untyped f) k e = cc e

-- a fault of a term is none of a whole program's
pub faults_of_terms : (t : Term) (Γ : Context) (f : Fault) → rule Γ t ≡ Untyped f → IsTerms f
faults_of_terms t Γ f h = go (rule Γ t) (so t Γ) h
  where
    go : (v : Inferred) → So (Typed Γ t) v → v ≡ Untyped f → IsTerms f
    go (Has B E) k e = cc e
    go (Untyped g) k e = let i : g ≡ f = cc e in rw (← i) k.so
