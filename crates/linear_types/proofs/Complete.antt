-- What has a type by the rules has it by the function, or a fraction is out of range.
use Rattle.std.proofs.Common.{ap, refl, subst, ◌∙◌}
use Rattle.std.proofs.Math.Bool.{or-false}
use Rattle.std.specs.Prelude.{Bool, [], cond, false, true, ◌||◌, ◌∷◌, ◌≡◌}
use Rattle.fz_frac.proofs.Laws.{le-is_le}
use Rattle.fz_frac.specs.Distance.{Distance, Inf, greater, one, quotient}
use Rattle.fz_frac.specs.Lowest.{is_out}
use Rattle.fz_ast.specs.Terms.{AppE, BangE, CaseE, ClipE, EqE, FilterE, FnE, FstE, FunE, GreatestE, IfE, InlE, InrE, LeE, LeastE, LetBangE, LetE, LetPairE, MapE, MinusE, Name, NumE, PairE, PlusE, SizeE, SndE, SplitE, SumE, Term, TextE, TimesE, UnionE, UnitE, VarE, WithE, at, span_of}
use Rattle.fz_ast.specs.Types.{BagT, BangT, BoolT, NumT, SumT, TensorT, TextT, Ty, UnlimitedT, WithT, formed, is_ground}
use Rattle.fz_ast.specs.declared.span.Span.{Span}
use Rattle.fz_ast.proofs.SameTypes.{same_type_refl}
use Rattle.linear_types.proofs.Alike.{endless_in_range}
use Rattle.linear_types.specs.Fractions.{bound_out, compared_out, each_out, is_out_of_range}
use Rattle.linear_types.specs.Rule.{app_rule, branches_rule, case_rule, eq_rule, exactly, fn_rule, fst_rule, fun_rule, halves, has_bound, has_scaled, has_sum, if_rule, le_rule, let_bang_rule, let_pair_rule, map_rule, past, plus_rule, rule, side_rule, size_rule, snd_rule, test_rule, union_rule, var_rule}
use Rattle.linear_types.specs.Sensitivities.{Sensitivities, above_zero, first, join, plus, rest, scale}
use Rattle.linear_types.specs.Typing.{Context, IsBound, IsType, Typing, Under, here, is_app, is_at_most, is_bang, is_case, is_clip, is_eq_num, is_eq_text, is_filter, is_fn, is_fst, is_fun, is_greatest, is_if, is_inl, is_inr, is_least, is_let, is_let_bang, is_let_pair, is_map, is_minus, is_num, is_pair, is_plus, is_size, is_snd, is_split, is_sum, is_text, is_times, is_union, is_unit, is_var, is_with, size_of, there, widest_of}
use Rattle.linear_types.specs.Inferred.{Exactly, Fault, Has, Mismatch, NotFlat, NotGround, Range, Untyped, TooSensitive, Inferred, any_out, in_range, need, need_formed, one_part, three_parts, two_parts}

-- the verdict, or a fraction is out of range: by o which of the two
pub data Or (v : Inferred) (o : Bool) (A : Ty) (D : Sensitivities) : Type 0 where
  gives : o ≡ false → v ≡ Has A D → Or v o A D
  leaves : o ≡ true → (s : Span) → v ≡ Untyped (Range s) → Or v o A D

or_at : {v w : Inferred} {o : Bool} {A : Ty} {D : Sensitivities} → v ≡ w → Or w o A D → Or v o A D
or_at e (gives n f) = gives n (e ∙ f)
or_at e (leaves y s f) = leaves y s (e ∙ f)

-- what is out of one side is out of both
after : {v : Inferred} {o p : Bool} {A : Ty} {D : Sensitivities} → o ≡ false → Or v p A D → Or v (o || p) A D
after e q = rw e q

or_true : {o : Bool} (p : Bool) → o ≡ true → (o || p) ≡ true
or_true p e = rw e refl

or_one : {v : Inferred} {o p : Bool} {B A : Ty} {D F : Sensitivities} (k : Ty → Sensitivities → Inferred) → Or v o B D → Or (k B D) p A F → Or (one_part v k) (o || p) A F
or_one k (gives n e) q = after n (or_at (ap (λ v. one_part v k) e) q)
or_one k (leaves y s e) q = leaves (or_true _ y) s (ap (λ v. one_part v k) e)

-- a part alone, with no fraction of the row's own
or_only : {v : Inferred} {o : Bool} {B A : Ty} {D F : Sensitivities} (k : Ty → Sensitivities → Inferred) → Or v o B D → Or (k B D) false A F → Or (one_part v k) o A F
or_only {v} {o} {A = A} {F = F} k p q = subst (λ b. Or (one_part v k) b A F) (or-false o) (or_one k p q)

or_two : {v w : Inferred} {o p q : Bool} {B C A : Ty} {D E F : Sensitivities} (k : Ty → Sensitivities → Ty → Sensitivities → Inferred) → Or v o B D → Or w p C E → Or (k B D C E) q A F → Or (two_parts v w k) (o || (p || q)) A F
or_two {w = w} k (leaves y s e) q r = leaves (or_true _ y) s (ap (λ v. two_parts v w k) e)
or_two {w = w} {B = B} {D = D} k (gives n e) (leaves y s f) r = after n (leaves (or_true _ y) s (ap (λ v. two_parts v w k) e ∙ ap (λ w. two_parts (Has B D) w k) f))
or_two {w = w} {B = B} {D = D} k (gives n e) (gives m f) r = after n (after m (or_at (ap (λ v. two_parts v w k) e ∙ ap (λ w. two_parts (Has B D) w k) f) r))

-- two parts alone
or_both : {v w : Inferred} {o p : Bool} {B C A : Ty} {D E F : Sensitivities} (k : Ty → Sensitivities → Ty → Sensitivities → Inferred) → Or v o B D → Or w p C E → Or (k B D C E) false A F → Or (two_parts v w k) (o || p) A F
or_both {v} {w} {o} {p} {A = A} {F = F} k c d q = subst (λ b. Or (two_parts v w k) (o || b) A F) (or-false p) (or_two k c d q)

or_three : {v w x : Inferred} {o p q t : Bool} {B C G A : Ty} {D E H F : Sensitivities} (k : Ty → Sensitivities → Ty → Sensitivities → Ty → Sensitivities → Inferred) → Or v o B D → Or w p C E → Or x q G H → Or (k B D C E G H) t A F
    → Or (three_parts v w x k) (o || (p || (q || t))) A F
or_three {w = w} {x = x} k (leaves y s e) b c r = leaves (or_true _ y) s (ap (λ v. three_parts v w x k) e)
or_three {w = w} {x = x} {B = B} {D = D} k (gives n e) (leaves y s f) c r = after n (leaves (or_true _ y) s (ap (λ v. three_parts v w x k) e ∙ ap (λ w. three_parts (Has B D) w x k) f))
or_three {w = w} {x = x} {B = B} {C = C} {D = D} {E = E} k (gives n e) (gives m f) (leaves y s g) r =
    after n (after m (leaves (or_true _ y) s (ap (λ v. three_parts v w x k) e ∙ ap (λ w. three_parts (Has B D) w x k) f ∙ ap (λ x. three_parts (Has B D) (Has C E) x k) g)))
or_three {w = w} {x = x} {B = B} {C = C} {D = D} {E = E} k (gives n e) (gives m f) (gives l g) r =
    after n (after m (after l (or_at (ap (λ v. three_parts v w x k) e ∙ ap (λ w. three_parts (Has B D) w x k) f ∙ ap (λ x. three_parts (Has B D) (Has C E) x k) g) r)))

or_need : {b : Bool} (f : Fault) {v : Inferred} {o : Bool} {A : Ty} {F : Sensitivities} → b ≡ true → Or v o A F → Or (need b f v) o A F
or_need f {v = v} e q = or_at (ap (λ b. need b f v) e) q

or_exactly : (u : Span) (B : Ty) {v : Inferred} {o : Bool} {A : Ty} {F : Sensitivities} → Or v o A F → Or (exactly u B B v) o A F
or_exactly u B q = or_need (Mismatch u B (Exactly B)) (same_type_refl B) q

or_formed : (u : Span) (T : Ty) {v : Inferred} {o : Bool} {A : Ty} {F : Sensitivities} → IsType T → Or v o A F → Or (need_formed u (formed T) v) o A F
or_formed u T {v = v} w q = or_at (ap (λ f. need_formed u f v) w.well_formed) q

or_range : (s : Span) (D : Sensitivities) {v : Inferred} {o : Bool} {A : Ty} {F : Sensitivities} → Or v o A F → Or (in_range s D v) (any_out D || o) A F
or_range s D {v} {o} {A} {F} q = go (any_out D)
  where
    go : (b : Bool) → Or (cond b (Untyped (Range s)) v) (b || o) A F
    go true = leaves refl s refl
    go false = q

or_sum : (s : Span) (A : Ty) (D : Sensitivities) → Or (has_sum s A D) (any_out D) A D
or_sum s A D = go (any_out D)
  where
    go : (b : Bool) → Or (cond b (Untyped (Range s)) (Has A D)) b A D
    go true = leaves refl s refl
    go false = gives refl refl

or_bound : (s : Span) (A : Ty) (D : Sensitivities) (r : Distance) (E : Sensitivities) → Or (has_bound s A D r E) (bound_out D r E) A (plus D (scale r E))
or_bound s A D r E = or_range s (scale r E) (or_sum s A (plus D (scale r E)))

-- one fraction alone
alone : (r : Distance) → any_out (r ∷ []) ≡ is_out r
alone r = or-false (is_out r)

or_single : (s : Span) (r : Distance) {v : Inferred} {o : Bool} {A : Ty} {F : Sensitivities} → Or v o A F → Or (in_range s (r ∷ []) v) (is_out r || o) A F
or_single s r {v} {o} {A} {F} q = subst (λ b. Or (in_range s (r ∷ []) v) (b || o) A F) (alone r) (or_range s (r ∷ []) q)

or_scaled : (s : Span) (A : Ty) (r : Distance) (D : Sensitivities) → Or (has_scaled s A r D) (is_out r || any_out (scale r D)) A (scale r D)
or_scaled s A r D = or_single s r (or_sum s A (scale r D))

-- inf times a fraction is 0 or inf, and so in range
or_compared : (s : Span) (D E : Sensitivities) → Or (has_sum s BoolT (plus (scale Inf D) (scale Inf E))) (compared_out D E) BoolT (plus (scale Inf D) (scale Inf E))
or_compared s D E = after (endless_in_range D) (after (endless_in_range E) (or_sum s BoolT (plus (scale Inf D) (scale Inf E))))

or_each : (s : Span) (A : Ty) (D E : Sensitivities) → Or (has_sum s A (plus (scale Inf D) E)) (each_out D E) A (plus (scale Inf D) E)
or_each s A D E = after (endless_in_range D) (or_sum s A (plus (scale Inf D) E))

or_side : (u v : Span) (T A : Ty) {w : Inferred} {o : Bool} {B : Ty} {F : Sensitivities} → IsType T → is_ground T ≡ true → is_ground A ≡ true → Or w o B F → Or (side_rule u T v A w) o B F
or_side u v T A w g h q = or_formed u T w (or_need (NotGround u) g (or_need (NotGround v) h q))

gives_var : (s : Span) {Γ : Context} {x : Name} {A : Ty} {D : Sensitivities} → IsBound Γ x A D → var_rule s Γ x ≡ Has A D
gives_var s (here {x = x} {A = A} {Γ = Γ} e) = ap (λ b. cond b (Has A (one ∷ [])) (past (var_rule s Γ x))) e
gives_var s (there {x = x} {A = A} {B = B} {Γ = Γ} {D = D} e h) = ap (λ b. cond b (Has B (one ∷ [])) (past (var_rule s Γ x))) e ∙ ap past (gives_var s h)

pub complete : (t : Term) {Γ : Context} {A : Ty} {D : Sensitivities} (p : Typing Γ t A D) → Or (rule Γ t) (is_out_of_range p) A D
complete (at s (VarE x)) (is_var h) = gives refl (gives_var s h)
complete (at s (NumE z)) (is_num l) = gives refl refl
complete (at s (TextE t)) (is_text l) = gives refl refl
complete (at s UnitE) is_unit = gives refl refl
complete (at s (PairE a b)) (is_pair {A = A} {B = B} {D = D} {E = E} p q) = or_two (λ A D B E. has_sum s (TensorT A B) (plus D E)) (complete a p) (complete b q) (or_sum s (TensorT A B) (plus D E))
complete (at s (WithE a b)) (is_with p q) = or_both (λ A D B E. Has (WithT A B) (join D E)) (complete a p) (complete b q) (gives refl refl)
complete (at s (FstE e)) (is_fst p) = or_only (fst_rule (span_of e)) (complete e p) (gives refl refl)
complete (at s (SndE e)) (is_snd p) = or_only (snd_rule (span_of e)) (complete e p) (gives refl refl)
complete (at s (LetPairE x y e b)) {Γ} (is_let_pair {C = C} {D = D} {E = E} p q) =
    or_one (λ T E. let_pair_rule s (span_of e) T E (λ A B. rule (Under y B (Under x A Γ)) b)) (complete e p)
    (or_one (λ C D. has_bound s C (rest (rest D)) (greater (first (rest D)) (first D)) E) (complete b q) (or_bound s C (rest (rest D)) (greater (first (rest D)) (first D)) E))
complete (at s (InlE u T e)) (is_inl {A = A} {D = D} p w g h) = or_only (λ A D. side_rule u T (span_of e) A (Has (SumT A T) D)) (complete e p) (or_side u (span_of e) T A w g h (gives refl refl))
complete (at s (InrE u T e)) (is_inr {A = A} {D = D} p w g h) = or_only (λ A D. side_rule u T (span_of e) A (Has (SumT T A) D)) (complete e p) (or_side u (span_of e) T A w g h (gives refl refl))
complete (at s (CaseE e x a y b)) {Γ} (is_case {C = C} {D = D} {E = E} {F = F} p q r g) =
    or_one (λ T F. case_rule s (span_of e) (span_of b) T F (λ A. rule (Under x A Γ) a) (λ B. rule (Under y B Γ) b)) (complete e p)
    (or_two (branches_rule s (span_of b) F) (complete a q) (complete b r) (or_exactly (span_of b) C (or_need (NotGround s) g (or_bound s C (join (rest D) (rest E)) (above_zero (greater (first D) (first E))) F))))
complete (at s (IfE e a b)) (is_if {C = C} {D = D} {E = E} {F = F} p q r g) =
    or_three (if_rule s (span_of e) (span_of b)) (complete e p) (complete a q) (complete b r) (or_exactly (span_of e) BoolT (or_exactly (span_of b) C (or_need (NotGround s) g (or_sum s C (plus (join D E) F)))))
complete (at s (FunE x u T e)) (is_fun {D = D} p w h) = or_only (fun_rule s x u T) (complete e p) (or_formed u T w (or_need (TooSensitive s x (first D)) (le-is_le (first D) one h) (gives refl refl)))
complete (at s (FnE x u T e)) (is_fn p w) = or_only (fn_rule u T) (complete e p) (or_formed u T w (gives refl refl))
complete (at s (AppE f a)) (is_app {A = A} {B = B} {D = D} {E = E} p q) = or_two (app_rule s (span_of f) (span_of a)) (complete f p) (complete a q) (or_exactly (span_of a) A (or_sum s B (plus D E)))
complete (at s (BangE r e)) (is_bang {A = A} {D = D} p w) = or_one (λ A D. has_sum s (BangT r A) (scale r D)) (complete e p) (or_sum s (BangT r A) (scale r D))
complete (at s (LetBangE x e b)) {Γ} (is_let_bang {r = r} {B = B} {D = D} {E = E} p q) =
    or_one (λ T E. let_bang_rule s (span_of e) T E (λ A. rule (Under x A Γ) b)) (complete e p)
    (or_one (λ B D. in_range s (quotient (first D) r ∷ []) (has_bound s B (rest D) (quotient (first D) r) E)) (complete b q) (or_single s (quotient (first D) r) (or_bound s B (rest D) (quotient (first D) r) E)))
complete (at s (LetE x e b)) {Γ} (is_let {B = B} {D = D} {E = E} p q) =
    or_one (λ A E. one_part (rule (Under x A Γ) b) (λ B D. has_bound s B (rest D) (first D) E)) (complete e p)
    (or_one (λ B D. has_bound s B (rest D) (first D) E) (complete b q) (or_bound s B (rest D) (first D) E))
complete (at s (PlusE a b)) (is_plus {D = D} {E = E} p q) = or_two (plus_rule s (span_of a) (span_of b)) (complete a p) (complete b q) (or_exactly (span_of a) NumT (or_exactly (span_of b) NumT (or_sum s NumT (plus D E))))
complete (at s (MinusE a b)) (is_minus {D = D} {E = E} p q) = or_two (plus_rule s (span_of a) (span_of b)) (complete a p) (complete b q) (or_exactly (span_of a) NumT (or_exactly (span_of b) NumT (or_sum s NumT (plus D E))))
complete (at s (TimesE k e)) (is_times {D = D} p) = or_one (λ A D. exactly (span_of e) A NumT (has_scaled s NumT (size_of k) D)) (complete e p) (or_exactly (span_of e) NumT (or_scaled s NumT (size_of k) D))
complete (at s (LeE a b)) (is_at_most {D = D} {E = E} p q) = or_two (le_rule s (span_of a) (span_of b)) (complete a p) (complete b q) (or_exactly (span_of a) NumT (or_exactly (span_of b) NumT (or_compared s D E)))
complete (at s (EqE a b)) (is_eq_num {D = D} {E = E} p q) = or_two (eq_rule s (span_of a) (span_of b)) (complete a p) (complete b q) (or_exactly (span_of b) NumT (or_compared s D E))
complete (at s (EqE a b)) (is_eq_text {D = D} {E = E} p q) = or_two (eq_rule s (span_of a) (span_of b)) (complete a p) (complete b q) (or_exactly (span_of b) TextT (or_sum s BoolT (plus D E)))
complete (at s (ClipE lo hi e)) (is_clip p l h) = or_only (λ A D. exactly (span_of e) A NumT (Has NumT D)) (complete e p) (or_exactly (span_of e) NumT (gives refl refl))
complete (at s (LeastE e)) (is_least p) = or_only (λ A D. exactly (span_of e) A (WithT NumT NumT) (Has NumT D)) (complete e p) (or_exactly (span_of e) (WithT NumT NumT) (gives refl refl))
complete (at s (GreatestE e)) (is_greatest p) = or_only (λ A D. exactly (span_of e) A (WithT NumT NumT) (Has NumT D)) (complete e p) (or_exactly (span_of e) (WithT NumT NumT) (gives refl refl))
complete (at s (SizeE e)) (is_size p) = or_only (size_rule (span_of e)) (complete e p) (gives refl refl)
complete (at s (SumE lo hi e)) (is_sum {D = D} p) = or_one (λ A D. exactly (span_of e) A (BagT NumT) (has_scaled s NumT (widest_of lo hi) D)) (complete e p) (or_exactly (span_of e) (BagT NumT) (or_scaled s NumT (widest_of lo hi) D))
complete (at s (UnionE a b)) (is_union {A = A} {D = D} {E = E} p q) = or_two (union_rule s (span_of a) (span_of b)) (complete a p) (complete b q) (or_exactly (span_of b) (BagT A) (or_sum s (BagT A) (plus D E)))
complete (at s (MapE f b)) (is_map {A = A} {B = B} {D = D} {E = E} p g q) = or_two (map_rule s (span_of f) (span_of b)) (complete f p) (complete b q) (or_need (NotFlat (span_of f)) g (or_exactly (span_of b) (BagT A) (or_each s (BagT B) D E)))
complete (at s (FilterE f b)) (is_filter {A = A} {D = D} {E = E} p q) =
    or_two (test_rule BagT s (span_of f) (span_of b)) (complete f p) (complete b q) (or_exactly (span_of f) (UnlimitedT A BoolT) (or_exactly (span_of b) (BagT A) (or_each s (BagT A) D E)))
complete (at s (SplitE f b)) (is_split {A = A} {D = D} {E = E} p q) =
    or_two (test_rule halves s (span_of f) (span_of b)) (complete f p) (complete b q) (or_exactly (span_of f) (UnlimitedT A BoolT) (or_exactly (span_of b) (BagT A) (or_each s (halves A) D E)))
