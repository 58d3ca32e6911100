-- What is derivable by places bounds how far a term's value moves, at every form of term.
use Rattle.std.specs.Prelude.{List, [], ◌∷◌}
use Rattle.std.proofs.Common.{refl}
use Rattle.fz_frac.proofs.Laws.{add-comm, add-none, add-none_r, none-mul, greater-left, greater-right, mul-assoc, mul-one, none-add, none-least, ⊑-inf, ⊑-refl, ◌⊕◌, ◌⊗◌, ◌⨾◌}
use Rattle.fz_frac.specs.Distance.{Distance, Inf, add, greater, mul, none, quotient, ◌⊑◌}
use Rattle.fz_ast.specs.Terms.{FilterE, LetBangE, Name, SplitE, Term, at}
use Rattle.fz_ast.specs.declared.span.Span.{Span}
use Rattle.fz_ast.specs.Types.{BagT, BangT, BoolT, TensorT, Ty, UnlimitedT}
use Rattle.metric_values.specs.Values.{Env}
use Rattle.term_meanings.proofs.Written.{arrow_parts, arrow_type, bag_type, bang_parts, bang_type, bool_type, bound, num_type, sum_parts, sum_type, tensor_parts, tensor_type, text_type, unit_type, with_parts, with_type}
use Rattle.term_meanings.proofs.Quotient.{quotient_suffices}
use Rattle.term_meanings.specs.Scopes.{AllTypes, Context, IsType, Under, size_of, widest_of}
use Rattle.term_meanings.specs.Sensitivities.{Sensitivities, above_zero, first, join, plus, rest, scale}
use Rattle.term_meanings.specs.Environments.{NearEnv, TypedEnv, dot, near_bind, typed_bind}
use Rattle.term_meanings.proofs.Flatness.{elements_flat, ground_of, results_flat}
use Rattle.term_meanings.proofs.Fine.{Fine, fine_app, fine_bang, fine_case, fine_clip, fine_eq_num, fine_eq_text, fine_filter, fine_fn, fine_fst, fine_fun, fine_greatest, fine_if, fine_inl, fine_inr, fine_le, fine_least, fine_let, fine_let_bang, fine_let_pair, fine_map, fine_minus, fine_num, fine_pair, fine_plus, fine_size, fine_snd, fine_split, fine_sum, fine_text, fine_times, fine_union, fine_unit, fine_var, fine_with}
use Rattle.term_meanings.proofs.Sums.{above-inf, above-self, bound_one, bound_two, dot-bind, dot-left, dot-plus, dot-right, dot-scale}
use Rattle.term_meanings.proofs.Closeness.{Close, close_app, close_bang, close_case, close_clip, close_eq_num, close_eq_text, close_filter, close_fn, close_fst, close_fun, close_greatest, close_if, close_inl, close_inr, close_le, close_least, close_let, close_let_bang, close_let_pair, close_map, close_minus, close_num, close_pair, close_plus, close_size, close_snd, close_split, close_sum, close_text, close_times, close_union, close_unit, close_var, close_with, weaken}
use Rattle.fz_derive.specs.ByPlace.{Covers, Derivable, Within, is_app, is_at_most, is_bang, is_case, is_clip, is_eq_num, is_eq_text, is_filter, is_fn, is_fst, is_fun, is_greatest, is_if, is_inl, is_inr, is_least, is_let, is_let_bang, is_let_pair, is_map, is_minus, is_num, is_pair, is_plus, is_size, is_snd, is_split, is_sum, is_text, is_times, is_union, is_unit, is_var, is_with}

-- greater sensitivities bound what smaller ones do
within : (D E : Sensitivities) → Within D E → (δ : List Distance) → dot D δ ⊑ dot E δ
within [] E h δ = none-least _
within (t ∷ D) E h [] = none-least _
within (t ∷ D) [] h (d ∷ δ) = (((h.0 ⊗ ⊑-refl d) ⨾ none-mul d) ⊕ within D [] h.1 δ) ⨾ add-none none
within (t ∷ D) (u ∷ E) h (d ∷ δ) = (h.0 ⊗ ⊑-refl d) ⊕ within D E h.1 δ

pub dot-within : {D E : Sensitivities} → Covers D E → (δ : List Distance) → dot D δ ⊑ dot E δ
dot-within {D} {E} c δ = within D E c.each δ

pub written : {Γ : Context} {e : Term} {A : Ty} {D : Sensitivities} → AllTypes Γ → Derivable Γ e A D → IsType A
written t (is_var s z) = bound t s
written t (is_num l z) = num_type
written t (is_text l z) = text_type
written t (is_unit z) = unit_type
written t (is_pair p q z) = tensor_type (written t p) (written t q)
written t (is_with p q z) = with_type (written t p) (written t q)
written t (is_fst {A = A} {B = B} p z) = (with_parts A B (written t p)).0
written t (is_snd {A = A} {B = B} p z) = (with_parts A B (written t p)).1
written t (is_let_pair {A = A} {B = B} p q z) = let w = tensor_parts A B (written t p) in written (w.1, (w.0, t)) q
written t (is_inl p w g h z) = sum_type h g (written t p) w
written t (is_inr p w g h z) = sum_type g h w (written t p)
written t (is_case {A = A} {B = B} p q r g z) = written ((sum_parts A B (written t p)).0, t) q
written t (is_if p q r g z) = written t q
written t (is_fun p w h z) = arrow_type w (written (w, t) p)
written t (is_fn p w z) = arrow_type (bang_type tt w) (written (w, t) p)
written t (is_app {A = A} {B = B} p q z) = (arrow_parts A B (written t p)).1
written t (is_bang p r z) = bang_type r (written t p)
written t (is_let_bang {r = s} {A = A} p q z) = written ((bang_parts s A (written t p)).1, t) q
written t (is_let p q z) = written (written t p, t) q
written t (is_plus p q z) = num_type
written t (is_minus p q z) = num_type
written t (is_times p z) = num_type
written t (is_at_most p q z) = bool_type
written t (is_eq_num p q z) = bool_type
written t (is_eq_text p q z) = bool_type
written t (is_clip p l h z) = num_type
written t (is_least p z) = num_type
written t (is_greatest p z) = num_type
written t (is_size p z) = num_type
written t (is_sum p z) = num_type
written t (is_union p q z) = written t p
written t (is_map {A = A} {B = B} p f q z) = bag_type f (arrow_parts (BangT Inf A) B (written t p)).1
written t (is_filter p q z) = written t q
written t (is_split p q z) = tensor_type (written t q) (written t q)

pub fine : {Γ : Context} {e : Term} {A : Ty} {D : Sensitivities} → AllTypes Γ → Derivable Γ e A D → (γ : Env) → TypedEnv Γ γ → Fine γ e A
fine w (is_var s z) γ t = fine_var s t
fine w (is_num l z) γ t = fine_num l
fine w (is_text l z) γ t = fine_text l
fine w (is_unit z) γ t = fine_unit
fine w (is_pair p q z) γ t = fine_pair (fine w p γ t) (fine w q γ t)
fine w (is_with p q z) γ t = fine_with (fine w p γ t) (fine w q γ t)
fine w (is_fst p z) γ t = fine_fst (fine w p γ t)
fine w (is_snd p z) γ t = fine_snd (fine w p γ t)
fine w (is_let_pair {A = A} {B = B} p q z) γ t = let k = tensor_parts A B (written w p) in fine_let_pair (fine w p γ t) (λ u v tu tv. fine (k.1, (k.0, w)) q _ (typed_bind tv (typed_bind tu t)))
fine w (is_inl p k g h z) γ t = fine_inl (fine w p γ t)
fine w (is_inr p k g h z) γ t = fine_inr (fine w p γ t)
fine w (is_case {A = A} {B = B} p q r g z) γ t = let k = sum_parts A B (written w p) in fine_case (fine w p γ t) (λ u tu. fine (k.0, w) q _ (typed_bind tu t)) (λ u tu. fine (k.1, w) r _ (typed_bind tu t))
fine w (is_if p q r g z) γ t = fine_if (fine w p γ t) (fine w q γ t) (fine w r γ t)
fine w (is_fun p k h z) γ t = fine_fun (λ u tu. fine (k, w) p _ (typed_bind tu t))
fine w (is_fn p k z) γ t = fine_fn (λ u tu. fine (k, w) p _ (typed_bind tu t))
fine w (is_app p q z) γ t = fine_app (fine w p γ t) (fine w q γ t)
fine w (is_bang p r z) γ t = fine_bang (fine w p γ t)
fine w (is_let_bang {r = s} {A = A} p q z) γ t = fine_let_bang (fine w p γ t) (λ u tu. fine ((bang_parts s A (written w p)).1, w) q _ (typed_bind tu t))
fine w (is_let p q z) γ t = fine_let (fine w p γ t) (λ u tu. fine (written w p, w) q _ (typed_bind tu t))
fine w (is_plus p q z) γ t = fine_plus (fine w p γ t) (fine w q γ t)
fine w (is_minus p q z) γ t = fine_minus (fine w p γ t) (fine w q γ t)
fine w (is_times p z) γ t = fine_times (fine w p γ t)
fine w (is_at_most p q z) γ t = fine_le (fine w p γ t) (fine w q γ t)
fine w (is_eq_num p q z) γ t = fine_eq_num (fine w p γ t) (fine w q γ t)
fine w (is_eq_text p q z) γ t = fine_eq_text (fine w p γ t) (fine w q γ t)
fine w (is_clip p l h z) γ t = fine_clip l h (fine w p γ t)
fine w (is_least p z) γ t = fine_least (fine w p γ t)
fine w (is_greatest p z) γ t = fine_greatest (fine w p γ t)
fine w (is_size p z) γ t = fine_size (fine w p γ t)
fine w (is_sum p z) γ t = fine_sum (fine w p γ t)
fine w (is_union p q z) γ t = fine_union (fine w p γ t) (fine w q γ t)
fine w (is_map {A = A} {B = B} p f q z) γ t = fine_map (results_flat (BangT Inf A) B (written w p) f) (fine w p γ t) (fine w q γ t)
fine w (is_filter p q z) γ t = fine_filter (fine w p γ t) (fine w q γ t)
fine w (is_split p q z) γ t = fine_split (fine w p γ t) (fine w q γ t)

bound_case : (D E F : Sensitivities) (t : Distance) (G : Sensitivities) (δ : List Distance) → t ⊑ greater (first D) (first E) → dot (rest G) δ ⊑ dot (join (rest D) (rest E)) δ
    → dot G (dot F δ ∷ δ) ⊑ add (mul t (dot F δ)) (dot (rest G) δ)
    → dot G (dot F δ ∷ δ) ⊑ dot (plus (join (rest D) (rest E)) (scale (above_zero (greater (first D) (first E))) F)) δ
bound_case D E F t G δ h k b =
    let r = above_zero (greater (first D) (first E)) in
    b ⨾ add-comm _ _ ⨾ (k ⊕ (((h ⨾ above-self _) ⊗ ⊑-refl (dot F δ)) ⨾ dot-scale r F δ)) ⨾ dot-plus (join (rest D) (rest E)) (scale r F) δ

bang_case : (D E : Sensitivities) (k s c : Distance) (δ : List Distance) → first D ⊑ mul k s → mul s c ⊑ dot E δ → dot D (c ∷ δ) ⊑ dot (plus (rest D) (scale k E)) δ
bang_case D E k s c δ h l =
    dot-bind D c δ ⨾ add-comm _ _ ⨾ (⊑-refl (dot (rest D) δ) ⊕ ((h ⊗ ⊑-refl c) ⨾ mul-assoc k s c ⨾ (⊑-refl k ⊗ l) ⨾ dot-scale k E δ)) ⨾ dot-plus (rest D) (scale k E) δ

-- a body under a bang's name, at any scalar that suffices
bang_body : {Γ : Context} {γ γ' : Env} {δ : List Distance} {o : Span} {x : Name} {e b : Term} {s : Distance} {A B : Ty} (D E : Sensitivities) (k : Distance) → first D ⊑ mul k s
    → TypedEnv Γ γ → TypedEnv Γ γ' → NearEnv Γ γ γ' δ → Close γ γ' e (BangT s A) (dot E δ) → Fine γ e (BangT s A) → Fine γ' e (BangT s A)
    → ((γ γ' : Env) (δ : List Distance) → TypedEnv (Under x A Γ) γ → TypedEnv (Under x A Γ) γ' → NearEnv (Under x A Γ) γ γ' δ → Close γ γ' b B (dot D δ))
    → Close γ γ' (at o (LetBangE x e b)) B (dot (plus (rest D) (scale k E)) δ)
bang_body {δ = δ} {s = s} D E k h t t' n p f f' body =
    close_let_bang p f f' (λ c u u' tu tu' nu l. weaken (body _ _ (c ∷ δ) (typed_bind tu t) (typed_bind tu' t') (near_bind nu n)) (bang_case D E k s c δ h l))

pub law : {Γ : Context} {e : Term} {A : Ty} {D : Sensitivities} → AllTypes Γ → Derivable Γ e A D → (γ γ' : Env) (δ : List Distance) → TypedEnv Γ γ → TypedEnv Γ γ' → NearEnv Γ γ γ' δ → Close γ γ' e A (dot D δ)
law ok (is_var s z) γ γ' δ t t' n =
    weaken (close_var s n)
    (dot-within z δ)
law ok (is_num l z) γ γ' δ t t' n =
    weaken (close_num)
    (dot-within z δ)
law ok (is_text l z) γ γ' δ t t' n =
    weaken (close_text)
    (dot-within z δ)
law ok (is_unit z) γ γ' δ t t' n =
    weaken (close_unit)
    (dot-within z δ)
law ok (is_pair {D = D} {E = E} p q z) γ γ' δ t t' n =
    weaken (weaken (close_pair (law ok p γ γ' δ t t' n) (law ok q γ γ' δ t t' n)) (dot-plus D E δ))
    (dot-within z δ)
law ok (is_with {D = D} {E = E} p q z) γ γ' δ t t' n =
    weaken (close_with (weaken (law ok p γ γ' δ t t' n) (dot-left D E δ)) (weaken (law ok q γ γ' δ t t' n) (dot-right D E δ)))
    (dot-within z δ)
law ok (is_fst p z) γ γ' δ t t' n =
    weaken (close_fst (law ok p γ γ' δ t t' n))
    (dot-within z δ)
law ok (is_snd p z) γ γ' δ t t' n =
    weaken (close_snd (law ok p γ γ' δ t t' n))
    (dot-within z δ)
law ok (is_let_pair {A = A} {B = B} {D = D} {E = E} p q z) γ γ' δ t t' n =
    weaken (let k = tensor_parts A B (written ok p) in
    close_let_pair (law ok p γ γ' δ t t' n) (fine ok p γ t) (fine ok p γ' t')
    (λ c1 c2 u u' w w' tu tu' tw tw' n1 n2 h. weaken (law (k.1, (k.0, ok)) q _ _ (c2 ∷ c1 ∷ δ) (typed_bind tw (typed_bind tu t)) (typed_bind tw' (typed_bind tu' t')) (near_bind n2 (near_bind n1 n)))
    (bound_two D E _ c1 c2 δ (greater-right (first (rest D)) (first D)) (greater-left (first (rest D)) (first D)) h)))
    (dot-within z δ)
law ok (is_inl p k g h z) γ γ' δ t t' n =
    weaken (close_inl (law ok p γ γ' δ t t' n))
    (dot-within z δ)
law ok (is_inr p k g h z) γ γ' δ t t' n =
    weaken (close_inr (law ok p γ γ' δ t t' n))
    (dot-within z δ)
law ok (is_case {A = A} {B = B} {C = C} {D = D} {E = E} {F = F} p q r g z) γ γ' δ t t' n =
    weaken (let k = greater (first D) (first E) in
    let w = sum_parts A B (written ok p) in
    close_case (law ok p γ γ' δ t t' n) (fine ok p γ t) (fine ok p γ' t') (fine ok (is_case p q r g z) γ t) (fine ok (is_case p q r g z) γ' t') (ground_of C g)
    (λ u u' tu tu' nu. weaken (law (w.0, ok) q _ _ (dot F δ ∷ δ) (typed_bind tu t) (typed_bind tu' t') (near_bind nu n))
    (bound_case D E F (first D) D δ (greater-left (first D) (first E)) (dot-left (rest D) (rest E) δ) (dot-bind D _ δ)))
    (λ u u' tu tu' nu. weaken (law (w.1, ok) r _ _ (dot F δ ∷ δ) (typed_bind tu t) (typed_bind tu' t') (near_bind nu n))
    (bound_case D E F (first E) E δ (greater-right (first D) (first E)) (dot-right (rest D) (rest E) δ) (dot-bind E _ δ)))
    (λ h. above-inf k (dot F δ) h ⨾ dot-scale (above_zero k) F δ ⨾ none-add _ ⨾ (none-least (dot (join (rest D) (rest E)) δ) ⊕ ⊑-refl _) ⨾ dot-plus (join (rest D) (rest E)) (scale (above_zero k) F) δ))
    (dot-within z δ)
law ok (is_if {C = C} {D = D} {E = E} {F = F} p q r g z) γ γ' δ t t' n =
    weaken (let up = dot-plus (join D E) F δ in
    let low = none-add _ ⨾ add-comm none _ ⨾ (⊑-refl (dot (join D E) δ) ⊕ none-least (dot F δ)) ⨾ up in
    close_if (law ok p γ γ' δ t t' n) (fine ok q γ t) (fine ok q γ' t') (fine ok r γ t) (fine ok r γ' t') (ground_of C g)
    (weaken (law ok q γ γ' δ t t' n) (dot-left D E δ ⨾ low)) (weaken (law ok r γ γ' δ t t' n) (dot-right D E δ ⨾ low))
    (λ h. h ⨾ none-add _ ⨾ (none-least (dot (join D E) δ) ⊕ ⊑-refl _) ⨾ up))
    (dot-within z δ)
law ok (is_fun {D = D} p w h z) γ γ' δ t t' n =
    weaken (close_fun (λ c u u' tu tu' nu. weaken (law (w, ok) p _ _ (c ∷ δ) (typed_bind tu t) (typed_bind tu' t') (near_bind nu n)) (dot-bind D c δ ⨾ (((h ⊗ ⊑-refl c) ⨾ mul-one c) ⊕ ⊑-refl _))))
    (dot-within z δ)
law ok (is_fn {D = D} p w z) γ γ' δ t t' n =
    weaken (close_fn (λ c c' u u' tu tu' nu l. weaken (law (w, ok) p _ _ (c' ∷ δ) (typed_bind tu t) (typed_bind tu' t') (near_bind nu n)) (dot-bind D c' δ ⨾ (((⊑-inf (first D) ⊗ ⊑-refl c') ⨾ l) ⊕ ⊑-refl _))))
    (dot-within z δ)
law ok (is_app {D = D} {E = E} p q z) γ γ' δ t t' n =
    weaken (weaken (close_app (law ok p γ γ' δ t t' n) (law ok q γ γ' δ t t' n) (fine ok q γ t) (fine ok q γ' t')) (add-comm _ _ ⨾ dot-plus D E δ))
    (dot-within z δ)
law ok (is_bang {r = r} {D = D} p w z) γ γ' δ t t' n =
    weaken (weaken (close_bang (law ok p γ γ' δ t t' n)) (dot-scale r D δ))
    (dot-within z δ)
law ok (is_let_bang {r = s} {A = A} {D = D} {E = E} p q z) γ γ' δ t t' n =
    weaken (let w = bang_parts s A (written ok p) in
    bang_body D E (quotient (first D) s) (quotient_suffices (first D) s w.0) t t' n (law ok p γ γ' δ t t' n) (fine ok p γ t) (fine ok p γ' t') (λ γ γ' δ t t' n. law (w.1, ok) q γ γ' δ t t' n))
    (dot-within z δ)
law ok (is_let {D = D} {E = E} p q z) γ γ' δ t t' n =
    weaken (close_let (law ok p γ γ' δ t t' n) (fine ok p γ t) (fine ok p γ' t')
    (λ u u' tu tu' nu. weaken (law (written ok p, ok) q _ _ (dot E δ ∷ δ) (typed_bind tu t) (typed_bind tu' t') (near_bind nu n)) (bound_one D E (first D) (dot E δ) δ (⊑-refl _) (⊑-refl _))))
    (dot-within z δ)
law ok (is_plus {D = D} {E = E} p q z) γ γ' δ t t' n =
    weaken (weaken (close_plus (law ok p γ γ' δ t t' n) (law ok q γ γ' δ t t' n)) (dot-plus D E δ))
    (dot-within z δ)
law ok (is_minus {D = D} {E = E} p q z) γ γ' δ t t' n =
    weaken (weaken (close_minus (law ok p γ γ' δ t t' n) (law ok q γ γ' δ t t' n)) (dot-plus D E δ))
    (dot-within z δ)
law ok (is_times {k = k} {D = D} p z) γ γ' δ t t' n =
    weaken (weaken (close_times (law ok p γ γ' δ t t' n)) (dot-scale (size_of k) D δ))
    (dot-within z δ)
law ok (is_at_most {D = D} {E = E} p q z) γ γ' δ t t' n =
    weaken (weaken (close_le (law ok p γ γ' δ t t' n) (law ok q γ γ' δ t t' n)) ((dot-scale Inf D δ ⊕ dot-scale Inf E δ) ⨾ dot-plus (scale Inf D) (scale Inf E) δ))
    (dot-within z δ)
law ok (is_eq_num {D = D} {E = E} p q z) γ γ' δ t t' n =
    weaken (weaken (close_eq_num (law ok p γ γ' δ t t' n) (law ok q γ γ' δ t t' n)) ((dot-scale Inf D δ ⊕ dot-scale Inf E δ) ⨾ dot-plus (scale Inf D) (scale Inf E) δ))
    (dot-within z δ)
law ok (is_eq_text {D = D} {E = E} p q z) γ γ' δ t t' n =
    weaken (weaken (close_eq_text (law ok p γ γ' δ t t' n) (law ok q γ γ' δ t t' n)) (dot-plus D E δ))
    (dot-within z δ)
law ok (is_clip p a b z) γ γ' δ t t' n =
    weaken (close_clip (law ok p γ γ' δ t t' n))
    (dot-within z δ)
law ok (is_least p z) γ γ' δ t t' n =
    weaken (close_least (law ok p γ γ' δ t t' n))
    (dot-within z δ)
law ok (is_greatest p z) γ γ' δ t t' n =
    weaken (close_greatest (law ok p γ γ' δ t t' n))
    (dot-within z δ)
law ok (is_size p z) γ γ' δ t t' n =
    weaken (close_size (law ok p γ γ' δ t t' n))
    (dot-within z δ)
law ok (is_sum {lo = lo} {hi = hi} {D = D} p z) γ γ' δ t t' n =
    weaken (weaken (close_sum (law ok p γ γ' δ t t' n)) (dot-scale (widest_of lo hi) D δ))
    (dot-within z δ)
law ok (is_union {D = D} {E = E} p q z) γ γ' δ t t' n =
    weaken (weaken (close_union (law ok p γ γ' δ t t' n) (law ok q γ γ' δ t t' n)) (dot-plus D E δ))
    (dot-within z δ)
law ok (is_map {A = A} {B = B} {D = D} {E = E} p k q z) γ γ' δ t t' n =
    weaken (weaken (close_map (elements_flat A (written ok q)) (results_flat (BangT Inf A) B (written ok p) k) (law ok p γ γ' δ t t' n) (law ok q γ γ' δ t t' n) (fine ok q γ t) (fine ok q γ' t') (fine ok (is_map p k q z) γ t) (fine ok (is_map p k q z) γ' t'))
    ((dot-scale Inf D δ ⊕ ⊑-refl _) ⨾ dot-plus (scale Inf D) E δ))
    (dot-within z δ)
law ok (is_filter {A = A} {D = D} {E = E} p q z) γ γ' δ t t' n =
    weaken (weaken (close_filter Inf (λ l. l.le) (elements_flat A (written ok q)) (law ok p γ γ' δ t t' n) (law ok q γ γ' δ t t' n) (fine ok q γ t) (fine ok q γ' t') (fine ok (is_filter p q z) γ t) (fine ok (is_filter p q z) γ' t'))
    ((dot-scale Inf D δ ⊕ ⊑-refl _) ⨾ dot-plus (scale Inf D) E δ))
    (dot-within z δ)
law ok (is_split {A = A} {D = D} {E = E} p q z) γ γ' δ t t' n =
    weaken (weaken (close_split Inf (λ l. l.le) (elements_flat A (written ok q)) (law ok p γ γ' δ t t' n) (law ok q γ γ' δ t t' n) (fine ok q γ t) (fine ok q γ' t') (fine ok (is_split p q z) γ t) (fine ok (is_split p q z) γ' t'))
    ((dot-scale Inf D δ ⊕ ⊑-refl _) ⨾ dot-plus (scale Inf D) E δ))
    (dot-within z δ)
