-- What has a type keeps what is near, near.
use Rattle.std.specs.Prelude.{List, ◌∷◌}
use Rattle.fz_frac.proofs.Laws.{add-comm, greater-left, greater-right, mul-assoc, mul-one, none-add, none-least, ⊑-inf, ⊑-refl, ◌⊕◌, ◌⊗◌, ◌⨾◌}
use Rattle.fz_frac.specs.Distance.{Distance, Inf, add, greater, mul, none, quotient, ◌⊑◌}
use Rattle.fz_ast.specs.Terms.{FilterE, LetBangE, Name, SplitE, Term, at}
use Rattle.fz_ast.specs.declared.span.Span.{Span}
use Rattle.fz_ast.specs.Types.{BagT, BangT, BoolT, TensorT, Ty, UnlimitedT}
use Rattle.linear_types.proofs.Quotient.{quotient_suffices}
use Rattle.linear_types.proofs.Written.{bang_parts, sum_parts, tensor_parts, written}
use Rattle.linear_types.specs.Sensitivities.{Sensitivities, above_zero, first, join, plus, rest, scale}
use Rattle.linear_types.specs.Typing.{AllTypes, Context, Typing, Under, is_app, is_at_most, is_bang, is_case, is_clip, is_eq_num, is_eq_text, is_filter, is_fn, is_fst, is_fun, is_greatest, is_if, is_inl, is_inr, is_least, is_let, is_let_bang, is_let_pair, is_map, is_minus, is_num, is_pair, is_plus, is_size, is_snd, is_split, is_sum, is_text, is_times, is_union, is_unit, is_var, is_with, size_of, widest_of}
use Rattle.metric_values.specs.Values.{Env}
use Rattle.metric_law.proofs.Closeness.{Close, close_app, close_bang, close_case, close_clip, close_eq_num, close_eq_text, close_filter, close_fn, close_fst, close_fun, close_greatest, close_if, close_inl, close_inr, close_le, close_least, close_let, close_let_bang, close_let_pair, close_map, close_minus, close_num, close_pair, close_plus, close_size, close_snd, close_split, close_sum, close_text, close_times, close_union, close_unit, close_var, close_with, weaken}
use Rattle.metric_law.proofs.Fine.{Fine, fine}
use Rattle.metric_law.proofs.Flatness.{elements_flat, ground_of, results_flat}
use Rattle.metric_law.proofs.Sums.{above-inf, above-self, bound_one, bound_two, dot-bind, dot-left, dot-plus, dot-right, dot-scale}
use Rattle.metric_law.specs.Law.{NearEnv, TypedEnv, dot, near_bind, typed_bind}

bound_case : (D E F : Sensitivities) (t : Distance) (G : Sensitivities) (δ : List Distance) → t ⊑ greater (first D) (first E) → dot (rest G) δ ⊑ dot (join (rest D) (rest E)) δ
    → dot G (dot F δ ∷ δ) ⊑ add (mul t (dot F δ)) (dot (rest G) δ)
    → dot G (dot F δ ∷ δ) ⊑ dot (plus (join (rest D) (rest E)) (scale (above_zero (greater (first D) (first E))) F)) δ
bound_case D E F t G δ h k b =
    let r = above_zero (greater (first D) (first E)) in
    b ⨾ add-comm _ _ ⨾ (k ⊕ (((h ⨾ above-self _) ⊗ ⊑-refl (dot F δ)) ⨾ dot-scale r F δ)) ⨾ dot-plus (join (rest D) (rest E)) (scale r F) δ

bang_case : (D E : Sensitivities) (k s c : Distance) (δ : List Distance) → first D ⊑ mul k s → mul s c ⊑ dot E δ → dot D (c ∷ δ) ⊑ dot (plus (rest D) (scale k E)) δ
bang_case D E k s c δ h l =
    dot-bind D c δ ⨾ add-comm _ _ ⨾ (⊑-refl (dot (rest D) δ) ⊕ ((h ⊗ ⊑-refl c) ⨾ mul-assoc k s c ⨾ (⊑-refl k ⊗ l) ⨾ dot-scale k E δ)) ⨾ dot-plus (rest D) (scale k E) δ

-- a body under a bang's name, at any scalar that suffices
bang_body : {Γ : Context} {γ γ' : Env} {δ : List Distance} {o : Span} {x : Name} {e b : Term} {s : Distance} {A B : Ty} (D E : Sensitivities) (k : Distance) → first D ⊑ mul k s
    → TypedEnv Γ γ → TypedEnv Γ γ' → NearEnv Γ γ γ' δ → Close γ γ' e (BangT s A) (dot E δ) → Fine γ e (BangT s A) → Fine γ' e (BangT s A)
    → ((γ γ' : Env) (δ : List Distance) → TypedEnv (Under x A Γ) γ → TypedEnv (Under x A Γ) γ' → NearEnv (Under x A Γ) γ γ' δ → Close γ γ' b B (dot D δ))
    → Close γ γ' (at o (LetBangE x e b)) B (dot (plus (rest D) (scale k E)) δ)
bang_body {δ = δ} {s = s} D E k h t t' n p f f' body =
    close_let_bang p f f' (λ c u u' tu tu' nu l. weaken (body _ _ (c ∷ δ) (typed_bind tu t) (typed_bind tu' t') (near_bind nu n)) (bang_case D E k s c δ h l))

-- filter and split, with any factor above 0 for their function
pub looser_filter : {Γ : Context} {o : Span} {f b : Term} {A : Ty} {D E : Sensitivities} → AllTypes Γ → Typing Γ f (UnlimitedT A BoolT) D → Typing Γ b (BagT A) E → (k : Distance) → (k ⊑ none → ⊥)
    → (γ γ' : Env) (δ : List Distance) → TypedEnv Γ γ → TypedEnv Γ γ' → NearEnv Γ γ γ' δ → Close γ γ' f (UnlimitedT A BoolT) (dot D δ) → Close γ γ' b (BagT A) (dot E δ)
    → Close γ γ' (at o (FilterE f b)) (BagT A) (dot (plus (scale k D) E) δ)
looser_filter {A = A} {D = D} {E = E} ok p q k h γ γ' δ t t' n cf cb =
    weaken (close_filter k h (elements_flat A (written ok q)) cf cb (fine ok q γ t) (fine ok q γ' t') (fine ok (is_filter p q) γ t) (fine ok (is_filter p q) γ' t'))
    ((dot-scale k D δ ⊕ ⊑-refl _) ⨾ dot-plus (scale k D) E δ)

pub looser_split : {Γ : Context} {o : Span} {f b : Term} {A : Ty} {D E : Sensitivities} → AllTypes Γ → Typing Γ f (UnlimitedT A BoolT) D → Typing Γ b (BagT A) E → (k : Distance) → (k ⊑ none → ⊥)
    → (γ γ' : Env) (δ : List Distance) → TypedEnv Γ γ → TypedEnv Γ γ' → NearEnv Γ γ γ' δ → Close γ γ' f (UnlimitedT A BoolT) (dot D δ) → Close γ γ' b (BagT A) (dot E δ)
    → Close γ γ' (at o (SplitE f b)) (TensorT (BagT A) (BagT A)) (dot (plus (scale k D) E) δ)
looser_split {A = A} {D = D} {E = E} ok p q k h γ γ' δ t t' n cf cb =
    weaken (close_split k h (elements_flat A (written ok q)) cf cb (fine ok q γ t) (fine ok q γ' t') (fine ok (is_split p q) γ t) (fine ok (is_split p q) γ' t'))
    ((dot-scale k D δ ⊕ ⊑-refl _) ⨾ dot-plus (scale k D) E δ)

pub law : {Γ : Context} {e : Term} {A : Ty} {D : Sensitivities} → AllTypes Γ → Typing Γ e A D → (γ γ' : Env) (δ : List Distance) → TypedEnv Γ γ → TypedEnv Γ γ' → NearEnv Γ γ γ' δ → Close γ γ' e A (dot D δ)
law ok (is_var s) γ γ' δ t t' n = close_var s n
law ok (is_num l) γ γ' δ t t' n = close_num
law ok (is_text l) γ γ' δ t t' n = close_text
law ok is_unit γ γ' δ t t' n = close_unit
law ok (is_pair {D = D} {E = E} p q) γ γ' δ t t' n = weaken (close_pair (law ok p γ γ' δ t t' n) (law ok q γ γ' δ t t' n)) (dot-plus D E δ)
law ok (is_with {D = D} {E = E} p q) γ γ' δ t t' n = close_with (weaken (law ok p γ γ' δ t t' n) (dot-left D E δ)) (weaken (law ok q γ γ' δ t t' n) (dot-right D E δ))
law ok (is_fst p) γ γ' δ t t' n = close_fst (law ok p γ γ' δ t t' n)
law ok (is_snd p) γ γ' δ t t' n = close_snd (law ok p γ γ' δ t t' n)
law ok (is_let_pair {A = A} {B = B} {D = D} {E = E} p q) γ γ' δ t t' n =
    let k = tensor_parts A B (written ok p) in
    close_let_pair (law ok p γ γ' δ t t' n) (fine ok p γ t) (fine ok p γ' t')
    (λ c1 c2 u u' w w' tu tu' tw tw' n1 n2 h. weaken (law (k.1, (k.0, ok)) q _ _ (c2 ∷ c1 ∷ δ) (typed_bind tw (typed_bind tu t)) (typed_bind tw' (typed_bind tu' t')) (near_bind n2 (near_bind n1 n)))
    (bound_two D E _ c1 c2 δ (greater-right (first (rest D)) (first D)) (greater-left (first (rest D)) (first D)) h))
law ok (is_inl p k g h) γ γ' δ t t' n = close_inl (law ok p γ γ' δ t t' n)
law ok (is_inr p k g h) γ γ' δ t t' n = close_inr (law ok p γ γ' δ t t' n)
law ok (is_case {A = A} {B = B} {C = C} {D = D} {E = E} {F = F} p q r g) γ γ' δ t t' n =
    let k = greater (first D) (first E) in
    let w = sum_parts A B (written ok p) in
    close_case (law ok p γ γ' δ t t' n) (fine ok p γ t) (fine ok p γ' t') (fine ok (is_case p q r g) γ t) (fine ok (is_case p q r g) γ' t') (ground_of C g)
    (λ u u' tu tu' nu. weaken (law (w.0, ok) q _ _ (dot F δ ∷ δ) (typed_bind tu t) (typed_bind tu' t') (near_bind nu n))
    (bound_case D E F (first D) D δ (greater-left (first D) (first E)) (dot-left (rest D) (rest E) δ) (dot-bind D _ δ)))
    (λ u u' tu tu' nu. weaken (law (w.1, ok) r _ _ (dot F δ ∷ δ) (typed_bind tu t) (typed_bind tu' t') (near_bind nu n))
    (bound_case D E F (first E) E δ (greater-right (first D) (first E)) (dot-right (rest D) (rest E) δ) (dot-bind E _ δ)))
    (λ h. above-inf k (dot F δ) h ⨾ dot-scale (above_zero k) F δ ⨾ none-add _ ⨾ (none-least (dot (join (rest D) (rest E)) δ) ⊕ ⊑-refl _) ⨾ dot-plus (join (rest D) (rest E)) (scale (above_zero k) F) δ)
law ok (is_if {C = C} {D = D} {E = E} {F = F} p q r g) γ γ' δ t t' n =
    let up = dot-plus (join D E) F δ in
    let low = none-add _ ⨾ add-comm none _ ⨾ (⊑-refl (dot (join D E) δ) ⊕ none-least (dot F δ)) ⨾ up in
    close_if (law ok p γ γ' δ t t' n) (fine ok q γ t) (fine ok q γ' t') (fine ok r γ t) (fine ok r γ' t') (ground_of C g)
    (weaken (law ok q γ γ' δ t t' n) (dot-left D E δ ⨾ low)) (weaken (law ok r γ γ' δ t t' n) (dot-right D E δ ⨾ low))
    (λ h. h ⨾ none-add _ ⨾ (none-least (dot (join D E) δ) ⊕ ⊑-refl _) ⨾ up)
law ok (is_fun {D = D} p w h) γ γ' δ t t' n =
    close_fun (λ c u u' tu tu' nu. weaken (law (w, ok) p _ _ (c ∷ δ) (typed_bind tu t) (typed_bind tu' t') (near_bind nu n)) (dot-bind D c δ ⨾ (((h ⊗ ⊑-refl c) ⨾ mul-one c) ⊕ ⊑-refl _)))
law ok (is_fn {D = D} p w) γ γ' δ t t' n =
    close_fn (λ c c' u u' tu tu' nu l. weaken (law (w, ok) p _ _ (c' ∷ δ) (typed_bind tu t) (typed_bind tu' t') (near_bind nu n)) (dot-bind D c' δ ⨾ (((⊑-inf (first D) ⊗ ⊑-refl c') ⨾ l) ⊕ ⊑-refl _)))
law ok (is_app {D = D} {E = E} p q) γ γ' δ t t' n =
    weaken (close_app (law ok p γ γ' δ t t' n) (law ok q γ γ' δ t t' n) (fine ok q γ t) (fine ok q γ' t')) (add-comm _ _ ⨾ dot-plus D E δ)
law ok (is_bang {r = r} {D = D} p w) γ γ' δ t t' n = weaken (close_bang (law ok p γ γ' δ t t' n)) (dot-scale r D δ)
law ok (is_let_bang {r = s} {A = A} {D = D} {E = E} p q) γ γ' δ t t' n =
    let w = bang_parts s A (written ok p) in
    bang_body D E (quotient (first D) s) (quotient_suffices (first D) s w.0) t t' n (law ok p γ γ' δ t t' n) (fine ok p γ t) (fine ok p γ' t') (λ γ γ' δ t t' n. law (w.1, ok) q γ γ' δ t t' n)
law ok (is_let {D = D} {E = E} p q) γ γ' δ t t' n =
    close_let (law ok p γ γ' δ t t' n) (fine ok p γ t) (fine ok p γ' t')
    (λ u u' tu tu' nu. weaken (law (written ok p, ok) q _ _ (dot E δ ∷ δ) (typed_bind tu t) (typed_bind tu' t') (near_bind nu n)) (bound_one D E (first D) (dot E δ) δ (⊑-refl _) (⊑-refl _)))
law ok (is_plus {D = D} {E = E} p q) γ γ' δ t t' n = weaken (close_plus (law ok p γ γ' δ t t' n) (law ok q γ γ' δ t t' n)) (dot-plus D E δ)
law ok (is_minus {D = D} {E = E} p q) γ γ' δ t t' n = weaken (close_minus (law ok p γ γ' δ t t' n) (law ok q γ γ' δ t t' n)) (dot-plus D E δ)
law ok (is_times {k = k} {D = D} p) γ γ' δ t t' n = weaken (close_times (law ok p γ γ' δ t t' n)) (dot-scale (size_of k) D δ)
law ok (is_at_most {D = D} {E = E} p q) γ γ' δ t t' n = weaken (close_le (law ok p γ γ' δ t t' n) (law ok q γ γ' δ t t' n)) ((dot-scale Inf D δ ⊕ dot-scale Inf E δ) ⨾ dot-plus (scale Inf D) (scale Inf E) δ)
law ok (is_eq_num {D = D} {E = E} p q) γ γ' δ t t' n = weaken (close_eq_num (law ok p γ γ' δ t t' n) (law ok q γ γ' δ t t' n)) ((dot-scale Inf D δ ⊕ dot-scale Inf E δ) ⨾ dot-plus (scale Inf D) (scale Inf E) δ)
law ok (is_eq_text {D = D} {E = E} p q) γ γ' δ t t' n = weaken (close_eq_text (law ok p γ γ' δ t t' n) (law ok q γ γ' δ t t' n)) (dot-plus D E δ)
law ok (is_clip p a b) γ γ' δ t t' n = close_clip (law ok p γ γ' δ t t' n)
law ok (is_least p) γ γ' δ t t' n = close_least (law ok p γ γ' δ t t' n)
law ok (is_greatest p) γ γ' δ t t' n = close_greatest (law ok p γ γ' δ t t' n)
law ok (is_size p) γ γ' δ t t' n = close_size (law ok p γ γ' δ t t' n)
law ok (is_sum {lo = lo} {hi = hi} {D = D} p) γ γ' δ t t' n = weaken (close_sum (law ok p γ γ' δ t t' n)) (dot-scale (widest_of lo hi) D δ)
law ok (is_union {D = D} {E = E} p q) γ γ' δ t t' n = weaken (close_union (law ok p γ γ' δ t t' n) (law ok q γ γ' δ t t' n)) (dot-plus D E δ)
law ok (is_map {A = A} {B = B} {D = D} {E = E} p k q) γ γ' δ t t' n =
    weaken (close_map (elements_flat A (written ok q)) (results_flat (BangT Inf A) B (written ok p) k) (law ok p γ γ' δ t t' n) (law ok q γ γ' δ t t' n) (fine ok q γ t) (fine ok q γ' t') (fine ok (is_map p k q) γ t) (fine ok (is_map p k q) γ' t'))
    ((dot-scale Inf D δ ⊕ ⊑-refl _) ⨾ dot-plus (scale Inf D) E δ)
law ok (is_filter p q) γ γ' δ t t' n = looser_filter ok p q Inf (λ l. l.le) γ γ' δ t t' n (law ok p γ γ' δ t t' n) (law ok q γ γ' δ t t' n)
law ok (is_split p q) γ γ' δ t t' n = looser_split ok p q Inf (λ l. l.le) γ γ' δ t t' n (law ok p γ γ' δ t t' n) (law ok q γ γ' δ t t' n)

pub looser : {Γ : Context} {o : Span} {x : Name} {e b : Term} {s : Distance} {A B : Ty} {D E : Sensitivities} → AllTypes Γ → Typing Γ e (BangT s A) E → Typing (Under x A Γ) b B D
    → (k : Distance) → first D ⊑ mul k s → (γ γ' : Env) (δ : List Distance) → TypedEnv Γ γ → TypedEnv Γ γ' → NearEnv Γ γ γ' δ → Close γ γ' (at o (LetBangE x e b)) B (dot (plus (rest D) (scale k E)) δ)
looser {s = s} {A = A} {D = D} {E = E} ok p q k h γ γ' δ t t' n =
    let w = bang_parts s A (written ok p) in
    bang_body D E k h t t' n (law ok p γ γ' δ t t' n) (fine ok p γ t) (fine ok p γ' t') (λ γ γ' δ t t' n. law (w.1, ok) q γ γ' δ t t' n)
