-- What is derived by names is derived by places.
use Rattle.std.proofs.Common.{refl, subst, sym}
use Rattle.std.proofs.lemmas.Slice.Eq.{bytes_eq-Decides}
use Rattle.std.specs.Prelude.{Bool, List, None, Option, Some, [], bytes_eq, cond, false, true, ◌∷◌, ◌++◌, ◌≡◌}
use Rattle.fz_frac.proofs.Laws.{add-none, mul-none, none-least, ⊑-refl, ◌⊕◌, ◌⨾◌}
use Rattle.fz_frac.specs.Distance.{Distance, Inf, add, greater, mul, none, one, quotient, ◌⊑◌}
use Rattle.fz_frac.specs.Lowest.{is_out}
use Rattle.fz_ast.specs.Limits.{TermLimits}
use Rattle.fz_ast.specs.Terms.{Name, Term}
use Rattle.fz_ast.specs.Types.{ArrowT, BagT, BangT, BoolT, NumT, SumT, TensorT, TextT, Ty, UnlimitedT, WithT, is_ground}
use Rattle.term_meanings.specs.Scopes.{Closed, Context, IsBound, Under, here, size_of, there, widest_of}
use Rattle.term_meanings.specs.Sensitivities.{Sensitivities, above_zero, join, plus, scale}
use Rattle.fz_derive.specs.ByPlace.{Covers, Derivable, Within, by_place}
use Rattle.fz_derive.specs.ByPlace as place
use Rattle.fz_derive.specs.Derivable.{Allows, Derives, IsAtMost, IsNamed, inmost, outer, is_app, is_at_most, is_bang, is_case, is_clip, is_eq_num, is_eq_text, is_filter, is_fn, is_fst, is_fun, is_greatest, is_if, is_inl, is_inr, is_least, is_let, is_let_bang, is_let_pair, is_map, is_minus, is_num, is_pair, is_plus, is_size, is_snd, is_split, is_sum, is_text, is_times, is_union, is_unit, is_var, is_with}
use Rattle.derivation_lines.specs.Lines.{Line, amount_in}
use Rattle.derivation_rows.specs.Numbers.{Amounts, Numbers, ranged, says_at, with_number, without}

same_name : (x y : Name) → bytes_eq x y ≡ true → x ≡ y
same_name x y h = (bytes_eq-Decides x y).0 h

pub own_name : (x : Name) → bytes_eq x x ≡ true
own_name x = (bytes_eq-Decides x x).1 refl

-- a list is made of three, place by place, and of three at 0 comes 0
record IsEach (f : Distance → Distance → Distance → Distance) (F : Sensitivities → Sensitivities → Sensitivities → Sensitivities) : Type 0 where
  empty : F [] [] [] ≡ []
  more : (a b c : Distance) (A B C : Sensitivities) → F (a ∷ A) (b ∷ B) (c ∷ C) ≡ f a b c ∷ F A B C
  nothing : f none none none ⊑ none

module _ {f : Distance → Distance → Distance → Distance} {F : Sensitivities → Sensitivities → Sensitivities → Sensitivities} where
  hidden : IsEach f F → (x : Name) (A B C D : Amounts) (y : Name) → (bytes_eq x y ≡ false → f (A y) (B y) (C y) ⊑ D y) → f (without x A y) (without x B y) (without x C y) ⊑ without x D y
  hidden i x A B C D y h = go (bytes_eq x y) refl
    where
      go : (b : Bool) → bytes_eq x y ≡ b → f (cond b none (A y)) (cond b none (B y)) (cond b none (C y)) ⊑ cond b none (D y)
      go true e = i.nothing
      go false e = h e

  -- what holds at each name in scope holds at each place
  placed : IsEach f F → (Γ : Context) (A B C D : Amounts) → ((x : Name) (T : Ty) → IsNamed Γ x T → f (A x) (B x) (C x) ⊑ D x) → Within (F (by_place Γ A) (by_place Γ B) (by_place Γ C)) (by_place Γ D)
  placed i Closed A B C D h = subst (λ E. Within E []) (sym i.empty) tt
  placed i (Under x T Γ) A B C D h =
      let K : Sensitivities = D x ∷ by_place Γ (without x D) in
      subst (λ E. Within E K) (sym (i.more _ _ _ _ _ _))
      (h x T (inmost (own_name x)), placed i Γ (without x A) (without x B) (without x C) (without x D) (λ y U k. hidden i x A B C D y (λ e. h y U (outer e k))))

  covered : IsEach f F → {Γ : Context} {A B C D : Amounts} → ((x : Name) (T : Ty) → IsNamed Γ x T → f (A x) (B x) (C x) ⊑ D x) → Covers (F (by_place Γ A) (by_place Γ B) (by_place Γ C)) (by_place Γ D)
  covered i {Γ} {A} {B} {C} {D} h = record { each = placed i Γ A B C D h }

-- where a list is made of fewer
idle : Amounts
idle x = none

-- the lists of rules

as_it_is : IsEach (λ a b c. a) (λ A B C. A)
as_it_is = record { empty = refl; more = λ a b c A B C. refl; nothing = ⊑-refl none }

as_sum : IsEach (λ a b c. add a b) (λ A B C. plus A B)
as_sum = record { empty = refl; more = λ a b c A B C. refl; nothing = ⊑-refl none }

as_greater : IsEach (λ a b c. greater a b) (λ A B C. join A B)
as_greater = record { empty = refl; more = λ a b c A B C. refl; nothing = ⊑-refl none }

as_scaled : (r : Distance) → IsEach (λ a b c. mul r a) (λ A B C. scale r A)
as_scaled r = record { empty = refl; more = λ a b c A B C. refl; nothing = mul-none r }

as_bound : (r : Distance) → IsEach (λ a b c. add a (mul r b)) (λ A B C. plus A (scale r B))
as_bound r = record { empty = refl; more = λ a b c A B C. refl; nothing = (⊑-refl none ⊕ mul-none r) ⨾ add-none none }

as_endless : IsEach (λ a b c. add (mul Inf a) b) (λ A B C. plus (scale Inf A) B)
as_endless = record { empty = refl; more = λ a b c A B C. refl; nothing = ⊑-refl none }

as_both_endless : IsEach (λ a b c. add (mul Inf a) (mul Inf b)) (λ A B C. plus (scale Inf A) (scale Inf B))
as_both_endless = record { empty = refl; more = λ a b c A B C. refl; nothing = ⊑-refl none }

as_branches : (r : Distance) → IsEach (λ a b c. add (greater a b) (mul r c)) (λ A B C. plus (join A B) (scale r C))
as_branches r = record { empty = refl; more = λ a b c A B C. refl; nothing = (⊑-refl none ⊕ mul-none r) ⨾ add-none none }

as_choice : IsEach (λ a b c. add (greater a b) c) (λ A B C. plus (join A B) C)
as_choice = record { empty = refl; more = λ a b c A B C. refl; nothing = ⊑-refl none }

-- numbers in range

in_range : (n d : Distance) → IsAtMost (ranged n) d → n ⊑ d
in_range n d h = go (is_out n) h
  where
    go : (b : Bool) → IsAtMost (cond b None (Some n)) d → n ⊑ d
    go true k = absurd k
    go false k = k

-- behind a number in range
behind : (n d : Distance) (f : Distance → Option Distance) → IsAtMost (with_number (ranged n) f) d → IsAtMost (f n) d
behind n d f h = go (is_out n) h
  where
    go : (b : Bool) → IsAtMost (with_number (cond b None (Some n)) f) d → IsAtMost (f n) d
    go true k = absurd k
    go false k = k

-- names

place_of : {Γ : Context} {x : Name} {A : Ty} → IsNamed Γ x A → (D : Sensitivities) × IsBound Γ x A D × ((E : Amounts) → one ⊑ E x → Within D (by_place Γ E))
place_of {x = x} (inmost {y = y} e) = (one ∷ [], here e, λ E h. (subst (λ z. one ⊑ E z) (sym (same_name y x e)) h, tt))
place_of {x = x} (outer {y = y} e k) =
    let p = place_of k in (none ∷ p.0, there e p.1, λ E h. (none-least _, p.2 (without y E) (rw e h)))

at_itself : {Γ : Context} {x : Name} {A : Ty} {d : Distance} → IsNamed Γ x A → IsAtMost (Some (cond (bytes_eq x x) one none)) d → one ⊑ d
at_itself {x = x} {d = d} k h = subst (λ b. cond b one none ⊑ d) (own_name x) h

module _ {Γ : Context} {e : Term} {r : Line} {A : Ty} {n : Numbers} where
  -- the line's type is the rule's
  typed : Allows Γ A n r → Derivable Γ e A (by_place Γ (says_at r)) → Derivable Γ e r.ty (by_place Γ (says_at r))
  typed w p = subst (λ T. Derivable Γ e T (by_place Γ (says_at r))) (sym w.type) p

-- a part's type is the one that its rule wants
at_type : {Γ : Context} {e : Term} {A B : Ty} {D : Sensitivities} → A ≡ B → Derivable Γ e A D → Derivable Γ e B D
at_type {Γ} {e} {D = D} h p = subst (λ T. Derivable Γ e T D) h p

pub by_names : {Γ : Context} {e : Term} {l : Line} {L : List Line} → TermLimits e → Derives Γ e (l ∷ L) → Derivable Γ e l.ty (by_place Γ (says_at l))
by_names t (is_var h w) = let p = place_of h in typed w (place.is_var p.1 (record { each = p.2 _ (at_itself h (w.enough _ _ h)) }))
by_names t (is_num w) = typed w (place.is_num t (record { each = tt }))
by_names t (is_text w) = typed w (place.is_text t (record { each = tt }))
by_names t (is_unit w) = typed w (place.is_unit (record { each = tt }))
by_names t (is_fst p h w) = typed w (place.is_fst (at_type h (by_names t p)) (covered as_it_is {B = idle} {C = idle} (λ x B k. w.enough x B k)))
by_names t (is_snd p h w) = typed w (place.is_snd (at_type h (by_names t p)) (covered as_it_is {B = idle} {C = idle} (λ x B k. w.enough x B k)))
by_names t (is_inl p f g h w) = typed w (place.is_inl (by_names t.1 p) (record { well_formed = f; limits = t.0 }) g h (covered as_it_is {B = idle} {C = idle} (λ x B k. w.enough x B k)))
by_names t (is_inr p f g h w) = typed w (place.is_inr (by_names t.1 p) (record { well_formed = f; limits = t.0 }) g h (covered as_it_is {B = idle} {C = idle} (λ x B k. w.enough x B k)))
by_names t (is_fun p f h w) = typed w (place.is_fun (by_names t.2 p) (record { well_formed = f; limits = t.1 }) h (covered as_it_is {B = idle} {C = idle} (λ x B k. w.enough x B k)))
by_names t (is_fn p f w) = typed w (place.is_fn (by_names t.2 p) (record { well_formed = f; limits = t.1 }) (covered as_it_is {B = idle} {C = idle} (λ x B k. w.enough x B k)))
by_names t (is_bang {q = q} p w) = typed w (place.is_bang (by_names t.1 p) t.0 (covered (as_scaled q) {B = idle} {C = idle} (λ x B k. in_range _ _ (w.enough x B k))))
by_names t (is_times {k = k} p h o w) = typed w (place.is_times (at_type h (by_names t.1 p)) (covered (as_scaled (size_of k)) {B = idle} {C = idle} (λ x B k. in_range _ _ (w.enough x B k))))
by_names t (is_clip p h w) = typed w (place.is_clip (at_type h (by_names t.2 p)) t.0 t.1 (covered as_it_is {B = idle} {C = idle} (λ x B k. w.enough x B k)))
by_names t (is_least p h w) = typed w (place.is_least (at_type h (by_names t p)) (covered as_it_is {B = idle} {C = idle} (λ x B k. w.enough x B k)))
by_names t (is_greatest p h w) = typed w (place.is_greatest (at_type h (by_names t p)) (covered as_it_is {B = idle} {C = idle} (λ x B k. w.enough x B k)))
by_names t (is_size p h w) = typed w (place.is_size (at_type h (by_names t p)) (covered as_it_is {B = idle} {C = idle} (λ x B k. w.enough x B k)))
by_names t (is_sum {lo = lo} {hi = hi} p h o w) = typed w (place.is_sum (at_type h (by_names t.2 p)) (covered (as_scaled (widest_of lo hi)) {B = idle} {C = idle} (λ x B k. in_range _ _ (w.enough x B k))))
by_names t (is_pair p q w) = typed w (place.is_pair (by_names t.0 p) (by_names t.1 q) (covered as_sum {C = idle} (λ x B k. in_range _ _ (w.enough x B k))))
by_names t (is_with p q w) = typed w (place.is_with (by_names t.0 p) (by_names t.1 q) (covered as_greater {C = idle} (λ x B k. w.enough x B k)))
by_names t (is_app p h q i w) = typed w (place.is_app (at_type h (by_names t.0 p)) (at_type i (by_names t.1 q)) (covered as_sum {C = idle} (λ x B k. in_range _ _ (w.enough x B k))))
by_names t (is_plus p h q i w) = typed w (place.is_plus (at_type h (by_names t.0 p)) (at_type i (by_names t.1 q)) (covered as_sum {C = idle} (λ x B k. in_range _ _ (w.enough x B k))))
by_names t (is_minus p h q i w) = typed w (place.is_minus (at_type h (by_names t.0 p)) (at_type i (by_names t.1 q)) (covered as_sum {C = idle} (λ x B k. in_range _ _ (w.enough x B k))))
by_names t (is_eq_text p h q i w) = typed w (place.is_eq_text (at_type h (by_names t.0 p)) (at_type i (by_names t.1 q)) (covered as_sum {C = idle} (λ x B k. in_range _ _ (w.enough x B k))))
by_names t (is_union p h q i w) = typed w (place.is_union (at_type h (by_names t.0 p)) (at_type i (by_names t.1 q)) (covered as_sum {C = idle} (λ x B k. in_range _ _ (w.enough x B k))))
by_names t (is_at_most p h q i w) = typed w (place.is_at_most (at_type h (by_names t.0 p)) (at_type i (by_names t.1 q)) (covered as_both_endless {C = idle} (λ x B k. in_range _ _ (behind _ _ _ (behind _ _ _ (w.enough x B k))))))
by_names t (is_eq_num p h q i w) = typed w (place.is_eq_num (at_type h (by_names t.0 p)) (at_type i (by_names t.1 q)) (covered as_both_endless {C = idle} (λ x B k. in_range _ _ (behind _ _ _ (behind _ _ _ (w.enough x B k))))))
by_names t (is_map p h f q i w) = typed w (place.is_map (at_type h (by_names t.0 p)) f (at_type i (by_names t.1 q)) (covered as_endless {C = idle} (λ x B k. in_range _ _ (behind _ _ _ (w.enough x B k)))))
by_names t (is_filter p h q i w) = typed w (place.is_filter (at_type h (by_names t.0 p)) (at_type i (by_names t.1 q)) (covered as_endless {C = idle} (λ x B k. in_range _ _ (behind _ _ _ (w.enough x B k)))))
by_names t (is_split p h q i w) = typed w (place.is_split (at_type h (by_names t.0 p)) (at_type i (by_names t.1 q)) (covered as_endless {C = idle} (λ x B k. in_range _ _ (behind _ _ _ (w.enough x B k)))))
by_names t (is_let {x = y} {m = m} p q w) = typed w (place.is_let (by_names t.1 p) (by_names t.2 q) (covered (as_bound (says_at m y)) {C = idle} (λ x B k. in_range _ _ (behind _ _ _ (w.enough x B k)))))
by_names t (is_let_bang {x = y} {q = s} {m = m} p h q o w) = typed w (place.is_let_bang (at_type h (by_names t.1 p)) (by_names t.2 q) (covered (as_bound (quotient (says_at m y) s)) {C = idle} (λ x B k. in_range _ _ (behind _ _ _ (w.enough x B k)))))
by_names t (is_let_pair {x = y} {y = z} {m = m} p h q w) = typed w (place.is_let_pair (at_type h (by_names t.2 p)) (by_names t.3 q) (covered (as_bound (greater (without z (says_at m) y) (says_at m z))) {C = idle} (λ x B k. in_range _ _ (behind _ _ _ (w.enough x B k)))))
by_names t (is_case {x = y} {y = z} {m = m} {n = n} p h q o i g w) = typed w (place.is_case (at_type h (by_names t.0 p)) (by_names t.2 q) (at_type i (by_names t.4 o)) g (covered (as_branches (above_zero (greater (says_at m y) (says_at n z)))) (λ x B k. in_range _ _ (behind _ _ _ (w.enough x B k)))))
by_names t (is_if p h q o i g w) = typed w (place.is_if (at_type h (by_names t.0 p)) (by_names t.1 q) (at_type i (by_names t.2 o)) g (covered as_choice (λ x B k. in_range _ _ (w.enough x B k))))
