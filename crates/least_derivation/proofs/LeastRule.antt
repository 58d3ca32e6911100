-- A term that the typing rules accept has a least derivation that says the same.
use Rattle.std.proofs.Common.{◌≡◌, Bool, true, false, cond, List, [], ◌∷◌, ◌++◌, refl, sym, ap, ◌∙◌, subst}
use Rattle.std.specs.Prelude.{bytes_eq, ◌||◌, not, Option, Some, ⊤}
use Rattle.std.specs.List.{AllByRecursion}
use Rattle.std.proofs.lemmas.Slice.Eq.{bytes_eq-Decides}
use Rattle.fz_frac.proofs.Laws.{≈-refl, ≈-sym}
use Rattle.fz_frac.specs.Distance.{Distance, Fin, Inf, add, greater, is_le, mul, none, one, quotient, ◌≈◌}
use Rattle.fz_frac.specs.Lowest.{is_out}
use Rattle.fz_ast.proofs.SameTypes.{same_type_refl}
use Rattle.fz_ast.specs.declared.span.Span.{Span}
use Rattle.fz_ast.specs.Limits.{IsBang, TermLimits}
use Rattle.fz_ast.specs.Types.{Ty, NumT, TextT, UnitT, TensorT, WithT, SumT, ArrowT, BangT, BagT, BoolT, UnlimitedT, Formed, WellFormed, UngroundSum, UnflatBag, is_ground, is_flat, formed, same_type}
use Rattle.fz_ast.specs.Terms.{Name, Term, at, span_of, VarE, NumE, TextE, UnitE, PairE, WithE, FstE, SndE, LetPairE, InlE, InrE, CaseE, IfE, FunE, FnE, AppE}
use Rattle.fz_ast.specs.Terms.{BangE, LetBangE, LetE, PlusE, MinusE, TimesE, LeE, EqE, ClipE, LeastE, GreatestE, SizeE, SumE, UnionE, MapE, FilterE, SplitE}
use Rattle.fz_derive.specs.Derivable.{AreSaidNames, IsNamed}
use Rattle.derivation_rows.specs.Faults.{first_type, second_type}
use Rattle.fz_derive.specs.Least.{Derived, above, least, lines_of, said_of_each, sorted_names, with_part}
use Rattle.derivation_lines.specs.Lines.{Line, Said, amount_in}
use Rattle.derivation_rows.specs.Numbers.{Amounts, Numbers, bound_sums, endless_both, endless_sums, greater_at, named, nothing, products, ranged, same_as, says_at, sum_of, product_of, sums, with_number, without}
use Rattle.derivation_rows.specs.Rows.{Row, row, well, type_in, var_row, is_tensor, is_sum, is_bag, fst_of, snd_of, app_of, eq_of, let_bang_of, map_of, test_of}
use Rattle.derivation_rows.specs.Rows.{need as row_need}
use Rattle.fz_derive.proofs.LeastNames.{among_sorted, said_named, said_same, said_some, sorted_named}
use Rattle.linear_types.proofs.Alike.{above_zero_alike, endless_in_range, greater_alike, is_le_alike, is_out_alike, quotient_alike}
use Rattle.linear_types.proofs.Sound.{sound}
use Rattle.linear_types.proofs.Written.{bang_parts, sum_parts, tensor_parts, written}
use Rattle.linear_types.specs.Inferred.{Exactly, Fault, Has, Inferred, Mismatch, NotFlat, NotGround, Range, TooSensitive, Untyped, any_out, in_range, need, need_formed, one_part, three_parts, two_parts}
use Rattle.linear_types.specs.Rule.{app_rule, branches_rule, case_rule, eq_rule, exactly, fn_rule, fst_rule, fun_rule, halves, has_bound, has_scaled, has_sum, if_rule, let_bang_rule, let_pair_rule, map_rule, past, rule, side_rule, size_rule, snd_rule, test_rule, union_rule, var_rule}
use Rattle.linear_types.specs.Sensitivities.{Sensitivities, above_zero, first, join, plus, rest, scale}
use Rattle.linear_types.specs.Typing.{AllTypes, Closed, Context, IsType, Under, size_of, widest_of}
use Rattle.least_derivation.specs.Derived.{RulesAreLeast, SaySame}
use Rattle.least_derivation.proofs.SameSaid.{in_range_at, join_says, near_says, plus_says, scale_says}

-- what was made, where the rule answers this
pub record Found (Γ : Context) (o : Option Derived) (A : Ty) (D : Sensitivities) : Type 0 where
  pub derived : Derived
  pub is : o ≡ Some derived
  pub type : derived.own.ty ≡ A
  pub same : SaySame Γ D (says_at derived.own)
  pub scope : AreSaidNames Γ derived.own.says

pub record Leads (Γ : Context) (o : Option Derived) (v : Inferred) : Type 0 where
  pub found : (A : Ty) (D : Sensitivities) → v ≡ Has A D → Found Γ o A D

by_untyped : {Γ : Context} {o : Option Derived} {f : Fault} → Leads Γ o (Untyped f)
by_untyped = record { found = λ A D e. absurd (cc e) }

-- parts
by_one : {Γ Δ : Context} {o : Option Derived} {v : Inferred} (f : Derived → Option Derived) (k : Ty → Sensitivities → Inferred) → Leads Δ o v
    → ((c : Derived) (D : Sensitivities) → v ≡ Has c.own.ty D → SaySame Δ D (says_at c.own) → Leads Γ (f c) (k c.own.ty D)) → Leads Γ (with_part o f) (one_part v k)
by_one {v = Untyped g} f k h q = by_untyped
by_one {Γ} {Δ} {o} {v = Has A D} f k h q = go (h.found A D refl)
  where
    go : Found Δ o A D → Leads Γ (with_part o f) (k A D)
    go p = subst (λ z. Leads Γ (with_part z f) (k A D)) (sym p.is)
        (subst (λ T. Leads Γ (f p.derived) (k T D)) p.type (q p.derived D (ap (λ T. Has T D) (sym p.type)) p.same))

by_two : {Γ Δ Θ : Context} {o p : Option Derived} {v w : Inferred} (g : Derived → Derived → Option Derived) (k : Ty → Sensitivities → Ty → Sensitivities → Inferred) → Leads Δ o v → Leads Θ p w
    → ((c d : Derived) (D E : Sensitivities) → SaySame Δ D (says_at c.own) → SaySame Θ E (says_at d.own) → Leads Γ (g c d) (k c.own.ty D d.own.ty E))
    → Leads Γ (with_part o (λ c. with_part p (g c))) (two_parts v w k)
by_two {v = Untyped f} g k h i q = by_untyped
by_two {v = Has A D} {w = Untyped f} g k h i q = by_untyped
by_two {p = p} {v = Has A D} {w = Has B E} g k h i q =
    by_one (λ c. with_part p (g c)) (λ A D. k A D B E) h (λ c D e m. by_one (g c) (k c.own.ty D) i (λ d E f n. q c d D E m n))

by_three : {Γ Δ : Context} {o p r : Option Derived} {v w x : Inferred} (g : Derived → Derived → Derived → Option Derived) (k : Ty → Sensitivities → Ty → Sensitivities → Ty → Sensitivities → Inferred)
    → Leads Δ o v → Leads Δ p w → Leads Δ r x
    → ((c d f : Derived) (D E F : Sensitivities) → SaySame Δ D (says_at c.own) → SaySame Δ E (says_at d.own) → SaySame Δ F (says_at f.own) → Leads Γ (g c d f) (k c.own.ty D d.own.ty E f.own.ty F))
    → Leads Γ (with_part o (λ c. with_part p (λ d. with_part r (g c d)))) (three_parts v w x k)
by_three {v = Untyped f} g k h i j q = by_untyped
by_three {v = Has A D} {w = Untyped f} g k h i j q = by_untyped
by_three {v = Has A D} {w = Has B E} {x = Untyped f} g k h i j q = by_untyped
by_three {p = p} {r = r} {v = Has A D} {w = Has B E} {x = Has C F} g k h i j q =
    by_one (λ c. with_part p (λ d. with_part r (g c d))) (λ A D. k A D B E C F) h (λ c D e m.
    by_one (λ d. with_part r (g c d)) (λ B E. k c.own.ty D B E C F) i (λ d E f n.
    by_one (g c d) (λ C F. k c.own.ty D d.own.ty E C F) j (λ f F e' l. q c d f D E F m n l)))

-- conditions
by_need : {Γ : Context} {v : Inferred} (b : Bool) (f : Fault) (o : Option Row) (below : List Line) → (b ≡ true → Leads Γ (above Γ o below) v) → Leads Γ (above Γ (row_need b o) below) (need b f v)
by_need true f o below q = q refl
by_need false f o below q = by_untyped

by_formed : {Γ : Context} {v : Inferred} (u : Span) (w : Formed) (o : Option Row) (below : List Line) → (w ≡ WellFormed → Leads Γ (above Γ o below) v)
    → Leads Γ (above Γ (row_need (well w) o) below) (need_formed u w v)
by_formed u WellFormed o below q = q refl
by_formed u UngroundSum o below q = by_untyped
by_formed u UnflatBag o below q = by_untyped

-- a condition of the row that holds
holds : {Γ : Context} {v : Inferred} (b : Bool) (o : Option Row) (below : List Line) → b ≡ true → Leads Γ (above Γ o below) v → Leads Γ (above Γ (row_need b o) below) v
holds {Γ} {v} b o below h q = subst (λ c. Leads Γ (above Γ (row_need c o) below) v) (sym h) q

by_range : {Γ : Context} {o : Option Derived} (s : Span) (D : Sensitivities) (v : Inferred) → (any_out D ≡ false → Leads Γ o v) → Leads Γ o (in_range s D v)
by_range {Γ} {o} s D v q = go (any_out D) refl
  where
    go : (b : Bool) → any_out D ≡ b → Leads Γ o (cond b (Untyped (Range s)) v)
    go true e = by_untyped
    go false e = q e

-- a row whose numbers are those of the list
made : {Γ : Context} (A : Ty) (n : Numbers) (below : List Line) (D : Sensitivities) (N : Amounts) → SaySame Γ D N → ((x : Name) (B : Ty) → IsNamed Γ x B → n x ≡ Some (N x)) → Leads Γ (above Γ (row A n) below) (Has A D)
made {Γ} A n below D N h k = record { found = λ B E e. go B E e (said_some (sorted_names Γ) n (all_of (sorted_names Γ) (sorted_named Γ))) }
  where
    all_of : (xs : List Name) → AllByRecursion (λ x. (B : Ty) × IsNamed Γ x B) xs → AllByRecursion (λ x. (v : Distance) × (n x ≡ Some v)) xs
    all_of [] q = tt
    all_of (x ∷ xs) q = ((N x, k x q.0.0 q.0.1), all_of xs q.1)

    go : (B : Ty) (E : Sensitivities) → Has A D ≡ Has B E → ((ss : List Said) × (said_of_each (sorted_names Γ) n ≡ Some ss)) → Found Γ (above Γ (row A n) below) B E
    go B E e s =
        let i : A ≡ B = cc e in let j : D ≡ E = cc e in
        record {
          derived = record { own = record { ty = A; says = s.0 }; below = below };
          is = rw s.1 refl;
          type = i;
          same = subst (λ L. SaySame Γ L (amount_in s.0)) j
              (near_says Γ D N (amount_in s.0) (λ x C m. ≈-sym (said_same x (sorted_names Γ) n s.0 (N x) s.1 (among_sorted Γ x C m) (k x C m))) h);
          scope = said_named Γ n s.0 s.1;
        }

-- numbers in range
fits : (d : Distance) → is_out d ≡ false → ranged d ≡ Some d
fits d h = rw h refl

fits_sum : (a b : Distance) → is_out (add a b) ≡ false → sum_of a b ≡ Some (add a b)
fits_sum a b h = fits (add a b) h

behind : (p : Distance) (f : Distance → Option Distance) → is_out p ≡ false → with_number (ranged p) f ≡ f p
behind p f h = rw h refl

module _ {Γ : Context} (s : Span) (A : Ty) (below : List Line) where
  -- D
  same_row : (D : Sensitivities) (N : Amounts) → SaySame Γ D N → Leads Γ (above Γ (row A (same_as N)) below) (Has A D)
  same_row D N h = made A (same_as N) below D N h (λ x B m. refl)

  -- D + E
  sum_row : (D E : Sensitivities) (M N : Amounts) → SaySame Γ D M → SaySame Γ E N → Leads Γ (above Γ (row A (sums M N)) below) (has_sum s A (plus D E))
  sum_row D E M N h k = by_range s (plus D E) (Has A (plus D E)) (λ r.
      made A (sums M N) below (plus D E) (λ x. add (M x) (N x)) (plus_says Γ D E M N h k) (λ x B m. fits _ (in_range_at m (plus D E) (λ x. add (M x) (N x)) (plus_says Γ D E M N h k) r)))

  -- r D
  product_row : (r q : Distance) → r ≈ q → (D : Sensitivities) (N : Amounts) → SaySame Γ D N → Leads Γ (above Γ (row A (products q N)) below) (has_sum s A (scale r D))
  product_row r q i D N h = by_range s (scale r D) (Has A (scale r D)) (λ o.
      made A (products q N) below (scale r D) (λ x. mul q (N x)) (scale_says r q i Γ D N h) (λ x B m. fits _ (in_range_at m (scale r D) (λ x. mul q (N x)) (scale_says r q i Γ D N h) o)))

  -- D + r E
  bound_row : (r q : Distance) → r ≈ q → (D E : Sensitivities) (M N : Amounts) → SaySame Γ D M → SaySame Γ E N → Leads Γ (above Γ (row A (bound_sums M q N)) below) (has_bound s A D r E)
  bound_row r q i D E M N h k =
      let p = scale_says r q i Γ E N k in let a = plus_says Γ D (scale r E) M (λ x. mul q (N x)) h p in
      by_range s (scale r E) (has_sum s A (plus D (scale r E))) (λ o. by_range s (plus D (scale r E)) (Has A (plus D (scale r E))) (λ o'.
      made A (bound_sums M q N) below (plus D (scale r E)) (λ x. add (M x) (mul q (N x))) a (λ x B m.
      behind (mul q (N x)) (λ z. sum_of (M x) z) (in_range_at m (scale r E) (λ x. mul q (N x)) p o) ∙ fits _ (in_range_at m (plus D (scale r E)) (λ x. add (M x) (mul q (N x))) a o'))))

  -- a number of the row, and then r D
  scaled_row : (r : Distance) (D : Sensitivities) (N : Amounts) → SaySame Γ D N → Leads Γ (above Γ (row_need (not (is_out r)) (row A (products r N))) below) (has_scaled s A r D)
  scaled_row r D N h = by_range s (r ∷ []) (has_sum s A (scale r D)) (λ o. holds (not (is_out r)) (row A (products r N)) below (not_out (is_out r) o) (product_row r r (≈-refl r) D N h))
    where
      not_out : (b : Bool) → (b || false) ≡ false → not b ≡ true
      not_out true e = absurd (cc e)
      not_out false e = refl

  -- inf D + E, whose products are in range
  endless_row : (D E : Sensitivities) (M N : Amounts) → SaySame Γ D M → SaySame Γ E N → Leads Γ (above Γ (row A (endless_sums M N)) below) (has_sum s A (plus (scale Inf D) E))
  endless_row D E M N h k =
      let p = scale_says Inf Inf (≈-refl Inf) Γ D M h in let a = plus_says Γ (scale Inf D) E (λ x. mul Inf (M x)) N p k in
      by_range s (plus (scale Inf D) E) (Has A (plus (scale Inf D) E)) (λ o.
      made A (endless_sums M N) below (plus (scale Inf D) E) (λ x. add (mul Inf (M x)) (N x)) a (λ x B m.
      behind (mul Inf (M x)) (λ z. sum_of z (N x)) (in_range_at m (scale Inf D) (λ x. mul Inf (M x)) p (endless_in_range D)) ∙ fits _ (in_range_at m (plus (scale Inf D) E) (λ x. add (mul Inf (M x)) (N x)) a o)))

  -- inf D + inf E
  both_row : (D E : Sensitivities) (M N : Amounts) → SaySame Γ D M → SaySame Γ E N → Leads Γ (above Γ (row A (endless_both M N)) below) (has_sum s A (plus (scale Inf D) (scale Inf E)))
  both_row D E M N h k =
      let p = scale_says Inf Inf (≈-refl Inf) Γ D M h in let q = scale_says Inf Inf (≈-refl Inf) Γ E N k in
      let a = plus_says Γ (scale Inf D) (scale Inf E) (λ x. mul Inf (M x)) (λ x. mul Inf (N x)) p q in
      by_range s (plus (scale Inf D) (scale Inf E)) (Has A (plus (scale Inf D) (scale Inf E))) (λ o.
      made A (endless_both M N) below (plus (scale Inf D) (scale Inf E)) (λ x. add (mul Inf (M x)) (mul Inf (N x))) a (λ x B m.
      behind (mul Inf (M x)) (λ z. with_number (product_of Inf (N x)) (λ y. sum_of z y)) (in_range_at m (scale Inf D) (λ x. mul Inf (M x)) p (endless_in_range D))
      ∙ behind (mul Inf (N x)) (λ y. sum_of (mul Inf (M x)) y) (in_range_at m (scale Inf E) (λ x. mul Inf (N x)) q (endless_in_range E))
      ∙ fits _ (in_range_at m (plus (scale Inf D) (scale Inf E)) (λ x. add (mul Inf (M x)) (mul Inf (N x))) a o)))

-- a condition that is the row's by an equation
by_equal : {Γ : Context} {v : Inferred} (b c : Bool) (f : Fault) (o : Option Row) (below : List Line) → b ≡ c → (b ≡ true → Leads Γ (above Γ o below) v) → Leads Γ (above Γ (row_need c o) below) (need b f v)
by_equal {Γ} {v} b c f o below e q = subst (λ z. Leads Γ (above Γ (row_need z o) below) (need b f v)) e (by_need b f o below q)

-- whatever the part is, no answer comes of it
by_no_part : {Γ : Context} {o : Option Derived} (v : Inferred) (k : Ty → Sensitivities → Inferred) → ((A : Ty) (D : Sensitivities) → Leads Γ o (k A D)) → Leads Γ o (one_part v k)
by_no_part (Has A D) k h = h A D
by_no_part (Untyped f) k h = by_untyped

-- names

zero_says : (Γ : Context) (N : Amounts) → ((x : Name) → N x ≈ none) → SaySame Γ [] N
zero_says Closed N h = tt
zero_says (Under x A Γ) N h = (≈-sym (h x), zero_says Γ (without x N) (λ y. at_both (bytes_eq x y) (N y) (h y)))
  where
    at_both : (b : Bool) (t : Distance) → t ≈ none → cond b none t ≈ none
    at_both true t i = ≈-refl none
    at_both false t i = i

same_bytes : (x y : Name) → bytes_eq x y ≡ bytes_eq y x
same_bytes x y = go (bytes_eq x y) (bytes_eq y x) refl refl
  where
    go : (b c : Bool) → bytes_eq x y ≡ b → bytes_eq y x ≡ c → b ≡ c
    go true true e f = refl
    go false false e f = refl
    go true false e f = absurd (cc (f, (bytes_eq-Decides y x).1 (sym ((bytes_eq-Decides x y).0 e))))
    go false true e f = absurd (cc (e, (bytes_eq-Decides x y).1 (sym ((bytes_eq-Decides y x).0 f))))

-- 1 at x
abbrev at_name : Name → Amounts
at_name x y = cond (bytes_eq x y) one none

Variable : Context → Name → Inferred → Type 0
Variable Γ x (Has A D) = (type_in Γ x ≡ Some A) × SaySame Γ D (at_name x)
Variable Γ x (Untyped f) = ⊤

variable : (s : Span) (Γ : Context) (x : Name) → Variable Γ x (var_rule s Γ x)
unfolding Variable
variable s Closed x = tt
variable s (Under y B Γ) x = go (bytes_eq y x) refl (var_rule s Γ x) (variable s Γ x)
  where
    hidden : bytes_eq y x ≡ true → (z : Name) → without y (at_name x) z ≈ none
    hidden e z = let i : y ≡ x = (bytes_eq-Decides y x).0 e in subst (λ w. cond (bytes_eq w z) none (cond (bytes_eq x z) one none) ≈ none) (sym i) (both (bytes_eq x z))
      where
        both : (b : Bool) → cond b none (cond b one none) ≈ none
        both true = ≈-refl none
        both false = ≈-refl none

    apart : bytes_eq y x ≡ false → (z : Name) (A : Ty) → IsNamed Γ z A → at_name x z ≈ without y (at_name x) z
    apart e z A m = two (bytes_eq y z) refl
      where
        two : (b : Bool) → bytes_eq y z ≡ b → at_name x z ≈ cond b none (at_name x z)
        two true f = let i : y ≡ z = (bytes_eq-Decides y z).0 f in let j : bytes_eq x z ≡ false = ap (bytes_eq x) (sym i) ∙ same_bytes x y ∙ e in rw j (≈-refl none)
        two false f = ≈-refl (at_name x z)

    go : (b : Bool) → bytes_eq y x ≡ b → (v : Inferred) → Variable Γ x v → Variable (Under y B Γ) x (cond b (Has B (one ∷ [])) (past v))
    go true e v h = (rw e refl, (rw (same_bytes x y ∙ e) (≈-refl one), zero_says Γ (without y (at_name x)) (hidden e)))
    go false e (Untyped f) h = tt
    go false e (Has A D) h = (rw e h.0, (rw (same_bytes x y ∙ e) (≈-refl none), near_says Γ D (at_name x) (without y (at_name x)) (apart e) h.1))

var_leads : (s : Span) (Γ : Context) (x : Name) → Leads Γ (above Γ (var_row x (type_in Γ x)) []) (var_rule s Γ x)
unfolding Variable
var_leads s Γ x = go (var_rule s Γ x) (variable s Γ x)
  where
    go : (v : Inferred) → Variable Γ x v → Leads Γ (above Γ (var_row x (type_in Γ x)) []) v
    go (Untyped f) h = by_untyped
    go (Has A D) h = rw h.0 (made A (named x) [] D (at_name x) h.1 (λ y B m. refl))

leaf_leads : (Γ : Context) (A : Ty) → Leads Γ (above Γ (row A nothing) []) (Has A [])
leaf_leads Γ A = made A nothing [] [] (λ x. none) (zero_says Γ (λ x. none) (λ x. ≈-refl none)) (λ y B m. refl)

-- the same test of an unlimited function's result
same_result : (A C D : Ty) → same_type (UnlimitedT A C) (UnlimitedT A D) ≡ same_type C D
same_result A C D = rw (same_type_refl A) refl

bang_above : (r : Distance) (A : Ty) → IsType (BangT r A) → IsBang r
bang_above r A h = (bang_parts r A h).0

-- rows that go by the type of a part
module _ (Γ : Context) (s u w : Span) (c : Derived) where
  fst_case : (T : Ty) (D : Sensitivities) → SaySame Γ D (says_at c.own) → Leads Γ (above Γ (fst_of T c.own) (lines_of c)) (fst_rule u T D)
  fst_case NumT D h = by_untyped
  fst_case TextT D h = by_untyped
  fst_case UnitT D h = by_untyped
  fst_case (TensorT A B) D h = by_untyped
  fst_case (WithT A B) D h = same_row s A (lines_of c) D (says_at c.own) h
  fst_case (SumT A B) D h = by_untyped
  fst_case (ArrowT A B) D h = by_untyped
  fst_case (BangT r A) D h = by_untyped
  fst_case (BagT A) D h = by_untyped

  snd_case : (T : Ty) (D : Sensitivities) → SaySame Γ D (says_at c.own) → Leads Γ (above Γ (snd_of T c.own) (lines_of c)) (snd_rule u T D)
  snd_case NumT D h = by_untyped
  snd_case TextT D h = by_untyped
  snd_case UnitT D h = by_untyped
  snd_case (TensorT A B) D h = by_untyped
  snd_case (WithT A B) D h = same_row s B (lines_of c) D (says_at c.own) h
  snd_case (SumT A B) D h = by_untyped
  snd_case (ArrowT A B) D h = by_untyped
  snd_case (BangT r A) D h = by_untyped
  snd_case (BagT A) D h = by_untyped

  size_case : (T : Ty) (D : Sensitivities) → SaySame Γ D (says_at c.own) → Leads Γ (above Γ (row_need (is_bag T) (row NumT (same_as (says_at c.own)))) (lines_of c)) (size_rule u T D)
  size_case NumT D h = by_untyped
  size_case TextT D h = by_untyped
  size_case UnitT D h = by_untyped
  size_case (TensorT A B) D h = by_untyped
  size_case (WithT A B) D h = by_untyped
  size_case (SumT A B) D h = by_untyped
  size_case (ArrowT A B) D h = by_untyped
  size_case (BangT r A) D h = by_untyped
  size_case (BagT A) D h = same_row s NumT (lines_of c) D (says_at c.own) h

  app_case : (d : Derived) (T : Ty) (D E : Sensitivities) → SaySame Γ D (says_at c.own) → SaySame Γ E (says_at d.own) → Leads Γ (above Γ (app_of T c.own d.own) (lines_of c ++ lines_of d)) (app_rule s u w T D d.own.ty E)
  app_case d NumT D E h k = by_untyped
  app_case d TextT D E h k = by_untyped
  app_case d UnitT D E h k = by_untyped
  app_case d (TensorT A B) D E h k = by_untyped
  app_case d (WithT A B) D E h k = by_untyped
  app_case d (SumT A B) D E h k = by_untyped
  app_case d (ArrowT A B) D E h k = by_need _ _ _ _ (λ i. sum_row s B (lines_of c ++ lines_of d) D E (says_at c.own) (says_at d.own) h k)
  app_case d (BangT r A) D E h k = by_untyped
  app_case d (BagT A) D E h k = by_untyped

  eq_case : (d : Derived) (T : Ty) (D E : Sensitivities) → SaySame Γ D (says_at c.own) → SaySame Γ E (says_at d.own) → Leads Γ (above Γ (eq_of T c.own d.own) (lines_of c ++ lines_of d)) (eq_rule s u w T D d.own.ty E)
  eq_case d NumT D E h k = by_need _ _ _ _ (λ i. both_row s BoolT (lines_of c ++ lines_of d) D E (says_at c.own) (says_at d.own) h k)
  eq_case d TextT D E h k = by_need _ _ _ _ (λ i. sum_row s BoolT (lines_of c ++ lines_of d) D E (says_at c.own) (says_at d.own) h k)
  eq_case d UnitT D E h k = by_untyped
  eq_case d (TensorT A B) D E h k = by_untyped
  eq_case d (WithT A B) D E h k = by_untyped
  eq_case d (SumT A B) D E h k = by_untyped
  eq_case d (ArrowT A B) D E h k = by_untyped
  eq_case d (BangT r A) D E h k = by_untyped
  eq_case d (BagT A) D E h k = by_untyped

  union_case : (d : Derived) (T : Ty) (D E : Sensitivities) → SaySame Γ D (says_at c.own) → SaySame Γ E (says_at d.own) → Leads Γ (above Γ (row_need (is_bag T) (row_need (same_type d.own.ty T) (row T (sums (says_at c.own) (says_at d.own))))) (lines_of c ++ lines_of d)) (union_rule s u w T D d.own.ty E)
  union_case d NumT D E h k = by_untyped
  union_case d TextT D E h k = by_untyped
  union_case d UnitT D E h k = by_untyped
  union_case d (TensorT A B) D E h k = by_untyped
  union_case d (WithT A B) D E h k = by_untyped
  union_case d (SumT A B) D E h k = by_untyped
  union_case d (ArrowT A B) D E h k = by_untyped
  union_case d (BangT r A) D E h k = by_untyped
  union_case d (BagT A) D E h k = by_need _ _ _ _ (λ i. sum_row s (BagT A) (lines_of c ++ lines_of d) D E (says_at c.own) (says_at d.own) h k)

  map_case : (d : Derived) (T : Ty) (D E : Sensitivities) → SaySame Γ D (says_at c.own) → SaySame Γ E (says_at d.own) → Leads Γ (above Γ (map_of T c.own d.own) (lines_of c ++ lines_of d)) (map_rule s u w T D d.own.ty E)
  map_case d NumT D E h k = by_untyped
  map_case d TextT D E h k = by_untyped
  map_case d UnitT D E h k = by_untyped
  map_case d (TensorT A B) D E h k = by_untyped
  map_case d (WithT A B) D E h k = by_untyped
  map_case d (SumT A B) D E h k = by_untyped
  map_case d (BangT r A) D E h k = by_untyped
  map_case d (BagT A) D E h k = by_untyped
  map_case d (ArrowT NumT B) D E h k = by_untyped
  map_case d (ArrowT TextT B) D E h k = by_untyped
  map_case d (ArrowT UnitT B) D E h k = by_untyped
  map_case d (ArrowT (TensorT A A') B) D E h k = by_untyped
  map_case d (ArrowT (WithT A A') B) D E h k = by_untyped
  map_case d (ArrowT (SumT A A') B) D E h k = by_untyped
  map_case d (ArrowT (ArrowT A A') B) D E h k = by_untyped
  map_case d (ArrowT (BagT A) B) D E h k = by_untyped
  map_case d (ArrowT (BangT (Fin m n) A) B) D E h k = by_untyped
  map_case d (ArrowT (BangT Inf A) B) D E h k =
      let o = row (BagT B) (endless_sums (says_at c.own) (says_at d.own)) in let below : List Line = lines_of c ++ lines_of d in let v = has_sum s (BagT B) (plus (scale Inf D) E) in
      by_need {v = exactly w d.own.ty (BagT A) v} (is_flat B) (NotFlat u) (row_need (same_type d.own.ty (BagT A)) o) below (λ i.
      by_need {v = v} (same_type d.own.ty (BagT A)) (Mismatch w d.own.ty (Exactly (BagT A))) o below (λ j. endless_row s (BagT B) below D E (says_at c.own) (says_at d.own) h k))

  test_case : (U : Ty → Ty) (d : Derived) (T : Ty) (D E : Sensitivities) → SaySame Γ D (says_at c.own) → SaySame Γ E (says_at d.own) → Leads Γ (above Γ (test_of U T c.own d.own) (lines_of c ++ lines_of d)) (test_rule U s u w T D d.own.ty E)
  test_case U d NumT D E h k = by_untyped
  test_case U d TextT D E h k = by_untyped
  test_case U d UnitT D E h k = by_untyped
  test_case U d (TensorT A B) D E h k = by_untyped
  test_case U d (WithT A B) D E h k = by_untyped
  test_case U d (SumT A B) D E h k = by_untyped
  test_case U d (BangT r A) D E h k = by_untyped
  test_case U d (BagT A) D E h k = by_untyped
  test_case U d (ArrowT NumT B) D E h k = by_untyped
  test_case U d (ArrowT TextT B) D E h k = by_untyped
  test_case U d (ArrowT UnitT B) D E h k = by_untyped
  test_case U d (ArrowT (TensorT A A') B) D E h k = by_untyped
  test_case U d (ArrowT (WithT A A') B) D E h k = by_untyped
  test_case U d (ArrowT (SumT A A') B) D E h k = by_untyped
  test_case U d (ArrowT (ArrowT A A') B) D E h k = by_untyped
  test_case U d (ArrowT (BagT A) B) D E h k = by_untyped
  test_case U d (ArrowT (BangT (Fin m n) A) B) D E h k = by_untyped
  test_case U d (ArrowT (BangT Inf A) B) D E h k =
      let o = row (U A) (endless_sums (says_at c.own) (says_at d.own)) in let below : List Line = lines_of c ++ lines_of d in let v = has_sum s (U A) (plus (scale Inf D) E) in
      by_equal {v = exactly w d.own.ty (BagT A) v} (same_type (UnlimitedT A B) (UnlimitedT A BoolT)) (same_type B BoolT) (Mismatch u (UnlimitedT A B) (Exactly (UnlimitedT A BoolT))) (row_need (same_type d.own.ty (BagT A)) o) below (same_result A B BoolT) (λ i.
      by_need {v = v} (same_type d.own.ty (BagT A)) (Mismatch w d.own.ty (Exactly (BagT A))) o below (λ j. endless_row s (U A) below D E (says_at c.own) (says_at d.own) h k))

  let_pair_case : (x y : Name) (o : Ty → Ty → Option Derived) (body : Ty → Ty → Inferred) (T : Ty) (E : Sensitivities) → SaySame Γ E (says_at c.own)
      → ((A B : Ty) → T ≡ TensorT A B → Leads (Under y B (Under x A Γ)) (o A B) (body A B))
      → Leads Γ (with_part (o (first_type T) (second_type T)) (λ d. above Γ (row_need (is_tensor T) (row d.own.ty (bound_sums (without x (without y (says_at d.own))) (greater (without y (says_at d.own) x) (says_at d.own y)) (says_at c.own)))) (lines_of c ++ lines_of d)))
      (let_pair_rule s u T E body)
  let_pair_case x y o body NumT E k i = by_untyped
  let_pair_case x y o body TextT E k i = by_untyped
  let_pair_case x y o body UnitT E k i = by_untyped
  let_pair_case x y o body (TensorT A B) E k i = by_one _ _ (i A B refl) (λ d D e h.
      bound_row s d.own.ty (lines_of c ++ lines_of d) (greater (first (rest D)) (first D)) (greater (without y (says_at d.own) x) (says_at d.own y)) (greater_alike h.1.0 h.0) (rest (rest D)) E (without x (without y (says_at d.own))) (says_at c.own) h.1.1 k)
  let_pair_case x y o body (WithT A B) E k i = by_untyped
  let_pair_case x y o body (SumT A B) E k i = by_untyped
  let_pair_case x y o body (ArrowT A B) E k i = by_untyped
  let_pair_case x y o body (BangT r A) E k i = by_untyped
  let_pair_case x y o body (BagT A) E k i = by_untyped

  bang_case : (x : Name) (r : Distance) (d : Derived) (D E : Sensitivities) → IsBang r → (first D ≈ says_at d.own x) × SaySame Γ (rest D) (without x (says_at d.own)) → SaySame Γ E (says_at c.own)
      → Leads Γ (above Γ (row_need (not (is_out (quotient (says_at d.own x) r))) (row d.own.ty (bound_sums (without x (says_at d.own)) (quotient (says_at d.own x) r) (says_at c.own)))) (lines_of c ++ lines_of d))
      (in_range s (quotient (first D) r ∷ []) (has_bound s d.own.ty (rest D) (quotient (first D) r) E))
  bang_case x r d D E w h k =
      let q = quotient_alike w w h.0 (≈-refl r) in
      by_range s (quotient (first D) r ∷ []) (has_bound s d.own.ty (rest D) (quotient (first D) r) E) (λ o.
      holds _ _ _ (not_out (is_out (quotient (first D) r)) (is_out (quotient (says_at d.own x) r)) (is_out_alike q) o)
      (bound_row s d.own.ty (lines_of c ++ lines_of d) (quotient (first D) r) (quotient (says_at d.own x) r) q (rest D) E (without x (says_at d.own)) (says_at c.own) h.1 k))
    where
      not_out : (b t : Bool) → b ≡ t → (b || false) ≡ false → not t ≡ true
      not_out true t e o = absurd (cc o)
      not_out false t e o = rw (sym e) refl

  let_bang_case : (x : Name) (o : Ty → Option Derived) (body : Ty → Inferred) (T : Ty) (E : Sensitivities) → IsType T → SaySame Γ E (says_at c.own)
      → ((r : Distance) (A : Ty) → T ≡ BangT r A → Leads (Under x A Γ) (o A) (body A))
      → Leads Γ (with_part (o (first_type T)) (λ d. above Γ (let_bang_of T x c.own d.own) (lines_of c ++ lines_of d))) (let_bang_rule s u T E body)
  let_bang_case x o body NumT E w k i = by_untyped
  let_bang_case x o body TextT E w k i = by_untyped
  let_bang_case x o body UnitT E w k i = by_untyped
  let_bang_case x o body (TensorT A B) E w k i = by_untyped
  let_bang_case x o body (WithT A B) E w k i = by_untyped
  let_bang_case x o body (SumT A B) E w k i = by_untyped
  let_bang_case x o body (ArrowT A B) E w k i = by_untyped
  let_bang_case x o body (BangT r A) E w k i = by_one _ _ (i r A refl) (λ d D e h. bang_case x r d D E (bang_above r A w) h k)
  let_bang_case x o body (BagT A) E w k i = by_untyped

  branch_case : (x y : Name) (d f : Derived) (D E F : Sensitivities) → SaySame Γ F (says_at c.own)
      → (first D ≈ says_at d.own x) × SaySame Γ (rest D) (without x (says_at d.own)) → (first E ≈ says_at f.own y) × SaySame Γ (rest E) (without y (says_at f.own))
      → Leads Γ (above Γ (row_need (same_type f.own.ty d.own.ty) (row_need (is_ground d.own.ty) (row d.own.ty
      (bound_sums (greater_at (without x (says_at d.own)) (without y (says_at f.own))) (above_zero (greater (says_at d.own x) (says_at f.own y))) (says_at c.own))))) (lines_of c ++ (lines_of d ++ lines_of f)))
      (branches_rule s w F d.own.ty D f.own.ty E)
  branch_case x y d f D E F k h i =
      let below : List Line = lines_of c ++ (lines_of d ++ lines_of f) in
      let o = row d.own.ty (bound_sums (greater_at (without x (says_at d.own)) (without y (says_at f.own))) (above_zero (greater (says_at d.own x) (says_at f.own y))) (says_at c.own)) in
      let v = has_bound s d.own.ty (join (rest D) (rest E)) (above_zero (greater (first D) (first E))) F in
      by_need {v = need (is_ground d.own.ty) (NotGround s) v} (same_type f.own.ty d.own.ty) (Mismatch w f.own.ty (Exactly d.own.ty)) (row_need (is_ground d.own.ty) o) below (λ a.
      by_need {v = v} (is_ground d.own.ty) (NotGround s) o below (λ b.
      bound_row s d.own.ty below (above_zero (greater (first D) (first E))) (above_zero (greater (says_at d.own x) (says_at f.own y))) (above_zero_alike (greater_alike h.0 i.0))
      (join (rest D) (rest E)) F (greater_at (without x (says_at d.own)) (without y (says_at f.own))) (says_at c.own)
      (join_says Γ (rest D) (rest E) (without x (says_at d.own)) (without y (says_at f.own)) h.1 i.1) k))

  case_case : (x y : Name) (o p : Ty → Option Derived) (left right : Ty → Inferred) (T : Ty) (F : Sensitivities) → SaySame Γ F (says_at c.own)
      → ((A B : Ty) → T ≡ SumT A B → Leads (Under x A Γ) (o A) (left A)) → ((A B : Ty) → T ≡ SumT A B → Leads (Under y B Γ) (p B) (right B))
      → Leads Γ (with_part (o (first_type T)) (λ d. with_part (p (second_type T)) (λ f. above Γ (row_need (is_sum T) (row_need (same_type f.own.ty d.own.ty) (row_need (is_ground d.own.ty) (row d.own.ty
      (bound_sums (greater_at (without x (says_at d.own)) (without y (says_at f.own))) (above_zero (greater (says_at d.own x) (says_at f.own y))) (says_at c.own)))))) (lines_of c ++ (lines_of d ++ lines_of f)))))
      (case_rule s u w T F left right)
  case_case x y o p left right NumT F k i j = by_untyped
  case_case x y o p left right TextT F k i j = by_untyped
  case_case x y o p left right UnitT F k i j = by_untyped
  case_case x y o p left right (TensorT A B) F k i j = by_untyped
  case_case x y o p left right (WithT A B) F k i j = by_untyped
  case_case x y o p left right (SumT A B) F k i j = by_two _ _ (i A B refl) (j A B refl) (λ d f D E h l. branch_case x y d f D E F k h l)
  case_case x y o p left right (ArrowT A B) F k i j = by_untyped
  case_case x y o p left right (BangT r A) F k i j = by_untyped
  case_case x y o p left right (BagT A) F k i j = by_untyped

  if_case : (d f : Derived) (D E F : Sensitivities) → SaySame Γ F (says_at c.own) → SaySame Γ D (says_at d.own) → SaySame Γ E (says_at f.own)
      → Leads Γ (above Γ (row_need (same_type c.own.ty BoolT) (row_need (same_type f.own.ty d.own.ty) (row_need (is_ground d.own.ty) (row d.own.ty
      (sums (greater_at (says_at d.own) (says_at f.own)) (says_at c.own)))))) (lines_of c ++ (lines_of d ++ lines_of f))) (if_rule s u w c.own.ty F d.own.ty D f.own.ty E)
  if_case d f D E F k h i =
      let below : List Line = lines_of c ++ (lines_of d ++ lines_of f) in
      let o = row d.own.ty (sums (greater_at (says_at d.own) (says_at f.own)) (says_at c.own)) in
      let v = has_sum s d.own.ty (plus (join D E) F) in
      by_need {v = exactly w f.own.ty d.own.ty (need (is_ground d.own.ty) (NotGround s) v)} (same_type c.own.ty BoolT) (Mismatch u c.own.ty (Exactly BoolT)) (row_need (same_type f.own.ty d.own.ty) (row_need (is_ground d.own.ty) o)) below (λ a.
      by_need {v = need (is_ground d.own.ty) (NotGround s) v} (same_type f.own.ty d.own.ty) (Mismatch w f.own.ty (Exactly d.own.ty)) (row_need (is_ground d.own.ty) o) below (λ b.
      by_need {v = v} (is_ground d.own.ty) (NotGround s) o below (λ g.
      sum_row s d.own.ty below (join D E) F (greater_at (says_at d.own) (says_at f.own)) (says_at c.own) (join_says Γ D E (says_at d.own) (says_at f.own) h i) k)))

  side_case : (T U : Ty) (D : Sensitivities) → SaySame Γ D (says_at c.own)
      → Leads Γ (above Γ (row_need (well (formed T)) (row_need (is_ground T) (row_need (is_ground c.own.ty) (row U (same_as (says_at c.own)))))) (lines_of c)) (side_rule u T w c.own.ty (Has U D))
  side_case T U D h =
      let o = row U (same_as (says_at c.own)) in let v = Has U D in
      by_formed {v = need (is_ground T) (NotGround u) (need (is_ground c.own.ty) (NotGround w) v)} u (formed T) (row_need (is_ground T) (row_need (is_ground c.own.ty) o)) (lines_of c) (λ i.
      by_need {v = need (is_ground c.own.ty) (NotGround w) v} (is_ground T) (NotGround u) (row_need (is_ground c.own.ty) o) (lines_of c) (λ a.
      by_need {v = v} (is_ground c.own.ty) (NotGround w) o (lines_of c) (λ b. same_row s U (lines_of c) D (says_at c.own) h)))

-- a function, whose written type is looked at behind its body
module _ (Γ : Context) (s u : Span) (x : Name) (T : Ty) where
  fun_case : (c : Derived) (D : Sensitivities) → (first D ≈ says_at c.own x) × SaySame Γ (rest D) (without x (says_at c.own))
      → Leads Γ (above Γ (row_need (well (formed T)) (row_need (is_le (says_at c.own x) one) (row (ArrowT T c.own.ty) (same_as (without x (says_at c.own)))))) (lines_of c)) (fun_rule s x u T c.own.ty D)
  fun_case c D h =
      let o = row (ArrowT T c.own.ty) (same_as (without x (says_at c.own))) in let v = Has (ArrowT T c.own.ty) (rest D) in
      by_formed {v = need (is_le (first D) one) (TooSensitive s x (first D)) v} u (formed T) (row_need (is_le (says_at c.own x) one) o) (lines_of c) (λ w.
      by_equal {v = v} (is_le (first D) one) (is_le (says_at c.own x) one) (TooSensitive s x (first D)) o (lines_of c) (is_le_alike h.0 (≈-refl one)) (λ i. same_row s (ArrowT T c.own.ty) (lines_of c) (rest D) (without x (says_at c.own)) h.1))

  fn_case : (c : Derived) (D : Sensitivities) → (first D ≈ says_at c.own x) × SaySame Γ (rest D) (without x (says_at c.own))
      → Leads Γ (above Γ (row_need (well (formed T)) (row (UnlimitedT T c.own.ty) (same_as (without x (says_at c.own))))) (lines_of c)) (fn_rule u T c.own.ty D)
  fn_case c D h = by_formed {v = Has (UnlimitedT T c.own.ty) (rest D)} u (formed T) (row (UnlimitedT T c.own.ty) (same_as (without x (says_at c.own)))) (lines_of c) (λ w. same_row s (UnlimitedT T c.own.ty) (lines_of c) (rest D) (without x (says_at c.own)) h.1)

  -- where the written type is wrong, nothing comes of the body
  formed_first : (o : Option Derived) (f : Derived → Option Derived) (v : Inferred) (k : Ty → Sensitivities → Inferred) → (f' : Formed) → formed T ≡ f'
      → ((A : Ty) (D : Sensitivities) → (formed T ≡ WellFormed → ⊥) → Leads Γ (with_part o f) (k A D)) → (formed T ≡ WellFormed → Leads Γ (with_part o f) (one_part v k)) → Leads Γ (with_part o f) (one_part v k)
  formed_first o f v k WellFormed e bad good = good e
  formed_first o f v k UngroundSum e bad good = by_no_part v k (λ A D. bad A D (λ i. cc (e, i)))
  formed_first o f v k UnflatBag e bad good = by_no_part v k (λ A D. bad A D (λ i. cc (e, i)))

ill_formed : {Γ : Context} {o : Option Derived} (u : Span) (w : Formed) (v : Inferred) → (w ≡ WellFormed → ⊥) → Leads Γ o (need_formed u w v)
ill_formed u WellFormed v h = absurd (h refl)
ill_formed u UngroundSum v h = by_untyped
ill_formed u UnflatBag v h = by_untyped

-- two numbers
module _ {Γ : Context} {v : Inferred} (u w : Span) (c d : Derived) (o : Option Row) (below : List Line) where
  numbers_case : Leads Γ (above Γ o below) v → Leads Γ (above Γ (row_need (same_type c.own.ty NumT) (row_need (same_type d.own.ty NumT) o)) below) (exactly u c.own.ty NumT (exactly w d.own.ty NumT v))
  numbers_case h =
      by_need {v = exactly w d.own.ty NumT v} (same_type c.own.ty NumT) (Mismatch u c.own.ty (Exactly NumT)) (row_need (same_type d.own.ty NumT) o) below (λ i.
      by_need {v = v} (same_type d.own.ty NumT) (Mismatch w d.own.ty (Exactly NumT)) o below (λ j. h))

-- the type of a part
part_type : (e : Term) (Γ : Context) → AllTypes Γ → TermLimits e → (A : Ty) (D : Sensitivities) → rule Γ e ≡ Has A D → IsType A
part_type e Γ g l A D h = written g (sound e Γ l A D h)

leads : (e : Term) (Γ : Context) → AllTypes Γ → TermLimits e → Leads Γ (least Γ e) (rule Γ e)
leads (at s (VarE x)) Γ g l = var_leads s Γ x
leads (at s (NumE z)) Γ g l = leaf_leads Γ NumT
leads (at s (TextE t)) Γ g l = leaf_leads Γ TextT
leads (at s UnitE) Γ g l = leaf_leads Γ UnitT
leads (at s (PairE a b)) Γ g l = by_two _ _ (leads a Γ g l.0) (leads b Γ g l.1) (λ c d D E h k.
    sum_row s (TensorT c.own.ty d.own.ty) (lines_of c ++ lines_of d) D E (says_at c.own) (says_at d.own) h k)
leads (at s (WithE a b)) Γ g l = by_two _ _ (leads a Γ g l.0) (leads b Γ g l.1) (λ c d D E h k.
    same_row s (WithT c.own.ty d.own.ty) (lines_of c ++ lines_of d) (join D E) (greater_at (says_at c.own) (says_at d.own)) (join_says Γ D E (says_at c.own) (says_at d.own) h k))
leads (at s (FstE e)) Γ g l = by_one _ _ (leads e Γ g l) (λ c D i h. fst_case Γ s (span_of e) s c c.own.ty D h)
leads (at s (SndE e)) Γ g l = by_one _ _ (leads e Γ g l) (λ c D i h. snd_case Γ s (span_of e) s c c.own.ty D h)
leads (at s (LetPairE x y e b)) Γ g l = by_one _ _ (leads e Γ g l.2) (λ c E i k.
    let_pair_case Γ s (span_of e) s c x y (λ A B. least (Under y B (Under x A Γ)) b) (λ A B. rule (Under y B (Under x A Γ)) b) c.own.ty E k (λ A B t.
    let w = tensor_parts A B (subst IsType t (part_type e Γ g l.2 c.own.ty E i)) in leads b (Under y B (Under x A Γ)) (w.1, (w.0, g)) l.3))
leads (at s (InlE u T e)) Γ g l = by_one _ _ (leads e Γ g l.1) (λ c D i h. side_case Γ s u (span_of e) c T (SumT c.own.ty T) D h)
leads (at s (InrE u T e)) Γ g l = by_one _ _ (leads e Γ g l.1) (λ c D i h. side_case Γ s u (span_of e) c T (SumT T c.own.ty) D h)
leads (at s (CaseE e x a y b)) Γ g l = by_one _ _ (leads e Γ g l.0) (λ c F i k.
    let w = part_type e Γ g l.0 c.own.ty F i in
    case_case Γ s (span_of e) (span_of b) c x y (λ A. least (Under x A Γ) a) (λ B. least (Under y B Γ) b) (λ A. rule (Under x A Γ) a) (λ B. rule (Under y B Γ) b) c.own.ty F k
    (λ A B t. leads a (Under x A Γ) ((sum_parts A B (subst IsType t w)).0, g) l.2) (λ A B t. leads b (Under y B Γ) ((sum_parts A B (subst IsType t w)).1, g) l.4))
leads (at s (IfE e a b)) Γ g l = by_three _ _ (leads e Γ g l.0) (leads a Γ g l.1) (leads b Γ g l.2) (λ c d f D E F h k m. if_case Γ s (span_of e) (span_of b) c d f E F D h k m)
leads (at s (FunE x u T e)) Γ g l =
    formed_first Γ s u x T (least (Under x T Γ) e) _ (rule (Under x T Γ) e) (fun_rule s x u T) (formed T) refl (λ A D h. ill_formed u (formed T) _ h)
    (λ w. by_one _ _ (leads e (Under x T Γ) (record { well_formed = w; limits = l.1 }, g) l.2) (λ c D i h. fun_case Γ s u x T c D h))
leads (at s (FnE x u T e)) Γ g l =
    formed_first Γ s u x T (least (Under x T Γ) e) _ (rule (Under x T Γ) e) (fn_rule u T) (formed T) refl (λ A D h. ill_formed u (formed T) _ h)
    (λ w. by_one _ _ (leads e (Under x T Γ) (record { well_formed = w; limits = l.1 }, g) l.2) (λ c D i h. fn_case Γ s u x T c D h))
leads (at s (AppE f a)) Γ g l = by_two _ _ (leads f Γ g l.0) (leads a Γ g l.1) (λ c d D E h k. app_case Γ s (span_of f) (span_of a) c d c.own.ty D E h k)
leads (at s (BangE r e)) Γ g l = by_one _ _ (leads e Γ g l.1) (λ c D i h. product_row s (BangT r c.own.ty) (lines_of c) r r (≈-refl r) D (says_at c.own) h)
leads (at s (LetBangE x e b)) Γ g l = by_one _ _ (leads e Γ g l.1) (λ c E i k.
    let w = part_type e Γ g l.1 c.own.ty E i in
    let_bang_case Γ s (span_of e) s c x (λ A. least (Under x A Γ) b) (λ A. rule (Under x A Γ) b) c.own.ty E w k (λ r A t.
    leads b (Under x A Γ) ((bang_parts r A (subst IsType t w)).1, g) l.2))
leads (at s (LetE x e b)) Γ g l = by_one _ _ (leads e Γ g l.1) (λ c E i k. by_one _ _ (leads b (Under x c.own.ty Γ) (part_type e Γ g l.1 c.own.ty E i, g) l.2) (λ d D j h.
    bound_row s d.own.ty (lines_of c ++ lines_of d) (first D) (says_at d.own x) h.0 (rest D) E (without x (says_at d.own)) (says_at c.own) h.1 k))
leads (at s (PlusE a b)) Γ g l = by_two _ _ (leads a Γ g l.0) (leads b Γ g l.1) (λ c d D E h k.
    numbers_case (span_of a) (span_of b) c d (row NumT (sums (says_at c.own) (says_at d.own))) (lines_of c ++ lines_of d) (sum_row s NumT (lines_of c ++ lines_of d) D E (says_at c.own) (says_at d.own) h k))
leads (at s (MinusE a b)) Γ g l = by_two _ _ (leads a Γ g l.0) (leads b Γ g l.1) (λ c d D E h k.
    numbers_case (span_of a) (span_of b) c d (row NumT (sums (says_at c.own) (says_at d.own))) (lines_of c ++ lines_of d) (sum_row s NumT (lines_of c ++ lines_of d) D E (says_at c.own) (says_at d.own) h k))
leads (at s (TimesE k e)) Γ g l = by_one _ _ (leads e Γ g l.1) (λ c D i h.
    by_need {v = has_scaled s NumT (size_of k) D} (same_type c.own.ty NumT) (Mismatch (span_of e) c.own.ty (Exactly NumT)) (row_need (not (is_out (size_of k))) (row NumT (products (size_of k) (says_at c.own)))) (lines_of c) (λ j.
    scaled_row s NumT (lines_of c) (size_of k) D (says_at c.own) h))
leads (at s (LeE a b)) Γ g l = by_two _ _ (leads a Γ g l.0) (leads b Γ g l.1) (λ c d D E h k.
    numbers_case (span_of a) (span_of b) c d (row BoolT (endless_both (says_at c.own) (says_at d.own))) (lines_of c ++ lines_of d) (both_row s BoolT (lines_of c ++ lines_of d) D E (says_at c.own) (says_at d.own) h k))
leads (at s (EqE a b)) Γ g l = by_two _ _ (leads a Γ g l.0) (leads b Γ g l.1) (λ c d D E h k. eq_case Γ s (span_of a) (span_of b) c d c.own.ty D E h k)
leads (at s (ClipE lo hi e)) Γ g l = by_one _ _ (leads e Γ g l.2) (λ c D i h. by_need {v = Has NumT D} _ _ _ _ (λ j. same_row s NumT (lines_of c) D (says_at c.own) h))
leads (at s (LeastE e)) Γ g l = by_one _ _ (leads e Γ g l) (λ c D i h. by_need {v = Has NumT D} _ _ _ _ (λ j. same_row s NumT (lines_of c) D (says_at c.own) h))
leads (at s (GreatestE e)) Γ g l = by_one _ _ (leads e Γ g l) (λ c D i h. by_need {v = Has NumT D} _ _ _ _ (λ j. same_row s NumT (lines_of c) D (says_at c.own) h))
leads (at s (SizeE e)) Γ g l = by_one _ _ (leads e Γ g l) (λ c D i h. size_case Γ s (span_of e) s c c.own.ty D h)
leads (at s (SumE lo hi e)) Γ g l = by_one _ _ (leads e Γ g l.2) (λ c D i h.
    by_need {v = has_scaled s NumT (widest_of lo hi) D} (same_type c.own.ty (BagT NumT)) (Mismatch (span_of e) c.own.ty (Exactly (BagT NumT))) (row_need (not (is_out (widest_of lo hi))) (row NumT (products (widest_of lo hi) (says_at c.own)))) (lines_of c) (λ j.
    scaled_row s NumT (lines_of c) (widest_of lo hi) D (says_at c.own) h))
leads (at s (UnionE a b)) Γ g l = by_two _ _ (leads a Γ g l.0) (leads b Γ g l.1) (λ c d D E h k. union_case Γ s (span_of a) (span_of b) c d c.own.ty D E h k)
leads (at s (MapE f b)) Γ g l = by_two _ _ (leads f Γ g l.0) (leads b Γ g l.1) (λ c d D E h k. map_case Γ s (span_of f) (span_of b) c d c.own.ty D E h k)
leads (at s (FilterE f b)) Γ g l = by_two _ _ (leads f Γ g l.0) (leads b Γ g l.1) (λ c d D E h k. test_case Γ s (span_of f) (span_of b) c BagT d c.own.ty D E h k)
leads (at s (SplitE f b)) Γ g l = by_two _ _ (leads f Γ g l.0) (leads b Γ g l.1) (λ c d D E h k. test_case Γ s (span_of f) (span_of b) c halves d c.own.ty D E h k)

pub rules_found : (Γ : Context) (e : Term) (A : Ty) (D : Sensitivities) → AllTypes Γ → TermLimits e → rule Γ e ≡ Has A D → Found Γ (least Γ e) A D
rules_found Γ e A D g l h = (leads e Γ g l).found A D h

pub rules_least : RulesAreLeast
rules_least Γ e A D g l h = let f = rules_found Γ e A D g l h in record { derived = f.derived; is = f.is; type = f.type; numbers = f.same }
