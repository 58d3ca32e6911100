-- A node's line is fine by the test exactly where its rule allows it.
use Rattle.std.proofs.Common.{refl, subst, sym, ap, ◌∙◌, inl, inr}
use Rattle.std.proofs.lemmas.Slice.Eq.{bytes_eq-Decides}
use Rattle.std.specs.Prelude.{Bool, List, None, Option, Some, [], bytes_eq, cond, false, is_some, not, true, ◌&&◌, ◌∷◌, ◌≡◌, ◌⊎◌}
use Rattle.fz_frac.proofs.Laws.{is_le-yes, le-is_le}
use Rattle.fz_frac.specs.Distance.{Distance, Inf, is_le, quotient}
use Rattle.fz_frac.specs.Lowest.{is_out}
use Rattle.fz_ast.proofs.SameTypes.{and_true, both_true, same_type_is, same_type_refl}
use Rattle.fz_ast.specs.Terms.{Name}
use Rattle.fz_ast.specs.Types.{Formed, ArrowT, BagT, BangT, BoolT, NumT, SumT, TensorT, TextT, Ty, UnflatBag, UngroundSum, UnlimitedT, WellFormed, WithT, formed, is_flat, is_ground, same_type}
use Rattle.term_meanings.specs.Scopes.{Closed, Context, Under}
use Rattle.fz_derive.specs.Derivable.{Allows, AreSaidNames, IsAtMost, IsNamed, inmost, outer}
use Rattle.derivation_rows.specs.Faults.{are_in_scope, is_fine, is_in_scope, suffices, suffices_at}
use Rattle.derivation_lines.specs.Lines.{Line, Said, amount_in}
use Rattle.derivation_rows.specs.Numbers.{Amounts, Numbers, bound_sums, endless_both, endless_sums, same_as, says_at, sums, without}
use Rattle.derivation_rows.specs.Rows.{Row, app_of, eq_of, fst_of, is_bag, is_sum, is_tensor, let_bang_of, map_of, need, row, snd_of, test_of, type_in, well}

pub not_true : (b : Bool) → not b ≡ true → b ≡ false
not_true true h = cc
not_true false h = refl

same_name : (x y : Name) → bytes_eq x y ≡ true → x ≡ y
same_name x y h = (bytes_eq-Decides x y).0 h

own_name : (x : Name) → bytes_eq x x ≡ true
own_name x = (bytes_eq-Decides x x).1 refl

-- names in scope

pub named_in : (Γ : Context) (x : Name) (A : Ty) → type_in Γ x ≡ Some A → IsNamed Γ x A
named_in Closed x A h = cc
named_in (Under y B Γ) x A h = go (bytes_eq y x) refl h (named_in Γ x A)
  where
    go : (b : Bool) → bytes_eq y x ≡ b → cond b (Some B) (type_in Γ x) ≡ Some A → (type_in Γ x ≡ Some A → IsNamed Γ x A) → IsNamed (Under y B Γ) x A
    go true e k f = let i : B ≡ A = cc k in subst (λ T. IsNamed (Under y B Γ) x T) i (inmost e)
    go false e k f = outer e (f k)

pub in_named : {Γ : Context} {x : Name} {A : Ty} → IsNamed Γ x A → type_in Γ x ≡ Some A
in_named (inmost e) = rw e refl
in_named (outer e k) = rw e (in_named k)

scoped : (Γ : Context) (x : Name) → is_in_scope Γ x ≡ true → (A : Ty) × IsNamed Γ x A
scoped Γ x h = go (type_in Γ x) refl h
  where
    go : (o : Option Ty) → type_in Γ x ≡ o → is_some o ≡ true → (A : Ty) × IsNamed Γ x A
    go None e k = cc
    go (Some A) e k = (A, named_in Γ x A e)

in_scope : {Γ : Context} {x : Name} {A : Ty} → IsNamed Γ x A → is_in_scope Γ x ≡ true
in_scope k = rw (in_named k) refl

all_scoped : (Γ : Context) (ss : List Said) → are_in_scope Γ ss ≡ true → AreSaidNames Γ ss
all_scoped Γ [] h = tt
all_scoped Γ (s ∷ ss) h = let b = both_true (is_in_scope Γ s.name) (are_in_scope Γ ss) h in (scoped Γ s.name b.0, all_scoped Γ ss b.1)

all_in_scope : (Γ : Context) (ss : List Said) → AreSaidNames Γ ss → are_in_scope Γ ss ≡ true
all_in_scope Γ [] h = refl
all_in_scope Γ (s ∷ ss) h = and_true (is_in_scope Γ s.name) (are_in_scope Γ ss) (in_scope h.0.1) (all_in_scope Γ ss h.1)

-- numbers

at_most : (o : Option Distance) (d : Distance) → suffices o d ≡ true → IsAtMost o d
at_most None d h = cc
at_most (Some n) d h = is_le-yes n d h

sufficient : (o : Option Distance) (d : Distance) → IsAtMost o d → suffices o d ≡ true
sufficient None d h = absurd h
sufficient (Some n) d h = le-is_le n d h

enough : (n : Numbers) (D : Amounts) {Γ : Context} {x : Name} {A : Ty} → suffices_at Γ n D ≡ true → IsNamed Γ x A → IsAtMost (n x) (D x)
enough n D {x = x} h (inmost {y = y} {Γ = Γ} e) = subst (λ z. IsAtMost (n z) (D z)) (same_name y x e) (at_most (n y) (D y) (both_true (suffices (n y) (D y)) (suffices_at Γ n D) h).0)
enough n D h (outer {y = y} {Γ = Γ} e k) = enough n D (both_true (suffices (n y) (D y)) (suffices_at Γ n D) h).1 k

-- a name in scope is in scope under one more name
inside : (y : Name) (B : Ty) {Γ : Context} {x : Name} {A : Ty} → IsNamed Γ x A → (T : Ty) × IsNamed (Under y B Γ) x T
inside y B {Γ} {x} {A} k = go (bytes_eq y x) refl
  where
    go : (b : Bool) → bytes_eq y x ≡ b → (T : Ty) × IsNamed (Under y B Γ) x T
    go true e = (B, inmost e)
    go false e = (A, outer e k)

all_sufficient : (n : Numbers) (D : Amounts) (Γ : Context) → ((x : Name) (A : Ty) → IsNamed Γ x A → IsAtMost (n x) (D x)) → suffices_at Γ n D ≡ true
all_sufficient n D Closed h = refl
all_sufficient n D (Under y B Γ) h =
    and_true (suffices (n y) (D y)) (suffices_at Γ n D) (sufficient (n y) (D y) (h y B (inmost (own_name y))))
    (all_sufficient n D Γ (λ x A k. let i = inside y B k in h x i.0 i.1))

-- the row's node has this line
pub record Fine (Γ : Context) (o : Option Row) (r : Line) : Type 0 where
  pub is : is_fine Γ o r ≡ true

module _ {Γ : Context} {r : Line} where
  pub allows : {A : Ty} {n : Numbers} → Fine Γ (row A n) r → Allows Γ A n r
  allows {A} {n} h =
      let a = both_true (same_type A r.ty) (suffices_at Γ n (amount_in r.says) && are_in_scope Γ r.says) h.is in
      let b = both_true (suffices_at Γ n (amount_in r.says)) (are_in_scope Γ r.says) a.1 in
      record { type = sym (same_type_is A r.ty a.0); enough = λ x B k. enough n (amount_in r.says) b.0 k; scope = all_scoped Γ r.says b.1 }

  pub allowed : {A : Ty} {n : Numbers} → Allows Γ A n r → Fine Γ (row A n) r
  allowed {A} {n} w = record {
    is =
        and_true (same_type A r.ty) (suffices_at Γ n (amount_in r.says) && are_in_scope Γ r.says) (subst (λ T. same_type A T ≡ true) (sym w.type) (same_type_refl A))
        (and_true (suffices_at Γ n (amount_in r.says)) (are_in_scope Γ r.says) (all_sufficient n (amount_in r.says) Γ w.enough) (all_in_scope Γ r.says w.scope));
  }

  -- a condition holds, and what is behind it is fine
  pub needed : (b : Bool) {o : Option Row} → Fine Γ (need b o) r → (b ≡ true) × Fine Γ o r
  needed true h = (refl, h)
  needed false h = let k = h.is in cc

  pub holding : {b : Bool} {o : Option Row} → b ≡ true → Fine Γ o r → Fine Γ (need b o) r
  holding {o = o} e h = subst (λ c. Fine Γ (need c o) r) (sym e) h

  -- a part's type is the wanted one
  pub needed_type : (A B : Ty) {o : Option Row} → Fine Γ (need (same_type A B) o) r → (A ≡ B) × Fine Γ o r
  needed_type A B h = let n = needed (same_type A B) h in (same_type_is A B n.0, n.1)

  pub holding_type : {A B : Ty} {o : Option Row} → A ≡ B → Fine Γ o r → Fine Γ (need (same_type A B) o) r
  holding_type {A} {B} e h = holding (subst (λ T. same_type A T ≡ true) e (same_type_refl A)) h

  refused : {P : Type 0} → Fine Γ None r → P
  refused h = let k = h.is in absurd (cc k)

  -- the forms of types that rows want, and their rows

  pub needed_fst : (T : Ty) (l : Line) → Fine Γ (fst_of T l) r → (A : Ty) × (B : Ty) × (T ≡ WithT A B) × Allows Γ A (same_as (says_at l)) r
  needed_fst (WithT A B) l h = (A, B, refl, allows h)
  needed_fst T l h = refused h

  pub needed_snd : (T : Ty) (l : Line) → Fine Γ (snd_of T l) r → (A : Ty) × (B : Ty) × (T ≡ WithT A B) × Allows Γ B (same_as (says_at l)) r
  needed_snd (WithT A B) l h = (A, B, refl, allows h)
  needed_snd T l h = refused h

  pub needed_app : (T : Ty) (l m : Line) → Fine Γ (app_of T l m) r → (A : Ty) × (B : Ty) × (T ≡ ArrowT A B) × (m.ty ≡ A) × Allows Γ B (sums (says_at l) (says_at m)) r
  needed_app (ArrowT A B) l m h = let n = needed_type m.ty A h in (A, B, refl, n.0, allows n.1)
  needed_app T l m h = refused h

  pub needed_unbang : (T : Ty) (x : Name) (l m : Line) → Fine Γ (let_bang_of T x l m) r
      → (q : Distance) × (A : Ty) × (T ≡ BangT q A) × (is_out (quotient (says_at m x) q) ≡ false) × Allows Γ m.ty (bound_sums (without x (says_at m)) (quotient (says_at m x) q) (says_at l)) r
  needed_unbang (BangT q A) x l m h = let n = needed (not (is_out (quotient (says_at m x) q))) h in (q, A, refl, not_true _ n.0, allows n.1)
  needed_unbang T x l m h = refused h

  pub needed_eq : (T : Ty) (l m : Line) → Fine Γ (eq_of T l m) r
      → ((T ≡ NumT) × (m.ty ≡ NumT) × Allows Γ BoolT (endless_both (says_at l) (says_at m)) r) ⊎ ((T ≡ TextT) × (m.ty ≡ TextT) × Allows Γ BoolT (sums (says_at l) (says_at m)) r)
  needed_eq NumT l m h = let n = needed_type m.ty NumT h in inl (refl, n.0, allows n.1)
  needed_eq TextT l m h = let n = needed_type m.ty TextT h in inr (refl, n.0, allows n.1)
  needed_eq T l m h = refused h

  pub needed_map : (T : Ty) (l m : Line) → Fine Γ (map_of T l m) r → (A : Ty) × (B : Ty) × (T ≡ UnlimitedT A B) × (is_flat B ≡ true) × (m.ty ≡ BagT A) × Allows Γ (BagT B) (endless_sums (says_at l) (says_at m)) r
  needed_map (ArrowT (BangT Inf A) B) l m h = let n = needed (is_flat B) h in let k = needed_type m.ty (BagT A) n.1 in (A, B, refl, n.0, k.0, allows k.1)
  needed_map T l m h = refused h

  pub needed_test : (U : Ty → Ty) (T : Ty) (l m : Line) → Fine Γ (test_of U T l m) r → (A : Ty) × (T ≡ UnlimitedT A BoolT) × (m.ty ≡ BagT A) × Allows Γ (U A) (endless_sums (says_at l) (says_at m)) r
  needed_test U (ArrowT (BangT Inf A) C) l m h =
      let n = needed_type C BoolT h in let k = needed_type m.ty (BagT A) n.1 in (A, ap (λ (D : Ty). UnlimitedT A D) n.0, k.0, allows k.1)
  needed_test U T l m h = refused h

pub is_well : (f : Formed) → well f ≡ true → f ≡ WellFormed
is_well WellFormed h = refl
is_well UngroundSum h = cc
is_well UnflatBag h = cc

pub well_is : {f : Formed} → f ≡ WellFormed → well f ≡ true
well_is h = ap well h

pub tensor_of : (T : Ty) → is_tensor T ≡ true → (A : Ty) × (B : Ty) × (T ≡ TensorT A B)
tensor_of (TensorT A B) h = (A, B, refl)
tensor_of T h = cc

pub sum_of : (T : Ty) → is_sum T ≡ true → (A : Ty) × (B : Ty) × (T ≡ SumT A B)
sum_of (SumT A B) h = (A, B, refl)
sum_of T h = cc

pub bag_of : (T : Ty) → is_bag T ≡ true → (A : Ty) × (T ≡ BagT A)
bag_of (BagT A) h = (A, refl)
bag_of T h = cc
