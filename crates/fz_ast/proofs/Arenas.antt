-- Types that are stored once each: their numbers tell them apart, and a form that isn't there is new.
use Rattle.std.proofs.Common.{◌≡◌, ℕ, ◌+◌, ◌<◌, ◌≤◌, refl, sym, ap, ◌∙◌, arith, Bool, true, false, nat_eq, true≢false, List, [], ◌∷◌, ◌++◌, length, length-append, append_assoc, get_or, ◌⊎◌, inl, inr, Some, position, if◌then◌else◌}
use Rattle.std.specs.List.{list_any}
use Rattle.std.proofs.lemmas.List.{append-nil, get_or_default}
use Rattle.std.proofs.Math.ListN.{get_or-append}
use Rattle.std.proofs.Math.Seq.{get_or-append_seam}
use Rattle.std.proofs.lemmas.Bool.Decides.{nat_tests}
use Rattle.std.proofs.lemmas.List.Folds.{list_any_at, Any-from_list_any}
use Rattle.std.proofs.lemmas.List.Quantifiers.{position-Some}
use Rattle.indexmap.specs.IndexSet.{insert_key}
use Rattle.fz_frac.specs.Sens.{distance_of}
use Rattle.fz_frac.specs.declared.sens.Sens.{Sens}
use Rattle.fz_frac.specs.declared.sens.Sens.TheVariants.{Finite, Inf as Endless}
use Rattle.fz_frac.specs.contracts.sens.SensPartialEq.TheImpl as sens
use Rattle.fz_ast.specs.Types.{Ty, NumT, same_type}
use Rattle.fz_ast.specs.TypeNodes.{type_at, type_of, IsKnownType}
use Rattle.fz_ast.specs.Arena.{Grows, AreDistinct, IsFormOf, IsArena, with_type}
use Rattle.fz_ast.specs.declared.types.TypeForm.{TypeForm}
use Rattle.fz_ast.specs.declared.types.TypeForm.TheVariants.{Num, Text, Unit as One, Tensor, With, Sum, Arrow, Bang, Bag}
use Rattle.fz_ast.specs.contracts.types.TypeFormPartialEq.TheImpl as forms
use Rattle.fz_ast.proofs.SameTypes.{both_true, and_true, same_type_is, same_type_refl}
use Rattle.fz_ast.proofs.TypeNodes.{type_at_old, type_at_new, type_of_same, known_more, split_last}

same_number : (a b : ℕ) → nat_eq a b ≡ true → a ≡ b
same_number a b h = grind (arith, nat_tests, h)

number_same : (a b : ℕ) → a ≡ b → nat_eq a b ≡ true
number_same a b h = grind (arith, nat_tests, h)

-- what `==` answers

abbrev pub same_sens : Sens → Sens → Bool
same_sens r s = sens.eq-value.it r s

abbrev pub same_form : TypeForm → TypeForm → Bool
same_form f g = forms.eq-value.it f g

sens_is : (r s : Sens) → same_sens r s ≡ true → distance_of r ≡ distance_of s
sens_is (Finite f) (Finite g) h =
    let k = both_true (nat_eq f.p g.p) (nat_eq f.q g.q) h in
    rw (same_number f.p g.p k.0, same_number f.q g.q k.1) refl
sens_is Endless Endless h = refl
sens_is (Finite f) Endless h = cc
sens_is Endless (Finite g) h = cc

-- forms that `==` takes for one are of one type
pub form_is : (at : ℕ → Ty) (f g : TypeForm) → same_form f g ≡ true → type_of at f ≡ type_of at g
form_is at Num Num h = refl
form_is at Text Text h = refl
form_is at One One h = refl
form_is at (Tensor a b) (Tensor c d) h = let k = both_true (nat_eq a c) (nat_eq b d) h in rw (same_number a c k.0, same_number b d k.1) refl
form_is at (With a b) (With c d) h = let k = both_true (nat_eq a c) (nat_eq b d) h in rw (same_number a c k.0, same_number b d k.1) refl
form_is at (Sum a b) (Sum c d) h = let k = both_true (nat_eq a c) (nat_eq b d) h in rw (same_number a c k.0, same_number b d k.1) refl
form_is at (Arrow a b) (Arrow c d) h = let k = both_true (nat_eq a c) (nat_eq b d) h in rw (same_number a c k.0, same_number b d k.1) refl
form_is at (Bang r a) (Bang s b) h = let k = both_true (same_sens r s) (nat_eq a b) h in rw (sens_is r s k.0, same_number a b k.1) refl
form_is at (Bag a) (Bag b) h = rw (same_number a b h) refl
form_is at f g h = cc

same_half : (f g : Sens) → distance_of f ≡ distance_of g → same_sens f g ≡ true
same_half (Finite f) (Finite g) h =
    let e : f.p ≡ g.p = cc in
    let k : f.q ≡ g.q = cc in
    and_true (nat_eq f.p g.p) (nat_eq f.q g.q) (number_same f.p g.p e) (number_same f.q g.q k)
same_half Endless Endless h = refl
same_half (Finite f) Endless h = cc
same_half Endless (Finite g) h = cc

module _ (T : List Ty) (o : AreDistinct T) where
  same_parts : (a b : ℕ) → a < length T → b < length T → type_at T a ≡ type_at T b → nat_eq a b ≡ true
  same_parts a b h k e = number_same a b (o a b h k e)

  -- forms of one type, whose parts are known, are taken for one
  pub is_form : (f g : TypeForm) → IsKnownType (length T) f → IsKnownType (length T) g → type_of (type_at T) f ≡ type_of (type_at T) g → same_form f g ≡ true
  is_form Num Num h k e = refl
  is_form Text Text h k e = refl
  is_form One One h k e = refl
  is_form (Tensor a b) (Tensor c d) h k e = and_true (nat_eq a c) (nat_eq b d) (same_parts a c h.0 k.0 cc) (same_parts b d h.1 k.1 cc)
  is_form (With a b) (With c d) h k e = and_true (nat_eq a c) (nat_eq b d) (same_parts a c h.0 k.0 cc) (same_parts b d h.1 k.1 cc)
  is_form (Sum a b) (Sum c d) h k e = and_true (nat_eq a c) (nat_eq b d) (same_parts a c h.0 k.0 cc) (same_parts b d h.1 k.1 cc)
  is_form (Arrow a b) (Arrow c d) h k e = and_true (nat_eq a c) (nat_eq b d) (same_parts a c h.0 k.0 cc) (same_parts b d h.1 k.1 cc)
  is_form (Bang r a) (Bang s b) h k e = and_true (same_sens r s) (nat_eq a b) (same_half r s cc) (same_parts a b h k cc)
  is_form (Bag a) (Bag b) h k e = same_parts a b h k cc
  is_form f g h k e = cc

  -- numbers are equal exactly where their types are
  pub same_is : (a b : ℕ) → a < length T → b < length T → nat_eq a b ≡ same_type (type_at T a) (type_at T b)
  same_is a b h k = go (nat_eq a b) refl (same_type (type_at T a) (type_at T b)) refl
    where
      go : (s : Bool) → nat_eq a b ≡ s → (t : Bool) → same_type (type_at T a) (type_at T b) ≡ t → s ≡ t
      go true d true e = refl
      go false d false e = refl
      go true d false e = let i = same_number a b d in let j : same_type (type_at T b) (type_at T b) ≡ false = rw i at e in let l = same_type_refl (type_at T b) in cc
      go false d true e = let i = same_parts a b h k (same_type_is (type_at T a) (type_at T b) e) in cc

module _ (T : List Ty) (forms : List TypeForm) (form : TypeForm) (arena : IsArena T forms) where
  -- the place of an equal form is the type's number
  pub found : (i : ℕ) → position (same_form form) forms ≡ Some i → (i < length T) × (type_at T i ≡ type_of (type_at T) form)
  found i h =
      let p = position-Some (same_form form) forms i form h in
      let l : i < length T = let j = p.0 in let s = arena.size in omega arith in
      (l, (arena.each i form l).is ∙ sym (form_is (type_at T) form (get_or forms i form) p.1))

  -- the type of a form that isn't there is new
  pub is_new : list_any (same_form form) forms ≡ false → IsKnownType (length T) form → (k : ℕ) → k < length T → type_at T k ≡ type_of (type_at T) form → ⊥
  is_new none known k l e =
      let p = arena.each k form l in
      let g = get_or forms k form in
      let s = is_form T arena.distinct form g known (known_more k (length T) g (omega arith) p.known) (sym e ∙ p.is) in
      let j : k < length forms = let s = arena.size in omega arith in
      true≢false (sym (list_any_at (same_form form) forms k form j s) ∙ none)

-- U is T, and after it the type A that T lacks
distinct_push : (T : List Ty) (A : Ty) → AreDistinct T → ((k : ℕ) → k < length T → type_at T k ≡ A → ⊥) → AreDistinct (T ++ A ∷ [])
distinct_push T A o new i j h k e =
    let size : length (T ++ A ∷ []) ≡ length T + 1 = length-append T (A ∷ []) in
    go (split_last (length T) i (omega arith)) (split_last (length T) j (omega arith))
  where
    old : (k : ℕ) → k < length T → type_at (T ++ A ∷ []) k ≡ type_at T k
    old k l = type_at_old T (A ∷ []) k l

    go : (i < length T) ⊎ (i ≡ length T) → (j < length T) ⊎ (j ≡ length T) → i ≡ j
    go (inl l) (inl m) = o i j l m (sym (old i l) ∙ e ∙ old j m)
    go (inl l) (inr m) = absurd (new i l (sym (old i l) ∙ e ∙ ap (type_at (T ++ A ∷ [])) m ∙ type_at_new T A))
    go (inr l) (inl m) = absurd (new j m (sym (old j m) ∙ sym e ∙ ap (type_at (T ++ A ∷ [])) l ∙ type_at_new T A))
    go (inr l) (inr m) = l ∙ sym m

form_more : (T : List Ty) (A : Ty) (k : ℕ) (form : TypeForm) → k < length T → IsFormOf T k form → IsFormOf (T ++ A ∷ []) k form
form_more T A k form l f = record {
  known = f.known;
  is = type_at_old T (A ∷ []) k l ∙ f.is ∙ type_of_same (type_at T) (type_at (T ++ A ∷ [])) k form (λ j i. sym (type_at_old T (A ∷ []) j (omega arith))) f.known;
}

form_new : (T : List Ty) (form : TypeForm) → IsKnownType (length T) form → IsFormOf (T ++ type_of (type_at T) form ∷ []) (length T) form
form_new T form known = record {
  known = known;
  is = let A = type_of (type_at T) form in type_at_new T A ∙ type_of_same (type_at T) (type_at (T ++ A ∷ [])) (length T) form (λ j i. sym (type_at_old T (A ∷ []) j i)) known;
}

-- one more type, whose form isn't there
pub pushed : (T : List Ty) (forms : List TypeForm) (form : TypeForm) → IsArena T forms → IsKnownType (length T) form → list_any (same_form form) forms ≡ false → length T < 4294967296 → IsArena (T ++ type_of (type_at T) form ∷ []) (forms ++ form ∷ [])
pushed T forms form arena known none few =
    let A = type_of (type_at T) form in
    let more : length (T ++ A ∷ []) ≡ length T + 1 = length-append T (A ∷ []) in
    let s = arena.size in
    record {
      distinct = distinct_push T A arena.distinct (is_new T forms form arena none known);
      few = omega arith;
      size = let e : length (forms ++ form ∷ []) ≡ length forms + 1 = length-append forms (form ∷ []) in omega arith;
      each = λ k d l. pick k d (split_last (length T) k (omega arith));
    }
  where
    pick : (k : ℕ) (d : TypeForm) → (k < length T) ⊎ (k ≡ length T) → IsFormOf (T ++ type_of (type_at T) form ∷ []) k (get_or (forms ++ form ∷ []) k d)
    pick k d (inl l) = rw (get_or-append forms (form ∷ []) d k (let s = arena.size in omega arith)) (form_more T (type_of (type_at T) form) k (get_or forms k d) l (arena.each k d l))
    pick k d (inr e) = rw (e, ← arena.size, get_or-append_seam forms form [] d, arena.size) (form_new T form known)

-- lists that grow

pub grows_refl : (T : List Ty) → Grows T T
grows_refl T = ([], sym (append-nil T))

pub grows_trans : (T U V : List Ty) → Grows T U → Grows U V → Grows T V
grows_trans T U V g h = (g.0 ++ h.0, h.1 ∙ ap (λ W. W ++ h.0) g.1 ∙ append_assoc T g.0 h.0)

pub grows_length : (T U : List Ty) → Grows T U → length T ≤ length U
grows_length T U g = let e = ap length g.1 in omega (arith, length-append T g.0)

pub grows_known : (T U : List Ty) (i : ℕ) → i < length T → Grows T U → i < length U
grows_known T U i l g = let e = grows_length T U g in omega arith

-- a type keeps its number
pub grows_at : (T U : List Ty) (i : ℕ) → i < length T → Grows T U → type_at U i ≡ type_at T i
grows_at T U i l g = ap (λ (V : List Ty). type_at V i) g.1 ∙ type_at_old T g.0 i l

-- what `intern` leaves where the form wasn't there: T and ks the types and forms before, U and ms those after, ls the forms once there is room
pub arena_pushed : (T U : List Ty) (ks ls ms : List TypeForm) (form : TypeForm) → IsArena T ks → IsKnownType (length T) form → list_any (same_form form) ks ≡ false → U ≡ T ++ type_of (type_at T) form ∷ [] → ls ≡ ks → ms ≡ insert_key same_form ls form → length T < 4294967296 → IsArena U ms
arena_pushed T U ks ls ms form arena known none grown room inserted few =
    let keys : ms ≡ ks ++ form ∷ [] = inserted ∙ ap (λ ks. insert_key same_form ks form) room ∙ ap (λ b. if b then ks else ks ++ form ∷ []) none in
    rw (grown, keys) (pushed T ks form arena known none few)

pub pushed_at : (T U : List Ty) (form : TypeForm) (n : ℕ) → n ≡ length T → U ≡ T ++ type_of (type_at T) form ∷ [] → (n < length U) × (type_at U n ≡ type_of (type_at T) form)
pushed_at T U form n e grown =
    let A = type_of (type_at T) form in
    rw (grown, e) ((let m = length-append T (A ∷ []) in omega arith), type_at_new T A)

-- a type that is there isn't added
pub with_found : (T : List Ty) (A : Ty) (k : ℕ) → k < length T → type_at T k ≡ A → T ≡ with_type T A
unfolding type_at
with_found T A k h e = sym (ap (λ b. if b then T else T ++ A ∷ []) (list_any_at (same_type A) T k NumT h (rw e (same_type_refl A))))

-- and one that isn't is
pub with_new : (T : List Ty) (A : Ty) → ((k : ℕ) → k < length T → type_at T k ≡ A → ⊥) → T ++ A ∷ [] ≡ with_type T A
unfolding type_at
with_new T A new = sym (ap (λ b. if b then T else T ++ A ∷ []) (by (list_any (same_type A) T) refl))
  where
    by : (b : Bool) → list_any (same_type A) T ≡ b → b ≡ false
    by false e = refl
    by true e = let a = Any-from_list_any (same_type A) T e in absurd (new a.0 a.2 (get_or_default T a.0 NumT a.1 a.2 ∙ a.3 ∙ sym (same_type_is A a.1 a.4)))
