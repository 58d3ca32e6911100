-- Names in byte order are found by halving.
use Rattle.std.proofs.Common.{◌≡◌, ℕ, zero, suc, ◌+◌, ◌<◌, ◌↔◌, Bool, true, false, true≢false, IsTrue, List, [], ◌∷◌, ◌++◌, length, get_or, refl, sym, ap, subst, ◌∙◌, append_assoc, arith, inl, inr}
use Rattle.std.specs.Prelude.{Result, Ok, Err, MatchResult}
use Rattle.std.specs.Cmp.{alike_right}
use Rattle.std.specs.Cmp.Lexicographic.{slice_cmp, nat_list_cmp_total, texts_ties}
use Rattle.std.specs.List.{AllByRecursion}
use Rattle.std.specs.List.Sorted.{IsSortedBy, IsStrictlySortedBy, IsSearchInRange, IsBinarySearchResult}
use Rattle.std.specs.Ordering.{nat_cmp, is_eq, is_lt}
use Rattle.std.specs.Str.{bytes_eq}
use Rattle.std.specs.declared.cmp.Ordering.{Ordering}
use Rattle.std.specs.declared.cmp.Ordering.TheVariants.{Less, Equal, Greater}
use Rattle.std.proofs.lemmas.Bool.{cases_lt}
use Rattle.std.proofs.lemmas.List.{nil_from_length}
use Rattle.std.proofs.lemmas.List.Sorted.{searchable_from_sorted}
use Rattle.fz_frac.specs.Distance.{none}
use Rattle.fz_frac.specs.Sens.{distance_of}
use Rattle.fz_ast.specs.Names.{name_of}
use Rattle.fz_ast.specs.Terms.{Name}
use Rattle.derivation_lines.specs.Found.{IsSaidAt}
use Rattle.derivation_lines.specs.Lines.{Said as IsSaid, amount_in, names_said, AreInOrder}
use Rattle.derivation_lines.specs.Said.{said_of, says_of}
use Rattle.derivation_lines.specs.declared.line.Said.{Said}

abbrev order : Name → Name → Ordering
order = slice_cmp nat_cmp

-- what holds of each name holds of the name at a place
name_at : (P : Name → Type 0) (xs : List Said) (k : ℕ) (d : Said) → AllByRecursion P (names_said (says_of xs)) → k < length xs → P (name_of (get_or xs k d).name)
name_at P [] k d all h = absurd (omega arith)
name_at P (t ∷ xs) zero d all h = all.0
name_at P (t ∷ xs) (suc k) d all h = name_at P xs k d all.1 (omega arith)

first_below : (s : Said) (xs : List Said) → AreInOrder (says_of (s ∷ xs)) → AllByRecursion (λ y. order (name_of s.name) y ≡ Less) (names_said (says_of xs))
unfolding IsStrictlySortedBy
first_below s xs up = up.0

rest_in_order : (s : Said) (xs : List Said) → AreInOrder (says_of (s ∷ xs)) → AreInOrder (says_of xs)
unfolding IsStrictlySortedBy
rest_in_order s xs up = up.1

tested : (x y : Name) (o : Ordering) → order x y ≡ o → bytes_eq x y ≡ is_eq o
tested x y o e = texts_ties x y ∙ ap is_eq e

amount_at : (xs : List Said) (x : Name) (k : ℕ) (d : Said) → AreInOrder (says_of xs) → k < length xs → order (name_of (get_or xs k d).name) x ≡ Equal → amount_in (says_of xs) x ≡ distance_of (get_or xs k d).amount
amount_at [] x k d up h e = absurd (omega arith)
amount_at (s ∷ xs) x zero d up h e = rw (tested (name_of s.name) x Equal e) refl
amount_at (s ∷ xs) x (suc k) d up h e =
    let below = name_at (λ y. order (name_of s.name) y ≡ Less) xs k d (first_below s xs up) (omega arith) in
    let less : order (name_of s.name) x ≡ Less = sym (alike_right nat_list_cmp_total (name_of (get_or xs k d).name) x (name_of s.name) e) ∙ below in
    rw (tested (name_of s.name) x Less less) (amount_at xs x k d (rest_in_order s xs up) (omega arith) e)

amount_missing : (xs : List Said) (x : Name) → ((k : ℕ) (d : Said) → k < length xs → is_eq (order (name_of (get_or xs k d).name) x) ≡ false) → amount_in (says_of xs) x ≡ none
amount_missing [] x h = refl
amount_missing (s ∷ xs) x h = rw (texts_ties (name_of s.name) x ∙ h zero s (omega arith)) (amount_missing xs x (λ k d l. h (suc k) d (omega arith)))

sorted : (xs : List Said) → AreInOrder (says_of xs) → IsSortedBy (λ (s t : Said). is_lt (order (name_of s.name) (name_of t.name))) xs
sorted [] up k d low h = absurd (omega arith)
sorted (s ∷ []) up k d low h = absurd (omega arith)
sorted (s ∷ t ∷ xs) up zero d low h =
    let less : order (name_of s.name) (name_of t.name) ≡ Less = (first_below s (t ∷ xs) up).0 in
    rw (nat_list_cmp_total.antisymm (name_of t.name) (name_of s.name), less) refl
sorted (s ∷ t ∷ xs) up (suc k) d low h =
    let e : suc k + 1 ≡ suc (k + 1) = omega arith in
    rw e (sorted (t ∷ xs) (rest_in_order s (t ∷ xs) up) k d (omega arith) (omega arith))

-- what a search by halving answers, at the name x
pub halved : (xs : List Said) (x : Name) (r : Result ℕ ℕ) → AreInOrder (says_of xs) → IsSearchInRange r (length xs) → IsBinarySearchResult (λ (s : Said). order (name_of s.name) x) xs r
    → MatchResult r (IsSaidAt xs x) (λ _. amount_in (says_of xs) x ≡ none)
halved xs x (Ok k) up within found = record { in_range = within; amount = λ d. amount_at xs x k d up within (found d) }
halved xs x (Err k) up within found =
    let (less, greater) = found (searchable_from_sorted nat_list_cmp_total (λ (s : Said). name_of s.name) xs x (sorted xs up)) in
    amount_missing xs x (λ i d h. elim (cases_lt i k) [
      | inl low ↦ rw (less i d (omega arith) low) refl
      | inr high ↦ rw (greater i d high h) refl
    ])

-- What is said goes on in byte order.
names_grow : (xs : List IsSaid) (s : IsSaid) → names_said (xs ++ s ∷ []) ≡ names_said xs ++ s.name ∷ []
names_grow [] s = refl
names_grow (x ∷ xs) s = ap (λ ys. x.name ∷ ys) (names_grow xs s)

pub says_grow : (xs : List Said) (s : Said) → says_of (xs ++ s ∷ []) ≡ says_of xs ++ said_of s ∷ []
says_grow [] s = refl
says_grow (x ∷ xs) s = ap (λ ys. said_of x ∷ ys) (says_grow xs s)

-- what holds of each of some names and one more, which stands below another one, holds of that one too
all_more : (x : Name) (xs : List IsSaid) (last next : IsSaid) → AllByRecursion (λ y. order x y ≡ Less) (names_said (xs ++ last ∷ [])) → order last.name next.name ≡ Less → AllByRecursion (λ y. order x y ≡ Less) (names_said (xs ++ last ∷ next ∷ []))
all_more x [] last next all h = (all.0, (nat_list_cmp_total.trans x last.name next.name all.0 h, tt))
all_more x (y ∷ xs) last next all h = (all.0, all_more x xs last next all.1 h)

in_order_more : (xs : List IsSaid) (last next : IsSaid) → AreInOrder (xs ++ last ∷ []) → order last.name next.name ≡ Less → AreInOrder (xs ++ last ∷ next ∷ [])
unfolding IsStrictlySortedBy
in_order_more [] last next up h = ((h, tt), (tt, tt))
in_order_more (x ∷ xs) last next up h = (all_more x.name xs last next up.0 h, in_order_more xs last next up.1 h)

in_order_last : (xs : List IsSaid) (last next : IsSaid) → AreInOrder (xs ++ last ∷ next ∷ []) → order last.name next.name ≡ Less
unfolding IsStrictlySortedBy
in_order_last [] last next up = up.0.0
in_order_last (x ∷ xs) last next up = in_order_last xs last next up.1

one_in_order : (s : IsSaid) → AreInOrder (s ∷ [])
unfolding IsStrictlySortedBy
one_in_order s = (tt, tt)

below : (o : Ordering) → is_lt o ≡ true → o ≡ Less
below Less e = refl
below Equal e = absurd (true≢false (sym e))
below Greater e = absurd (true≢false (sym e))

-- the next name may follow exactly where it is above the last one
pub follows : (says front : List Said) (last next : Said) (b : Bool) → says ≡ front ++ last ∷ [] → AreInOrder (says_of says) → b ≡ is_lt (order (name_of last.name) (name_of next.name)) → IsTrue b ↔ AreInOrder (says_of says ++ said_of next ∷ [])
follows says front last next b e up test = (
  λ yes. subst AreInOrder (sym whole) (in_order_more (says_of front) (said_of last) (said_of next) (subst AreInOrder (ap says_of e ∙ says_grow front last) up) (below _ (sym test ∙ yes))),
  λ up. test ∙ ap is_lt (in_order_last (says_of front) (said_of last) (said_of next) (subst AreInOrder whole up)),
)
  where
    whole : says_of says ++ said_of next ∷ [] ≡ says_of front ++ said_of last ∷ said_of next ∷ []
    whole = ap (λ xs. says_of xs ++ said_of next ∷ []) e ∙ ap (λ xs. xs ++ said_of next ∷ []) (says_grow front last) ∙ append_assoc (says_of front) (said_of last ∷ []) (said_of next ∷ [])

pub follows_none : (says : List Said) (next : Said) → length says ≡ 0 → AreInOrder (says_of says ++ said_of next ∷ [])
follows_none says next e = rw (nil_from_length says e) (one_in_order (said_of next))

pub none_in_order : AreInOrder []
unfolding IsStrictlySortedBy
none_in_order = tt

-- the first names of some in order are in order
pub in_order_front : (xs ys : List IsSaid) → AreInOrder (xs ++ ys) → AreInOrder xs
unfolding IsStrictlySortedBy
in_order_front [] ys up = tt
in_order_front (x ∷ xs) ys up = (front xs up.0, in_order_front xs ys up.1)
  where
    front : (zs : List IsSaid) → AllByRecursion (λ y. order x.name y ≡ Less) (names_said (zs ++ ys)) → AllByRecursion (λ y. order x.name y ≡ Less) (names_said zs)
    front [] all = tt
    front (z ∷ zs) all = (all.0, front zs all.1)

-- names alone are in order
pub in_order_same : (xs ys : List IsSaid) → names_said xs ≡ names_said ys → AreInOrder xs → AreInOrder ys
in_order_same xs ys e up = subst (IsStrictlySortedBy order) e up
