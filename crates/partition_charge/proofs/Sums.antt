-- What a list of sums has for a part, and what an edit of the list does to it.
use Rattle.std.proofs.Common.{◌≡◌, ℕ, zero, suc, ◌+◌, ◌-◌, ◌<◌, ◌≤◌, eqb, List, [], ◌∷◌, length, get_or, set, if◌then◌else◌, Bool, true, false, refl, sym, ap, subst, ◌∙◌, arith, ⊎_elim, inl, inr, ◌⊎◌, Result, Ok, Err, IfOk, IfErr, Vec, Global, vec_capacity, length-set}
use Rattle.std.specs.List.{insert}
use Rattle.std.specs.List.Sorted.{IsSearchInRange, IsBinarySearchResult, IsNonDecreasingBy}
use Rattle.std.specs.Ordering.{nat_cmp, ordering_index}
use Rattle.std.proofs.lemmas.Bool.{cases_eq, eqb-true, eq-eqb}
use Rattle.std.proofs.lemmas.Bool.Decides.{nat_tests}
use Rattle.std.proofs.lemmas.Cmp.{ranked}
use Rattle.std.proofs.lemmas.List.{get_or-set_same, get_or-set_other}
use Rattle.std.proofs.lemmas.List.Sorted.{IsNonDecreasingBy-from_default}
use Rattle.std.proofs.lemmas.List.Edits.{length-insert, get_or-insert_below, get_or-insert_at, get_or-insert_above}
use Rattle.partition_charge.specs.declared.parts.PartSum.{PartSum}
use Rattle.partition_charge.specs.declared.parts.Parts.{Parts}
use Rattle.partition_charge.specs.Parts.{sum_of, sum_without, lowered, part_at, IsInOrder, AreBelow, IsAt, IsGapFor, HasPlaceIn, HasPut}

abbrev pub no_sum : PartSum
no_sum = record { part = 0; sum = 0 }

-- no sum before this place is the part's
abbrev pub NoneBefore : List PartSum → ℕ → ℕ → Type 0
NoneBefore sums part place = (i : ℕ) → i < place → part_at sums i ≡ part → ⊥

none-tail : (x : PartSum) (sums : List PartSum) (part place : ℕ) → NoneBefore (x ∷ sums) part (suc place) → NoneBefore sums part place
none-tail x sums part place none i lt = none (suc i) (omega arith)

at-tail : (x : PartSum) (sums : List PartSum) (part place : ℕ) → IsAt (x ∷ sums) part (suc place) → IsAt sums part place
at-tail x sums part place is = record { in_range = omega (arith, is.in_range); has_part = is.has_part }

-- a part that no sum is of has none
pub sum-absent : (sums : List PartSum) (part : ℕ) → NoneBefore sums part (length sums) → sum_of sums part ≡ 0
sum-absent [] part none = refl
sum-absent (x ∷ sums) part none = grind (arith, nat_tests, none 0 (omega arith), sum-absent sums part (none-tail x sums part _ none))

-- the first sum that is the part's counts
sum-present : (sums : List PartSum) (part place : ℕ) → IsAt sums part place → NoneBefore sums part place → sum_of sums part ≡ (get_or sums place no_sum).sum
sum-present [] part place is none = absurd (omega (arith, is.in_range))
sum-present (x ∷ sums) part zero is none = grind (arith, nat_tests, is.has_part)
sum-present (x ∷ sums) part (suc place) is none =
    grind (arith, nat_tests, none 0 (omega arith), sum-present sums part place (at-tail x sums part place is) (none-tail x sums part place none))

-- one written over the part's
sum-set : (sums : List PartSum) (new : PartSum) (place : ℕ) → IsAt sums new.part place → NoneBefore sums new.part place
    → (q : ℕ) → sum_of (set sums place new) q ≡ (if eqb new.part q then new.sum else sum_of sums q)
sum-set [] new place is none q = absurd (omega (arith, is.in_range))
sum-set (x ∷ sums) new zero is none q = grind (arith, nat_tests, is.has_part)
sum-set (x ∷ sums) new (suc place) is none q =
    grind (arith, nat_tests, none 0 (omega arith), sum-set sums new place (at-tail x sums new.part place is) (none-tail x sums new.part place none) q)

-- and one put in before any of the part's
sum-insert : (sums : List PartSum) (new : PartSum) (place : ℕ) → NoneBefore sums new.part place
    → (q : ℕ) → sum_of (insert sums place new) q ≡ (if eqb new.part q then new.sum else sum_of sums q)
sum-insert sums new zero none q = refl
sum-insert [] new (suc place) none q = refl
sum-insert (x ∷ sums) new (suc place) none q =
    grind (arith, nat_tests, none 0 (omega arith), sum-insert sums new place (none-tail x sums new.part place none) q)

-- A part has no sum, or it is at some place.
pub found-or-none : (sums : List PartSum) (part : ℕ) → (sum_of sums part ≡ 0) ⊎ ((place : ℕ) × IsAt sums part place × (sum_of sums part ≡ (get_or sums place no_sum).sum))
found-or-none [] part = inl refl
found-or-none (x ∷ sums) part = by (eqb x.part part) refl (found-or-none sums part)
  where
    by : (b : Bool) → eqb x.part part ≡ b → (sum_of sums part ≡ 0) ⊎ ((place : ℕ) × IsAt sums part place × (sum_of sums part ≡ (get_or sums place no_sum).sum))
        → (sum_of (x ∷ sums) part ≡ 0) ⊎ ((place : ℕ) × IsAt (x ∷ sums) part place × (sum_of (x ∷ sums) part ≡ (get_or (x ∷ sums) place no_sum).sum))
    by true same rest = inr (
      0,
      record { in_range = omega arith; has_part = eqb-true x.part part same },
      ap (λ (b : Bool). if b then x.sum else sum_of sums part) same,
    )
    by false other (inl none) = inl (ap (λ (b : Bool). if b then x.sum else sum_of sums part) other ∙ none)
    by false other (inr found) = inr (
      suc found.0,
      record { in_range = omega (arith, found.1.in_range); has_part = found.1.has_part },
      ap (λ (b : Bool). if b then x.sum else sum_of sums part) other ∙ found.2,
    )

-- ---- in order

module _ (sums : List PartSum) (ordered : IsInOrder sums) (part : ℕ) where
  comparisons-rise : IsNonDecreasingBy (λ (x : PartSum). ordering_index (nat_cmp x.part part)) sums
  comparisons-rise = IsNonDecreasingBy-from_default (λ (x : PartSum). ordering_index (nat_cmp x.part part)) sums no_sum (λ i k le in_range.
      let rise : part_at sums i ≤ part_at sums k = grind (arith, ordered i k, λ (same : i ≡ k). ap (part_at sums) same) in
      grind (arith, nat_tests))

  -- a binary search ends at the part's sum, or at the gap for it
  pub searched : (r : Result ℕ ℕ) → IsSearchInRange r (length sums) → IsBinarySearchResult (λ (x : PartSum). nat_cmp x.part part) sums r
      → record { found : IfOk r (IsAt sums part); missing : IfErr r (IsGapFor sums part) }
  searched (Ok at) in_range equal = record { found = record { in_range = in_range; has_part = ranked _ part _ (sym (equal no_sum)) }; missing = tt }
  searched (Err at) in_range parted = record {
    found = tt;
    missing = record {
      in_range = in_range;
      smaller_before = λ i lt. ranked _ part _ (sym ((parted comparisons-rise).0 i no_sum (omega arith) lt));
      greater_after = λ i le lt. ranked _ part _ (sym ((parted comparisons-rise).1 i no_sum le lt));
    };
  }

  none-before : (place : ℕ) → IsAt sums part place → NoneBefore sums part place
  none-before place is i lt same = omega (arith, ordered i place lt is.in_range, is.has_part)

  pub sum-at : (place : ℕ) → IsAt sums part place → sum_of sums part ≡ (get_or sums place no_sum).sum
  sum-at place is = sum-present sums part place is (none-before place is)

pub sum-in-gap : (sums : List PartSum) (part place : ℕ) → IsGapFor sums part place → sum_of sums part ≡ 0
sum-in-gap sums part place gap = sum-absent sums part (λ i lt same. grind (arith, gap.smaller_before i, gap.greater_after i))

-- ---- one is written over

module _ (sums : List PartSum) (new : PartSum) (place : ℕ) (is : IsAt sums new.part place) where
  part-set : (k : ℕ) → part_at (set sums place new) k ≡ part_at sums k
  part-set k = ⊎_elim
      (λ same. ap (part_at (set sums place new)) same ∙ ap (λ (x : PartSum). x.part) (get_or-set_same sums place new no_sum is.in_range)
      ∙ sym is.has_part ∙ ap (part_at sums) (sym same))
      (λ other. ap (λ (x : PartSum). x.part) (get_or-set_other sums place k new no_sum other))
      (cases_eq k place)

  ordered-set : IsInOrder sums → IsInOrder (set sums place new)
  ordered-set ordered i k lt within =
      let inside : k < length sums = omega (arith, length-set sums place new, within) in
      omega (arith, part-set i, part-set k, ordered i k lt inside)

  pub below-set : (n : ℕ) → AreBelow n sums → AreBelow n (set sums place new)
  below-set n below i within =
      let inside : i < length sums = omega (arith, length-set sums place new, within) in
      omega (arith, part-set i, below i inside)

-- ---- one is put in

module _ (sums : List PartSum) (new : PartSum) (place : ℕ) (gap : IsGapFor sums new.part place) where
  abbrev more : List PartSum
  more = insert sums place new

  part-below : (i : ℕ) → i < place → part_at more i ≡ part_at sums i
  part-below i lt = ap (λ (x : PartSum). x.part) (get_or-insert_below sums place new no_sum i lt gap.in_range)

  part-here : (i : ℕ) → i ≡ place → part_at more i ≡ new.part
  part-here i same = ap (part_at more) same ∙ ap (λ (x : PartSum). x.part) (get_or-insert_at sums place new no_sum gap.in_range)

  part-above : (i : ℕ) → place < i → part_at more i ≡ part_at sums (i - 1)
  part-above i lt = subst (λ (q : ℕ). part_at more q ≡ part_at sums (i - 1)) {x = i - 1 + 1} (omega arith)
      (ap (λ (x : PartSum). x.part) (get_or-insert_above sums place new no_sum (i - 1) (omega arith) gap.in_range))

  ordered-insert : IsInOrder sums → IsInOrder (insert sums place new)
  ordered-insert ordered i k lt within =
      let long = length-insert sums place new gap.in_range in
      grind (
        arith,
        part-below i,
        part-here i,
        part-above i,
        part-below k,
        part-here k,
        part-above k,
        ordered i k,
        ordered i (k - 1),
        ordered (i - 1) (k - 1),
        gap.smaller_before i,
        gap.greater_after (k - 1),
      )

  below-insert : (n : ℕ) → new.part < n → AreBelow n sums → AreBelow n (insert sums place new)
  below-insert n lt below i within =
      let long = length-insert sums place new gap.in_range in
      grind (arith, part-below i, part-here i, part-above i, below i, below (i - 1))

-- ---- a part's sum is put

pub other-test : (a b : ℕ) → (b ≡ a → ⊥) → eqb a b ≡ false
other-test a b isnt = grind (arith, nat_tests)

module _ (old new : Parts) (x : PartSum) (place : ℕ) (ordered : IsInOrder old.sums.items) (room : vec_capacity new.sums ≡ vec_capacity old.sums) where
  put-by : ((q : ℕ) → sum_of new.sums.items q ≡ (if eqb x.part q then x.sum else sum_of old.sums.items q)) → IsInOrder new.sums.items
      → length new.sums.items ≤ length old.sums.items + 1 → ((n : ℕ) → x.part < n → AreBelow n old.sums.items → AreBelow n new.sums.items) → HasPut old x.part x.sum new
  put-by sums order count below = record {
    ordered = order;
    this = sums x.part ∙ ap (λ (b : Bool). if b then x.sum else sum_of old.sums.items x.part) (eq-eqb x.part x.part refl);
    others = λ other isnt. sums other ∙ ap (λ (b : Bool). if b then x.sum else sum_of old.sums.items other) (other-test x.part other isnt);
    count = count;
    below = below;
    room = room;
  }

  pub put-over : IsAt old.sums.items x.part place → new.sums.items ≡ set old.sums.items place x → HasPut old x.part x.sum new
  put-over is now = put-by
      (λ q. ap (λ (xs : List PartSum). sum_of xs q) now ∙ sum-set old.sums.items x place is (none-before old.sums.items ordered x.part place is) q)
      (subst IsInOrder (sym now) (ordered-set old.sums.items x place is ordered))
      (omega (arith, ap length now, length-set old.sums.items place x))
      (λ n lt below. subst (AreBelow n) (sym now) (below-set old.sums.items x place is n below))

  pub put-in : IsGapFor old.sums.items x.part place → new.sums.items ≡ insert old.sums.items place x → HasPut old x.part x.sum new
  put-in gap now = put-by
      (λ q. ap (λ (xs : List PartSum). sum_of xs q) now ∙ sum-insert old.sums.items x place (λ i lt same. omega (arith, gap.smaller_before i lt, same)) q)
      (subst IsInOrder (sym now) (ordered-insert old.sums.items x place gap ordered))
      (omega (arith, ap length now, length-insert old.sums.items place x gap.in_range))
      (λ n lt below. subst (AreBelow n) (sym now) (below-insert old.sums.items x place gap n lt below))

-- the same, of what was read there
pub put-read : (old new : Parts) (part sum place : ℕ) (x : PartSum) → IsInOrder old.sums.items → vec_capacity new.sums ≡ vec_capacity old.sums → IsAt old.sums.items part place
    → x.part ≡ part → x.sum ≡ sum → new.sums.items ≡ set old.sums.items place x → HasPut old part sum new
put-read old new part sum place x ordered room is part_is sum_is now =
    subst (λ (j : ℕ). HasPut old j sum new) part_is
    (subst (λ (n : ℕ). HasPut old x.part n new) sum_is
    (put-over old new x place ordered room (subst (λ (j : ℕ). IsAt old.sums.items j place) (sym part_is) is) now))

-- Where a part that has a place has no sum, there are fewer sums than there is room for.
pub gap-free : (parts : Parts) (part place : ℕ) → HasPlaceIn parts part → IsGapFor parts.sums.items part place → length parts.sums.items < vec_capacity parts.sums
gap-free parts part place has gap = ⊎_elim
    (λ found. absurd (grind (arith, gap.smaller_before found.0, gap.greater_after found.0, found.1.in_range, found.1.has_part)))
    (λ free. free)
    has

-- ---- the greatest of them without an amount

module _ (sums : List PartSum) (ordered : IsInOrder sums) (part amount : ℕ) where
  pub lowered-at : (place : ℕ) → place < length sums → lowered part amount (get_or sums place no_sum) ≡ sum_without sums part amount (part_at sums place)
  lowered-at place within =
      ap (λ (n : ℕ). n - (if eqb (part_at sums place) part then amount else 0))
      (sym (sum-at sums ordered (part_at sums place) place (record { in_range = within; has_part = refl })))

  pub all-lowered : (greatest : ℕ) → ((place : ℕ) → place < length sums → lowered part amount (get_or sums place no_sum) ≤ greatest) → (k : ℕ) → sum_without sums part amount k ≤ greatest
  all-lowered greatest each k = ⊎_elim
      (λ none. omega (arith, none))
      (λ found. omega (
        arith,
        found.2,
        each found.0 found.1.in_range,
        ap (λ (n : ℕ). (get_or sums found.0 no_sum).sum - (if eqb n part then amount else 0)) found.1.has_part,
      ))
      (found-or-none sums k)

  -- An amount that is taken of a part is within its sum.
  pub part-enough : amount ≤ sum_of sums part → (place : ℕ) → place < length sums → part_at sums place ≡ part → amount ≤ (get_or sums place no_sum).sum
  part-enough enough place within is = omega (arith, enough, sum-at sums ordered part place (record { in_range = within; has_part = is }))

-- Where nothing changes, a part has what it had.
pub put-none : (old new : Parts) (part sum : ℕ) → IsInOrder old.sums.items → new.sums ≡ old.sums → sum ≡ sum_of old.sums.items part → HasPut old part sum new
put-none old new part sum ordered same is = record {
  ordered = subst (λ (v : Vec PartSum Global). IsInOrder v.items) (sym same) ordered;
  this = ap (λ (v : Vec PartSum Global). sum_of v.items part) same ∙ sym is;
  others = λ other isnt. ap (λ (v : Vec PartSum Global). sum_of v.items other) same;
  count = omega (arith, ap (λ (v : Vec PartSum Global). length v.items) same);
  below = λ n lt below. subst (λ (v : Vec PartSum Global). AreBelow n v.items) (sym same) below;
  room = ap vec_capacity same;
}
