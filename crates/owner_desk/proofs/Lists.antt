-- histories of a book, and the records in them
use Rattle.std.proofs.Common.{◌≡◌, ◌⊎◌, ℕ, zero, suc, ◌+◌, ◌<◌, ◌≤◌, nat_le, Bool, true, false, sum_by, List, [], ◌∷◌, ◌++◌, map, length, refl, sym, ap, ◌∙◌, subst, inl, inr, ⊎_elim, arith, append_assoc, append-nil, length-append, Option, Some, None, slice_get}
use Rattle.std.proofs.lemmas.List.{length-map, map-append}
use mathlib.Core.List.{IsPrefix}
use Rattle.journal_records.specs.declared.records.Record.{Record}
use Rattle.budget_ledger.specs.declared.failure.Failure.{Failure}
use Rattle.std.specs.Bool.{if◌then◌else◌}
use Rattle.std.proofs.lemmas.List.Sums.{sum_by-cons}
use Rattle.owner_lock.specs.Entries.{Ascends, Has, merged, put_in}
use Rattle.owner_desk.specs.Passes.{Told, closing, records_told}
use Rattle.owner_desk.specs.Answers.{Has as HasTold}
use Rattle.owner_desk.specs.declared.noted.Noted.{Noted}
use Rattle.owner_desk.specs.declared.noted.Noted.TheVariants.{Added, Failed}
use Rattle.owner_desk.specs.Noted.{failing, failure_in, faults_in, history_with, records_in, told_in}

pub records_noted : (records : List Record) (closed : Option Failure) → records_in (history_with records closed) ≡ records
records_noted [] None = refl
records_noted [] (Some failure) = refl
records_noted (x ∷ xs) closed = ap (λ (ys : List Record). x ∷ ys) (records_noted xs closed)

pub failure_noted : (records : List Record) (closed : Option Failure) → failure_in (history_with records closed) ≡ closed
failure_noted [] None = refl
failure_noted [] (Some failure) = refl
failure_noted (x ∷ xs) closed = failure_noted xs closed

pub records_append : (xs ys : List Noted) → records_in (xs ++ ys) ≡ records_in xs ++ records_in ys
records_append [] ys = refl
records_append (Added next ∷ xs) ys = ap (λ (zs : List Record). next ∷ zs) (records_append xs ys)
records_append (Failed failure ∷ xs) ys = records_append xs ys

-- what begins a history has first ones of its records
pub records_prefix : (xs ys : List Noted) → IsPrefix xs ys → IsPrefix (records_in xs) (records_in ys)
records_prefix xs ys (rest, is) = (records_in rest, sym (records_append xs rest) ∙ ap records_in is)

-- a failure that was seen is the history's
failure_append : (xs ys : List Noted) (failure : Failure) → failure_in xs ≡ Some failure → failure_in (xs ++ ys) ≡ Some failure
failure_append [] ys failure is = absurd cc
failure_append (Added next ∷ xs) ys failure is = failure_append xs ys failure is
failure_append (Failed other ∷ xs) ys failure is = is

pub failure_prefix : (xs ys : List Noted) (failure : Failure) → IsPrefix xs ys → failure_in xs ≡ Some failure → failure_in ys ≡ Some failure
failure_prefix xs ys failure (rest, is) here = sym (ap failure_in is) ∙ failure_append xs rest failure here

pub told_append : (xs ys : List (ℕ × Noted)) → told_in (xs ++ ys) ≡ told_in xs ++ told_in ys
told_append [] ys = refl
told_append ((place, Added next) ∷ xs) ys = ap (λ (zs : List Told). (place, next) ∷ zs) (told_append xs ys)
told_append ((place, Failed failure) ∷ xs) ys = told_append xs ys

pub fault_added : (xs : List (ℕ × Noted)) (place : ℕ) (next : Record) → faults_in (xs ++ (place, Added next) ∷ []) ≡ faults_in xs
fault_added [] place next = refl
fault_added ((p, Added x) ∷ xs) place next = fault_added xs place next
fault_added ((p, Failed failure) ∷ xs) place next = ap (λ (fs : List Failure). failure ∷ fs) (fault_added xs place next)

pub fault_last : (xs : List (ℕ × Noted)) (place : ℕ) (failure : Failure) → faults_in (xs ++ (place, Failed failure) ∷ []) ≡ faults_in xs ++ failure ∷ []
fault_last [] place failure = refl
fault_last ((p, Added x) ∷ xs) place failure = fault_last xs place failure
fault_last ((p, Failed other) ∷ xs) place failure = ap (λ (fs : List Failure). other ∷ fs) (fault_last xs place failure)

-- the records of one's own stand among one's own entries
pub has_told : (place : ℕ) (next : Record) (xs : List (ℕ × Noted)) → HasTold (place, next) (told_in xs) → Has (place, Added next) xs
has_told place next [] has = absurd has
has_told place next ((p, Added x) ∷ xs) (inl is) = inl (ap (λ (z : Told). (z.0, Added z.1)) is)
has_told place next ((p, Added x) ∷ xs) (inr has) = inr (has_told place next xs has)
has_told place next ((p, Failed failure) ∷ xs) has = inr (has_told place next xs has)

abbrev record_or : Record → Noted → Record
record_or other (Added x) = x
record_or other (Failed failure) = other

pub told_has : (place : ℕ) (next : Record) (xs : List (ℕ × Noted)) → Has (place, Added next) xs → HasTold (place, next) (told_in xs)
told_has place next [] has = absurd has
told_has place next ((p, Added x) ∷ xs) (inl is) = inl (ap (λ (z : ℕ × Noted). (z.0, record_or next z.1)) is)
told_has place next ((p, Added x) ∷ xs) (inr has) = inr (told_has place next xs has)
told_has place next ((p, Failed failure) ∷ xs) (inl is) = let no : Added next ≡ Failed failure = ap (λ (z : ℕ × Noted). z.1) is in absurd cc
told_has place next ((p, Failed failure) ∷ xs) (inr has) = told_has place next xs has

-- a record of a history is one of the records, at its place
pub record_noted : (records : List Record) (closed : Option Failure) (place : ℕ) (next : Record) → slice_get (history_with records closed) place ≡ Some (Added next) → slice_get records place ≡ Some next
record_noted [] None place next at = absurd cc
record_noted [] (Some failure) zero next at = absurd cc
record_noted [] (Some failure) (suc place) next at = absurd cc
record_noted (x ∷ xs) closed zero next at = cc
record_noted (x ∷ xs) closed (suc place) next at = record_noted xs closed place next at

pub noted_record : (records : List Record) (closed : Option Failure) (place : ℕ) (next : Record) → slice_get records place ≡ Some next → slice_get (history_with records closed) place ≡ Some (Added next)
noted_record [] closed place next at = absurd cc
noted_record (x ∷ xs) closed zero next at = cc
noted_record (x ∷ xs) closed (suc place) next at = noted_record xs closed place next at

-- one record more
pub noted_added : (records : List Record) (next : Record) → history_with (records ++ next ∷ []) None ≡ history_with records None ++ Added next ∷ []
noted_added [] next = refl
noted_added (x ∷ xs) next = ap (λ (ys : List Noted). Added x ∷ ys) (noted_added xs next)

-- a failure behind all records
pub noted_failed : (records : List Record) (failure : Failure) → history_with records (Some failure) ≡ history_with records None ++ Failed failure ∷ []
noted_failed [] failure = refl
noted_failed (x ∷ xs) failure = ap (λ (ys : List Noted). Added x ∷ ys) (noted_failed xs failure)

pub length_noted : (records : List Record) → length (history_with records None) ≡ length records
length_noted [] = refl
length_noted (x ∷ xs) = omega (arith, length_noted xs)

-- one entry at the end is one only
pub snoc_last : {A : Type 0} (xs : List A) (x y : A) → xs ++ x ∷ [] ≡ xs ++ y ∷ [] → x ≡ y
snoc_last [] x y is = cc
snoc_last (z ∷ xs) x y is = snoc_last xs x y cc

pub no_snoc : {A : Type 0} (xs : List A) (x : A) → xs ++ x ∷ [] ≡ xs → ⊥
no_snoc xs x is = omega (arith, ap length is, length-append xs (x ∷ []))

-- ---- two lists of one's own, by position

abbrev pub lifted : (Told → ℕ) → ℕ × Noted → ℕ
lifted h (place, Added next) = h (place, next)
lifted h (place, Failed failure) = 0

abbrev pub lifted_fault : (Failure → ℕ) → ℕ × Noted → ℕ
lifted_fault h (place, Added next) = 0
lifted_fault h (place, Failed failure) = h failure

told_sum : (h : Told → ℕ) (xs : List (ℕ × Noted)) → sum_by h (told_in xs) ≡ sum_by (lifted h) xs
told_sum h [] = refl
told_sum h ((p, Added x) ∷ xs) = omega (arith, told_sum h xs, sum_by-cons h (p, x) (told_in xs), sum_by-cons (lifted h) (p, Added x) xs)
told_sum h ((p, Failed failure) ∷ xs) = omega (arith, told_sum h xs, sum_by-cons (lifted h) (p, Failed failure) xs)

fault_sum : (h : Failure → ℕ) (xs : List (ℕ × Noted)) → sum_by h (faults_in xs) ≡ sum_by (lifted_fault h) xs
fault_sum h [] = refl
fault_sum h ((p, Added x) ∷ xs) = omega (arith, fault_sum h xs, sum_by-cons (lifted_fault h) (p, Added x) xs)
fault_sum h ((p, Failed failure) ∷ xs) = omega (arith, fault_sum h xs, sum_by-cons h failure (faults_in xs), sum_by-cons (lifted_fault h) (p, Failed failure) xs)

put_sum : {E : Type 0} (h : ℕ × E → ℕ) (x : ℕ × E) (ys : List (ℕ × E)) → sum_by h (put_in x ys) ≡ h x + sum_by h ys
put_sum h x [] = sum_by-cons h x []
put_sum h x (y ∷ ys) = here (nat_le x.0 y.0) (put_sum h x ys)
  where
    here : (b : Bool) → sum_by h (put_in x ys) ≡ h x + sum_by h ys → sum_by h (if b then x ∷ y ∷ ys else y ∷ put_in x ys) ≡ h x + sum_by h (y ∷ ys)
    here true rec = sum_by-cons h x (y ∷ ys)
    here false rec = omega (arith, rec, sum_by-cons h y (put_in x ys), sum_by-cons h y ys)

merged_sum : {E : Type 0} (h : ℕ × E → ℕ) (xs ys : List (ℕ × E)) → sum_by h (merged xs ys) ≡ sum_by h xs + sum_by h ys
merged_sum h [] ys = omega arith
merged_sum h (x ∷ xs) ys = omega (arith, put_sum h x (merged xs ys), merged_sum h xs ys, sum_by-cons h x xs)

pub told_merged : (h : Told → ℕ) (xs ys : List (ℕ × Noted)) → sum_by h (told_in (merged xs ys)) ≡ sum_by h (told_in xs) + sum_by h (told_in ys)
told_merged h xs ys = omega (arith, told_sum h (merged xs ys), told_sum h xs, told_sum h ys, merged_sum (lifted h) xs ys)

pub fault_merged : (h : Failure → ℕ) (xs ys : List (ℕ × Noted)) → sum_by h (faults_in (merged xs ys)) ≡ sum_by h (faults_in xs) + sum_by h (faults_in ys)
fault_merged h xs ys = omega (arith, fault_sum h (merged xs ys), fault_sum h xs, fault_sum h ys, merged_sum (lifted_fault h) xs ys)

ascends_from : {E : Type 0} (p q : ℕ) (xs : List (ℕ × E)) → q ≤ p → Ascends p xs → Ascends q xs
ascends_from p q [] le h = h
ascends_from p q (x ∷ xs) le h = (omega (arith, h.0, le), h.1)

pub told_ascends : (p : ℕ) (xs : List (ℕ × Noted)) → Ascends p xs → Ascends p (told_in xs)
told_ascends p [] h = h
told_ascends p ((place, Added next) ∷ xs) h = (h.0, told_ascends (place + 1) xs h.1)
told_ascends p ((place, Failed failure) ∷ xs) h = ascends_from (place + 1) p (told_in xs) (omega (arith, h.0)) (told_ascends (place + 1) xs h.1)

abbrev pub faults_of : List Noted → List Failure
faults_of [] = []
faults_of (Added next ∷ xs) = faults_of xs
faults_of (Failed failure ∷ xs) = failure ∷ faults_of xs

pub faults_noted : (records : List Record) (closed : Option Failure) → faults_of (history_with records closed) ≡ closing closed
faults_noted [] None = refl
faults_noted [] (Some failure) = refl
faults_noted (x ∷ xs) closed = faults_noted xs closed

pub faults_behind : (records : List Record) (xs : List Noted) → faults_of (history_with records None ++ xs) ≡ faults_of xs
faults_behind [] xs = refl
faults_behind (x ∷ records) xs = faults_behind records xs

pub faults_all : (own : List (ℕ × Noted)) → faults_of (map (λ (z : ℕ × Noted). z.1) own) ≡ faults_in own
faults_all [] = refl
faults_all ((place, Added next) ∷ own) = faults_all own
faults_all ((place, Failed failure) ∷ own) = ap (λ (fs : List Failure). failure ∷ fs) (faults_all own)

pub has_last : {A : Type 0} (a : A) (xs : List A) → HasTold a (xs ++ a ∷ [])
has_last a [] = inl refl
has_last a (x ∷ xs) = inr (has_last a xs)

pub has_snoc : {A : Type 0} (a b : A) (xs : List A) → HasTold a (xs ++ b ∷ []) → HasTold a xs ⊎ (a ≡ b)
has_snoc a b [] (inl is) = inr is
has_snoc a b [] (inr has) = absurd has
has_snoc a b (x ∷ xs) (inl is) = inl (inl is)
has_snoc a b (x ∷ xs) (inr has) = ⊎_elim (λ t. inl (inr t)) (λ t. inr t) (has_snoc a b xs has)
