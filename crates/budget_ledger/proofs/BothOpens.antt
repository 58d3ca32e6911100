-- What an opening on two disks finds.
use Rattle.std.proofs.Common.{◌≡◌, ◌⊎◌, ℕ, ◌<◌, true, false, List, [], length, slice_get, refl, sym, ◌∙◌, ap, subst, arith, inl, inr, Option, Some, None}
use mathlib.Core.List.{IsPrefix}
use Rattle.outside_disks.specs.Disks.{Trace, Shown, seen_of}
use Rattle.journal_records.specs.declared.records.Record.{Record}
use Rattle.journal_records.specs.declared.records.Header.{Header}
use Rattle.budget_journal.specs.declared.opening.OpenFault.{OpenFault}
use Rattle.budget_journal.specs.declared.opening.OpenFault.TheVariants.{NotInitialised, Changed, Damaged, DiskFault, NoMemory}
use Rattle.budget_journal.specs.Journals.{Stands, IsOpenFault}
use Rattle.budget_journal.proofs.Gates.{head-version}
use Rattle.budget_journal.proofs.One.{stands-one, refused-for-others}
use Rattle.budget_core.specs.Entries.{Entry}
use Rattle.budget_core.specs.Legal.{IsHistory}
use Rattle.budget_core.proofs.Histories.{slice_get-append-lt}
use Rattle.budget_ledger.specs.Account.{Copy, Copies}
use Rattle.budget_ledger.specs.Both.{Reading, IsReading, RefusesBoth, AgreeOnCost, IsFork, Make, MakeNone, AreUnfit, IsOpenedCopy}
use Rattle.budget_ledger.specs.Both.{Tells, StoodStill, BothOpenWhatStands, BothFindTheLonger}
use Rattle.budget_ledger.specs.Both.Reading.{Missing, Holding, Unfit}
use Rattle.budget_ledger.specs.declared.both.BothFault.{BothFault}
use Rattle.budget_ledger.specs.declared.both.BothFault.TheVariants.{Refused, Forked, VersionsDiffer}
use Rattle.budget_ledger.proofs.Wents.{prefix_self}
use Rattle.budget_ledger.proofs.SameCost.{same_history, front_history}

-- ---- what is found on a disk that tells its records

module _ (header : Header) (v : ℕ) (a : List Record) (bytes : List ℕ) (stands : Stands (record header { version = v }) a bytes) where
  the_version : (w : ℕ) (b : List Record) → Stands (record header { version = w }) b bytes → w ≡ v
  the_version w b also = sym (head-version (record header { version = w }) bytes also.head) ∙ head-version (record header { version = v }) bytes stands.head

  the_records : (w : ℕ) (b : List Record) → Stands (record header { version = w }) b bytes → b ≡ a
  the_records w b also = stands-one (record header { version = v }) b a bytes
      (subst (λ (n : ℕ). Stands (record header { version = n }) b bytes) (the_version w b also) also) stands

  some_bytes : bytes ≡ [] → ⊥
  some_bytes none = neither (refused-for-others (record header { version = v }) a bytes stands (NotInitialised 0)
      (sym (ap (λ (bs : List ℕ). length bs) none), inl (omega (arith, ap (λ (bs : List ℕ). length bs) none))))
    where
      neither : (NotInitialised 0 ≡ DiskFault) ⊎ (NotInitialised 0 ≡ NoMemory) → ⊥
      neither (inl is) = cc
      neither (inr is) = cc

  for_memory : (fault : OpenFault) → RefusesBoth fault → IsOpenFault header bytes fault → fault ≡ NoMemory
  for_memory fault refuses is = by (refused-for-others (record header { version = v }) a bytes stands fault (as_other fault is))
    where
      as_other : (f : OpenFault) → IsOpenFault header bytes f → IsOpenFault (record header { version = v }) bytes f
      as_other DiskFault here = tt
      as_other NoMemory here = tt
      as_other (NotInitialised n) here = here
      as_other (Changed kept found) here = here
      as_other (Damaged k) here = here

      by : (fault ≡ DiskFault) ⊎ (fault ≡ NoMemory) → fault ≡ NoMemory
      by (inl failed) = absurd (subst RefusesBoth failed refuses)
      by (inr none) = none

-- It has them; or a call failed, or memory was wanting.
abbrev IsTold : ℕ → List Record → Reading → Type 0
IsTold v a (Missing true) = ⊥
IsTold v a (Missing false) = Unit {0}
IsTold v a (Holding w b) = (w ≡ v) × (b ≡ a)
IsTold v a (Unfit fault) = fault ≡ NoMemory

read_so : (header : Header) (v : ℕ) (a : List Record) (o : Option Trace) (count : ℕ) (now : Shown) → Tells header v a (record { trace = o; faults = count })
    → (r : Reading) → IsReading header (record { trace = o; faults = count }) now r → IsTold v a r
read_so header v a None count now tells r is = absurd tells
read_so header v a (Some t) count now tells (Missing true) is = some_bytes header v a (seen_of t) tells is
read_so header v a (Some t) count now tells (Missing false) is = tt
read_so header v a (Some t) count now tells (Holding w b) is = (the_version header v a (seen_of t) tells w b is, the_records header v a (seen_of t) tells w b is)
read_so header v a (Some t) count now tells (Unfit fault) is = for_memory header v a (seen_of t) tells fault is.0 is.1

-- ---- lists of which one begins the other

-- They don't differ at a slot that both have.
along : (a b : List Record) (k : ℕ) → k < length a → IsPrefix a b → slice_get a k ≡ slice_get b k
along a b k within begins = sym (slice_get-append-lt a begins.0 k within) ∙ ap (λ (rs : List Record). slice_get rs k) begins.1

no_fork : (a b : List Record) (k : ℕ) → IsFork a b k → IsPrefix a b ⊎ IsPrefix b a → ⊥
no_fork a b k fork (inl begins) = fork.differ (along a b k fork.within begins)
no_fork a b k fork (inr begins) = fork.differ (sym (along b a k fork.beside begins))

-- ---- no refusal but for the disks or for memory

judged : (entry : Entry) (records : List Record) → IsHistory entry records → (fault : BothFault) → AreUnfit entry records fault → fault ≡ Refused NoMemory
judged entry records history (Refused (Damaged k)) first = absurd (first.astray.2 (history.follows k first.astray.0 first.astray.1))
judged entry records history (Refused NoMemory) unfit = refl
judged entry records history (Refused (NotInitialised n)) unfit = absurd unfit
judged entry records history (Refused (Changed kept found)) unfit = absurd unfit
judged entry records history (Refused DiskFault) unfit = absurd unfit
judged entry records history (Forked slot) unfit = absurd unfit
judged entry records history VersionsDiffer unfit = absurd unfit

module _ (entry : Entry) (v w : ℕ) (a b : List Record) (agree : AgreeOnCost v w) (one : IsHistory (record entry { version = v }) a)
    (other : IsHistory (record entry { version = w }) b) (ordered : IsPrefix a b ⊎ IsPrefix b a) (fault : BothFault) where
  abbrev Allowed : BothFault → Type 0
  Allowed f = (f ≡ Refused DiskFault) ⊎ (f ≡ Refused NoMemory)

  abbrev Refuses : (r s : Reading) → BothFault → Type 0
  Refuses r s f = MakeNone r s f
      ⊎ ((version : ℕ) × (records : List Record) × Make r s version records × AreUnfit (record entry { version = version }) records f)

  unfit_at : (u : ℕ) (c : List Record) → IsHistory (record entry { version = u }) c → (version : ℕ) (records : List Record) → version ≡ u → records ≡ c
      → AreUnfit (record entry { version = version }) records fault → Allowed fault
  unfit_at u c history version records is are unfit = inr (judged (record entry { version = u }) c history fault
      (subst (λ (n : ℕ). AreUnfit (record entry { version = n }) c fault) is (subst (λ (rs : List Record). AreUnfit (record entry { version = version }) rs fault) are unfit)))

  none_of_both : (f : BothFault) → MakeNone (Holding v a) (Holding w b) f → ⊥
  none_of_both VersionsDiffer none = none agree
  none_of_both (Forked slot) none = no_fork a b slot none.1 ordered
  none_of_both (Refused g) none = none

  both_held : Refuses (Holding v a) (Holding w b) fault → Allowed fault
  both_held (inl none) = absurd (none_of_both fault none)
  both_held (inr (version, records, (agree_too, inl (begins, is, are)), unfit)) = unfit_at v a one version records is are unfit
  both_held (inr (version, records, (agree_too, inr (begins, less, is, are)), unfit)) = unfit_at w b other version records is are unfit

  refusals : (r s : Reading) → IsTold v a r → IsTold w b s → Refuses r s fault → Allowed fault
  refusals (Missing true) s p q is = absurd p
  refusals (Missing false) (Missing true) p q is = absurd q
  refusals (Missing false) (Missing false) p q (inl none) = inl none
  refusals (Missing false) (Missing false) p q (inr (version, records, made, unfit)) = absurd made
  refusals (Missing false) (Holding x d) p q (inl none) = absurd none
  refusals (Missing false) (Holding x d) p q (inr (version, records, (is, are), unfit)) = unfit_at w b other version records (is ∙ q.0) (are ∙ q.1) unfit
  refusals (Missing false) (Unfit g) p q (inl none) = inr (none ∙ ap Refused q)
  refusals (Missing false) (Unfit g) p q (inr (version, records, made, unfit)) = absurd made
  refusals (Holding x c) (Missing true) p q is = absurd q
  refusals (Holding x c) (Missing false) p q (inl none) = absurd none
  refusals (Holding x c) (Missing false) p q (inr (version, records, (is, are), unfit)) = unfit_at v a one version records (is ∙ p.0) (are ∙ p.1) unfit
  refusals (Holding x c) (Holding y d) p q is =
      both_held (subst (λ (s : Reading). Refuses (Holding v a) s fault) (as_read y d w b q) (subst (λ (r : Reading). Refuses r (Holding y d) fault) (as_read x c v a p) is))
    where
      as_read : (x : ℕ) (c : List Record) (y : ℕ) (d : List Record) → (x ≡ y) × (c ≡ d) → Holding x c ≡ Holding y d
      as_read x c y d (is, are) = ap (λ (n : ℕ). Holding n c) is ∙ ap (Holding y) are
  refusals (Holding x c) (Unfit g) p q (inl none) = inr (none ∙ ap Refused q)
  refusals (Holding x c) (Unfit g) p q (inr (version, records, made, unfit)) = absurd made
  refusals (Unfit g) s p q (inl none) = inr (none ∙ ap Refused p)
  refusals (Unfit g) s p q (inr (version, records, made, unfit)) = absurd made

pub both_stand : BothOpenWhatStands
both_stand entry header before now v w a b on_first on_second agree (inl (begins, history)) fault is =
    refusals entry v w a b agree history (same_history entry v w agree b (front_history (record entry { version = v }) b a begins history)) (inr begins) fault
    is.first is.second (read_so header v a before.first.trace before.first.faults now.first on_first is.first is.on_first)
    (read_so header w b before.second.trace before.second.faults now.second on_second is.second is.on_second) is.refused
both_stand entry header before now v w a b on_first on_second agree (inr (begins, history)) fault is =
    refusals entry v w a b agree (same_history entry w v (sym agree) a (front_history (record entry { version = w }) a b begins history)) history (inl begins) fault
    is.first is.second (read_so header v a before.first.trace before.first.faults now.first on_first is.first is.on_first)
    (read_so header w b before.second.trace before.second.faults now.second on_second is.second is.on_second) is.refused

-- ---- the longer list is found

-- a disk whose count stood still has what it told
has_told : (header : Header) (v : ℕ) (a : List Record) (o : Option Trace) (count : ℕ) (copy : Copy) → Tells header v a (record { trace = o; faults = count })
    → StoodStill (record { trace = o; faults = count }) copy.shown → (r : Reading) → IsOpenedCopy header (record { trace = o; faults = count }) r copy
    → r ≡ Holding v a
has_told header v a None count copy tells still r is = absurd tells
has_told header v a (Some t) count copy tells still (Missing true) is = absurd (some_bytes header v a (seen_of t) tells is.1)
has_told header v a (Some t) count copy tells still (Missing false) is = let risen : count < copy.shown.faults = is.1 still.1 in absurd (omega (arith, risen, still.0))
has_told header v a (Some t) count copy tells still (Holding w b) (None, found, went) = absurd found
has_told header v a (Some t) count copy tells still (Holding w b) (Some u, found, went) =
    let here : Stands (record header { version = w }) b (seen_of t) = subst (Stands (record header { version = w }) b) (ap seen_of found.0) found.1.stands in
    ap (λ (n : ℕ). Holding n b) (the_version header v a (seen_of t) tells w b here) ∙ ap (Holding v) (the_records header v a (seen_of t) tells w b here)
has_told header v a (Some t) count copy tells still (Unfit fault) is = absurd is

pub first_begins : (v : ℕ) (a : List Record) (s : Reading) (version : ℕ) (records : List Record) → Make (Holding v a) s version records → IsPrefix a records
first_begins v a (Missing empty) version records (is, are) = subst (IsPrefix a) (sym are) (prefix_self a)
first_begins v a (Holding w b) version records (agree, inl (begins, is, are)) = subst (IsPrefix a) (sym are) (prefix_self a)
first_begins v a (Holding w b) version records (agree, inr (begins, less, is, are)) = subst (IsPrefix a) (sym are) begins
first_begins v a (Unfit fault) version records made = absurd made

pub second_begins : (w : ℕ) (b : List Record) (r : Reading) (version : ℕ) (records : List Record) → Make r (Holding w b) version records → IsPrefix b records
second_begins w b (Missing empty) version records (is, are) = subst (IsPrefix b) (sym are) (prefix_self b)
second_begins w b (Holding v a) version records (agree, inl (begins, is, are)) = subst (IsPrefix b) (sym are) begins
second_begins w b (Holding v a) version records (agree, inr (begins, less, is, are)) = subst (IsPrefix b) (sym are) (prefix_self b)
second_begins w b (Unfit fault) version records made = absurd made

one_of_both : (v w : ℕ) (a b : List Record) (version : ℕ) (records : List Record) → Make (Holding v a) (Holding w b) version records → (records ≡ a) ⊎ (records ≡ b)
one_of_both v w a b version records (agree, inl (begins, is, are)) = inl are
one_of_both v w a b version records (agree, inr (begins, less, is, are)) = inr are

pub both_longer : BothFindTheLonger
both_longer entry header before book copies v w a b opened shows on_first on_second = (
  λ still. first_begins v a opened.second _ _ (subst (λ (r : Reading). Make r opened.second _ book.ledger.found) (one still) opened.made),
  λ still. second_begins w b opened.first _ _ (subst (λ (s : Reading). Make opened.first s _ book.ledger.found) (other still) opened.made),
  λ still still_too. one_of_both v w a b _ _
      (subst (λ (s : Reading). Make (Holding v a) s _ book.ledger.found) (other still_too) (subst (λ (r : Reading). Make r opened.second _ book.ledger.found) (one still) opened.made)),
)
  where
    the_copies : copies ≡ opened.copies
    the_copies = same_some (sym shows ∙ ap (λ s. s.copies) opened.storage)
      where
        same_some : {x y : Copies} → Some x ≡ Some y → x ≡ y
        same_some e = cc

    one : StoodStill before.first copies.first.shown → opened.first ≡ Holding v a
    one still = has_told header v a before.first.trace before.first.faults opened.copies.first on_first
        (subst (λ (c : Copies). StoodStill before.first c.first.shown) the_copies still) opened.first opened.on_first

    other : StoodStill before.second copies.second.shown → opened.second ≡ Holding w b
    other still = has_told header w b before.second.trace before.second.faults opened.copies.second on_second
        (subst (λ (c : Copies). StoodStill before.second c.second.shown) the_copies still) opened.second opened.on_second
