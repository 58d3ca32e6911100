-- Journals made up to one that isn't.
use Rattle.std.proofs.Common.{◌≡◌, ◌<◌, ◌≤◌, ◌∙◌, ℕ, List, [], length, Option, Some, None, refl, subst, sym, arith}
use Rattle.std.proofs.lemmas.Bool.{cases_order}
use Rattle.std.specs.Prelude.{◌≢◌, Err, IfErr, IfSome, IsErrAnd, IsSome, Ok, OnOk, Result, option_map, ⊤}
use mathlib.Core.Logic.{◌⊎◌, inl, inr}
use Rattle.fz_outside.specs.Faults.{HasCause}
use Rattle.outside_disks.specs.Disks.{Shown, Trace, seen_of}
use Rattle.outside_disks.specs.Stored.{EachTwin, HasCountRisen, Stored, Twins, one_stored, two_stored}
use Rattle.journal_records.specs.declared.records.Header.{Header}
use Rattle.budget_journal.specs.Journals.{IsAtRest, TellsSome}
use Rattle.budget_ledger.specs.Both.{HasMade, IsBothInitFault, IsUntouched}
use Rattle.budget_journal.specs.declared.making.InitFault.{InitFault}
use Rattle.budget_journal.specs.declared.making.InitFault.TheVariants.{AlreadyThere, DiskFault}
use Rattle.catalog_loading.specs.Loaded.{Loading, new_header, owner_name_at, owners_in}
use Rattle.owner_books.specs.Shelves.{BothGo, EachDisk, IsStanding, NoOtherRose, OneStands, Shelf, StandsStill}
use Rattle.owner_books.specs.Making.{AreMadeBefore, AreUntouched, IsMade, IsMakeStop, IsNotMade, IsThere, IsTwinMade, IsUnmade, IsUnmadeStop, MayHaveFailed, Turned}
use Rattle.owner_books.proofs.Disks.{same_still}
use Rattle.catalog_loading.specs.declared.stops.Stop.{Stop}
use Rattle.catalog_loading.specs.declared.stops.Stop.TheVariants.{Journal, Disk, NoMemory}

abbrev Goings : Type 1
Goings = Stored → Stored → Type 0

pub turned : (Goes : Goings) (old new : Option Stored) (before : Stored) → Turned Goes old new → old ≡ Some before
    → (after : Stored) × (new ≡ Some after) × Goes before after
turned Goes (Some b) (Some a) before goes is = let same : b ≡ before = cc is in (a, refl, subst (λ (s : Stored). Goes s a) same goes)
turned Goes (Some b) None before goes is = absurd goes
turned Goes None new before goes is = absurd goes

pub turned_more : (Goes More : Goings) (old new : Option Stored) → ((b a : Stored) → Goes b a → More b a) → Turned Goes old new → Turned More old new
turned_more Goes More (Some b) (Some a) more goes = more b a goes
turned_more Goes More (Some b) None more goes = goes
turned_more Goes More None new more goes = goes

-- the journals before an owner's are made, and its disk turned
made_before : (loading : Loading) (key : List ℕ) (o : ℕ) (Goes : Goings) (old mid new : Shelf)
    → EachDisk o (λ p. IsMade (new_header loading key p)) old mid → Turned Goes (mid o) (new o) → ((p : ℕ) → p ≢ o → new p ≡ mid p)
    → AreMadeBefore loading key o Goes old new
made_before loading key o Goes old mid new made turn others = record {
  made = λ p before less is.
      let done = made.owned p before less is in
      (done.0, others p (λ same. omega (arith, less, same)) ∙ done.1, done.2);
  here = λ before is. turned Goes (mid o) (new o) before turn (made.others o (omega arith) ∙ is);
  behind = λ p less. others p (λ same. omega (arith, less, same)) ∙ made.others p (omega (arith, less));
}

-- journals were made where no count rose
made_stands : (header : Header) (before after : Option Twins) → EachTwin (IsTwinMade header) before after → BothGo OneStands before after
made_stands header None None made = tt
made_stands header None (Some after) made = absurd made
made_stands header (Some before) None made = absurd made
made_stands header (Some before) (Some after) made = inl made.0.counts

-- no other owner's disk has failed
pub no_other_made : (loading : Loading) (key : List ℕ) (o : ℕ) (Goes : Goings) (old new : Shelf) → AreMadeBefore loading key o Goes old new → NoOtherRose o old new
no_other_made loading key o Goes old new made p isnt = here (cases_order p o)
  where
    here : (p ≡ o) ⊎ ((p < o) ⊎ (o < p)) → StandsStill p old new
    here (inr (inl less)) = λ before after was is.
        let done = made.made p before less was in
        let one : done.0 ≡ after = let e : Some done.0 ≡ Some after = sym done.1 ∙ is in cc e in
        subst (IsStanding before) one (done.2.counts, made_stands (new_header loading key p) before.twins done.0.twins done.2.twins)
    here (inl is) = absurd (isnt is)
    here (inr (inr past)) = same_still p old new (made.behind p past)

-- how long the disk is that isn't empty
there : (n : ℕ) (old new : Option Stored) → Turned (IsUnmade (AlreadyThere n)) old new → (1 ≤ n) × IsThere n old
there n (Some b) (Some a) unmade = (unmade.0, unmade.1)
there n (Some b) None unmade = absurd unmade
there n None new unmade = absurd unmade

-- two stay two
abbrev StayTwo : Option Twins → Option Twins → Type 0
StayTwo before after = BothGo (λ b a. ⊤) before after

stay_two : (Go : Twins → Twins → Type 0) (before after : Option Twins) → BothGo Go before after → StayTwo before after
stay_two Go None None go = tt
stay_two Go None (Some a) go = absurd go
stay_two Go (Some b) None go = absurd go
stay_two Go (Some b) (Some a) go = tt

failed : (fault : InitFault) (b a : Stored) → IsUnmade fault b a → MayHaveFailed b a
failed (AlreadyThere n) b a unmade = (unmade.2.counts, inl unmade.2, stay_two AreUntouched b.twins a.twins unmade.2.twins)
failed DiskFault b a unmade = unmade

-- a disk that the bay didn't give is as it was
untouched : (shown : Shown) → IsUntouched shown shown
untouched shown = record { same = refl; later = omega arith }

told : (trace : Option Trace) (P : Type 0) → P → IfSome trace (λ t. P)
told None P p = tt
told (Some t) P p = p

both_untouched : (twins : Option Twins) → BothGo AreUntouched twins twins
both_untouched None = tt
both_untouched (Some twins) = (untouched twins.second, told twins.second.trace (IsUntouched twins.first twins.first) (untouched twins.first))

not_made : (stored : Stored) → IsNotMade stored stored
not_made stored = record { synced = inl refl; counts = omega arith; twins = both_untouched stored.twins }

may_have : (stored : Stored) → MayHaveFailed stored stored
may_have stored = (omega arith, inl (not_made stored), stay_two AreUntouched stored.twins stored.twins (both_untouched stored.twins))

pub untaken : (fault : InitFault) (old new : Option Stored) → IsSome old → new ≡ old → fault ≡ DiskFault → Turned (IsUnmade fault) old new
untaken (AlreadyThere n) old new home same is = cc is
untaken DiskFault (Some b) (Some a) home same is =
    let one : a ≡ b = cc same in
    subst (λ (s : Stored). MayHaveFailed b s) (sym one) (may_have b)
untaken DiskFault (Some b) None home same is = cc same
untaken DiskFault None new home same is = cc home

-- ---- one disk, or two

abbrev shown_as : Option Trace → ℕ → Shown
shown_as trace faults = record { trace = trace; faults = faults }

one_there : (n : ℕ) (trace : Option Trace) → ((t : Trace) → trace ≡ Some t → n ≡ length (seen_of t)) → IfSome (option_map seen_of trace) (λ bytes. length bytes ≡ n)
one_there n None long = tt
one_there n (Some t) long = sym (long t refl)

pub one_unmade : (fault : InitFault) (t u : Option Trace) (m n : ℕ)
    → ((k : ℕ) → fault ≡ AlreadyThere k → (k ≢ 0) × (u ≡ t) × ((x : Trace) → t ≡ Some x → k ≡ length (seen_of x)))
    → HasCause m n (fault ≡ DiskFault) → IsUnmade fault (one_stored (shown_as t m)) (one_stored (shown_as u n))
one_unmade (AlreadyThere k) t u m n there cause =
    let is = there k refl in
    (grind (arith, is.0), (one_there k t is.2, tt), record { synced = inl is.1; counts = cause.later; twins = tt })
one_unmade DiskFault t u m n there cause = (cause.later, inr (inl (refl, cause.failed refl)), tt)

bytes_same : (n : ℕ) (P : List ℕ → Type 0) (trace : Option Trace) → ((bytes : List ℕ) → n ≡ length bytes → P bytes) → IfSome trace (λ t. n ≡ length (seen_of t)) → IfSome trace (λ t. P (seen_of t))
bytes_same n P None same is = tt
bytes_same n P (Some t) same is = same (seen_of t) is

pub two_unmade : (header : Header) (fault : InitFault) (before after : Twins) → IsBothInitFault header before after fault → IsUnmade fault (two_stored before) (two_stored after)
two_unmade header (AlreadyThere n) before after (some, second, inl (long, first)) = (
  grind (arith, some),
  (tt, inl (bytes_same n (λ bytes. length bytes ≡ n) before.first.trace (λ bytes is. sym is) long)),
  record {
    synced = inl refl;
    counts = omega arith;
    twins = (second, told before.second.trace (IsUntouched before.first after.first) first);
  },
)
two_unmade header (AlreadyThere n) before after (some, second, inr (empty, long, first)) = (
  grind (arith, some),
  (tt, inr (empty, bytes_same n (λ bytes. length bytes ≡ n) before.second.trace (λ bytes is. sym is) long)),
  record {
    synced = inl refl;
    counts = omega arith;
    twins = (second, first);
  },
)
two_unmade header DiskFault before after (inl (broken, second)) = (omega arith, inr (inr (inl broken.risen)), tt)
two_unmade header DiskFault before after (inr (broken, first)) = (omega arith, inr (inr (inr broken.risen)), tt)

pub two_risen : (header : Header) (fault : InitFault) (before after : Twins) → IsBothInitFault header before after fault → fault ≡ DiskFault → HasCountRisen (two_stored before) (two_stored after)
two_risen header (AlreadyThere n) before after unmade is = cc is
two_risen header DiskFault before after (inl (broken, second)) is = inr (inl broken.risen)
two_risen header DiskFault before after (inr (broken, first)) is = inr (inr broken.risen)

pub one_made : {T E : Type 0} (header : Header) (t u : Option Trace) (m n : ℕ) (result : Result T E)
    → OnOk result ((x : Trace) → t ≡ Some x → (seen_of x ≡ []) × TellsSome (IsAtRest header []) u) → OnOk result (n ≡ m)
    → OnOk result (IsMade header (one_stored (shown_as t m)) (one_stored (shown_as u n)))
one_made header t u m n (Ok x) made same = record { made = made; counts = same; twins = tt }
one_made header t u m n (Err e) made same = tt

not_told : {P : Type 0} (t : Trace) → None ≡ Some t → P
not_told t is = absurd (cc is)

pub two_made : (header : Header) (before after : Twins) → HasMade header before.first after.first → HasMade header before.second after.second → IsMade header (two_stored before) (two_stored after)
two_made header before after first second = record {
  made = λ t is. not_told t is;
  counts = refl;
  twins = (record { made = first.made; counts = first.still }, record { made = second.made; counts = second.still });
}

pub making_stopped : (loading : Loading) (key : List ℕ) (o : ℕ) (old mid new : Shelf) (fault : InitFault) (stop : Stop)
    → EachDisk o (λ p. IsMade (new_header loading key p)) old mid → Turned (IsUnmade fault) (mid o) (new o) → ((p : ℕ) → p ≢ o → new p ≡ mid p)
    → o < owners_in loading → IsUnmadeStop (owner_name_at loading o) fault stop → IsMakeStop loading key old new stop
making_stopped loading key o old mid new (AlreadyThere n) (Journal line) made turn others within is =
    let long = there n (mid o) (new o) turn in (
      o,
      n,
      within,
      long.0,
      subst (IsThere n) (made.others o (omega arith)) long.1,
      is,
      made_before loading key o IsNotMade old mid new made (turned_more (IsUnmade (AlreadyThere n)) IsNotMade (mid o) (new o) (λ b a unmade. unmade.2) turn) others,
    )
making_stopped loading key o old mid new DiskFault (Disk line) made turn others within is =
    (o, within, is, made_before loading key o MayHaveFailed old mid new made turn others)
making_stopped loading key o old mid new fault NoMemory made turn others within is = inr (
  o,
  within,
  made_before loading key o MayHaveFailed old mid new made
      (turned_more (IsUnmade fault) MayHaveFailed (mid o) (new o) (failed fault) turn) others,
)
making_stopped loading key o old mid new (AlreadyThere n) stop made turn others within is = absurd is
making_stopped loading key o old mid new DiskFault stop made turn others within is = absurd is

-- where memory ran out before any was made
pub none_stopped : {T : Type 0} (loading : Loading) (key : List ℕ) (shelf : Shelf) (stop : Stop) (result : Result T Stop) → stop ≡ NoMemory → IsErrAnd result (λ e. e ≡ stop)
    → IfErr result (IsMakeStop loading key shelf shelf)
none_stopped loading key shelf stop (Ok x) is same = tt
none_stopped loading key shelf stop (Err e) is same = subst (IsMakeStop loading key shelf shelf) (sym (same ∙ is)) (inl (λ n. refl))
