-- what may become of the owners' disks
use Rattle.std.proofs.Common.{◌≡◌, ℕ, ◌+◌, ◌<◌, ◌≤◌, Option, Some, None, refl, sym, ◌∙◌, subst, arith}
use mathlib.Core.Logic.{◌⊎◌, inl, inr}
use Rattle.std.proofs.lemmas.Bool.{cases_lt}
use Rattle.fz_outside.specs.Faults.{HasRisen}
use Rattle.outside_disks.specs.Disks.{Shown}
use Rattle.outside_disks.specs.Stored.{ATwinRose, EachTwin, HasCountRisen, Stored, Twins}
use Rattle.budget_ledger.specs.Both.{IsLeft}
use Rattle.owner_books.specs.Shelves.{AreGone, AreLost, AreSynced, BothGo, EachDisk, IsOnlySynced, IsStanding, IsUnwritten, NothingWritten, OneDisk, OneStands, Shelf, SomeRose, StandsStill}

pub left_same : (shown : Shown) → IsLeft shown shown
left_same shown = record { synced = inl refl; counts = omega arith }

both_same : (twins : Option Twins) → BothGo AreSynced twins twins
both_same None = tt
both_same (Some twins) = (inl (left_same twins.first), inl (left_same twins.second))

pub synced_same : (stored : Stored) → IsOnlySynced stored stored
synced_same stored = record { synced = inl refl; counts = omega arith; twins = both_same stored.twins }

each_same : (twins : Option Twins) → EachTwin IsLeft twins twins
each_same None = tt
each_same (Some twins) = (left_same twins.first, left_same twins.second)

pub unwritten_same : (stored : Stored) → IsUnwritten stored stored
unwritten_same stored = record { synced = inl refl; counts = omega arith; twins = each_same stored.twins }

-- disks that weren't taken
pub became_same : (n : ℕ) (shelf : Shelf) → EachDisk n (λ _. IsOnlySynced) shelf shelf
became_same n shelf = record { owned = λ o before less at. (before, at, synced_same before); others = λ o past. refl }

-- so nothing was written
pub nothing_same : (shelf : Shelf) → NothingWritten shelf shelf
nothing_same shelf o before at = (before, at, synced_same before)

pub nothing_written : (n : ℕ) (b a : Shelf) → EachDisk n (λ _. IsOnlySynced) b a → NothingWritten b a
nothing_written n b a each o before at = here (cases_lt o n)
  where
    here : (o < n) ⊎ (n ≤ o) → (now : Stored) × (a o ≡ Some now) × IsOnlySynced before now
    here (inl less) = each.owned o before less at
    here (inr past) = (before, each.others o past ∙ at, synced_same before)

-- a disk that is as it was
pub one_same : (o : ℕ) (Goes : Stored → Stored → Type 0) (shelf : Shelf) → ((before : Stored) → Goes before before) → OneDisk o Goes shelf shelf
one_same o Goes shelf goes = record { here = λ before at. (before, at, goes before); elsewhere = λ p isnt. refl }

-- the count of a disk that is as it was, or of which it is known what it shows
both_stand : (twins : Option Twins) → BothGo OneStands twins twins
both_stand None = tt
both_stand (Some twins) = inl refl

pub standing_same : (stored : Stored) → IsStanding stored stored
standing_same stored = (refl, both_stand stored.twins)

pub same_still : (o : ℕ) (old new : Shelf) → new o ≡ old o → StandsStill o old new
same_still o old new same before after was is =
    let one : before ≡ after = let e : Some before ≡ Some after = sym was ∙ sym same ∙ is in cc e in
    subst (IsStanding before) one (standing_same before)

pub shown_still : (o : ℕ) (old new : Shelf) (last : Stored) → new o ≡ Some last → ((before : Stored) → old o ≡ Some before → IsStanding before last) → StandsStill o old new
shown_still o old new last shows counts before after was is =
    let one : last ≡ after = let e : Some last ≡ Some after = sym shows ∙ is in cc e in
    subst (IsStanding before) one (counts before was)

-- counts that rose at last, or in between, have risen since before
pub risen_from : (old mid late new : ℕ) → old ≤ mid → mid ≤ late → late ≤ new → HasRisen mid late → HasRisen old new
risen_from old mid late new first second third rose = λ low. grind (arith, first, second, third, rose, low)

-- what is before the next place, and not the last one, is before that
pub before_last : (o n : ℕ) → o < n + 1 → (o ≡ n → ⊥) → o < n
before_last o n less isnt = grind (arith, less, isnt)

-- where a disk is lost its count rose, and where two are one's did
gone_rose : (before after : Option Twins) → AreGone before after → ATwinRose before after
gone_rose (Some before) (Some after) (inl (first, second)) = inl first
gone_rose (Some before) (Some after) (inr (inl (first, empty))) = inl first
gone_rose (Some before) (Some after) (inr (inr (empty, second))) = inr second
gone_rose (Some before) None gone = absurd gone
gone_rose None after gone = absurd gone

pub lost_rose : (before after : Stored) → AreLost before after → HasCountRisen before after
lost_rose before after (inl one) = inl one
lost_rose before after (inr gone) = inr (gone_rose before.twins after.twins gone)

pub some_rose : (o : ℕ) (before after : Stored) (old new : Shelf) → old o ≡ Some before → new o ≡ Some after → AreLost before after → SomeRose old new
some_rose o before after old new was is lost = (o, before, after, was, is, lost_rose before after lost)
