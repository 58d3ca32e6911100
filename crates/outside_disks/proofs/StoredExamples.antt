-- What one or two disks show, worked out on disks that are numbers: how often they have failed.
use Rattle.std.proofs.Common.{◌≡◌, ◌<◌, ℕ, true, false, refl, inl, inr, arith, ⊎_elim, [], None, Some}
use Rattle.fz_outside.specs.Faults.{last_count}
use Rattle.outside_disks.specs.Disks.{Trace, Shown}
use Rattle.outside_disks.specs.Stored.{Twins, Stored, one_stored, two_stored, stored_as, stored_of, is_two, EachTwin, IsStill, ATwinRose, HasCountRisen}
use Rattle.outside_disks.specs.declared.disks.Disks.TheVariants.{One, Both}

abbrev told : Trace
told = record { start = []; steps = [] }

abbrev show : ℕ → Shown
show faults = record { trace = Some told; faults = faults }

abbrev one : ℕ → Stored
one faults = record { trace = Some told; faults = faults; twins = None }

abbrev twins : (first second : ℕ) → Twins
twins first second = record { first = show first; second = show second }

abbrev two : (first second : ℕ) → Stored
two first second = record { trace = None; faults = 0; twins = Some (twins first second) }

-- ---- what they show

-- one shows all that it shows
one_shows : stored_as show (One 5) ≡ one 5
one_shows = refl

-- two show that each for itself, in their order, and nothing as one
two_show : stored_as show (Both 5 7) ≡ two 5 7
two_show = refl

of_one : stored_of (λ disk. Some told) (λ disk. disk) (One 5) ≡ one 5
of_one = refl

of_two : stored_of (λ disk. Some told) (λ disk. disk) (Both 5 7) ≡ two 5 7
of_two = refl

-- a disk that tells nothing
untold : stored_of (λ disk. None) (λ disk. disk) (One 5) ≡ record { trace = None; faults = 5; twins = None }
untold = refl

one_is_one : is_two (one_stored (show 5)).twins ≡ false
one_is_one = refl

two_are_two : is_two (two_stored (twins 5 7)).twins ≡ true
two_are_two = refl

-- ---- no call failed

still : IsStill (one 5) (one 5)
still = (refl, tt)

one_failed : IsStill (one 5) (one 6) → ⊥
one_failed (same, each) = let h : 6 ≡ 5 = same in omega (arith, h)

both_still : IsStill (two 5 7) (two 5 7)
both_still = (refl, (refl, refl))

the_first_failed : IsStill (two 5 7) (two 6 7) → ⊥
the_first_failed (same, (first, second)) = let h : 6 ≡ 5 = first in omega (arith, h)

the_second_failed : IsStill (two 5 7) (two 5 8) → ⊥
the_second_failed (same, (first, second)) = let h : 8 ≡ 7 = second in omega (arith, h)

-- ---- two stay two

abbrev NoLess : Shown → Shown → Type 0
NoLess before after = before.faults ≡ after.faults

both_go_on : EachTwin NoLess (Some (twins 5 7)) (Some (twins 5 7))
both_go_on = (refl, refl)

no_twins_go_on : EachTwin NoLess None None
no_twins_go_on = tt

changed_places : EachTwin NoLess (Some (twins 5 7)) (Some (twins 7 5)) → ⊥
changed_places (first, second) = let h : 5 ≡ 7 = first in omega (arith, h)

none_is_added : EachTwin NoLess None (Some (twins 5 7)) → ⊥
none_is_added each = each

none_is_lost : EachTwin NoLess (Some (twins 5 7)) None → ⊥
none_is_lost each = each

-- ---- a count rose

one_rose : HasCountRisen (one 5) (one 6)
one_rose = inl (refl, λ below. omega arith)

one_stood : HasCountRisen (one 5) (one 5) → ⊥
one_stood = ⊎_elim (λ (is, rose). let h : 5 < 5 = rose (omega arith) in omega (arith, h)) (λ rose. rose)

the_first_rose : ATwinRose (Some (twins 5 7)) (Some (twins 6 7))
the_first_rose = inl (λ below. omega arith)

the_second_rose : HasCountRisen (two 5 7) (two 5 8)
the_second_rose = inr (inr (λ below. omega arith))

both_stood : ATwinRose (Some (twins 5 7)) (Some (twins 5 7)) → ⊥
both_stood = ⊎_elim (λ rose. let h : 5 < 5 = rose (omega arith) in omega (arith, h)) (λ rose. let h : 7 < 7 = rose (omega arith) in omega (arith, h))

-- nothing rises as one count where there are two disks
not_as_one : HasCountRisen (two 5 7) (two 5 7) → ⊥
not_as_one = ⊎_elim (λ (is, rose). let no : Some (twins 5 7) ≡ None = is in cc no) both_stood

none_rose : ATwinRose None None → ⊥
none_rose rose = rose

-- a count at its last value may stand still
at_the_last : HasCountRisen (one last_count) (one last_count)
at_the_last = inl (refl, λ below. omega (arith, below))
