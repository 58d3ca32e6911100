-- What a bay shows, worked out on homes that are numbers: how often the one disk there has failed.
use Rattle.std.proofs.Common.{◌≡◌, ℕ, true, false, zero, suc, List, [], ◌∷◌, refl, sym, ap, arith, Bool, if◌then◌else◌, Option, None, Some}
use Rattle.outside_disks.specs.Stored.{Stored, one_stored, two_stored}
use Rattle.outside_disks.specs.declared.disks.Disks.TheVariants.{One, Both}
use Rattle.outside_disks.specs.declared.real.FilePlace.{FilePlace}
use Rattle.outside_bays.specs.Places.{fresh_home, home_shown, place_shown}
use Rattle.outside_bays.specs.Bays.{Changes, Same, shelf_of}
use Rattle.outside_bays.proofs.Shelves.{not-equal}

abbrev show : ℕ → Stored
show faults = one_stored (record { trace = None; faults = faults })

-- two homes, of which the disk of the second is taken
abbrev disks : List (Option ℕ)
disks = Some 5 ∷ None ∷ []

at_home : shelf_of show disks 0 ≡ Some (show 5)
at_home = refl

taken : shelf_of show disks 1 ≡ None
taken = refl

past_the_owners : shelf_of show disks 2 ≡ None
past_the_owners = refl

-- the shelves when the second was put back
put_back : Changes 1 (Some (show 7)) (shelf_of show disks) (shelf_of show (Some 5 ∷ Some 7 ∷ []))
put_back zero = refl
put_back (suc zero) = refl
put_back (suc (suc n)) = ap (λ (b : Bool). if b then Some (show 7) else None) (sym (not-equal (suc (suc n)) 1 (λ is. omega (arith, is))))

abbrev faults_of : Option Stored → ℕ
faults_of None = 0
faults_of (Some stored) = stored.faults

another_changed : Changes 1 (Some (show 7)) (shelf_of show disks) (shelf_of show (Some 6 ∷ Some 7 ∷ [])) → ⊥
another_changed changes = let h : 6 ≡ 5 = ap faults_of (changes 0) in omega (arith, h)

not_put_back : Changes 1 (Some (show 7)) (shelf_of show disks) (shelf_of show disks) → ⊥
not_put_back changes = let h : 0 ≡ 7 = ap faults_of (changes 1) in omega (arith, h)

not_the_same : Same (shelf_of show disks) (shelf_of show (Some 6 ∷ None ∷ [])) → ⊥
not_the_same same = let h : 6 ≡ 5 = ap faults_of (same 0) in omega (arith, h)

-- ---- places of files

no_fault_yet : fresh_home false ≡ record { trace = None; faults = 0; twins = None }
no_fault_yet = refl

two_places : fresh_home true
    ≡ record { trace = None; faults = 0; twins = Some (record { first = record { trace = None; faults = 0 }; second = record { trace = None; faults = 0 } }) }
two_places = refl

a_place_that_failed : (place : FilePlace) → place.faults ≡ 3 → (home_shown (One place)).faults ≡ 3
a_place_that_failed place is = is

-- of two places each shows its own count
each_place : (first second : FilePlace) → home_shown (Both first second) ≡ two_stored (record { first = place_shown first; second = place_shown second })
each_place first second = refl
