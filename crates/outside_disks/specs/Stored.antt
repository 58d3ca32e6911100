-- What the disks of one journal show.
use Rattle.std.specs.Prelude.{◌≡◌, ◌⊎◌, ⊤, ℕ, Bool, true, false, Option, None, Some}
use Rattle.fz_outside.specs.Faults.{HasRisen}
use Rattle.outside_disks.specs.Disks.{Trace, Shown}
use Rattle.outside_disks.specs.declared.disks.Disks.{Disks}
use Rattle.outside_disks.specs.declared.disks.Disks.TheVariants.{One, Both}

-- two disks
pub record Twins : Type 0 where
  pub first : Shown
  pub second : Shown

-- One disk shows what was done to it, where that is told, and how many calls have failed. Two show that each for itself, and nothing as one.
pub record Stored : Type 0 where
  pub trace : Option Trace
  pub faults : ℕ
  pub twins : Option Twins

abbrev pub one_stored : Shown → Stored
one_stored shown = record { trace = shown.trace; faults = shown.faults; twins = None }

abbrev pub two_stored : Twins → Stored
two_stored twins = record { trace = None; faults = 0; twins = Some twins }

-- what disks show, by what one shows
abbrev pub stored_as : {D : Type 0} → (D → Shown) → Disks D → Stored
stored_as show (One disk) = one_stored (show disk)
stored_as show (Both first second) = two_stored (record { first = show first; second = show second })

abbrev pub stored_of : {D : Type 0} → (trace : D → Option Trace) → (faults : D → ℕ) → Disks D → Stored
stored_of trace faults disks = stored_as (λ disk. record { trace = trace disk; faults = faults disk }) disks

-- whether these are two disks
abbrev pub is_two : Option Twins → Bool
is_two None = false
is_two (Some twins) = true

-- ---- from one moment to a later one

-- Two disks stay two, and each goes on like this.
abbrev pub EachTwin : (Shown → Shown → Type 0) → Option Twins → Option Twins → Type 0
EachTwin Goes None None = ⊤
EachTwin Goes (Some before) (Some after) = Goes before.first after.first × Goes before.second after.second
EachTwin Goes None (Some after) = ⊥
EachTwin Goes (Some before) None = ⊥

-- no call has failed
abbrev pub IsStill : (before after : Stored) → Type 0
IsStill before after = (after.faults ≡ before.faults) × EachTwin (λ b a. a.faults ≡ b.faults) before.twins after.twins

-- a count of one of two disks rose
abbrev pub ATwinRose : Option Twins → Option Twins → Type 0
ATwinRose (Some before) (Some after) = HasRisen before.first.faults after.first.faults ⊎ HasRisen before.second.faults after.second.faults
ATwinRose before after = ⊥

-- a count rose: the one disk's, or one of the two
abbrev pub HasCountRisen : (before after : Stored) → Type 0
HasCountRisen before after = ((before.twins ≡ None) × HasRisen before.faults after.faults) ⊎ ATwinRose before.twins after.twins
