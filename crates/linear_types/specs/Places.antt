-- What a list of kept sensitivities stands for, and what a call that makes one answers.
use Rattle.std.specs.Prelude.{◌≡◌, true, false, List, [], ◌∷◌, map, ⊤, Result, Ok, Err}
use Rattle.fz_frac.specs.Distance.{Distance, ◌≈◌}
use Rattle.fz_frac.specs.Lowest.{is_out}
use Rattle.fz_frac.specs.Sens.{distance_of}
use Rattle.fz_frac.specs.declared.frac.Range.{Range as OutOfRange}
use Rattle.fz_frac.specs.declared.sens.Sens.{Sens}
use Rattle.linear_types.specs.Sensitivities.{Sensitivities}
use Rattle.linear_types.specs.Inferred.{any_out}
use Rattle.linear_types.specs.declared.places.EnvFault.{EnvFault}
use Rattle.linear_types.specs.declared.places.EnvFault.TheVariants.{Range, NoMemory}

abbrev pub distances : List Sens → Sensitivities
distances = map distance_of

-- as many, and the same numbers
abbrev pub AllAlike : Sensitivities → Sensitivities → Type 0
AllAlike [] [] = ⊤
AllAlike (t ∷ D) (u ∷ E) = (t ≈ u) × AllAlike D E
AllAlike D E = ⊥

pub record AreAlike (D E : Sensitivities) : Type 0 where
  pub all : AllAlike D E

-- the sensitivities D, which are in range
pub record IsGiven (v : List Sens) (D : Sensitivities) : Type 0 where
  pub in_range : any_out D ≡ false
  pub alike : AreAlike (distances v) D

-- why D isn't given: some of it is out of range, or memory is wanted
abbrev pub IsCause : EnvFault → Sensitivities → Type 0
IsCause Range D = any_out D ≡ true
IsCause NoMemory D = ⊤

-- d, or it is out of range
abbrev pub IsAnswer : Result Sens OutOfRange → Distance → Type 0
IsAnswer (Ok s) d = distance_of s ≈ d
IsAnswer (Err f) d = is_out d ≡ true

-- an answer for the first of D, and E is the others
pub record IsNext (r : Result Sens OutOfRange) (D E : Sensitivities) : Type 0 where
  pub amount : Distance
  pub is : D ≡ amount ∷ E
  pub answer : IsAnswer r amount
