-- What is written of a program.
use Rattle.std.specs.Prelude.{◌≡◌, ◌<◌, ◌≤◌, ℕ, List, length, Some}
use Rattle.fz_frac.specs.Distance.{Distance}
use Rattle.fz_ast.specs.Signature.{Signature}
use Rattle.fz_ast.specs.Terms.{Term}
use Rattle.fz_derive.specs.Judged.{names_of}
use Rattle.fz_derive.specs.Least.{Derived, least, lines_of}
use Rattle.derivation_lines.specs.Written.{derivation_text, longest}
use Rattle.sensitivity_check.specs.Answered.{IsFirstFault}
use Rattle.linear_types.specs.Program.{Accepted, sensitivity_of}
use Rattle.linear_types.specs.Sensitivities.{Sensitivities}
use Rattle.least_derivation.specs.declared.derived.DeriveFault.{DeriveFault}
use Rattle.least_derivation.specs.declared.derived.DeriveFault.TheVariants.{Check, TooLong}

-- the typing rules accept the program
abbrev pub IsAccepted : Signature → Term → Type 0
IsAccepted ts e = (D : Sensitivities) × (r : Distance) × (sensitivity_of ts e ≡ Accepted D r)

-- the bytes are the program's least derivation, and aren't too many
abbrev pub IsDerivationOf : Signature → Term → List ℕ → Type 0
IsDerivationOf ts e text = (d : Derived) × (least (names_of ts) e ≡ Some d) × (text ≡ derivation_text (lines_of d)) × (length text ≤ longest)

-- the bytes of the program's least derivation are too many
abbrev pub IsTooLong : Signature → Term → Type 0
IsTooLong ts e = (d : Derived) × (least (names_of ts) e ≡ Some d) × (longest < length (derivation_text (lines_of d)))

-- the program's first fault, or an accepted program has a derivation that is too long
abbrev pub ExplainsDerive : Signature → Term → DeriveFault → Type 0
ExplainsDerive ts e (Check fault) = IsFirstFault ts e fault
ExplainsDerive ts e TooLong = IsAccepted ts e
