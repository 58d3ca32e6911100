-- An answer as a release's text has it.
use Rattle.std.specs.Prelude.{ℤ}
use Rattle.std.specs.Fmt.{signed_decimal}
use Rattle.fz_ast.specs.Limits.{IsNumber}
use Rattle.release_texts.specs.Fronts.{Spells}

-- what is written for a number within the limits spells it
abbrev pub NumbersAreSpelled : Type 0
NumbersAreSpelled = (v : ℤ) → IsNumber v → Spells v (signed_decimal v)
