-- What is written of an accepted program is judged, and with the checker's number.
use Rattle.std.specs.Prelude.{◌≡◌, [], ◌∷◌, Some, ⊤}
use Rattle.fz_frac.specs.Distance.{Distance}
use Rattle.fz_frac.specs.Lowest.{lowest}
use Rattle.fz_ast.specs.Limits.{TermLimits}
use Rattle.fz_ast.specs.Signature.{IsSignature, Signature}
use Rattle.fz_ast.specs.Terms.{Term}
use Rattle.fz_derive.specs.Judged.{IsJudged, names_of}
use Rattle.fz_derive.specs.Least.{Derived, least, lines_of}
use Rattle.derivation_lines.specs.Readable.{IsWord}
use Rattle.fz_derive.specs.Names.{EveryName}
use Rattle.derivation_lines.specs.Written.{derivation_text}
use Rattle.linear_types.specs.Program.{Accepted, sensitivity_of}
use Rattle.linear_types.specs.Sensitivities.{Sensitivities}

-- each table's name is one of the language
abbrev pub AreWords : Signature → Type 0
AreWords [] = ⊤
AreWords (t ∷ ts) = IsWord t.name × AreWords ts

-- The least derivation of an accepted program is judged to be a derivation of it, and its number is the one that the checker finds, in
-- lowest terms. A program that was read from bytes has names of the language.
abbrev pub DerivedIsJudged : Type 0
DerivedIsJudged =
    (ts : Signature) (e : Term) (D : Sensitivities) (r : Distance) (d : Derived) → IsSignature ts → AreWords ts → TermLimits e → EveryName IsWord e
    → sensitivity_of ts e ≡ Accepted D r → least (names_of ts) e ≡ Some d → IsJudged ts e (derivation_text (lines_of d)) (lowest r)
