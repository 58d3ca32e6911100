-- What the judge answers.
use Rattle.std.specs.Prelude.{◌≡◌, ℕ, true, false, List, Option, Some, None, ⊤}
use Rattle.fz_ast.specs.Signature.{Signature}
use Rattle.fz_ast.specs.Terms.{Term}
use Rattle.fz_frac.specs.Distance.{Fin}
use Rattle.fz_frac.specs.declared.frac.Frac.{Frac}
use Rattle.fz_derive.specs.Judged.{IsMisjudged, greatest_said, is_bounded}
use Rattle.derivation_lines.specs.Lines.{Line}
use Rattle.derivation_lines.specs.declared.line.JudgeFault.{JudgeFault}
use Rattle.derivation_lines.specs.declared.line.JudgeFault.TheVariants.{Line as AtLine, NoMemory}

-- the greatest of what it says, or it isn't bounded
abbrev pub IsBoundedBy : Option Frac → Line → Type 0
IsBoundedBy (Some r) l = (is_bounded l ≡ true) × (Fin r.p r.q ≡ greatest_said l.says)
IsBoundedBy None l = is_bounded l ≡ false

-- the line is the least at fault, or memory ran out
abbrev pub ExplainsJudge : Signature → Term → List ℕ → JudgeFault → Type 0
ExplainsJudge ts e bytes (AtLine k) = IsMisjudged ts e bytes k
ExplainsJudge ts e bytes NoMemory = ⊤

-- the line is this place, or memory ran out
abbrev pub ExplainsPlace : Option ℕ → JudgeFault → Type 0
ExplainsPlace o (AtLine k) = o ≡ Some k
ExplainsPlace o NoMemory = ⊤
