-- a derivation that is refused
use Rattle.std.proofs.Common.{◌≡◌, ℕ, List, ap, subst}
use mathlib.Core.Logic.{inr}
use Rattle.fz_ast.specs.Signature.{Signature}
use Rattle.fz_ast.specs.Terms.{Term}
use Rattle.answer_path.specs.Reading.{IsReading, read}
use Rattle.derivation_lines.specs.declared.line.JudgeFault.{JudgeFault}
use Rattle.derivation_lines.specs.declared.line.JudgeFault.TheVariants.{Line}
use Rattle.fz_derive.specs.Answered.{ExplainsJudge}
use Rattle.fz_derive.specs.Judged.{IsMisjudged}
use Rattle.derivation_commands.specs.Outcome.{IsJudgeOutcome, no_text, refused}

pub judged_no : (tables : Signature) (given program bytes derivation line : List ℕ) (e : Term) (fault : JudgeFault) (k : ℕ) → given ≡ program → bytes ≡ derivation → IsReading given (read e)
    → ExplainsJudge tables e bytes fault → fault ≡ Line k → line ≡ no_text k → IsJudgeOutcome tables program derivation (refused line)
judged_no tables given program bytes derivation line e fault k same also reads explains is text =
    let wrong : IsMisjudged tables e bytes k = subst (ExplainsJudge tables e bytes) is explains in
    record {
      reading = read e;
      reads = subst (λ (w : List ℕ). IsReading w (read e)) same reads;
      due = inr (k, subst (λ (w : List ℕ). IsMisjudged tables e w k) also wrong, ap refused text);
    }
