use Rattle.derivation_commands.proofs.Verdicts.{judged_no}
use Rattle.derivation_commands.proofs.judge.judge_claim.Goals as goal

pub returns-in-Err-Line : goal.returns-in-Err-Line
returns-in-Err-Line c =
    let claim = c.args.claim.now in
    judged_no claim.subject.tables _ claim.subject.program.items _ claim.derivation.items _ c.in-Ok.term _ c.in-Err-Line.at c.deref.ensures.value c.deref-2.ensures.value
    c.in-Ok.ensures.term c.in-Err-Line.ensures.fault c.in-Err-Line.field-0-is c.in_ok-fault_line-in-Err-Line.ensures
