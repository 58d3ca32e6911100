use Rattle.std.proofs.Common.{◌∙◌, ap, List, ℕ, subst, sym}
use Rattle.sha2.specs.Sha256.{sha256}
use Rattle.fz_ast.specs.Terms.{Term}
use Rattle.answer_path.specs.Reading.{read, IsReading}
use Rattle.answer_path.specs.Code.{IsAdmitted}
use Rattle.answer_path.proofs.Told.{term_undecided}
use Rattle.answer_path.proofs.deciding.decide.Goals as goal

pub returns-in-Err-clause-undecided : goal.returns-in-Err-clause-undecided
returns-in-Err-clause-undecided c = c.in-Err.ensures.refused c.args.sig.now

pub returns-in-Ok-admit_apart-clause-decided : goal.returns-in-Ok-admit_apart-clause-decided
returns-in-Ok-admit_apart-clause-decided c =
    let admitted = c.in-Ok-admit_apart.ensures.admitted in
    let reads = subst (λ (bytes : List ℕ). IsReading bytes (read c.term.result.now)) c.in-Ok.ensures.program c.term.ensures in
    record {
      reads = subst (λ (e : Term). IsReading c.args.bytes.now (read e)) (sym admitted.checked.term) reads;
      admitted = subst (λ (e : Term). IsAdmitted c.args.sig.now e c.in-Ok-admit_apart.admitted) (sym admitted.checked.term) admitted;
      digest = c.digest-digest.ensures ∙ ap sha256 c.in-Ok.ensures.program;
    }

pub returns-in-Err-admit_apart-clause-undecided : goal.returns-in-Err-admit_apart-clause-undecided
returns-in-Err-admit_apart-clause-undecided c =
    term_undecided c.args.sig.now c.args.bytes.now c.term.result.now c.in-Err-admit_apart.unadmitted
    (subst (λ (bytes : List ℕ). IsReading bytes (read c.term.result.now)) c.in-Ok.ensures.program c.term.ensures) c.in-Err-admit_apart.ensures.unadmitted
