use Rattle.std.proofs.Common.{◌≡◌, ◌∙◌, ap, subst}
use Rattle.fz_ast.specs.Signature.{Signature}
use Rattle.fz_ast.specs.Terms.{Term}
use Rattle.fz_frac.specs.Sens.{distance_of}
use Rattle.metric_law.specs.Means.{Means}
use Rattle.metric_values.specs.Tables.{apart, rows_of}
use Rattle.metric_values.specs.Values.{NumV}
use Rattle.generated_run.specs.AnswerPath.Reading.{read}
use Rattle.generated_run.specs.AnswerPath.Admission.{accepted, admission_of}
use Rattle.wire_lines.specs.Refusal.{refusal_at}
use Rattle.generated_run.specs.AnswerPath.Code.{IsAdmitted, IsProgramRefusal}
use Rattle.generated_run.proofs.AnswerPath.Told.{admitted_walks_little, term_refused}
use Rattle.query_server.specs.Gap.{gap_text}
use Rattle.query_server.proofs.Admitted.{gap_accepted, gap_told}
use Rattle.query_server.proofs.gap.compare.Goals as goal

pub returns-in-Err : goal.returns-in-Err
returns-in-Err c =
    let tables = c.args.first.now.tables in
    let said = c.in_ok-refusal_line-in-Err.ensures in
    gap_told tables c.args.first.now.rows c.args.second.now.rows c.args.program.now _ (refusal_at c.in-Err.refusal) (c.in-Err.ensures.refused tables) said.some said.line

pub returns-in-Err-admit : goal.returns-in-Err-admit
returns-in-Err-admit c =
    let program = c.args.program.now in
    let refusal = refusal_at c.in-Err-admit.refusal in
    let said = c.in_ok-refusal_line-in-Err-admit.ensures in
    gap_told c.args.first.now.tables c.args.first.now.rows c.args.second.now.rows program _ refusal
    (subst (λ (ts : Signature). IsProgramRefusal ts program refusal) c.tables_of.ensures.tables
    (term_refused c.tables_of.result.now program c.in-Ok.term refusal c.in-Ok.ensures.term c.in-Err-admit.ensures.refused)) said.some said.line

pub returns : goal.returns
returns c =
    let tables = c.args.first.now.tables in
    let X = c.args.first.now.rows in
    let Y = c.args.second.now.rows in
    let e = c.in-Ok.term in
    let admitted = c.in-Ok-admit.ensures.admitted in
    let r = distance_of c.in-Ok-admit.admitted.checked.sens in
    let found = c.in_ok-comparison.comparison in
    gap_accepted tables X Y c.args.program.now _ e r found.first found.second c.in-Ok.ensures.term
    (subst (λ (ts : Signature). admission_of ts (read e) ≡ accepted e r) c.tables_of.ensures.tables admitted.accepts)
    (admitted_walks_little tables c.args.program.now e c.in-Ok-admit.admitted c.in-Ok.ensures.term (subst (λ (ts : Signature). IsAdmitted ts e c.in-Ok-admit.admitted) c.tables_of.ensures.tables admitted))
    (subst (λ (d : Term). Means (rows_of tables X) d (NumV found.first)) admitted.checked.term c.in_ok-comparison.ensures.first)
    (subst (λ (d : Term). Means (rows_of tables Y) d (NumV found.second)) admitted.checked.term c.in_ok-comparison.ensures.second)
    (c.in_ok-comparison_lines.ensures ∙ ap (λ distance. gap_text distance (distance_of found.sens) found.first found.second) c.in_ok-comparison.ensures.distance
    ∙ ap (λ sens. gap_text (apart X Y) (distance_of sens) found.first found.second) c.in_ok-comparison.ensures.sens)
