-- what is said of a program that is refused, and of one that is accepted
use Rattle.std.proofs.Common.{◌≡◌, ℕ, List, refl, sym, ◌∙◌, ap, subst}
use Rattle.std.specs.Prelude.{ℤ}
use Rattle.fz_ast.specs.Signature.{Signature}
use Rattle.fz_ast.specs.Terms.{Term}
use Rattle.fz_frac.specs.Distance.{Distance}
use Rattle.fz_frac.specs.Sens.{distance_of}
use Rattle.metric_law.specs.Means.{Means}
use Rattle.metric_values.specs.Tables.{Dataset, apart, rows_of}
use Rattle.metric_values.specs.Values.{NumV}
use Rattle.wire_lines.specs.Refusal.{ProgramRefusal, Refusal, by_disk, by_line, by_money, by_number, by_program, no_memory}
use Rattle.wire_lines.specs.Reply.{refused, reply_text}
use Rattle.generated_run.specs.AnswerPath.AcceptedProgram.{Accepted}
use Rattle.generated_run.specs.AnswerPath.Code.{IsAccepted, IsProgramRefusal, IsRefusedFor}
use Rattle.generated_run.specs.AnswerPath.Reading.{IsReading, read}
use Rattle.generated_run.specs.AnswerPath.Admission.{HasTooManyWalks, HasValue, Admission, refused_for, walks_too_much, accepted, admission_of}
use Rattle.generated_run.proofs.AnswerPath.Told.{accepted_walks_little, refused_walks_little}
use Rattle.query_server.specs.Check.{IsProgramDue, accepted_text, status_by, text_by}
use Rattle.query_server.specs.Gap.{IsGapBy, IsGapDue, gap_text}
use Rattle.query_server.specs.declared.end.Status.{Status}
use Rattle.query_server.specs.declared.end.Status.TheVariants as code

-- a program's refusal that isn't want of memory is one of the program
pub refused_by_program : (tables : Signature) (program : List ℕ) (refusal : Refusal) → (refusal ≡ no_memory → ⊥) → IsProgramRefusal tables program refusal
    → (its : ProgramRefusal) × (refusal ≡ by_program its) × IsRefusedFor tables program its
refused_by_program tables program (by_program its) some is = (its, refl, is)
refused_by_program tables program no_memory some is = absurd (some refl)
refused_by_program tables program (by_line wrong) some is = absurd is
refused_by_program tables program (by_money wrong) some is = absurd is
refused_by_program tables program (by_disk wrong) some is = absurd is
refused_by_program tables program (by_number wrong) some is = absurd is

pub program_refused : (tables : Signature) (program text : List ℕ) (refusal : ProgramRefusal) → IsRefusedFor tables program refusal → text ≡ reply_text (refused (by_program refusal))
    → IsProgramDue tables program code.ProgramRefused text
program_refused tables program text refusal (reading, reads, is) same = record {
  reading = reading;
  reads = reads;
  is_status = sym (ap status_by is);
  is_text = same ∙ sym (ap text_by is);
  walks = refused_walks_little tables program refusal (reading, reads, is);
}

-- the same by the line that was made of it
pub program_told : (tables : Signature) (program text : List ℕ) (refusal : Refusal) → IsProgramRefusal tables program refusal → (refusal ≡ no_memory → ⊥)
    → text ≡ reply_text (refused refusal) → IsProgramDue tables program code.ProgramRefused text
program_told tables program text refusal is some same =
    let by = refused_by_program tables program refusal some is in
    program_refused tables program text by.0 by.2 (same ∙ ap (λ r. reply_text (refused r)) by.1)

-- of one that is accepted
pub program_accepted : (tables : Signature) (program text : List ℕ) (a : Accepted) → IsAccepted tables program a → text ≡ accepted_text (distance_of a.sens) → IsProgramDue tables program code.Done text
program_accepted tables program text a is same = record {
  reading = read a.term;
  reads = is.reads;
  is_status = sym (ap status_by is.accepts);
  is_text = same ∙ sym (ap text_by is.accepts);
  walks = accepted_walks_little tables program a is;
}

-- the same of two datasets
pub gap_refused : (tables : Signature) (X Y : Dataset) (program text : List ℕ) (refusal : ProgramRefusal) → IsRefusedFor tables program refusal → text ≡ reply_text (refused (by_program refusal))
    → IsGapDue tables X Y program code.ProgramRefused text
gap_refused tables X Y program text refusal (reading, reads, is) same = record {
  reading = reading;
  reads = reads;
  due = subst (λ (j : Admission). IsGapBy j tables X Y program code.ProgramRefused text) (sym is) (refl, same);
  walks = refused_walks_little tables program refusal (reading, reads, is);
}

pub gap_told : (tables : Signature) (X Y : Dataset) (program text : List ℕ) (refusal : Refusal) → IsProgramRefusal tables program refusal → (refusal ≡ no_memory → ⊥)
    → text ≡ reply_text (refused refusal) → IsGapDue tables X Y program code.ProgramRefused text
gap_told tables X Y program text refusal is some same =
    let by = refused_by_program tables program refusal some is in
    gap_refused tables X Y program text by.0 by.2 (same ∙ ap (λ r. reply_text (refused r)) by.1)

pub gap_accepted : (tables : Signature) (X Y : Dataset) (program text : List ℕ) (e : Term) (r : Distance) (y z : ℤ) → IsReading program (read e) → admission_of tables (read e) ≡ accepted e r
    → (HasTooManyWalks tables program → ⊥) → Means (rows_of tables X) e (NumV y) → Means (rows_of tables Y) e (NumV z) → text ≡ gap_text (apart X Y) r y z → IsGapDue tables X Y program code.Done text
unfolding HasValue
gap_accepted tables X Y program text e r y z reads is walks first second same = record {
  reading = read e;
  reads = reads;
  due = subst (λ (j : Admission). IsGapBy j tables X Y program code.Done text) (sym is) (y, z, (e, reads, first), (e, reads, second), refl, same);
  walks = walks;
}

-- an admission gives the status
pub gap_status : (admission : Admission) (tables : Signature) (X Y : Dataset) (program : List ℕ) (status : Status) (text : List ℕ) → IsGapBy admission tables X Y program status text → status ≡ status_by admission
gap_status (refused_for refusal) tables X Y program status text due = due.0
gap_status walks_too_much tables X Y program status text due = absurd due
gap_status (accepted e r) tables X Y program status text (y, z, first, second, is, same) = is
