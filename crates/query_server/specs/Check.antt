-- `check`: a program is checked.
use Rattle.std.specs.Prelude.{◌≡◌, ◌⊎◌, true, false, ℕ, List, ◌++◌, Some, codes}
use Rattle.fz_ast.specs.Signature.{Signature}
use Rattle.fz_frac.specs.Distance.{Distance}
use Rattle.wire_lines.specs.Refusal.{by_program}
use Rattle.wire_lines.specs.Reply.{refused as refused_reply, sensitivity_text, reply_text}
use Rattle.generated_run.specs.AnswerPath.Reading.{Reading, IsReading}
use Rattle.generated_run.specs.AnswerPath.Admission.{HasTooManyWalks, Admission, refused_for, walks_too_much, accepted, admission_of}
use Rattle.outside_bays.specs.Bays.{Same}
use Rattle.catalog_loading.specs.Steps.{FileStep, ◌>>=◌, done, file_read, from}
use Rattle.catalog_loading.specs.Loaded.{catalog_read, entry_named, owner_loaded}
use Rattle.query_server.specs.Work.{Work, to_check}
use Rattle.query_server.specs.Duty.{Duty, Kind}
use Rattle.query_server.specs.declared.end.Status.{Status}
use Rattle.query_server.specs.declared.end.Status.TheVariants.{Done, NoMemory, ProgramRefused}
use Rattle.query_server.specs.Status.{memory_text}

-- CATALOG, then OWNER in it, then the tables of all owners, then FILE
abbrev pub check_steps : (catalog owner file : List ℕ) → FileStep Work
check_steps catalog owner file = do
  house ← catalog_read catalog
  entry ← from (entry_named house owner)
  holding ← owner_loaded house owner
  program ← file_read file
  done (to_check holding.tables program)

abbrev pub check_kind : (catalog owner file : List ℕ) → Kind
check_kind catalog owner file = record { steps = check_steps catalog owner file; source = false; disks = false; doors = false; program = true }

-- the line of an accepted program with this sensitivity
abbrev pub accepted_text : Distance → List ℕ
accepted_text r = codes "ok " ++ sensitivity_text r ++ codes "\n"

-- the status and the text of what a program comes to
abbrev pub status_by : Admission → Status
status_by (refused_for refusal) = ProgramRefused
status_by walks_too_much = NoMemory
status_by (accepted e r) = Done

abbrev pub text_by : Admission → List ℕ
text_by (refused_for refusal) = reply_text (refused_reply (by_program refusal))
text_by walks_too_much = memory_text
text_by (accepted e r) = accepted_text r

-- What is due to a program over these tables: its bytes have a reading, and by the typing rules and the run without data that
-- comes to this status and this text. To a program that takes too many walks nothing is due: it ends for want of memory.
pub record IsProgramDue (tables : Signature) (program : List ℕ) (status : Status) (text : List ℕ) : Type 0 where
  pub reading : Reading
  pub reads : IsReading program reading
  pub is_status : status ≡ status_by (admission_of tables reading)
  pub is_text : text ≡ text_by (admission_of tables reading)
  pub walks : HasTooManyWalks tables program → ⊥

abbrev pub check_duty : (tables : Signature) (program : List ℕ) → Duty
check_duty tables program = record {
  due = λ old new script. IsProgramDue tables program;
  may_stop = Same;
  names_disk = λ old new text. ⊥;
  statuses = λ status. (status ≡ Done) ⊎ (status ≡ ProgramRefused);
  admits = Some (tables, program);
}
