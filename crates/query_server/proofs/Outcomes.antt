-- what is written at the end of a command, and what follows from it
use Rattle.std.proofs.Common.{arith, ◌≡◌, ℕ, ◌≤◌, Bool, true, false, List, [], ◌∷◌, ◌++◌, append-nil, length, Option, Some, None, refl, sym, ap, subst, ◌∙◌}
use Rattle.fz_ast.specs.Signature.{Signature}
use Rattle.std.specs.Io.KnownBytes.{append_known}
use Rattle.std.specs.Prelude.{Result, Ok, Err, IsSome, MatchBool}
use Rattle.budget_core.specs.declared.answers.Left.{Left}
use Rattle.budget_core.specs.declared.answers.GrantRefusal.{GrantRefusal}
use Rattle.budget_core.specs.declared.answers.GrantRefusal.TheVariants.{TooLarge, Full}
use Rattle.query_server.specs.Grant.{verdict_on, verdict_status}
use mathlib.Core.Logic.{◌⊎◌, inl, inr}
use Rattle.word_streams.specs.Draws.{draws_of}
use Rattle.generated_run.specs.AnswerPath.Reading.{Reading, IsReading}
use Rattle.generated_run.specs.AnswerPath.Admission.{HasTooManyWalks, Admission, refused_for, walks_too_much, accepted, admission_of}
use Rattle.generated_run.proofs.AnswerPath.Readings.{one_reading}
use Rattle.generated_run.proofs.AnswerPath.Walking.{admitted_so}
use Rattle.metric_values.specs.Tables.{Dataset}
use Rattle.generated_run.specs.SessionCore.Transcript.{Journals}
use Rattle.command_words.specs.Command.{Command, command_of}
use Rattle.query_server.specs.Work.{Work, usage, refused, to_answer, to_make, to_count, to_grant, to_check, to_compare, to_serve, to_generate, of_derivation}
use Rattle.derivation_commands.specs.Task.{Task, to_derive, to_judge}
use Rattle.derivation_commands.specs.Outcome.{IsOutcomeOf, Outcome, refused as refused_one, too_long, written as written_one}
use Rattle.derivation_commands.proofs.Unique.{never_too_long, one_outcome}
use Rattle.query_server.specs.Derivation.{IsOutcomeDue, outcome_status, outcome_text, task_statuses}
use Rattle.catalog_loading.specs.Files.{Contents, ReadsToCome, always}
use Rattle.catalog_loading.specs.Steps.{done}
use Rattle.catalog_loading.specs.Loaded.{Loading, in_versions}
use Rattle.owner_books.specs.Shelves.{Shelf}
use Rattle.owner_books.specs.Opened.{AreOpened, house_in}
use Rattle.query_server.specs.Run.{IsScriptAnswered, script_limit}
use Rattle.query_server.specs.Check.{status_by}
use Rattle.query_server.specs.Gap.{IsGapDue}
use Rattle.query_server.specs.Status.{refused_text, memory_text}
use Rattle.query_server.specs.Due.{AreRead, ForContents, IfFinished, IsDiskLine, IsDue, IsForProgram, IsOfDerive, IsOfDisks, IsOfGrant, IsOfProgram, IsOfRun, IsBeginning, IsStopLine, IsToWrite, IsWrittenAt, MayStop, work_of, files_of, command_steps, duty_of, command_kind}
use Rattle.query_server.specs.Promise.{IsAnsweredScript, IsRunLeft}
use Rattle.query_server.specs.Ends.{Ended, IsCut, IsEndOf, IsEndingWith, IsStepEnd, status_at, text_at}
use Rattle.query_server.specs.Taken.{IsTaken, IsTakenAt}
use Rattle.query_server.specs.declared.end.Status.{Status}
use Rattle.query_server.specs.declared.end.Status.TheVariants as code
use Rattle.catalog_loading.specs.declared.stops.Stop.TheVariants.{Usage, Fault, NoMemory}
use Rattle.query_server.proofs.Admitted.{gap_status}
use Rattle.query_server.proofs.Contents.{at_held, at_some, at_told, for_contents}
use Rattle.query_server.proofs.Prefixes.{prefix_empty, prefix_of_prefix, prefix_whole}
use Rattle.query_server.proofs.Ends.{took_passed}
use Rattle.query_server.proofs.Endings.{ComesTo, answers, checks, compares, counts, derives, grants, judges, makes, no_command, refuses, serves, house_by, work_comes}
use Rattle.query_server.proofs.Disks.{may_stop_same}
use Rattle.query_server.proofs.Owed.{histories}
use Rattle.owner_books.proofs.Versions.{lawful_in}
use Rattle.generated_run.proofs.Scripts.{owed_of}
use Rattle.generated_run.proofs.SessionLaws.Kept.{kept}
use Rattle.owner_house.proofs.Owners.{register_owners}

-- The end's text is written whole or in part: so it is written what is due.
cut_line : (ending : Work) (b a : Shelf) (end : Ended) → IsCut ending b a end → (end ≡ Err Fault) ⊎ IsStopLine ending b a (status_at end) (text_at end)
cut_line ending b a end (inl fault) = inl fault
cut_line ending b a end (inr (inl memory)) = inr (inl (ap status_at memory, ap text_at memory))
cut_line ending b a end (inr (inr (line, disk, is))) = inr (inr (ap status_at disk, subst (IsDiskLine ending b a) (sym (ap text_at disk)) is))

pub written_by : (end : Ended) (status : Status) (text : List ℕ) → IsEndingWith end status text → (ending : Work) (b a : Shelf) (script : List ℕ) → IsEndOf ending b a script end → IsWrittenAt ending b a script status text
written_by end status text with ending b a script is = here is
  where
    whole : IsToWrite ending b a script (status_at end) (text_at end) → ((status ≡ status_at end) × (text ≡ text_at end)) ⊎ (status ≡ code.Fault) → IsWrittenAt ending b a script status text
    whole due (inl (same, all)) =
        inl (subst (λ (s : Status). IsToWrite ending b a script s text) (sym same) (subst (λ (t : List ℕ). IsToWrite ending b a script (status_at end) t) (sym all) due))
    whole due (inr fault) = inr (fault, (status_at end, text_at end, due, with.prefix))

    nothing : end ≡ Err Fault → MayStop ending b a → ((status ≡ status_at end) × (text ≡ text_at end)) ⊎ (status ≡ code.Fault) → IsWrittenAt ending b a script status text
    nothing fault may (inl (same, all)) =
        inr (same ∙ ap status_at fault, (code.NoMemory, memory_text, inr (inl (refl, refl), may), prefix_empty text with.prefix.0 (sym (ap text_at fault) ∙ with.prefix.1) memory_text))
    nothing fault may (inr same) =
        inr (same, (code.NoMemory, memory_text, inr (inl (refl, refl), may), prefix_empty text with.prefix.0 (sym (ap text_at fault) ∙ with.prefix.1) memory_text))

    cut : (end ≡ Err Fault) ⊎ IsStopLine ending b a (status_at end) (text_at end) → MayStop ending b a → IsWrittenAt ending b a script status text
    cut (inl fault) may = nothing fault may with.whole
    cut (inr line) may = whole (inr (line, may)) with.whole

    here : IsEndOf ending b a script end → IsWrittenAt ending b a script status text
    here (inl due) = whole (inl due) with.whole
    here (inr (stopped, may)) = cut (cut_line ending b a end stopped) may

-- what is due, where nothing failed and memory sufficed
pub finished_due : (ending : Work) (b a : Shelf) (script : List ℕ) (status : Status) (text : List ℕ) → IsWrittenAt ending b a script status text → IfFinished status (IsDue ending b a script status text)
finished_due ending b a script status text (inl (inl due)) = inr (inr (inr due))
finished_due ending b a script status text (inl (inr (inl memory, may))) = inr (inl memory.0)
finished_due ending b a script status text (inl (inr (inr disk, may))) = inr (inr (inl disk.0))
finished_due ending b a script status text (inr (fault, is)) = inl fault

pub finished_map : (status : Status) (P Q : Type 0) → (P → Q) → IfFinished status P → IfFinished status Q
finished_map status P Q f (inl fault) = inl fault
finished_map status P Q f (inr (inl memory)) = inr (inl memory)
finished_map status P Q f (inr (inr (inl disk))) = inr (inr (inl disk))
finished_map status P Q f (inr (inr (inr p))) = inr (inr (inr (f p)))

-- at a status of none of these
finished_at : (status : Status) (P : Type 0) → (status ≡ code.Fault → ⊥) → (status ≡ code.NoMemory → ⊥) → (status ≡ code.DiskFault → ⊥) → IfFinished status P → P
finished_at status P fault memory disk (inl is) = absurd (fault is)
finished_at status P fault memory disk (inr (inl is)) = absurd (memory is)
finished_at status P fault memory disk (inr (inr (inl is))) = absurd (disk is)
finished_at status P fault memory disk (inr (inr (inr p))) = p

no_verdict : (admission : Admission) (status : Status) → (admission ≡ walks_too_much → ⊥) → status ≡ status_by admission → (status ≡ code.Done) ⊎ (status ≡ code.ProgramRefused)
no_verdict (refused_for refusal) status little is = inr is
no_verdict walks_too_much status little is = absurd (little refl)
no_verdict (accepted e r) status little is = inl is

gap_verdict : (tables : Signature) (X Y : Dataset) (program : List ℕ) (status : Status) (text : List ℕ) → IsGapDue tables X Y program status text → (status ≡ code.Done) ⊎ (status ≡ code.ProgramRefused)
gap_verdict tables X Y program status text due =
    no_verdict (admission_of tables due.reading) status (λ is. due.walks (admitted_so tables program due.reading due.reads is)) (gap_status (admission_of tables due.reading) tables X Y program status text due.due)

-- the status of a grant that is answered
verdict_ends : (verdict : Result Left GrantRefusal) (status : Status) → status ≡ verdict_status verdict
    → (status ≡ code.Done) ⊎ ((status ≡ code.TooLarge) ⊎ ((status ≡ code.JournalFull) ⊎ (status ≡ code.JournalRefused)))
verdict_ends (Ok left) status is = inl is
verdict_ends (Err (TooLarge budget amount)) status is = inr (inl is)
verdict_ends (Err (Full used unsettled capacity)) status is = inr (inr (inl is))

-- the status of what comes of a task
task_status : (task : Task) (outcome : Outcome) (status : Status) → IsOutcomeOf task outcome → status ≡ outcome_status outcome → task_statuses task status
task_status (to_derive subject) (written_one text) status of is = inl is
task_status (to_derive subject) (refused_one line) status of is = inr (inl is)
task_status (to_derive subject) too_long status of is = inr (inr is)
task_status (to_judge subject derivation) (written_one text) status of is = inl is
task_status (to_judge subject derivation) (refused_one line) status of is = inr is
task_status (to_judge subject derivation) too_long status of is = absurd (never_too_long subject derivation of)

-- the statuses of each work
abbrev pub IsStatusOf : Work → Status → Type 0
IsStatusOf work = (duty_of work).statuses

pub due_status : (ending : Work) (b a : Shelf) (script : List ℕ) (status : Status) (text : List ℕ) → IsDue ending b a script status text → IsStatusOf ending status
due_status usage b a script status text due = due.0
due_status (refused name) b a script status text due = due.0
due_status (to_answer workers loading key) b a script status text (inl due) = inr (inr due.is_status)
due_status (to_answer workers loading key) b a script status text (inr (versions, found, opened, inl due)) = inl due.0
due_status (to_answer workers loading key) b a script status text (inr (versions, found, opened, inr due)) = inr (inl due.0)
due_status (to_make loading key) b a script status text (inl due) = inl due.0
due_status (to_make loading key) b a script status text (inr due) = inr due.is_status
due_status (to_count loading key) b a script status text (inl due) = inr due.is_status
due_status (to_count loading key) b a script status text (inr (versions, found, opened, is, due, disks)) = inl is
due_status (to_serve workers each loading key) b a script status text (inl due) = inr due.is_status
due_status (to_serve workers each loading key) b a script status text (inr (versions, found, opened, is, none, held)) = inl is
due_status (to_generate seed asks) b a script status text due = due.0
due_status (to_grant amount one) b a script status text (inl due) = inr (inr (inr due.is_status))
due_status (to_grant amount one) b a script status text (inr due) = verdict_ends (verdict_on one due.version due.found amount) status due.is_status
due_status (to_check tables program) b a script status text due = no_verdict (admission_of tables due.reading) status (λ is. due.walks (admitted_so tables program due.reading due.reads is)) due.is_status
due_status (to_compare tables X Y program) b a script status text due = gap_verdict tables X Y program status text due
due_status (of_derivation task) b a script status text (outcome, of, is, same) = task_status task outcome status of is

-- the status of what is written, where it is of no failure
pub status_written : (work : Work) (b a : Shelf) (script : List ℕ) (status wanted : Status) (text : List ℕ) → IsWrittenAt work b a script status text → status ≡ wanted → (wanted ≡ code.Fault → ⊥)
    → (wanted ≡ code.NoMemory → ⊥) → (wanted ≡ code.DiskFault → ⊥) → IsStatusOf work wanted
status_written work b a script status wanted text written is fault memory disk =
    subst (IsStatusOf work) is
    (due_status work b a script status text (finished_at status (IsDue work b a script status text) (λ w. fault (sym is ∙ w)) (λ w. memory (sym is ∙ w)) (λ w. disk (sym is ∙ w))
    (finished_due work b a script status text written)))

-- the name that is refused
refused_only : (ending : Work) → IsStatusOf ending code.Refused → (name : List ℕ) × (ending ≡ refused name)
refused_only usage is = cc
refused_only (refused name) is = (name, refl)
refused_only (of_derivation (to_derive subject)) is = absurd (grind (arith, is))
refused_only (of_derivation (to_judge subject derivation)) is = absurd (grind (arith, is))
refused_only ending is = absurd (grind (arith, is))

refused_text_of : (ending : Work) (name : List ℕ) (b a : Shelf) (script : List ℕ) (status : Status) (text : List ℕ) → ending ≡ refused name → IsDue ending b a script status text → text ≡ refused_text name
refused_text_of ending name b a script status text is due = (subst (λ (e : Work). IsDue e b a script status text) is due).1

pub name_by : (ending : Work) (b a : Shelf) (script : List ℕ) (status : Status) (text : List ℕ) → status ≡ code.Refused → IsWrittenAt ending b a script status text
    → (name : List ℕ) × (ending ≡ refused name) × (text ≡ refused_text name)
name_by ending b a script status text is written =
    let due = finished_at status (IsDue ending b a script status text) (λ w. cc) (λ w. cc) (λ w. cc) (finished_due ending b a script status text written) in
    let named = refused_only ending (subst (IsStatusOf ending) is (due_status ending b a script status text due)) in
    (named.0, named.1, refused_text_of ending named.0 b a script status text named.1 due)

-- what is said of a program
pub program_by : (ending : Work) (b a : Shelf) (tables : Signature) (program script : List ℕ) (status : Status) (text : List ℕ) → ending ≡ to_check tables program → IsWrittenAt ending b a script status text
    → IsWrittenAt (to_check tables program) b a [] status text
program_by ending b a tables program script status text is written = subst (λ (e : Work). IsWrittenAt e b a script status text) is written

pub comparison_by : (ending : Work) (b a : Shelf) (tables : Signature) (X Y : Dataset) (program script : List ℕ) (status : Status) (text : List ℕ) → ending ≡ to_compare tables X Y program
    → IsWrittenAt ending b a script status text → IsWrittenAt (to_compare tables X Y program) b a [] status text
comparison_by ending b a tables X Y program script status text is written = subst (λ (e : Work). IsWrittenAt e b a script status text) is written

some_same : {A : Type 0} (a b : A) → Some a ≡ Some b → a ≡ b
some_same a b is = cc

-- a verdict on these tables and this program is by the program's one reading
admitted_by : (over tables : Signature) (other program : List ℕ) (given reading : Reading) (status : Status) → IsForProgram tables program (to_check over other) → IsReading other given
    → status ≡ status_by (admission_of over given) → IsReading program reading → status ≡ status_by (admission_of tables reading)
admitted_by over tables other program given reading status same reads is read =
    let both = some_same {A = Signature × List ℕ} (over, other) (tables, program) same in
    let bytes = ap (λ (p : Signature × List ℕ). p.1) both in
    let one = one_reading program given reading (subst (λ (p : List ℕ). IsReading p given) bytes reads) read in
    is ∙ ap (λ (p : Signature × List ℕ). status_by (admission_of p.0 given)) both ∙ ap (λ (r : Reading). status_by (admission_of tables r)) one

verdict_due : (work : Work) (b a : Shelf) (tables : Signature) (program script : List ℕ) (reading : Reading) (status : Status) (text : List ℕ) → IsForProgram tables program work → IsReading program reading
    → IsDue work b a script status text → status ≡ status_by (admission_of tables reading)
verdict_due (to_check over other) b a tables program script reading status text is reads due = admitted_by over tables other program due.reading reading status is due.reads due.is_status reads
verdict_due (to_compare over X Y other) b a tables program script reading status text is reads due =
    admitted_by over tables other program due.reading reading status is due.reads (gap_status (admission_of over due.reading) over X Y other status text due.due) reads
verdict_due work b a tables program script reading status text is reads due = absurd (cc is)

pub verdict_by : (ending : Work) (b a : Shelf) (tables : Signature) (program script : List ℕ) (reading : Reading) (status : Status) (text : List ℕ) → IsForProgram tables program ending → IsReading program reading
    → IsWrittenAt ending b a script status text → IfFinished status (status ≡ status_by (admission_of tables reading))
verdict_by ending b a tables program script reading status text is reads written =
    finished_map status (IsDue ending b a script status text) (status ≡ status_by (admission_of tables reading)) (verdict_due ending b a tables program script reading status text is reads)
    (finished_due ending b a script status text written)

-- to a program that takes too many walks nothing is due, and no disk is named: so memory ran out, or something failed
no_verdict_due : (work : Work) (b a : Shelf) (tables : Signature) (program script : List ℕ) (status : Status) (text : List ℕ) → IsForProgram tables program work → HasTooManyWalks tables program
    → IsDue work b a script status text → ⊥
no_verdict_due (to_check over other) b a tables program script status text is walks due =
    due.walks (subst (λ (p : Signature × List ℕ). HasTooManyWalks p.0 p.1) (sym (some_same (over, other) (tables, program) is)) walks)
no_verdict_due (to_compare over X Y other) b a tables program script status text is walks due =
    due.walks (subst (λ (p : Signature × List ℕ). HasTooManyWalks p.0 p.1) (sym (some_same (over, other) (tables, program) is)) walks)
no_verdict_due work b a tables program script status text is walks due = absurd (cc is)

no_disk_named : (work : Work) (b a : Shelf) (tables : Signature) (program text : List ℕ) → IsForProgram tables program work → IsDiskLine work b a text → ⊥
no_disk_named (to_check over other) b a tables program text is named = named
no_disk_named (to_compare over X Y other) b a tables program text is named = named
no_disk_named work b a tables program text is named = absurd (cc is)

pub walks_by : (ending : Work) (b a : Shelf) (tables : Signature) (program script : List ℕ) (status : Status) (text : List ℕ) → IsForProgram tables program ending → HasTooManyWalks tables program
    → IsWrittenAt ending b a script status text → (status ≡ code.NoMemory) ⊎ (status ≡ code.Fault)
walks_by ending b a tables program script status text is walks (inl (inl due)) = absurd (no_verdict_due ending b a tables program script status text is walks due)
walks_by ending b a tables program script status text is walks (inl (inr (inl memory, may))) = inl memory.0
walks_by ending b a tables program script status text is walks (inl (inr (inr disk, may))) = absurd (no_disk_named ending b a tables program text is disk.1)
walks_by ending b a tables program script status text is walks (inr (fault, cut)) = inr fault

-- what comes of a task is its one outcome
outcome_by : (work : Work) (b a : Shelf) (task : Task) (outcome : Outcome) (script : List ℕ) (status : Status) (text : List ℕ) → work ≡ of_derivation task → IsOutcomeOf task outcome
    → IsDue work b a script status text → (status ≡ outcome_status outcome) × (text ≡ outcome_text outcome)
outcome_by work b a task outcome script status text is of due = same (subst (λ (w : Work). IsDue w b a script status text) is due)
  where
    same : IsOutcomeDue task status text → (status ≡ outcome_status outcome) × (text ≡ outcome_text outcome)
    same (its, has, at, line) = let one = one_outcome task its outcome has of in (at ∙ ap outcome_status one, line ∙ ap outcome_text one)

pub task_by : (work : Work) (b a : Shelf) (task : Task) (outcome : Outcome) (script : List ℕ) (status : Status) (text : List ℕ) → work ≡ of_derivation task → IsOutcomeOf task outcome
    → IsWrittenAt work b a script status text → IfFinished status ((status ≡ outcome_status outcome) × (text ≡ outcome_text outcome))
task_by work b a task outcome script status text is of due =
    finished_map status (IsDue work b a script status text) ((status ≡ outcome_status outcome) × (text ≡ outcome_text outcome)) (outcome_by work b a task outcome script status text is of)
    (finished_due work b a script status text due)

-- the commands of a status
pub usage_of : (command : Option Command) (work : Work) → ComesTo command work → IsStatusOf work code.Usage → command ≡ None
usage_of command work no_command is = refl
usage_of command work other is = absurd (grind (arith, is))

pub program_of : (command : Option Command) (work : Work) → ComesTo command work → IsStatusOf work code.ProgramRefused → IsOfProgram command
program_of command work checks is = refl
program_of command work compares is = refl
program_of command work derives is = refl
program_of command work judges is = refl
program_of command work other is = absurd (grind (arith, is))

pub run_of : (command : Option Command) (work : Work) → ComesTo command work → IsStatusOf work code.ScriptTooLong → IsOfRun command
run_of command work answers is = refl
run_of command work other is = absurd (grind (arith, is))

pub grant_of : (command : Option Command) (work : Work) → ComesTo command work → IsStatusOf work code.TooLarge ⊎ IsStatusOf work code.JournalFull → IsOfGrant command
grant_of command work (grants {catalog = catalog} {key = key} {owner = owner} {amount = amount}) is = (catalog, key, owner, amount, refl)
grant_of command work other (inl is) = absurd (grind (arith, is))
grant_of command work other (inr is) = absurd (grind (arith, is))

pub derive_of : (command : Option Command) (work : Work) → ComesTo command work → IsStatusOf work code.DerivationTooLong → IsOfDerive command
derive_of command work (derives {catalog = catalog} {owner = owner} {file = file}) is = (catalog, owner, file, refl)
derive_of command work other is = absurd (grind (arith, is))

-- a journal is refused to a command that takes the owners' disks
pub disks_of : (command : Option Command) (work : Work) → ComesTo command work → IsStatusOf work code.JournalRefused → IsOfDisks command
disks_of command work answers is = refl
disks_of command work makes is = refl
disks_of command work counts is = refl
disks_of command work serves is = refl
disks_of command work grants is = refl
disks_of command work other is = absurd (grind (arith, is))

-- a script that is answered
answered_by : (words : List (List ℕ)) (reads : ReadsToCome) (b a : Shelf) (script text : List ℕ) (workers : ℕ) (loading : Loading) (key : List ℕ) → work_of words reads ≡ to_answer workers loading key
    → (versions : List ℕ) (found : Journals) → AreOpened loading key b a versions found → length script ≤ script_limit → IsScriptAnswered (in_versions loading versions) key workers b a found script text
    → IsAnsweredScript words reads b a script text
answered_by words reads b a script text workers loading key work versions found opened short answered =
    let house = house_by words reads workers loading key work in
    let owners = register_owners (in_versions loading versions).register (lawful_in loading versions house.lawful.lawful opened.counted).register in
    let histories = histories loading key b a versions found house.lawful.lawful opened in
    record {
      workers = workers;
      loading = loading;
      key = key;
      house = house;
      short = short;
      versions = versions;
      found = found;
      opened = opened;
      answered = answered;
      owed = owed_of (house_in loading versions) (draws_of key) found script workers answered.crew answered.exchanges answered.records owners histories answered.gathered;
      headline = λ o owner here earlier explained.
          kept (house_in loading versions) (draws_of key) script workers answered.crew o owner (found o) earlier answered.exchanges (answered.records o) here (owners o owner here) explained
          answered.gathered.turns (answered.gathered.owners o owner here);
    }

-- what is left of some work
abbrev IsLeftBy : (words : List (List ℕ)) → (reads : ReadsToCome) → (b a : Shelf) → (script : List ℕ) → Work → (status : Status) → (text : List ℕ) → Type 0
IsLeftBy words reads b a script work status text =
    ((due : List ℕ) × IsAnsweredScript words reads b a script due × IsBeginning text due × (status ≡ code.Done → text ≡ due))
    ⊎ ((status ≡ code.Done → ⊥) × MayStop work b a)

-- what a `run` leaves: where a script is to be answered
not_done : {A : Type 0} (status wanted : Status) → status ≡ wanted → (code.Done ≡ wanted → ⊥) → status ≡ code.Done → A
not_done status wanted is isnt done = absurd (isnt (sym done ∙ is))

left_whole : (words : List (List ℕ)) (reads : ReadsToCome) (b a : Shelf) (script text : List ℕ) (status : Status) (command : Option Command) (work : Work) → ComesTo command work → IsOfRun command → work_of words reads ≡ work
    → IsToWrite work b a script status text → IsLeftBy words reads b a script work status text
left_whole words reads b a script text status command work (refuses name) takes is (inl (named, line, same)) = inr (not_done status code.Refused named (λ w. cc), same)
left_whole words reads b a script text status command work answers takes is (inl (inl refusal)) = inr (not_done status code.JournalRefused refusal.is_status (λ w. cc), refusal.disks)
left_whole words reads b a script text status command work answers takes is (inl (inr (versions, found, opened, inl (done, short, answered)))) =
    inl (text, answered_by words reads b a script text _ _ _ is versions found opened short answered, prefix_whole text, λ is. refl)
left_whole words reads b a script text status command work answers takes is (inl (inr (versions, found, opened, inr (over, long, line, disks)))) = inr (not_done status code.ScriptTooLong over (λ w. cc), disks)
left_whole words reads b a script text status command work other takes is (inr (inl (memory, line), may)) = inr (not_done status code.NoMemory memory (λ w. cc), may)
left_whole words reads b a script text status command work other takes is (inr (inr (disk, line), may)) = inr (not_done status code.DiskFault disk (λ w. cc), may)
left_whole words reads b a script text status command work other takes is due = cc takes

-- a prefix was written, since something failed
left_part : (words : List (List ℕ)) (reads : ReadsToCome) (b a : Shelf) (script text due : List ℕ) (status whole : Status) → status ≡ code.Fault → IsBeginning text due
    → IsRunLeft words reads b a script whole due → IsRunLeft words reads b a script status text
left_part words reads b a script text due status whole fault prefix (inl (all, answered, begins, same)) =
    inl (all, answered, prefix_of_prefix text due all prefix begins, not_done status code.Fault fault (λ w. cc))
left_part words reads b a script text due status whole fault prefix (inr (isnt, may)) = inr (not_done status code.Fault fault (λ w. cc), may)

pub left_by_run : (words : List (List ℕ)) (reads : ReadsToCome) (b a : Shelf) (script text : List ℕ) (status : Status) → IsOfRun (command_of words) → IsWrittenAt (work_of words reads) b a script status text
    → IsRunLeft words reads b a script status text
left_by_run words reads b a script text status takes (inl due) = left_whole words reads b a script text status _ _ (work_comes words reads) takes refl due
left_by_run words reads b a script text status takes (inr (fault, (whole, due, is, prefix))) =
    left_part words reads b a script text due status whole fault prefix (left_whole words reads b a script due whole _ _ (work_comes words reads) takes refl is)

-- what was read, whether or not the end's text is written
read_with : (end : Ended) (status : Status) (text : List ℕ) (files old new : List (List ℕ)) → IsEndingWith end status text → AreRead (status_at end) files old new → AreRead status files old new
read_with end status text files old new with is = here with.whole
  where
    here : ((status ≡ status_at end) × (text ≡ text_at end)) ⊎ (status ≡ code.Fault) → AreRead status files old new
    here (inl (same, whole)) = subst (λ (s : Status). AreRead s files old new) (sym same) is
    here (inr fault) = record { names = is.names; is = is.is; some = is.some; all = inl fault }

-- How words end over some contents, and what is written at that.
abbrev pub Ends : (words : List (List ℕ)) → (old new : List (List ℕ)) → (b a : Shelf) → Ended → ReadsToCome → (script : List ℕ) → Type 0
Ends words old new b a end reads script = IsEndOf (work_of words reads) b a script end × AreRead (status_at end) (files_of words reads) old new

abbrev pub Comes : (words : List (List ℕ)) → (old new : List (List ℕ)) → (b a : Shelf) → (status : Status) → (text : List ℕ) → ReadsToCome → (script : List ℕ) → Type 0
Comes words old new b a status text reads script = IsWrittenAt (work_of words reads) b a script status text × AreRead status (files_of words reads) old new

pub all_written : (words : List (List ℕ)) (held : Option Contents) (left : Option (List ℕ)) (old new : List (List ℕ)) (b a : Shelf) (end : Ended) (status : Status) (text : List ℕ) → IsEndingWith end status text
    → ForContents held left (Ends words old new b a end) → ForContents held left (Comes words old new b a status text)
all_written words held left old new b a end status text with = for_contents held left (Ends words old new b a end) (Comes words old new b a status text)
    (λ reads script (due, read). (written_by end status text with (work_of words reads) b a script due, read_with end status text (files_of words reads) old new with read))

-- What a `run` leaves, for the same contents.
pub runs_left : (words : List (List ℕ)) (held : Option Contents) (left : Option (List ℕ)) (old new : List (List ℕ)) (b a : Shelf) (end : Ended) (status : Status) (text : List ℕ) → IsOfRun (command_of words)
    → IsEndingWith end status text → ForContents held left (Ends words old new b a end) → ForContents held left (λ reads script. IsRunLeft words reads b a script status text)
runs_left words held left old new b a end status text takes with ends =
    for_contents held left (Comes words old new b a status text) (λ reads script. IsRunLeft words reads b a script status text)
    (λ reads script (due, read). left_by_run words reads b a script text status takes due) (all_written words held left old new b a end status text with ends)

-- what comes of it where the files tell what they hold, with some bytes of the source
pub held_written : (words : List (List ℕ)) (told : Contents) (held : Option Contents) (left : Option (List ℕ)) (old new : List (List ℕ)) (b a : Shelf) (end : Ended) (status : Status) (text : List ℕ)
    → IsEndingWith end status text → ForContents held left (Ends words old new b a end) → held ≡ Some told → (script : List ℕ) × Comes words old new b a status text (always told) script
held_written words told held left old new b a end status text with ends files =
    at_held told held left (Comes words old new b a status text) files (all_written words held left old new b a end status text with ends)

-- the same where the source tells them, too
pub told_written : (words : List (List ℕ)) (told : Contents) (script : List ℕ) (held : Option Contents) (left : Option (List ℕ)) (old new : List (List ℕ)) (b a : Shelf) (end : Ended) (status : Status) (text : List ℕ)
    → IsEndingWith end status text → ForContents held left (Ends words old new b a end) → held ≡ Some told → left ≡ Some script → Comes words old new b a status text (always told) script
told_written words told script held left old new b a end status text with ends files source =
    at_told told script held left (Comes words old new b a status text) files source (all_written words held left old new b a end status text with ends)

-- A command's steps end so: so do its words.
pub command_end : (words : List (List ℕ)) (command : Option Command) (held : Option Contents) (left : Option (List ℕ)) (old new : List (List ℕ)) (b a : Shelf) (end : Ended) → command_of words ≡ command
    → ForContents held left (IsStepEnd old new b a (command_steps command) end) → ForContents held left (Ends words old new b a end)
unfolding work_of files_of
command_end words command held left old new b a end is = subst (λ (c : Option Command). ForContents held left (IsStepEnd old new b a (command_steps c) end) → ForContents held left (Ends words old new b a end)) is (λ ends. ends)

-- Faulty words, and want of memory before anything is read.
pub faulty_end : (words : List (List ℕ)) (held : Option Contents) (left : Option (List ℕ)) (old : List (List ℕ)) (shelf : Shelf) → command_of words ≡ None → ForContents held left (Ends words old old shelf shelf (Err Usage))
faulty_end words held left old shelf none = command_end words None held left old old shelf shelf (Err Usage) none
    (at_some held left (IsStepEnd old old shelf shelf (command_steps None) (Err Usage))
    (λ reads script. (inl (refl, refl, λ n. refl), record { names = []; is = sym (append-nil old); some = ([], refl); all = inr (inr (inr refl)) })))

pub unread_end : (words : List (List ℕ)) (held : Option Contents) (left : Option (List ℕ)) (old : List (List ℕ)) (shelf : Shelf) → ForContents held left (Ends words old old shelf shelf (Err NoMemory))
unread_end words held left old shelf =
    at_some held left (Ends words old old shelf shelf (Err NoMemory))
    (λ reads script. (inr (inr (inl refl), may_stop_same (work_of words reads) shelf), record { names = []; is = sym (append-nil old); some = (files_of words reads, refl); all = inr (inl refl) }))

-- work that is done over no file
pub fileless_end : (held : Option Contents) (left : Option (List ℕ)) (old : List (List ℕ)) (shelf : Shelf) (work : Work) (end : Ended) → ((script : List ℕ) → IsEndOf work shelf shelf script end)
    → ForContents held left (IsStepEnd old old shelf shelf (done work) end)
fileless_end held left old shelf work end due = at_some held left (IsStepEnd old old shelf shelf (done work) end)
    (λ reads script. (due script, record { names = []; is = sym (append-nil old); some = ([], refl); all = inr (inr (inr refl)) }))

-- Where memory ran out before anything was read, nothing was taken.
pub unread_taken : (command : Option Command) (left : Option (List ℕ)) → IsTakenAt command left left code.NoMemory
unread_taken command left = here (command_kind command).source
  where
    here : (takes : Bool) → MatchBool takes (IsTaken left left code.NoMemory) (left ≡ left)
    here true = took_passed left NoMemory (Err NoMemory) refl
    here false = refl

-- Where nothing failed to be written, a failed read wrote nothing.
nothing_written : (end : Ended) (text : List ℕ) (status : Status) (before after : Option (List ℕ)) → end ≡ Err Fault → IsEndingWith end status text → after ≡ append_known before text → after ≡ before
nothing_written end text status before after is with written = here before written
  where
    empty : text ≡ []
    empty = first text with.prefix.0 (sym (ap text_at is) ∙ with.prefix.1)
      where
        first : (text rest : List ℕ) → [] ≡ text ++ rest → text ≡ []
        first [] rest same = refl
        first (x ∷ xs) rest same = cc

    here : (before : Option (List ℕ)) → after ≡ append_known before text → after ≡ before
    here None same = same
    here (Some bytes) same = same ∙ ap (λ t. Some (bytes ++ t)) empty ∙ ap Some (append-nil bytes)

pub silent_by : (end : Ended) (text : List ℕ) (status : Status) (before after : Option (List ℕ)) (Risen : Type 0) → IsEndingWith end status text → after ≡ append_known before text
    → (end ≡ Err Fault) ⊎ Risen → Risen ⊎ (after ≡ before)
silent_by end text status before after Risen with written (inl is) = inr (nothing_written end text status before after is with written)
silent_by end text status before after Risen with written (inr risen) = inl risen

-- what failed: at faulty words nothing but the sink
pub failed_by : {Files OfRun Source Doors Sink : Type 0} (command : Option Command) (end : Ended) → (end ≡ Err Fault) ⊎ Sink → (end ≡ Err Fault → Files ⊎ (OfRun × Source) ⊎ Doors)
    → (command ≡ None → (end ≡ Err Usage) ⊎ (end ≡ Err NoMemory)) → (IsSome command × Files) ⊎ (OfRun × Source) ⊎ Doors ⊎ Sink
failed_by command end (inr rose) cause idle = inr (inr (inr rose))
failed_by {Files} {OfRun} {Source} {Doors} {Sink} command end (inl is) cause idle = here command idle (cause is)
  where
    unfailed : {A : Type 0} → (end ≡ Err Usage) ⊎ (end ≡ Err NoMemory) → A
    unfailed (inl faulty) = absurd (cc (sym is ∙ faulty))
    unfailed (inr memory) = absurd (cc (sym is ∙ memory))

    here : (command : Option Command) → (command ≡ None → (end ≡ Err Usage) ⊎ (end ≡ Err NoMemory)) → Files ⊎ (OfRun × Source) ⊎ Doors → (IsSome command × Files) ⊎ (OfRun × Source) ⊎ Doors ⊎ Sink
    here None idle failed = unfailed (idle refl)
    here (Some command) idle (inl rose) = inl (refl, rose)
    here (Some command) idle (inr (inl rose)) = inr (inl rose)
    here (Some command) idle (inr (inr rose)) = inr (inr (inl rose))

-- what was taken, whether or not the end's text is written
taken_at_fault : (takes : Bool) (before after : Option (List ℕ)) (s : Status) → MatchBool takes (IsTaken before after s) (after ≡ before) → MatchBool takes (IsTaken before after code.Fault) (after ≡ before)
taken_at_fault true before after s is =
    record { taken = is.taken; is = is.is; few = is.few; refused = λ same. cc; unopened = λ is. absurd (grind (arith, is)); too_long = λ same. cc; done = λ same. cc }
taken_at_fault false before after s is = is

pub taken_with : (command : Option Command) (before after : Option (List ℕ)) (end : Ended) (status : Status) (text : List ℕ) → IsEndingWith end status text
    → IsTakenAt command before after (status_at end) → IsTakenAt command before after status
taken_with command before after end status text with is = here with.whole
  where
    here : ((status ≡ status_at end) × (text ≡ text_at end)) ⊎ (status ≡ code.Fault) → IsTakenAt command before after status
    here (inl (same, whole)) = subst (λ (s : Status). IsTakenAt command before after s) (sym same) is
    here (inr fault) = subst (λ (s : Status). IsTakenAt command before after s) (sym fault) (taken_at_fault (command_kind command).source before after (status_at end) is)
