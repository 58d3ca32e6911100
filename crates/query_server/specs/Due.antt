-- What is due, and what is written.
use Rattle.std.specs.Prelude.{◌≡◌, ◌⊎◌, ℕ, List, ◌++◌, Option, Some, None, IfSome, IsSome, IsTrue}
use Rattle.std.specs.Io.KnownBytes.{append_known}
use Rattle.fz_outside.specs.Faults.{HasRisen}
use Rattle.fz_ast.specs.Signature.{Signature}
use Rattle.command_words.specs.Command.{Command, init, run, audit, grant, check, gap, serve, gen, derive, judge, command_of}
use Rattle.catalog_loading.specs.Files.{Contents, ReadsToCome, AreTold}
use Rattle.catalog_loading.specs.Steps.{FileStep}
use Rattle.query_server.specs.Work.{Work, ended, usage, refused, to_answer, to_make, to_count, to_grant, to_check, to_compare, to_serve, to_generate, of_derivation}
use Rattle.query_server.specs.Duty.{Duty, Kind, line_duty, no_kind}
use Rattle.owner_books.specs.Shelves.{Shelf}
use Rattle.query_server.specs.Outside.{Outside, SomeDoorRose}
use Rattle.query_server.specs.Init.{init_duty, init_kind}
use Rattle.query_server.specs.Run.{run_duty, run_kind}
use Rattle.query_server.specs.Audit.{audit_duty, audit_kind}
use Rattle.query_server.specs.Grant.{grant_duty, grant_kind}
use Rattle.query_server.specs.Check.{check_duty, check_kind}
use Rattle.query_server.specs.Gap.{gap_duty, gap_kind}
use Rattle.query_server.specs.Serve.{serve_duty, serve_kind}
use Rattle.query_server.specs.Gen.{gen_duty, gen_kind}
use Rattle.query_server.specs.Derivation.{derivation_duty, derive_kind, judge_kind}
use Rattle.query_server.specs.Status.{usage_text, refused_text, memory_text}
use Rattle.query_server.specs.declared.end.Status.{Status}
use Rattle.query_server.specs.declared.end.Status.TheVariants.{Usage, Refused, Fault, DiskFault, NoMemory}

-- The commands.
abbrev pub command_kind : Option Command → Kind
command_kind None = no_kind
command_kind (Some (init catalog key)) = init_kind catalog key
command_kind (Some (run catalog key workers)) = run_kind catalog key workers
command_kind (Some (audit catalog key)) = audit_kind catalog key
command_kind (Some (grant catalog key owner amount)) = grant_kind catalog key owner amount
command_kind (Some (check catalog owner file)) = check_kind catalog owner file
command_kind (Some (gap catalog owner second_catalog file)) = gap_kind catalog owner second_catalog file
command_kind (Some (serve catalog key address port workers each)) = serve_kind catalog key workers each
command_kind (Some (gen seed asks workers)) = gen_kind seed asks
command_kind (Some (derive catalog owner file)) = derive_kind catalog owner file
command_kind (Some (judge catalog owner file derivation)) = judge_kind catalog owner file derivation

-- The work that they come to.
abbrev pub duty_of : Work → Duty
duty_of usage = line_duty Usage usage_text
duty_of (refused name) = line_duty Refused (refused_text name)
duty_of (to_make loading key) = init_duty loading key
duty_of (to_answer workers loading key) = run_duty loading key workers
duty_of (to_count loading key) = audit_duty loading key
duty_of (to_grant amount one) = grant_duty one amount
duty_of (to_check tables program) = check_duty tables program
duty_of (to_compare tables X Y program) = gap_duty tables X Y program
duty_of (to_serve workers each loading key) = serve_duty loading key workers each
duty_of (to_generate seed asks) = gen_duty seed asks
duty_of (of_derivation task) = derivation_duty task

-- the steps of a command: the words decide first
abbrev pub command_steps : Option Command → FileStep Work
command_steps command = (command_kind command).steps

-- a command that takes the source's bytes, as a `run` does; one that takes the owners' disks; one that listens at the doors, as a
-- `serve` does; and one that reads a program
abbrev pub IsOfRun : Option Command → Type 0
IsOfRun command = IsTrue (command_kind command).source

abbrev pub IsOfDisks : Option Command → Type 0
IsOfDisks command = IsTrue (command_kind command).disks

abbrev pub IsOfDoors : Option Command → Type 0
IsOfDoors command = IsTrue (command_kind command).doors

abbrev pub IsOfProgram : Option Command → Type 0
IsOfProgram command = IsTrue (command_kind command).program

abbrev pub IsOfMaking : Option Command → Type 0
IsOfMaking command = (catalog key : List ℕ) × (command ≡ Some (init catalog key))

abbrev pub IsOfDerive : Option Command → Type 0
IsOfDerive command = (catalog owner file : List ℕ) × (command ≡ Some (derive catalog owner file))

abbrev pub IsOfGrant : Option Command → Type 0
IsOfGrant command = (catalog key owner : List ℕ) × (amount : ℕ) × (command ≡ Some (grant catalog key owner amount))

-- What words come to over what files hold when they are read.
unfoldable pub work_of : (words : List (List ℕ)) → ReadsToCome → Work
work_of words reads = ended (command_steps (command_of words) reads).given

-- the files that are read for it, in order: those that the words name, and those that the catalogs of these name
unfoldable pub files_of : (words : List (List ℕ)) → ReadsToCome → List (List ℕ)
files_of words reads = (command_steps (command_of words) reads).names

-- Where nothing fails and memory suffices, this status and this text may be due, and this may become of the owners' disks.
abbrev pub IsDue : Work → (old new : Shelf) → (script : List ℕ) → (status : Status) → (text : List ℕ) → Type 0
IsDue work = (duty_of work).due

-- What may become of the owners' disks where a failure or want of memory ends the work: nothing is written to any, but that an
-- `init` may have made the first owners' journals, and that the next one's disk may have failed; that the append of a `grant` may
-- have failed; and that a `serve` may have held sessions before.
abbrev pub MayStop : Work → (old new : Shelf) → Type 0
MayStop work = (duty_of work).may_stop

-- this line names the owner whose disk failed as its journal was to be opened or made, or a grant to be written
abbrev pub IsDiskLine : Work → (old new : Shelf) → (text : List ℕ) → Type 0
IsDiskLine work = (duty_of work).names_disk

-- this program is to be checked or compared over these tables
abbrev pub IsForProgram : (tables : Signature) → (program : List ℕ) → Work → Type 0
IsForProgram tables program work = (duty_of work).admits ≡ Some (tables, program)

-- Memory ran out, or a disk failed: the line of that.
abbrev pub IsStopLine : Work → (old new : Shelf) → (status : Status) → (text : List ℕ) → Type 0
IsStopLine work old new status text = ((status ≡ NoMemory) × (text ≡ memory_text)) ⊎ ((status ≡ DiskFault) × IsDiskLine work old new text)

-- What is to be written with a status: what is due, or what ended the work before.
abbrev pub IsToWrite : Work → (old new : Shelf) → (script : List ℕ) → (status : Status) → (text : List ℕ) → Type 0
IsToWrite work old new script status text = IsDue work old new script status text ⊎ (IsStopLine work old new status text × MayStop work old new)

-- something failed, or memory ran out, or else this holds
abbrev pub IfFinished : Status → Type 0 → Type 0
IfFinished status P = (status ≡ Fault) ⊎ (status ≡ NoMemory) ⊎ (status ≡ DiskFault) ⊎ P

-- the text begins with this
abbrev pub IsBeginning : (prefix text : List ℕ) → Type 0
IsBeginning prefix text = (rest : List ℕ) × (text ≡ prefix ++ rest)

-- What is written with the status; where files, source, doors or sink failed, a prefix of what was to be written.
abbrev pub IsWrittenAt : Work → (old new : Shelf) → (script : List ℕ) → (status : Status) → (text : List ℕ) → Type 0
IsWrittenAt work old new script status text =
    IsToWrite work old new script status text
    ⊎ ((status ≡ Fault) × ((whole : Status) × (due : List ℕ) × IsToWrite work old new script whole due × IsBeginning text due))

-- What is written at faulty words: the line `usage` with its status, or where memory ran out the line `memory`; where the sink
-- failed, a prefix of either.
abbrev pub IsFaultyWordsEnd : (status : Status) → (text : List ℕ) → (SinkFailed : Type 0) → Type 0
IsFaultyWordsEnd status text SinkFailed =
    ((status ≡ Usage) × (text ≡ usage_text))
    ⊎ ((status ≡ NoMemory) × (text ≡ memory_text))
    ⊎ ((status ≡ Fault) × (IsBeginning text usage_text ⊎ IsBeginning text memory_text) × SinkFailed)

-- The names of files that were read went on by some of these, in order: by all of them, unless something failed or memory ran
-- out.
pub record AreRead (status : Status) (files old new : List (List ℕ)) : Type 0 where
  pub names : List (List ℕ)
  pub is : new ≡ old ++ names
  pub some : (rest : List (List ℕ)) × (files ≡ names ++ rest)
  pub all : IfFinished status (names ≡ files)

-- the source has these bytes, where it tells them
abbrev pub IsLeftToRead : (left : Option (List ℕ)) → (script : List ℕ) → Type 0
IsLeftToRead left script = IfSome left (λ told. script ≡ told)

-- It comes so at some contents of the files, at each read, and of the source: those that are told, where they are.
abbrev pub ForContents : (held : Option Contents) → (left : Option (List ℕ)) → (Comes : ReadsToCome → (script : List ℕ) → Type 0) → Type 0
ForContents held left Comes = (reads : ReadsToCome) × (script : List ℕ) × AreTold held reads × IsLeftToRead left script × Comes reads script

-- What the top call says of what it writes and reads: its clause `line`, of this text.
abbrev pub IsLine : (words : List (List ℕ)) → (before after : Outside) → (status : Status) → (text : List ℕ) → Type 0
IsLine words before after status text =
    (after.sink.contents ≡ append_known before.sink.contents text)
    × ForContents before.files.held before.source.left
    (λ reads script. IsWrittenAt (work_of words reads) before.bay.shelf after.bay.shelf script status text
    × AreRead status (files_of words reads) before.files.names after.files.names)

-- What failed where the status is Fault: files, at words that are a command; the source, in a run; a door, in a service; or the sink.
abbrev pub SomeFailed : Option Command → (before after : Outside) → Type 0
SomeFailed command before after =
    (IsSome command × HasRisen before.files.faults after.files.faults)
    ⊎ (IsOfRun command × HasRisen before.source.faults after.source.faults)
    ⊎ (IsOfDoors command × SomeDoorRose before.doors after.doors)
    ⊎ HasRisen before.sink.faults after.sink.faults
