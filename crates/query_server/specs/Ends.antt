-- What the code's ends mean.
use Rattle.std.specs.declared.alloc.Global.{Global}
use Rattle.std.specs.Prelude.{Vec, ◌≡◌, ◌⊎◌, ℕ, List, [], Result, Ok, Err, string_bytes, length, ◌<◌, ◌≤◌}
use Rattle.fz_ast.specs.Signature.{Signature}
use Rattle.metric_values.specs.Tables.{Dataset}
use Rattle.query_server.specs.Check.{IsProgramDue}
use Rattle.query_server.specs.Gap.{IsGapDue}
use Rattle.catalog_loading.specs.Files.{ReadsToCome}
use Rattle.owner_desk.specs.Passes.{Pass}
use Rattle.generated_run.specs.SessionCore.Worked.{HasWorked, HaveAddedNone}
use Rattle.owner_house.specs.House.{House}
use Rattle.query_server.specs.Run.{script_limit}
use Rattle.catalog_loading.specs.Steps.{FileStep}
use Rattle.catalog_loading.specs.Loaded.{Loading}
use Rattle.query_server.specs.Work.{Work, ended, to_count, to_make}
use Rattle.query_server.specs.Status.{usage_text, refused_text, memory_text, too_long_text, derivation_too_long_text}
use Rattle.query_server.specs.Due.{AreRead, IsDiskLine, IsDue, IsBeginning, MayStop}
use Rattle.owner_books.specs.Shelves.{Shelf}
use Rattle.query_server.specs.declared.end.Status.{Status}
use Rattle.query_server.specs.declared.end.Status.TheVariants as code
use Rattle.catalog_loading.specs.declared.stops.Stop.{Stop}
use Rattle.catalog_loading.specs.declared.stops.Stop.TheVariants.{Usage, Refused, Journal, Disk, Fault, NoMemory}
use Rattle.query_server.specs.declared.end.End.{End}
use Rattle.query_server.specs.declared.end.End.TheVariants.{Done, ProgramRefused, ScriptTooLong, TooLarge, JournalFull, DerivationTooLong}
use Rattle.query_server.specs.declared.listing.Listing.{Listing}
use Rattle.query_server.specs.declared.listing.Listing.TheVariants.{Made, Counted}

-- The status and the text of what stops a command, and of each command's end.
abbrev pub stop_status : Stop → Status
stop_status Usage = code.Usage
stop_status (Refused name) = code.Refused
stop_status (Journal line) = code.JournalRefused
stop_status (Disk line) = code.DiskFault
stop_status Fault = code.Fault
stop_status NoMemory = code.NoMemory

abbrev pub stop_text : Stop → List ℕ
stop_text Usage = usage_text
stop_text (Refused name) = refused_text (string_bytes name)
stop_text (Journal line) = line.items
stop_text (Disk line) = line.items
stop_text Fault = []
stop_text NoMemory = memory_text

abbrev pub end_status : End → Status
end_status (Done lines) = code.Done
end_status (ProgramRefused line) = code.ProgramRefused
end_status ScriptTooLong = code.ScriptTooLong
end_status (TooLarge line) = code.TooLarge
end_status (JournalFull line) = code.JournalFull
end_status DerivationTooLong = code.DerivationTooLong

abbrev pub end_text : End → List ℕ
end_text (Done lines) = lines.items
end_text (ProgramRefused line) = line.items
end_text ScriptTooLong = too_long_text
end_text (TooLarge line) = line.items
end_text (JournalFull line) = line.items
end_text DerivationTooLong = derivation_too_long_text

-- a command's end, or what stopped it before
abbrev pub Ended : Type 0
Ended = Result End Stop

abbrev pub status_at : Ended → Status
status_at (Ok end) = end_status end
status_at (Err stop) = stop_status stop

abbrev pub text_at : Ended → List ℕ
text_at (Ok end) = end_text end
text_at (Err stop) = stop_text stop

-- the work of what is listed of the owners
abbrev pub listed_work : Listing → Loading → (key : List ℕ) → Work
listed_work Made = to_make
listed_work Counted = to_count

-- The work was ended before: files, source or an owner's disk failed, or memory ran out.
abbrev pub IsCut : Work → (old new : Shelf) → Ended → Type 0
IsCut ending old new end =
    (end ≡ Err Fault) ⊎ (end ≡ Err NoMemory) ⊎ ((line : Vec ℕ Global) × (end ≡ Err (Disk line)) × IsDiskLine ending old new line.items)

abbrev pub IsFailing : Stop → Type 0
IsFailing stop = (stop ≡ Fault) ⊎ (stop ≡ NoMemory)

-- The end is due, or the work was ended before.
abbrev pub IsEndOf : Work → (old new : Shelf) → (script : List ℕ) → Ended → Type 0
IsEndOf ending old new script end =
    IsDue ending old new script (status_at end) (text_at end) ⊎ (IsCut ending old new end × MayStop ending old new)

-- a program comes to this end over these tables
abbrev pub IsVerdictOn : (tables : Signature) → (program : List ℕ) → End → Type 0
IsVerdictOn tables program end = IsProgramDue tables program (end_status end) (end_text end)

-- and to this one on two datasets
abbrev pub IsGapOn : (tables : Signature) → (X Y : Dataset) → (program : List ℕ) → End → Type 0
IsGapOn tables X Y program end = IsGapDue tables X Y program (end_status end) (end_text end)

-- A command that reads by these steps ends so, where files and source held this.
abbrev pub IsStepEnd : (old new : List (List ℕ)) → (before after : Shelf) → FileStep Work → Ended → ReadsToCome → (script : List ℕ) → Type 0
IsStepEnd old new before after steps end reads script =
    IsEndOf (ended (steps reads).given) before after script end × AreRead (status_at end) (steps reads).names old new

-- How a script ends that was to be answered by so many workers over these passes: its replies; or nothing was added by them.
abbrev pub IsScriptEnd : House → (draws : ℕ → ℕ → ℕ → ℕ) → (workers : ℕ) → (script : List ℕ) → (old new : List Pass) → Ended → Type 0
IsScriptEnd house draws workers script old new (Ok (Done replies)) =
    (length script ≤ script_limit) × HasWorked house draws workers script replies.items old new
IsScriptEnd house draws workers script old new (Ok ScriptTooLong) = (script_limit < length script) × HaveAddedNone house old new
IsScriptEnd house draws workers script old new (Ok (ProgramRefused line)) = ⊥
IsScriptEnd house draws workers script old new (Ok (TooLarge line)) = ⊥
IsScriptEnd house draws workers script old new (Ok (JournalFull line)) = ⊥
IsScriptEnd house draws workers script old new (Ok DerivationTooLong) = ⊥
IsScriptEnd house draws workers script old new (Err stop) = IsFailing stop × HaveAddedNone house old new

-- The end's text is written with its status; or a prefix of it, and something failed.
pub record IsEndingWith (end : Ended) (status : Status) (text : List ℕ) : Type 0 where
  pub prefix : IsBeginning text (text_at end)
  pub whole : ((status ≡ status_at end) × (text ≡ text_at end)) ⊎ (status ≡ code.Fault)
