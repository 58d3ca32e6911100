-- What is said of each command, and of the work that it comes to.
use Rattle.std.specs.Prelude.{◌≡◌, ℕ, List, Option, None, Bool, false}
use Rattle.fz_ast.specs.Signature.{Signature}
use Rattle.outside_bays.specs.Bays.{Same}
use Rattle.catalog_loading.specs.Steps.{FileStep, done}
use Rattle.catalog_loading.specs.Loaded.{Loading, owner_name_at, owners_in}
use Rattle.query_server.specs.Work.{Work, usage}
use Rattle.owner_books.specs.Shelves.{Shelf, EachDisk, IsOnlySynced}
use Rattle.owner_books.specs.Opened.{IsRefusedAt}
use Rattle.owner_books.specs.Refusals.{journal_text}
use Rattle.owner_books.specs.declared.refusals.JournalRefusal.{JournalRefusal}
use Rattle.query_server.specs.declared.end.Status.{Status}
use Rattle.query_server.specs.declared.end.Status.TheVariants.{JournalRefused}

-- Of a command: the steps of its reading, in order, to the work that they come to; and what it takes beside files.
pub record Kind : Type 0 where
  pub steps : FileStep Work
  -- it takes the bytes of the source
  pub source : Bool
  -- it takes the owners' disks
  pub disks : Bool
  -- it listens at the doors
  pub doors : Bool
  -- it reads a program
  pub program : Bool

-- words that are no command
abbrev pub no_kind : Kind
no_kind = record { steps = done usage; source = false; disks = false; doors = false; program = false }

-- Of some work: what is due, and what there may be where it is stopped.
pub record Duty : Type 1 where
  -- Where nothing fails and memory suffices, this status and this text may be due, and this may become of the owners' disks.
  pub due : (old new : Shelf) → (script : List ℕ) → (status : Status) → (text : List ℕ) → Type 0
  -- what may become of the disks where a failure or want of memory ends the work
  pub may_stop : (old new : Shelf) → Type 0
  -- this line names the owner whose disk failed as its journal was to be opened or made, or a grant to be written
  pub names_disk : (old new : Shelf) → (text : List ℕ) → Type 0
  -- the statuses that may be due
  pub statuses : Status → Type 0
  -- the program that is to be admitted, and the tables that it may name
  pub admits : Option (Signature × List ℕ)

-- where nothing is left to be done: a line with its status
abbrev pub line_duty : Status → (line : List ℕ) → Duty
line_duty its line = record {
  due = λ old new script status text. (status ≡ its) × (text ≡ line) × Same old new;
  may_stop = Same;
  names_disk = λ old new text. ⊥;
  statuses = λ status. status ≡ its;
  admits = None;
}

-- What is due where a journal is refused: the first one's line. Nothing is written to any disk.
pub record IsRefusalDue (loading : Loading) (key : List ℕ) (old new : Shelf) (status : Status) (text : List ℕ) : Type 0 where
  pub o : ℕ
  pub refusal : JournalRefusal
  pub at : IsRefusedAt loading key old new o refusal
  pub is_status : status ≡ JournalRefused
  pub is_text : text ≡ journal_text (owner_name_at loading o) refusal
  pub disks : EachDisk (owners_in loading) (λ _. IsOnlySynced) old new
