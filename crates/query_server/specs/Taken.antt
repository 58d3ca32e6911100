-- What is taken of the source.
use Rattle.std.specs.Prelude.{◌≡◌, ◌⊎◌, ℕ, ◌+◌, ◌≤◌, ◌<◌, List, [], length, Option, MatchBool}
use Rattle.std.specs.Io.KnownBytes.{prepend_known, IsAtEnd}
use Rattle.command_words.specs.Command.{Command}
use Rattle.query_server.specs.Run.{script_limit}
use Rattle.query_server.specs.Due.{command_kind}
use Rattle.query_server.specs.declared.end.Status.{Status}
use Rattle.query_server.specs.declared.end.Status.TheVariants.{Done, Refused, JournalRefused, DiskFault, ScriptTooLong}

-- At most 2^24 + 1 bytes are taken: none where a file or a journal is refused or a disk failed, over 2^24 where the script is too long, and all there are
-- where it is answered.
pub record IsTaken (before after : Option (List ℕ)) (status : Status) : Type 0 where
  pub taken : List ℕ
  pub is : before ≡ prepend_known taken after
  pub few : length taken ≤ script_limit + 1
  pub refused : status ≡ Refused → taken ≡ []
  pub unopened : (status ≡ JournalRefused) ⊎ (status ≡ DiskFault) → taken ≡ []
  pub too_long : status ≡ ScriptTooLong → script_limit < length taken
  pub done : status ≡ Done → (length taken ≤ script_limit) × IsAtEnd after

-- Nothing is taken but by a command that takes the source.
abbrev pub IsTakenAt : Option Command → (before after : Option (List ℕ)) → (status : Status) → Type 0
IsTakenAt command before after status = MatchBool (command_kind command).source (IsTaken before after status) (after ≡ before)
