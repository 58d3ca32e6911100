-- The turns of a script: its lines in blocks, each a session of its own.
use Rattle.std.specs.Prelude.{ℕ, List, [], ◌∷◌, Result, Ok, Option, None, Bool, true, false, if◌then◌else◌}
use Rattle.std.specs.List.{flat_map, onto_first}
use Rattle.wire_lines.specs.Lines.{lines_of}
use Rattle.wire_lines.specs.Request.{Asked, bye, request_of}
use Rattle.wire_lines.specs.declared.refusal.LineRefusal.{LineRefusal}
use Rattle.owner_history.specs.OwnerHouse.House.{House}
use Rattle.session_core.specs.Meant.{Meant, meant_by, next_who}

abbrev pub is_bye_request : Result Asked LineRefusal → Bool
is_bye_request (Ok bye) = true
is_bye_request request = false

abbrev pub is_bye : List ℕ → Bool
is_bye line = is_bye_request (request_of line)

-- Lines are cut into blocks: a block ends after a line that is `bye`, or at the end.
abbrev pub blocks_of : List (List ℕ) → List (List (List ℕ))
blocks_of [] = []
blocks_of (line ∷ lines) = if is_bye line then (line ∷ []) ∷ blocks_of lines else onto_first line (blocks_of lines)

-- who speaks, by the analyst's number, and the line
pub record Turn : Type 0 where
  pub who : Option ℕ
  pub line : List ℕ

-- the turns of a session, from this analyst on
abbrev pub session_turns : House → Option ℕ → List (List ℕ) → List Turn
session_turns house who [] = []
session_turns house who (line ∷ lines) =
    record { who = who; line = line } ∷ session_turns house (next_who who (meant_by house who line)) lines

-- Each block is a session of its own, from no analyst.
abbrev pub turns_of : House → List ℕ → List Turn
turns_of house script = flat_map (session_turns house None) (blocks_of (lines_of script))

abbrev pub meant_at : House → Turn → Meant
meant_at house turn = meant_by house turn.who turn.line
