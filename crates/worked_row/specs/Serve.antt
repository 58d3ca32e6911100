-- A service of one worker and one connection, over which the row's script comes.
use Rattle.std.specs.Prelude.{◌≡◌, ℕ, List, [], ◌∷◌, Some, codes}
use Rattle.outside_links.specs.Links.{Connection, shown}
use Rattle.command_words.specs.Command.{command_of, serve}
use Rattle.query_server.specs.ServiceOver.{Door}
use Rattle.worked_row.specs.Row.{IsRowText, script}

-- the words are `serve cat.json key ..`, at whatever address and port
abbrev pub IsOneService : List (List ℕ) → Type 0
IsOneService words = (address : List ℕ) × (port : ℕ) × (command_of words ≡ Some (serve (codes "cat.json") (codes "key") address port 1 1))

-- the connection that is to come by the door
abbrev pub begun : Connection
begun = shown (Some script) (Some []) 0

abbrev pub IsToCome : Door → Type 0
IsToCome door = (door.coming ≡ Some (begun ∷ [])) × (door.back ≡ Some [])

-- It was handed back, and where none of its calls failed the row was written.
abbrev pub IsRowServed : Door → Type 0
IsRowServed door = (now : Connection) × (door.back ≡ Some (now ∷ [])) × (now.faults ≡ 0 → (text : List ℕ) × (now.written ≡ Some text) × IsRowText text)
