-- The commands of words without options, as a table.
use Rattle.std.specs.Prelude.{◌==◌, ◌&&◌, ℕ, Bool, false, List, [], ◌∷◌, Option, Some, None, codes, bytes_eq, if◌then◌else◌, nat_le, option_and_then}
use Rattle.command_words.specs.Command.{Command, check, init, run, audit, gap, derive, judge, amount_written, gen_of, grant_of, number_written}
use Rattle.command_words.specs.Program.{greatest_amount, greatest_asks, greatest_seed, greatest_workers}

-- the word begins with `-` (45), as options do
abbrev pub begins_with_hyphen : List ℕ → Bool
begins_with_hyphen [] = false
begins_with_hyphen (byte ∷ bytes) = byte == 45

-- a number that is written, where it is in this range
abbrev pub said_within : (low high : ℕ) → Option ℕ → Option ℕ
said_within low high written = option_and_then (λ n. if nat_le low n && nat_le n high then Some n else None) written

-- the number that a text says, and the amount
abbrev pub number_said : (low high : ℕ) → List ℕ → Option ℕ
number_said low high text = said_within low high (number_written text)

abbrev pub amount_said : List ℕ → Option ℕ
amount_said text = said_within 1 greatest_amount (amount_written text)

abbrev pub workers_said : List ℕ → Option ℕ
workers_said text = number_said 1 greatest_workers text

-- a generated run, where each number is in its range
abbrev pub gen_said : (seed asks workers : List ℕ) → Option Command
gen_said seed asks workers = gen_of (number_said 0 greatest_seed seed) (number_said 1 greatest_asks asks) (workers_said workers)

-- a grant, where its amount is in range
abbrev pub grant_said : (catalog key owner amount : List ℕ) → Option Command
grant_said catalog key owner amount = grant_of (Some catalog) (Some key) (Some owner) (amount_said amount)

-- A `serve` has options that must be given, so it is none of these.
abbrev pub plain_command : List (List ℕ) → Option Command
plain_command [] = None
plain_command (name ∷ []) = None
plain_command (name ∷ catalog ∷ []) = None
plain_command (name ∷ catalog ∷ key ∷ []) =
    if bytes_eq name (codes "init") then Some (init catalog key)
    else if bytes_eq name (codes "run") then Some (run catalog key 1)
    else if bytes_eq name (codes "audit") then Some (audit catalog key)
    else if bytes_eq name (codes "gen") then gen_said catalog key (codes "1")
    else None
plain_command (name ∷ catalog ∷ owner ∷ file ∷ []) =
    if bytes_eq name (codes "check") then Some (check catalog owner file)
    else if bytes_eq name (codes "gen") then gen_said catalog owner file
    else if bytes_eq name (codes "derive") then Some (derive catalog owner file)
    else None
plain_command (name ∷ catalog ∷ owner ∷ third ∷ file ∷ []) =
    if bytes_eq name (codes "grant") then grant_said catalog owner third file
    else if bytes_eq name (codes "gap") then Some (gap catalog owner third file)
    else if bytes_eq name (codes "judge") then Some (judge catalog owner third file)
    else None
plain_command (name ∷ catalog ∷ owner ∷ third ∷ file ∷ more ∷ words) = None
