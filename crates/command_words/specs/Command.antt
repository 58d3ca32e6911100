-- The command that words are.
use Rattle.std.specs.Prelude.{◌^◌, ◌&&◌, ℕ, List, [], ◌∷◌, Option, Some, None, codes, bytes_eq, if◌then◌else◌, nat_lt, option_and_then}
use Rattle.std.specs.Str.Parse.{digits_value, without_leading_plus}
use Rattle.clap.specs.Words.{Row, Text, fault_of, first_of, one_of, subcommand_of}
use Rattle.clap.specs.Kinds.{Kinds}
use Rattle.clap.specs.ValueTests.{is_numeral}
use Rattle.command_words.specs.Program.{program_app}

pub data Command : Type 0 where
  -- `check CATALOG OWNER FILE`: the names of a file, of an owner and of another file
  check : (catalog owner file : List ℕ) → Command
  -- `init CATALOG KEY`: the names of two files
  init : (catalog key : List ℕ) → Command
  -- `run CATALOG KEY --workers W`: the names of two files, and a number of workers
  run : (catalog key : List ℕ) (workers : ℕ) → Command
  -- `audit CATALOG KEY`: the names of two files
  audit : (catalog key : List ℕ) → Command
  -- `grant CATALOG KEY OWNER AMOUNT`: the names of two files and of an owner, and an amount in millionths of epsilon
  grant : (catalog key owner : List ℕ) (amount : ℕ) → Command
  -- `gap CATALOG OWNER CATALOG2 FILE`: the names of a file, of an owner and of two other files
  gap : (catalog owner second_catalog file : List ℕ) → Command
  -- `serve CATALOG KEY --addr A --port P --workers W --each N`: the names of two files, an address, and three numbers
  serve : (catalog key address : List ℕ) (port workers each : ℕ) → Command
  -- `gen SEED N WORKERS`: three numbers
  gen : (seed asks workers : ℕ) → Command
  -- `derive CATALOG OWNER FILE`: the names of a file, of an owner and of another file
  derive : (catalog owner file : List ℕ) → Command
  -- `judge CATALOG OWNER FILE DERIVATION`: the names of a file, of an owner and of two other files
  judge : (catalog owner file derivation : List ℕ) → Command

-- The number that a text is: digits, perhaps after a plus, below this power of two.
abbrev pub number_of_bits : (bits : ℕ) → Text → Option ℕ
number_of_bits bits text = let digits = without_leading_plus text in
    if is_numeral digits && nat_lt (digits_value 10 digits) (2 ^ bits) then Some (digits_value 10 digits) else None

abbrev pub number_written : Text → Option ℕ
number_written text = number_of_bits 32 text

abbrev pub amount_written : Text → Option ℕ
amount_written text = number_of_bits 64 text

-- a command of its words, where all are there
abbrev pub check_of : (catalog owner file : Option Text) → Option Command
check_of (Some catalog) (Some owner) (Some file) = Some (check catalog owner file)
check_of _ _ _ = None

abbrev pub init_of : (catalog key : Option Text) → Option Command
init_of (Some catalog) (Some key) = Some (init catalog key)
init_of _ _ = None

abbrev pub run_of : (catalog key : Option Text) (workers : Option ℕ) → Option Command
run_of (Some catalog) (Some key) (Some workers) = Some (run catalog key workers)
run_of _ _ _ = None

abbrev pub audit_of : (catalog key : Option Text) → Option Command
audit_of (Some catalog) (Some key) = Some (audit catalog key)
audit_of _ _ = None

abbrev pub grant_of : (catalog key owner : Option Text) (amount : Option ℕ) → Option Command
grant_of (Some catalog) (Some key) (Some owner) (Some amount) = Some (grant catalog key owner amount)
grant_of _ _ _ _ = None

abbrev pub gap_of : (catalog owner second_catalog file : Option Text) → Option Command
gap_of (Some catalog) (Some owner) (Some second_catalog) (Some file) = Some (gap catalog owner second_catalog file)
gap_of _ _ _ _ = None

abbrev pub serve_of : (catalog key address : Option Text) (port workers each : Option ℕ) → Option Command
serve_of (Some catalog) (Some key) (Some address) (Some port) (Some workers) (Some each) = Some (serve catalog key address port workers each)
serve_of _ _ _ _ _ _ = None

abbrev pub gen_of : (seed asks workers : Option ℕ) → Option Command
gen_of (Some seed) (Some asks) (Some workers) = Some (gen seed asks workers)
gen_of _ _ _ = None

abbrev pub derive_of : (catalog owner file : Option Text) → Option Command
derive_of (Some catalog) (Some owner) (Some file) = Some (derive catalog owner file)
derive_of _ _ _ = None

abbrev pub judge_of : (catalog owner file derivation : Option Text) → Option Command
judge_of (Some catalog) (Some owner) (Some file) (Some derivation) = Some (judge catalog owner file derivation)
judge_of _ _ _ _ = None

-- the number that clap found under this name
abbrev pub number_in : Text → List Row → Option ℕ
number_in name found = option_and_then number_written (one_of name found)

-- and the amount
abbrev pub amount_in : Text → List Row → Option ℕ
amount_in name found = option_and_then amount_written (one_of name found)

-- each command, of what clap found for it
abbrev pub check_found_in : List Row → Option Command
check_found_in found = check_of (first_of (codes "catalog") found) (first_of (codes "owner") found) (first_of (codes "file") found)

abbrev pub init_found_in : List Row → Option Command
init_found_in found = init_of (first_of (codes "catalog") found) (first_of (codes "key") found)

abbrev pub run_found_in : List Row → Option Command
run_found_in found = run_of (first_of (codes "catalog") found) (first_of (codes "key") found) (number_in (codes "workers") found)

abbrev pub audit_found_in : List Row → Option Command
audit_found_in found = audit_of (first_of (codes "catalog") found) (first_of (codes "key") found)

abbrev pub grant_found_in : List Row → Option Command
grant_found_in found = grant_of (first_of (codes "catalog") found) (first_of (codes "key") found) (first_of (codes "owner") found)
    (amount_in (codes "amount") found)

abbrev pub gap_found_in : List Row → Option Command
gap_found_in found = gap_of (first_of (codes "catalog") found) (first_of (codes "owner") found)
    (first_of (codes "second_catalog") found) (first_of (codes "file") found)

abbrev pub serve_found_in : List Row → Option Command
serve_found_in found = serve_of (first_of (codes "catalog") found) (first_of (codes "key") found) (first_of (codes "addr") found)
    (number_in (codes "port") found) (number_in (codes "workers") found) (number_in (codes "each") found)

abbrev pub gen_found_in : List Row → Option Command
gen_found_in found = gen_of (number_in (codes "seed") found) (number_in (codes "asks") found) (number_in (codes "workers") found)

abbrev pub derive_found_in : List Row → Option Command
derive_found_in found = derive_of (first_of (codes "catalog") found) (first_of (codes "owner") found) (first_of (codes "file") found)

abbrev pub judge_found_in : List Row → Option Command
judge_found_in found = judge_of (first_of (codes "catalog") found) (first_of (codes "owner") found)
    (first_of (codes "file") found) (first_of (codes "derivation") found)

-- the command of this name, of what clap found for it
abbrev pub command_named : (name : Text) → (found : List Row) → Option Command
command_named name found =
    if bytes_eq name (codes "check") then check_found_in found
    else if bytes_eq name (codes "init") then init_found_in found
    else if bytes_eq name (codes "run") then run_found_in found
    else if bytes_eq name (codes "audit") then audit_found_in found
    else if bytes_eq name (codes "grant") then grant_found_in found
    else if bytes_eq name (codes "gap") then gap_found_in found
    else if bytes_eq name (codes "serve") then serve_found_in found
    else if bytes_eq name (codes "gen") then gen_found_in found
    else if bytes_eq name (codes "derive") then derive_found_in found
    else if bytes_eq name (codes "judge") then judge_found_in found
    else None

abbrev pub command_met : Option (Text × List Row) → Option Command
command_met None = None
command_met (Some (name, found)) = command_named name found

abbrev pub unless_fault : (faults : Kinds) → Option Command → Option Command
unless_fault [] command = command
unless_fault (fault ∷ faults) command = None

-- The command that the words are: that of clap's parse, and nothing where the parse answers a fault.
unfoldable pub command_of : List (List ℕ) → Option Command
command_of words = unless_fault (fault_of program_app words) (command_met (subcommand_of program_app words))
