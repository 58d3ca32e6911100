-- The program's commands, as clap is told of them.
use Rattle.std.specs.Prelude.{ℕ, ◌-◌, ◌^◌, [], ◌∷◌, true, Some, pos, codes}
use Rattle.worker_pool.specs.Workers.{worker_limit}
use Rattle.clap.specs.Words.{App, Rule, Text, new_app, new_rule, with_rule, with_subcommand}
use Rattle.clap.specs.declared.builder.action.ArgAction.TheVariants.{SetTrue}
use Rattle.clap.specs.declared.builder.value_parser.ValueParser.{ValueParser}
use Rattle.clap.specs.declared.builder.value_parser.ValueParser.TheVariants as parser

-- the most workers of a run, a service or a generated run
abbrev pub greatest_workers : ℕ
greatest_workers = worker_limit

-- the greatest amount of a grant, in millionths of epsilon
abbrev pub greatest_amount : ℕ
greatest_amount = 10 ^ 18

-- The last port that a service's first worker may listen at: those of the others follow it, up to 65,535.
abbrev pub greatest_port : ℕ
greatest_port = 65520

-- the most connections that each worker of a service serves
abbrev pub greatest_each : ℕ
greatest_each = 1000000

-- the last seed of a generated run, and its most asks
abbrev pub greatest_seed : ℕ
greatest_seed = 2 ^ 32 - 1

abbrev pub greatest_asks : ℕ
greatest_asks = 100000

-- a word that must be given
abbrev pub required_word : Text → Rule
required_word name = record (new_rule name) { required = true }

-- a number in this range
abbrev pub from_to : (low high : ℕ) → ValueParser
from_to low high = parser.Signed (pos low) (pos high)

abbrev pub number_rule : Text → ValueParser → Rule
number_rule name range = record (new_rule name) { parser = Some range }

-- said behind the option of its name
abbrev pub as_option : Rule → Rule
as_option rule = record rule { long = Some rule.id }

-- a number that must be given, as a word or behind its option
abbrev pub required_number : Text → ValueParser → Rule
required_number name range = record (number_rule name range) { required = true }

abbrev pub required_option : Text → ValueParser → Rule
required_option name range = as_option (required_number name range)

-- this where it isn't given
abbrev pub or_else_is : Rule → Text → Rule
or_else_is rule text = record rule { defaults = text ∷ [] }

-- `--workers W`, a number from 1 to the most; 1 where it isn't given
abbrev pub workers_rule : Rule
workers_rule = number_rule (codes "workers") (from_to 1 greatest_workers)

abbrev pub workers_option : Rule
workers_option = or_else_is (as_option workers_rule) (codes "1")

-- `--mirror`: each journal is kept on two disks
abbrev pub mirror_option : Rule
mirror_option = record (as_option (new_rule (codes "mirror"))) { action = Some SetTrue }

-- the command may be told that
abbrev pub with_mirror : App → App
with_mirror app = with_rule app mirror_option

-- the command with one more word, in this order
abbrev pub with_word : App → Text → App
with_word app name = with_rule app (required_word name)

-- the command of this name, with the names of a catalog, of an owner and of a program's file
abbrev pub program_file_app : (name : Text) → App
program_file_app name = with_word (with_word (with_word (new_app name) (codes "catalog")) (codes "owner")) (codes "file")

abbrev pub check_app : App
check_app = program_file_app (codes "check")

abbrev pub derive_app : App
derive_app = program_file_app (codes "derive")

-- its last word is the name of a derivation's file
abbrev pub judge_app : App
judge_app = with_word (program_file_app (codes "judge")) (codes "derivation")

-- the command of this name, with the names of a catalog and of a key
abbrev pub files_app : (name : Text) → App
files_app name = with_word (with_word (new_app name) (codes "catalog")) (codes "key")

abbrev pub init_app : App
init_app = with_mirror (files_app (codes "init"))

abbrev pub run_app : App
run_app = with_mirror (with_rule (files_app (codes "run")) workers_option)

abbrev pub audit_app : App
audit_app = with_mirror (files_app (codes "audit"))

-- its last word is a number
abbrev pub grant_app : App
grant_app = with_mirror (with_rule (with_word (files_app (codes "grant")) (codes "owner")) (required_number (codes "amount") (from_to 1 greatest_amount)))

abbrev pub gap_app : App
gap_app = with_word (with_word (with_word (with_word (new_app (codes "gap")) (codes "catalog")) (codes "owner"))
    (codes "second_catalog")) (codes "file")

-- `--addr A`, the address of this machine alone where it isn't given
abbrev pub address_option : Rule
address_option = or_else_is (as_option (new_rule (codes "addr"))) (codes "127.0.0.1")

abbrev pub serve_app : App
serve_app = with_mirror (with_rule (with_rule (with_rule (with_rule (files_app (codes "serve")) address_option)
    (required_option (codes "port") (from_to 1 greatest_port))) workers_option)
    (required_option (codes "each") (from_to 1 greatest_each)))

-- its numbers are words, the last one 1 where it isn't given
abbrev pub gen_app : App
gen_app = with_rule (with_rule (with_rule (new_app (codes "gen")) (required_number (codes "seed") (from_to 0 greatest_seed)))
    (required_number (codes "asks") (from_to 1 greatest_asks))) (or_else_is workers_rule (codes "1"))

-- The words leave out the program's own name, one of the commands is required, and help isn't one of them, nor a flag.
abbrev pub bare_program : App
bare_program = let app = new_app (codes "hitchseason") in record app {
  top = record app.top {
    no_binary_name = true;
    subcommand_required = true;
    disable_help_flag = true;
    disable_help_subcommand = true;
  };
}

abbrev pub program_app : App
program_app = with_subcommand (with_subcommand (with_subcommand (with_subcommand (with_subcommand (with_subcommand (with_subcommand (with_subcommand
    (with_subcommand (with_subcommand bare_program check_app.top) init_app.top) run_app.top) audit_app.top) grant_app.top) gap_app.top) serve_app.top)
    gen_app.top) derive_app.top) judge_app.top
