-- worked examples of the command that words are, from the written rules
use Rattle.std.proofs.Common.{◌≡◌, refl, [], ◌∷◌, Some, None, codes}
use Rattle.clap.proofs.OnLiterals.{clap_on_literals}
use Rattle.command_words.specs.Command.{check, init, run, audit, grant, gap, serve, gen, amount_written, command_of, number_written}

-- each command
a_check : command_of (codes "check" ∷ codes "c" ∷ codes "o" ∷ codes "f" ∷ []) ≡ Some (check (codes "c") (codes "o") (codes "f"))
unfolding command_of clap_on_literals
a_check = refl

an_init : command_of (codes "init" ∷ codes "c" ∷ codes "k" ∷ []) ≡ Some (init (codes "c") (codes "k"))
unfolding command_of clap_on_literals
an_init = refl

a_run : command_of (codes "run" ∷ codes "c" ∷ codes "k" ∷ []) ≡ Some (run (codes "c") (codes "k") 1)
unfolding command_of clap_on_literals
a_run = refl

an_audit : command_of (codes "audit" ∷ codes "c" ∷ codes "k" ∷ []) ≡ Some (audit (codes "c") (codes "k"))
unfolding command_of clap_on_literals
an_audit = refl

a_gap : command_of (codes "gap" ∷ codes "c" ∷ codes "o" ∷ codes "d" ∷ codes "f" ∷ []) ≡ Some (gap (codes "c") (codes "o") (codes "d") (codes "f"))
unfolding command_of clap_on_literals
a_gap = refl

names_of_files : command_of (codes "run" ∷ codes "people.csv" ∷ codes "a key/of b" ∷ []) ≡ Some (run (codes "people.csv") (codes "a key/of b") 1)
unfolding command_of clap_on_literals
names_of_files = refl

-- the option: after the words, between them and before them, in both forms, and each numeral of 1
option_last : command_of (codes "run" ∷ codes "c" ∷ codes "k" ∷ codes "--workers" ∷ codes "1" ∷ []) ≡ Some (run (codes "c") (codes "k") 1)
unfolding command_of clap_on_literals
option_last = refl

option_between : command_of (codes "run" ∷ codes "c" ∷ codes "--workers" ∷ codes "1" ∷ codes "k" ∷ []) ≡ Some (run (codes "c") (codes "k") 1)
unfolding command_of clap_on_literals
option_between = refl

option_first : command_of (codes "run" ∷ codes "--workers" ∷ codes "1" ∷ codes "c" ∷ codes "k" ∷ []) ≡ Some (run (codes "c") (codes "k") 1)
unfolding command_of clap_on_literals
option_first = refl

option_in_one_word : command_of (codes "run" ∷ codes "c" ∷ codes "k" ∷ codes "--workers=1" ∷ []) ≡ Some (run (codes "c") (codes "k") 1)
unfolding command_of clap_on_literals
option_in_one_word = refl

leading_zero : command_of (codes "run" ∷ codes "c" ∷ codes "k" ∷ codes "--workers" ∷ codes "01" ∷ []) ≡ Some (run (codes "c") (codes "k") 1)
unfolding command_of clap_on_literals
leading_zero = refl

leading_plus : command_of (codes "run" ∷ codes "c" ∷ codes "k" ∷ codes "--workers" ∷ codes "+1" ∷ []) ≡ Some (run (codes "c") (codes "k") 1)
unfolding command_of clap_on_literals
leading_plus = refl

plus_and_zeros : command_of (codes "run" ∷ codes "c" ∷ codes "k" ∷ codes "--workers=+001" ∷ []) ≡ Some (run (codes "c") (codes "k") 1)
unfolding command_of clap_on_literals
plus_and_zeros = refl

-- numbers on both sides of the range, no number, no value, and two values
no_workers : command_of (codes "run" ∷ codes "c" ∷ codes "k" ∷ codes "--workers" ∷ codes "0" ∷ []) ≡ None
unfolding command_of clap_on_literals
no_workers = refl

no_workers_in_one_word : command_of (codes "run" ∷ codes "c" ∷ codes "k" ∷ codes "--workers=0" ∷ []) ≡ None
unfolding command_of clap_on_literals
no_workers_in_one_word = refl

two_workers : command_of (codes "run" ∷ codes "c" ∷ codes "k" ∷ codes "--workers" ∷ codes "2" ∷ []) ≡ Some (run (codes "c") (codes "k") 2)
unfolding command_of clap_on_literals
two_workers = refl

two_workers_in_one_word : command_of (codes "run" ∷ codes "c" ∷ codes "k" ∷ codes "--workers=2" ∷ []) ≡ Some (run (codes "c") (codes "k") 2)
unfolding command_of clap_on_literals
two_workers_in_one_word = refl

most_workers : command_of (codes "run" ∷ codes "c" ∷ codes "k" ∷ codes "--workers" ∷ codes "16" ∷ []) ≡ Some (run (codes "c") (codes "k") 16)
unfolding command_of clap_on_literals
most_workers = refl

most_workers_in_one_word : command_of (codes "run" ∷ codes "c" ∷ codes "k" ∷ codes "--workers=16" ∷ []) ≡ Some (run (codes "c") (codes "k") 16)
unfolding command_of clap_on_literals
most_workers_in_one_word = refl

most_workers_behind_zeros : command_of (codes "run" ∷ codes "c" ∷ codes "k" ∷ codes "--workers=+000000000000000000000016" ∷ []) ≡ Some (run (codes "c") (codes "k") 16)
unfolding command_of clap_on_literals
most_workers_behind_zeros = refl

too_many_workers : command_of (codes "run" ∷ codes "c" ∷ codes "k" ∷ codes "--workers" ∷ codes "17" ∷ []) ≡ None
unfolding command_of clap_on_literals
too_many_workers = refl

too_many_workers_in_one_word : command_of (codes "run" ∷ codes "c" ∷ codes "k" ∷ codes "--workers=17" ∷ []) ≡ None
unfolding command_of clap_on_literals
too_many_workers_in_one_word = refl

a_hundred_workers : command_of (codes "run" ∷ codes "c" ∷ codes "k" ∷ codes "--workers" ∷ codes "100" ∷ []) ≡ None
unfolding command_of clap_on_literals
a_hundred_workers = refl

negative_workers : command_of (codes "run" ∷ codes "c" ∷ codes "k" ∷ codes "--workers=-1" ∷ []) ≡ None
unfolding command_of clap_on_literals
negative_workers = refl

no_number : command_of (codes "run" ∷ codes "c" ∷ codes "k" ∷ codes "--workers" ∷ codes "one" ∷ []) ≡ None
unfolding command_of clap_on_literals
no_number = refl

number_and_more : command_of (codes "run" ∷ codes "c" ∷ codes "k" ∷ codes "--workers" ∷ codes "1x" ∷ []) ≡ None
unfolding command_of clap_on_literals
number_and_more = refl

empty_number : command_of (codes "run" ∷ codes "c" ∷ codes "k" ∷ codes "--workers" ∷ codes "" ∷ []) ≡ None
unfolding command_of clap_on_literals
empty_number = refl

empty_number_in_one_word : command_of (codes "run" ∷ codes "c" ∷ codes "k" ∷ codes "--workers=" ∷ []) ≡ None
unfolding command_of clap_on_literals
empty_number_in_one_word = refl

no_value : command_of (codes "run" ∷ codes "c" ∷ codes "k" ∷ codes "--workers" ∷ []) ≡ None
unfolding command_of clap_on_literals
no_value = refl

no_value_but_a_word : command_of (codes "run" ∷ codes "c" ∷ codes "--workers" ∷ codes "k" ∷ []) ≡ None
unfolding command_of clap_on_literals
no_value_but_a_word = refl

given_twice : command_of (codes "run" ∷ codes "c" ∷ codes "k" ∷ codes "--workers" ∷ codes "1" ∷ codes "--workers" ∷ codes "1" ∷ []) ≡ None
unfolding command_of clap_on_literals
given_twice = refl

-- no command
no_words : command_of ([]) ≡ None
unfolding command_of clap_on_literals
no_words = refl

empty_command : command_of (codes "" ∷ []) ≡ None
unfolding command_of clap_on_literals
empty_command = refl

begun_init : command_of (codes "ini" ∷ codes "c" ∷ codes "k" ∷ []) ≡ None
unfolding command_of clap_on_literals
begun_init = refl

capital_audit : command_of (codes "Audit" ∷ codes "c" ∷ codes "k" ∷ []) ≡ None
unfolding command_of clap_on_literals
capital_audit = refl

unknown_command : command_of (codes "server" ∷ codes "c" ∷ codes "k" ∷ []) ≡ None
unfolding command_of clap_on_literals
unknown_command = refl

capital : command_of (codes "Run" ∷ codes "c" ∷ codes "k" ∷ []) ≡ None
unfolding command_of clap_on_literals
capital = refl

begun_command : command_of (codes "ru" ∷ codes "c" ∷ codes "k" ∷ []) ≡ None
unfolding command_of clap_on_literals
begun_command = refl

late_command : command_of (codes "c" ∷ codes "run" ∷ codes "k" ∷ []) ≡ None
unfolding command_of clap_on_literals
late_command = refl

-- words too few and too many
check_alone : command_of (codes "check" ∷ []) ≡ None
unfolding command_of clap_on_literals
check_alone = refl

check_short : command_of (codes "check" ∷ codes "c" ∷ codes "o" ∷ []) ≡ None
unfolding command_of clap_on_literals
check_short = refl

check_long : command_of (codes "check" ∷ codes "c" ∷ codes "o" ∷ codes "f" ∷ codes "g" ∷ []) ≡ None
unfolding command_of clap_on_literals
check_long = refl

run_alone : command_of (codes "run" ∷ []) ≡ None
unfolding command_of clap_on_literals
run_alone = refl

run_short : command_of (codes "run" ∷ codes "c" ∷ []) ≡ None
unfolding command_of clap_on_literals
run_short = refl

run_long : command_of (codes "run" ∷ codes "c" ∷ codes "k" ∷ codes "l" ∷ []) ≡ None
unfolding command_of clap_on_literals
run_long = refl

init_alone : command_of (codes "init" ∷ []) ≡ None
unfolding command_of clap_on_literals
init_alone = refl

init_short : command_of (codes "init" ∷ codes "c" ∷ []) ≡ None
unfolding command_of clap_on_literals
init_short = refl

init_long : command_of (codes "init" ∷ codes "c" ∷ codes "k" ∷ codes "l" ∷ []) ≡ None
unfolding command_of clap_on_literals
init_long = refl

audit_alone : command_of (codes "audit" ∷ []) ≡ None
unfolding command_of clap_on_literals
audit_alone = refl

audit_short : command_of (codes "audit" ∷ codes "c" ∷ []) ≡ None
unfolding command_of clap_on_literals
audit_short = refl

audit_long : command_of (codes "audit" ∷ codes "c" ∷ codes "k" ∷ codes "l" ∷ []) ≡ None
unfolding command_of clap_on_literals
audit_long = refl

gap_alone : command_of (codes "gap" ∷ []) ≡ None
unfolding command_of clap_on_literals
gap_alone = refl

gap_short : command_of (codes "gap" ∷ codes "c" ∷ codes "o" ∷ codes "d" ∷ []) ≡ None
unfolding command_of clap_on_literals
gap_short = refl

gap_long : command_of (codes "gap" ∷ codes "c" ∷ codes "o" ∷ codes "d" ∷ codes "f" ∷ codes "g" ∷ []) ≡ None
unfolding command_of clap_on_literals
gap_long = refl

-- options that the command lacks
workers_of_check : command_of (codes "check" ∷ codes "c" ∷ codes "o" ∷ codes "f" ∷ codes "--workers" ∷ codes "1" ∷ []) ≡ None
unfolding command_of clap_on_literals
workers_of_check = refl

workers_of_init : command_of (codes "init" ∷ codes "c" ∷ codes "k" ∷ codes "--workers" ∷ codes "1" ∷ []) ≡ None
unfolding command_of clap_on_literals
workers_of_init = refl

workers_of_audit : command_of (codes "audit" ∷ codes "c" ∷ codes "k" ∷ codes "--workers" ∷ codes "1" ∷ []) ≡ None
unfolding command_of clap_on_literals
workers_of_audit = refl

workers_of_gap : command_of (codes "gap" ∷ codes "c" ∷ codes "o" ∷ codes "d" ∷ codes "f" ∷ codes "--workers" ∷ codes "1" ∷ []) ≡ None
unfolding command_of clap_on_literals
workers_of_gap = refl

unknown_option : command_of (codes "run" ∷ codes "c" ∷ codes "k" ∷ codes "--seed" ∷ codes "1" ∷ []) ≡ None
unfolding command_of clap_on_literals
unknown_option = refl

begun_option : command_of (codes "run" ∷ codes "c" ∷ codes "k" ∷ codes "--work" ∷ codes "1" ∷ []) ≡ None
unfolding command_of clap_on_literals
begun_option = refl

short_option : command_of (codes "run" ∷ codes "-w" ∷ codes "1" ∷ codes "c" ∷ codes "k" ∷ []) ≡ None
unfolding command_of clap_on_literals
short_option = refl

option_before_the_command : command_of (codes "--workers" ∷ codes "1" ∷ codes "run" ∷ codes "c" ∷ codes "k" ∷ []) ≡ None
unfolding command_of clap_on_literals
option_before_the_command = refl

-- calls for help and for the version are faults
help_flag : command_of (codes "--help" ∷ []) ≡ None
unfolding command_of clap_on_literals
help_flag = refl

short_help_flag : command_of (codes "-h" ∷ []) ≡ None
unfolding command_of clap_on_literals
short_help_flag = refl

help_command : command_of (codes "help" ∷ []) ≡ None
unfolding command_of clap_on_literals
help_command = refl

help_on_run : command_of (codes "help" ∷ codes "run" ∷ []) ≡ None
unfolding command_of clap_on_literals
help_on_run = refl

help_flag_of_run : command_of (codes "run" ∷ codes "--help" ∷ []) ≡ None
unfolding command_of clap_on_literals
help_flag_of_run = refl

help_flag_after_words : command_of (codes "run" ∷ codes "c" ∷ codes "k" ∷ codes "-h" ∷ []) ≡ None
unfolding command_of clap_on_literals
help_flag_after_words = refl

version_flag : command_of (codes "--version" ∷ []) ≡ None
unfolding command_of clap_on_literals
version_flag = refl

short_version_flag : command_of (codes "-V" ∷ []) ≡ None
unfolding command_of clap_on_literals
short_version_flag = refl

version_flag_of_run : command_of (codes "run" ∷ codes "c" ∷ codes "k" ∷ codes "--version" ∷ []) ≡ None
unfolding command_of clap_on_literals
version_flag_of_run = refl

-- names that begin with a hyphen follow `--`; a hyphen alone is a name, and so is an empty word
hyphens : command_of (codes "run" ∷ codes "--" ∷ codes "-c" ∷ codes "--workers" ∷ []) ≡ Some (run (codes "-c") (codes "--workers") 1)
unfolding command_of clap_on_literals
hyphens = refl

hyphens_later : command_of (codes "run" ∷ codes "c" ∷ codes "--" ∷ codes "-k" ∷ []) ≡ Some (run (codes "c") (codes "-k") 1)
unfolding command_of clap_on_literals
hyphens_later = refl

hyphens_named : command_of (codes "run" ∷ codes "--workers" ∷ codes "1" ∷ codes "--" ∷ codes "--" ∷ codes "k" ∷ []) ≡ Some (run (codes "--") (codes "k") 1)
unfolding command_of clap_on_literals
hyphens_named = refl

hyphens_bare : command_of (codes "run" ∷ codes "-c" ∷ codes "k" ∷ []) ≡ None
unfolding command_of clap_on_literals
hyphens_bare = refl

late_option : command_of (codes "run" ∷ codes "c" ∷ codes "--" ∷ codes "k" ∷ codes "--workers" ∷ codes "1" ∷ []) ≡ None
unfolding command_of clap_on_literals
late_option = refl

hyphen_alone : command_of (codes "run" ∷ codes "-" ∷ codes "-" ∷ []) ≡ Some (run (codes "-") (codes "-") 1)
unfolding command_of clap_on_literals
hyphen_alone = refl

empty_name : command_of (codes "run" ∷ codes "" ∷ codes "k" ∷ []) ≡ Some (run (codes "") (codes "k") 1)
unfolding command_of clap_on_literals
empty_name = refl

names_of_commands : command_of (codes "check" ∷ codes "check" ∷ codes "run" ∷ codes "gap" ∷ []) ≡ Some (check (codes "check") (codes "run") (codes "gap"))
unfolding command_of clap_on_literals
names_of_commands = refl

names_of_other_commands : command_of (codes "init" ∷ codes "audit" ∷ codes "init" ∷ []) ≡ Some (init (codes "audit") (codes "init"))
unfolding command_of clap_on_literals
names_of_other_commands = refl

help_as_a_name : command_of (codes "run" ∷ codes "help" ∷ codes "k" ∷ []) ≡ Some (run (codes "help") (codes "k") 1)
unfolding command_of clap_on_literals
help_as_a_name = refl

command_after_hyphens : command_of (codes "--" ∷ codes "run" ∷ codes "c" ∷ codes "k" ∷ []) ≡ None
unfolding command_of clap_on_literals
command_after_hyphens = refl

-- numbers as a word of their own: a minus begins an option, a number of 2^32 and more is none, and one plus is enough
negative_workers_in_two_words : command_of (codes "run" ∷ codes "c" ∷ codes "k" ∷ codes "--workers" ∷ codes "-1" ∷ []) ≡ None
unfolding command_of clap_on_literals
negative_workers_in_two_words = refl

workers_past_the_numbers : command_of (codes "run" ∷ codes "c" ∷ codes "k" ∷ codes "--workers" ∷ codes "4294967297" ∷ []) ≡ None
unfolding command_of clap_on_literals
workers_past_the_numbers = refl

workers_past_the_numbers_in_one_word : command_of (codes "run" ∷ codes "c" ∷ codes "k" ∷ codes "--workers=4294967297" ∷ []) ≡ None
unfolding command_of clap_on_literals
workers_past_the_numbers_in_one_word = refl

workers_past_all_numbers : command_of (codes "run" ∷ codes "c" ∷ codes "k" ∷ codes "--workers" ∷ codes "18446744073709551617" ∷ []) ≡ None
unfolding command_of clap_on_literals
workers_past_all_numbers = refl

two_pluses : command_of (codes "run" ∷ codes "c" ∷ codes "k" ∷ codes "--workers" ∷ codes "++1" ∷ []) ≡ None
unfolding command_of clap_on_literals
two_pluses = refl

-- the option without the words of a run
option_alone : command_of (codes "run" ∷ codes "--workers" ∷ codes "1" ∷ []) ≡ None
unfolding command_of clap_on_literals
option_alone = refl

option_and_one_word : command_of (codes "run" ∷ codes "--workers" ∷ codes "1" ∷ codes "c" ∷ []) ≡ None
unfolding command_of clap_on_literals
option_and_one_word = refl

-- calls for help and for the version behind the words of the other commands
help_behind_check : command_of (codes "check" ∷ codes "c" ∷ codes "o" ∷ codes "f" ∷ codes "--help" ∷ []) ≡ None
unfolding command_of clap_on_literals
help_behind_check = refl

short_help_behind_check : command_of (codes "check" ∷ codes "c" ∷ codes "o" ∷ codes "f" ∷ codes "-h" ∷ []) ≡ None
unfolding command_of clap_on_literals
short_help_behind_check = refl

version_behind_check : command_of (codes "check" ∷ codes "c" ∷ codes "o" ∷ codes "f" ∷ codes "--version" ∷ []) ≡ None
unfolding command_of clap_on_literals
version_behind_check = refl

help_alone_of_check : command_of (codes "check" ∷ codes "--help" ∷ []) ≡ None
unfolding command_of clap_on_literals
help_alone_of_check = refl

help_behind_init : command_of (codes "init" ∷ codes "c" ∷ codes "k" ∷ codes "--help" ∷ []) ≡ None
unfolding command_of clap_on_literals
help_behind_init = refl

version_behind_init : command_of (codes "init" ∷ codes "c" ∷ codes "k" ∷ codes "--version" ∷ []) ≡ None
unfolding command_of clap_on_literals
version_behind_init = refl

help_alone_of_init : command_of (codes "init" ∷ codes "--help" ∷ []) ≡ None
unfolding command_of clap_on_literals
help_alone_of_init = refl

help_behind_audit : command_of (codes "audit" ∷ codes "c" ∷ codes "k" ∷ codes "--help" ∷ []) ≡ None
unfolding command_of clap_on_literals
help_behind_audit = refl

version_behind_audit : command_of (codes "audit" ∷ codes "c" ∷ codes "k" ∷ codes "--version" ∷ []) ≡ None
unfolding command_of clap_on_literals
version_behind_audit = refl

help_alone_of_audit : command_of (codes "audit" ∷ codes "--help" ∷ []) ≡ None
unfolding command_of clap_on_literals
help_alone_of_audit = refl

help_behind_gap : command_of (codes "gap" ∷ codes "c" ∷ codes "o" ∷ codes "d" ∷ codes "f" ∷ codes "--help" ∷ []) ≡ None
unfolding command_of clap_on_literals
help_behind_gap = refl

short_help_behind_gap : command_of (codes "gap" ∷ codes "c" ∷ codes "o" ∷ codes "d" ∷ codes "f" ∷ codes "-h" ∷ []) ≡ None
unfolding command_of clap_on_literals
short_help_behind_gap = refl

version_behind_gap : command_of (codes "gap" ∷ codes "c" ∷ codes "o" ∷ codes "d" ∷ codes "f" ∷ codes "--version" ∷ []) ≡ None
unfolding command_of clap_on_literals
version_behind_gap = refl

help_alone_of_gap : command_of (codes "gap" ∷ codes "--help" ∷ []) ≡ None
unfolding command_of clap_on_literals
help_alone_of_gap = refl

-- and behind `--` they are names, as in each command
help_flag_as_a_name : command_of (codes "run" ∷ codes "--" ∷ codes "--help" ∷ codes "-h" ∷ []) ≡ Some (run (codes "--help") (codes "-h") 1)
unfolding command_of clap_on_literals
help_flag_as_a_name = refl

version_flag_as_a_name : command_of (codes "check" ∷ codes "c" ∷ codes "o" ∷ codes "--" ∷ codes "--version" ∷ []) ≡ Some (check (codes "c") (codes "o") (codes "--version"))
unfolding command_of clap_on_literals
version_flag_as_a_name = refl

hyphens_of_check : command_of (codes "check" ∷ codes "--" ∷ codes "-c" ∷ codes "-o" ∷ codes "--" ∷ []) ≡ Some (check (codes "-c") (codes "-o") (codes "--"))
unfolding command_of clap_on_literals
hyphens_of_check = refl

hyphens_of_init : command_of (codes "init" ∷ codes "--" ∷ codes "-c" ∷ codes "--" ∷ []) ≡ Some (init (codes "-c") (codes "--"))
unfolding command_of clap_on_literals
hyphens_of_init = refl

hyphens_bare_of_init : command_of (codes "init" ∷ codes "c" ∷ codes "-k" ∷ []) ≡ None
unfolding command_of clap_on_literals
hyphens_bare_of_init = refl

hyphens_of_audit : command_of (codes "audit" ∷ codes "--" ∷ codes "-c" ∷ codes "--" ∷ []) ≡ Some (audit (codes "-c") (codes "--"))
unfolding command_of clap_on_literals
hyphens_of_audit = refl

hyphens_bare_of_audit : command_of (codes "audit" ∷ codes "c" ∷ codes "-k" ∷ []) ≡ None
unfolding command_of clap_on_literals
hyphens_bare_of_audit = refl

hyphens_of_gap : command_of (codes "gap" ∷ codes "c" ∷ codes "--" ∷ codes "-o" ∷ codes "-d" ∷ codes "-f" ∷ []) ≡ Some (gap (codes "c") (codes "-o") (codes "-d") (codes "-f"))
unfolding command_of clap_on_literals
hyphens_of_gap = refl

hyphens_bare_of_check : command_of (codes "check" ∷ codes "c" ∷ codes "-o" ∷ codes "f" ∷ []) ≡ None
unfolding command_of clap_on_literals
hyphens_bare_of_check = refl

hyphens_bare_of_gap : command_of (codes "gap" ∷ codes "c" ∷ codes "o" ∷ codes "d" ∷ codes "-f" ∷ []) ≡ None
unfolding command_of clap_on_literals
hyphens_bare_of_gap = refl

-- a last `--` with no word behind it adds nothing, and stands for no word
hyphens_last_of_run : command_of (codes "run" ∷ codes "c" ∷ codes "k" ∷ codes "--" ∷ []) ≡ Some (run (codes "c") (codes "k") 1)
unfolding command_of clap_on_literals
hyphens_last_of_run = refl

hyphens_last_of_check : command_of (codes "check" ∷ codes "c" ∷ codes "o" ∷ codes "f" ∷ codes "--" ∷ []) ≡ Some (check (codes "c") (codes "o") (codes "f"))
unfolding command_of clap_on_literals
hyphens_last_of_check = refl

hyphens_last_of_gap : command_of (codes "gap" ∷ codes "c" ∷ codes "o" ∷ codes "d" ∷ codes "f" ∷ codes "--" ∷ []) ≡ Some (gap (codes "c") (codes "o") (codes "d") (codes "f"))
unfolding command_of clap_on_literals
hyphens_last_of_gap = refl

hyphens_are_no_word : command_of (codes "run" ∷ codes "c" ∷ codes "--" ∷ []) ≡ None
unfolding command_of clap_on_literals
hyphens_are_no_word = refl

-- names have any bytes: those of `é`, and one byte over 127 that is no text
name_of_two_bytes : command_of (codes "run" ∷ (195 ∷ 169 ∷ []) ∷ codes "k" ∷ []) ≡ Some (run (195 ∷ 169 ∷ []) (codes "k") 1)
unfolding command_of clap_on_literals
name_of_two_bytes = refl

key_of_a_byte : command_of (codes "init" ∷ codes "c" ∷ (255 ∷ []) ∷ []) ≡ Some (init (codes "c") (255 ∷ []))
unfolding command_of clap_on_literals
key_of_a_byte = refl

name_of_a_byte : command_of (codes "check" ∷ codes "c" ∷ (255 ∷ []) ∷ codes "f" ∷ []) ≡ Some (check (codes "c") (255 ∷ []) (codes "f"))
unfolding command_of clap_on_literals
name_of_a_byte = refl

name_that_ends_in_a_byte : command_of (codes "gap" ∷ codes "c" ∷ codes "o" ∷ codes "d" ∷ (97 ∷ 128 ∷ []) ∷ []) ≡ Some (gap (codes "c") (codes "o") (codes "d") (97 ∷ 128 ∷ []))
unfolding command_of clap_on_literals
name_that_ends_in_a_byte = refl

command_in_other_bytes : command_of ((242 ∷ 245 ∷ 238 ∷ []) ∷ codes "c" ∷ codes "k" ∷ []) ≡ None
unfolding command_of clap_on_literals
command_in_other_bytes = refl

-- numbers
number_one : number_written (codes "1") ≡ Some 1
number_one = refl

number_zero : number_written (codes "0") ≡ Some 0
number_zero = refl

number_plus : number_written (codes "+12") ≡ Some 12
number_plus = refl

number_zeros : number_written (codes "0012") ≡ Some 12
number_zeros = refl

number_largest : number_written (codes "4294967295") ≡ Some 4294967295
number_largest = refl

number_too_large : number_written (codes "4294967296") ≡ None
number_too_large = refl

number_no_digit : number_written (codes "") ≡ None
number_no_digit = refl

number_plus_alone : number_written (codes "+") ≡ None
number_plus_alone = refl

number_minus : number_written (codes "-1") ≡ None
number_minus = refl

number_space : number_written (codes "1 ") ≡ None
number_space = refl

number_letter : number_written (codes "a") ≡ None
number_letter = refl

number_past_the_largest : number_written (codes "4294967297") ≡ None
number_past_the_largest = refl

number_two_pluses : number_written (codes "++1") ≡ None
number_two_pluses = refl

-- a service: its options in any order, what each is where it is left out, and numbers on both sides of their ranges

a_service : command_of (codes "serve" ∷ codes "c" ∷ codes "k" ∷ codes "--port" ∷ codes "1" ∷ codes "--each" ∷ codes "1" ∷ []) ≡ Some (serve (codes "c") (codes "k") (codes "127.0.0.1") 1 1 1)
unfolding command_of clap_on_literals
a_service = refl

all_options : command_of (codes "serve" ∷ codes "c" ∷ codes "--each" ∷ codes "1000000" ∷ codes "k" ∷ codes "--workers" ∷ codes "16" ∷ codes "--addr" ∷ codes "10.0.0.7" ∷ codes "--port=65520" ∷ []) ≡ Some (serve (codes "c") (codes "k") (codes "10.0.0.7") 65520 16 1000000)
unfolding command_of clap_on_literals
all_options = refl

any_address : command_of (codes "serve" ∷ codes "c" ∷ codes "k" ∷ codes "--addr=" ∷ codes "--port" ∷ codes "7000" ∷ codes "--each" ∷ codes "2" ∷ []) ≡ Some (serve (codes "c") (codes "k") (codes "") 7000 1 2)
unfolding command_of clap_on_literals
any_address = refl

port_zero : command_of (codes "serve" ∷ codes "c" ∷ codes "k" ∷ codes "--port" ∷ codes "0" ∷ codes "--each" ∷ codes "1" ∷ []) ≡ None
unfolding command_of clap_on_literals
port_zero = refl

port_past_the_last : command_of (codes "serve" ∷ codes "c" ∷ codes "k" ∷ codes "--port" ∷ codes "65521" ∷ codes "--each" ∷ codes "1" ∷ []) ≡ None
unfolding command_of clap_on_literals
port_past_the_last = refl

each_zero : command_of (codes "serve" ∷ codes "c" ∷ codes "k" ∷ codes "--port" ∷ codes "1" ∷ codes "--each" ∷ codes "0" ∷ []) ≡ None
unfolding command_of clap_on_literals
each_zero = refl

each_past_the_most : command_of (codes "serve" ∷ codes "c" ∷ codes "k" ∷ codes "--port" ∷ codes "1" ∷ codes "--each" ∷ codes "1000001" ∷ []) ≡ None
unfolding command_of clap_on_literals
each_past_the_most = refl

service_of_no_worker : command_of (codes "serve" ∷ codes "c" ∷ codes "k" ∷ codes "--port" ∷ codes "1" ∷ codes "--each" ∷ codes "1" ∷ codes "--workers" ∷ codes "0" ∷ []) ≡ None
unfolding command_of clap_on_literals
service_of_no_worker = refl

service_of_too_many_workers : command_of (codes "serve" ∷ codes "c" ∷ codes "k" ∷ codes "--port" ∷ codes "1" ∷ codes "--each" ∷ codes "1" ∷ codes "--workers" ∷ codes "17" ∷ []) ≡ None
unfolding command_of clap_on_literals
service_of_too_many_workers = refl

port_left_out : command_of (codes "serve" ∷ codes "c" ∷ codes "k" ∷ codes "--each" ∷ codes "1" ∷ []) ≡ None
unfolding command_of clap_on_literals
port_left_out = refl

each_left_out : command_of (codes "serve" ∷ codes "c" ∷ codes "k" ∷ codes "--port" ∷ codes "1" ∷ []) ≡ None
unfolding command_of clap_on_literals
each_left_out = refl

service_without_a_key : command_of (codes "serve" ∷ codes "c" ∷ codes "--port" ∷ codes "1" ∷ codes "--each" ∷ codes "1" ∷ []) ≡ None
unfolding command_of clap_on_literals
service_without_a_key = refl

service_with_a_word_more : command_of (codes "serve" ∷ codes "c" ∷ codes "k" ∷ codes "l" ∷ codes "--port" ∷ codes "1" ∷ codes "--each" ∷ codes "1" ∷ []) ≡ None
unfolding command_of clap_on_literals
service_with_a_word_more = refl

port_of_a_run : command_of (codes "run" ∷ codes "c" ∷ codes "k" ∷ codes "--port" ∷ codes "1" ∷ []) ≡ None
unfolding command_of clap_on_literals
port_of_a_run = refl

port_twice : command_of (codes "serve" ∷ codes "c" ∷ codes "k" ∷ codes "--port" ∷ codes "1" ∷ codes "--port" ∷ codes "1" ∷ codes "--each" ∷ codes "1" ∷ []) ≡ None
unfolding command_of clap_on_literals
port_twice = refl

-- a generated run: its numbers are words

a_generated_run : command_of (codes "gen" ∷ codes "0" ∷ codes "1" ∷ []) ≡ Some (gen 0 1 1)
unfolding command_of clap_on_literals
a_generated_run = refl

generated_by_many : command_of (codes "gen" ∷ codes "4294967295" ∷ codes "100000" ∷ codes "16" ∷ []) ≡ Some (gen 4294967295 100000 16)
unfolding command_of clap_on_literals
generated_by_many = refl

generated_in_other_forms : command_of (codes "gen" ∷ codes "+7" ∷ codes "02000" ∷ codes "--" ∷ codes "4" ∷ []) ≡ Some (gen 7 2000 4)
unfolding command_of clap_on_literals
generated_in_other_forms = refl

seed_past_the_last : command_of (codes "gen" ∷ codes "4294967296" ∷ codes "1" ∷ []) ≡ None
unfolding command_of clap_on_literals
seed_past_the_last = refl

seed_that_is_none : command_of (codes "gen" ∷ codes "x" ∷ codes "1" ∷ []) ≡ None
unfolding command_of clap_on_literals
seed_that_is_none = refl

no_asks : command_of (codes "gen" ∷ codes "0" ∷ codes "0" ∷ []) ≡ None
unfolding command_of clap_on_literals
no_asks = refl

asks_past_the_most : command_of (codes "gen" ∷ codes "0" ∷ codes "100001" ∷ []) ≡ None
unfolding command_of clap_on_literals
asks_past_the_most = refl

generated_by_none : command_of (codes "gen" ∷ codes "0" ∷ codes "1" ∷ codes "0" ∷ []) ≡ None
unfolding command_of clap_on_literals
generated_by_none = refl

generated_by_too_many : command_of (codes "gen" ∷ codes "0" ∷ codes "1" ∷ codes "17" ∷ []) ≡ None
unfolding command_of clap_on_literals
generated_by_too_many = refl

asks_left_out : command_of (codes "gen" ∷ codes "0" ∷ []) ≡ None
unfolding command_of clap_on_literals
asks_left_out = refl

generated_with_a_word_more : command_of (codes "gen" ∷ codes "0" ∷ codes "1" ∷ codes "1" ∷ codes "1" ∷ []) ≡ None
unfolding command_of clap_on_literals
generated_with_a_word_more = refl

generated_with_an_option : command_of (codes "gen" ∷ codes "0" ∷ codes "1" ∷ codes "--workers" ∷ codes "2" ∷ []) ≡ None
unfolding command_of clap_on_literals
generated_with_an_option = refl

-- a grant: its amount is a word, a number on both sides of its range, one past 64 bits, and none

a_grant : command_of (codes "grant" ∷ codes "c" ∷ codes "k" ∷ codes "o" ∷ codes "1" ∷ []) ≡ Some (grant (codes "c") (codes "k") (codes "o") 1)
unfolding command_of clap_on_literals
a_grant = refl

greatest_grant : command_of (codes "grant" ∷ codes "c" ∷ codes "k" ∷ codes "o" ∷ codes "1000000000000000000" ∷ []) ≡ Some (grant (codes "c") (codes "k") (codes "o") 1000000000000000000)
unfolding command_of clap_on_literals
greatest_grant = refl

grant_past_the_other_numbers : command_of (codes "grant" ∷ codes "c" ∷ codes "k" ∷ codes "o" ∷ codes "4294967296" ∷ []) ≡ Some (grant (codes "c") (codes "k") (codes "o") 4294967296)
unfolding command_of clap_on_literals
grant_past_the_other_numbers = refl

grant_in_another_form : command_of (codes "grant" ∷ codes "c" ∷ codes "k" ∷ codes "o" ∷ codes "+0250000" ∷ []) ≡ Some (grant (codes "c") (codes "k") (codes "o") 250000)
unfolding command_of clap_on_literals
grant_in_another_form = refl

grant_behind_hyphens : command_of (codes "grant" ∷ codes "c" ∷ codes "--" ∷ codes "-k" ∷ codes "--" ∷ codes "7" ∷ []) ≡ Some (grant (codes "c") (codes "-k") (codes "--") 7)
unfolding command_of clap_on_literals
grant_behind_hyphens = refl

grant_of_nothing : command_of (codes "grant" ∷ codes "c" ∷ codes "k" ∷ codes "o" ∷ codes "0" ∷ []) ≡ None
unfolding command_of clap_on_literals
grant_of_nothing = refl

grant_past_the_greatest : command_of (codes "grant" ∷ codes "c" ∷ codes "k" ∷ codes "o" ∷ codes "1000000000000000001" ∷ []) ≡ None
unfolding command_of clap_on_literals
grant_past_the_greatest = refl

grant_past_all_numbers : command_of (codes "grant" ∷ codes "c" ∷ codes "k" ∷ codes "o" ∷ codes "18446744073709551617" ∷ []) ≡ None
unfolding command_of clap_on_literals
grant_past_all_numbers = refl

grant_below_nothing : command_of (codes "grant" ∷ codes "--" ∷ codes "c" ∷ codes "k" ∷ codes "o" ∷ codes "-1" ∷ []) ≡ None
unfolding command_of clap_on_literals
grant_below_nothing = refl

grant_of_no_number : command_of (codes "grant" ∷ codes "c" ∷ codes "k" ∷ codes "o" ∷ codes "x" ∷ []) ≡ None
unfolding command_of clap_on_literals
grant_of_no_number = refl

grant_of_a_number_and_more : command_of (codes "grant" ∷ codes "c" ∷ codes "k" ∷ codes "o" ∷ codes "1x" ∷ []) ≡ None
unfolding command_of clap_on_literals
grant_of_a_number_and_more = refl

grant_of_an_empty_word : command_of (codes "grant" ∷ codes "c" ∷ codes "k" ∷ codes "o" ∷ codes "" ∷ []) ≡ None
unfolding command_of clap_on_literals
grant_of_an_empty_word = refl

grant_alone : command_of (codes "grant" ∷ []) ≡ None
unfolding command_of clap_on_literals
grant_alone = refl

grant_without_an_amount : command_of (codes "grant" ∷ codes "c" ∷ codes "k" ∷ codes "o" ∷ []) ≡ None
unfolding command_of clap_on_literals
grant_without_an_amount = refl

grant_with_a_word_more : command_of (codes "grant" ∷ codes "c" ∷ codes "k" ∷ codes "o" ∷ codes "1" ∷ codes "1" ∷ []) ≡ None
unfolding command_of clap_on_literals
grant_with_a_word_more = refl

grant_with_an_option : command_of (codes "grant" ∷ codes "c" ∷ codes "k" ∷ codes "o" ∷ codes "1" ∷ codes "--workers" ∷ codes "1" ∷ []) ≡ None
unfolding command_of clap_on_literals
grant_with_an_option = refl

help_behind_grant : command_of (codes "grant" ∷ codes "c" ∷ codes "k" ∷ codes "o" ∷ codes "1" ∷ codes "--help" ∷ []) ≡ None
unfolding command_of clap_on_literals
help_behind_grant = refl

-- amounts are below 2^64
amount_largest : amount_written (codes "18446744073709551615") ≡ Some 18446744073709551615
amount_largest = refl

amount_too_large : amount_written (codes "18446744073709551616") ≡ None
amount_too_large = refl
