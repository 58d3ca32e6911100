-- The flag for two disks: where it may stand, and when it is there.
use Rattle.std.proofs.Common.{◌≡◌, refl, [], ◌∷◌, true, false, Some, None, codes}
use Rattle.clap.proofs.OnLiterals.{clap_on_literals}
use Rattle.command_words.specs.Command.{init, run, audit, grant, serve, command_of}
use Rattle.command_words.specs.Mirrored.{is_mirrored}

-- ---- each command of journals with it is the one without it

an_init : command_of (codes "init" ∷ codes "c" ∷ codes "k" ∷ codes "--mirror" ∷ []) ≡ Some (init (codes "c") (codes "k"))
unfolding command_of clap_on_literals
an_init = refl

a_run : command_of (codes "run" ∷ codes "--mirror" ∷ codes "c" ∷ codes "k" ∷ []) ≡ Some (run (codes "c") (codes "k") 1)
unfolding command_of clap_on_literals
a_run = refl

workers_too : command_of (codes "run" ∷ codes "c" ∷ codes "--workers" ∷ codes "16" ∷ codes "--mirror" ∷ codes "k" ∷ []) ≡ Some (run (codes "c") (codes "k") 16)
unfolding command_of clap_on_literals
workers_too = refl

an_audit : command_of (codes "audit" ∷ codes "c" ∷ codes "--mirror" ∷ codes "k" ∷ []) ≡ Some (audit (codes "c") (codes "k"))
unfolding command_of clap_on_literals
an_audit = refl

a_grant : command_of (codes "grant" ∷ codes "c" ∷ codes "k" ∷ codes "o" ∷ codes "5" ∷ codes "--mirror" ∷ []) ≡ Some (grant (codes "c") (codes "k") (codes "o") 5)
unfolding command_of clap_on_literals
a_grant = refl

a_service : command_of (codes "serve" ∷ codes "--mirror" ∷ codes "c" ∷ codes "k" ∷ codes "--port" ∷ codes "1" ∷ codes "--each" ∷ codes "1" ∷ [])
    ≡ Some (serve (codes "c") (codes "k") (codes "127.0.0.1") 1 1 1)
unfolding command_of clap_on_literals
a_service = refl

-- ---- it is none of the others', has no value, and stands there once

a_check : command_of (codes "check" ∷ codes "c" ∷ codes "o" ∷ codes "f" ∷ codes "--mirror" ∷ []) ≡ None
unfolding command_of clap_on_literals
a_check = refl

a_gap : command_of (codes "gap" ∷ codes "c" ∷ codes "o" ∷ codes "d" ∷ codes "f" ∷ codes "--mirror" ∷ []) ≡ None
unfolding command_of clap_on_literals
a_gap = refl

a_generated_run : command_of (codes "gen" ∷ codes "1" ∷ codes "1" ∷ codes "--mirror" ∷ []) ≡ None
unfolding command_of clap_on_literals
a_generated_run = refl

before_the_command : command_of (codes "--mirror" ∷ codes "init" ∷ codes "c" ∷ codes "k" ∷ []) ≡ None
unfolding command_of clap_on_literals
before_the_command = refl

twice : command_of (codes "init" ∷ codes "c" ∷ codes "k" ∷ codes "--mirror" ∷ codes "--mirror" ∷ []) ≡ None
unfolding command_of clap_on_literals
twice = refl

with_a_value : command_of (codes "init" ∷ codes "c" ∷ codes "k" ∷ codes "--mirror=true" ∷ []) ≡ None
unfolding command_of clap_on_literals
with_a_value = refl

begun : command_of (codes "init" ∷ codes "c" ∷ codes "k" ∷ codes "--mirro" ∷ []) ≡ None
unfolding command_of clap_on_literals
begun = refl

in_a_words_place : command_of (codes "init" ∷ codes "c" ∷ codes "--mirror" ∷ []) ≡ None
unfolding command_of clap_on_literals
in_a_words_place = refl

-- behind `--` it is a name
a_name : command_of (codes "init" ∷ codes "--" ∷ codes "c" ∷ codes "--mirror" ∷ []) ≡ Some (init (codes "c") (codes "--mirror"))
unfolding command_of clap_on_literals
a_name = refl

-- ---- whether it is there

no_word : is_mirrored [] ≡ false
no_word = refl

no_flag : is_mirrored (codes "init" ∷ codes "c" ∷ codes "k" ∷ []) ≡ false
no_flag = refl

the_last_word : is_mirrored (codes "init" ∷ codes "c" ∷ codes "k" ∷ codes "--mirror" ∷ []) ≡ true
the_last_word = refl

the_first_word : is_mirrored (codes "--mirror" ∷ codes "init" ∷ []) ≡ true
the_first_word = refl

another_word : is_mirrored (codes "mirror" ∷ codes "-mirror" ∷ codes "--mirro" ∷ codes "--mirrors" ∷ codes "--mirror=true" ∷ codes "--Mirror" ∷ []) ≡ false
another_word = refl

-- also behind `--`: a file of that name is read with two disks for each journal
as_a_name : is_mirrored (codes "init" ∷ codes "--" ∷ codes "c" ∷ codes "--mirror" ∷ []) ≡ true
as_a_name = refl
