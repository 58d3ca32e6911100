-- worked examples of `derive` and `judge`, from the written rules
use Rattle.std.proofs.Common.{◌≡◌, refl, [], ◌∷◌, Some, None, codes}
use Rattle.clap.proofs.OnLiterals.{clap_on_literals}
use Rattle.command_words.specs.Command.{derive, judge, command_of}

a_derivation : command_of (codes "derive" ∷ codes "c" ∷ codes "o" ∷ codes "f" ∷ []) ≡ Some (derive (codes "c") (codes "o") (codes "f"))
unfolding command_of clap_on_literals
a_derivation = refl

a_judgement : command_of (codes "judge" ∷ codes "c" ∷ codes "o" ∷ codes "f" ∷ codes "d" ∷ []) ≡ Some (judge (codes "c") (codes "o") (codes "f") (codes "d"))
unfolding command_of clap_on_literals
a_judgement = refl

-- words too few and too many
derive_alone : command_of (codes "derive" ∷ []) ≡ None
unfolding command_of clap_on_literals
derive_alone = refl

derive_short : command_of (codes "derive" ∷ codes "c" ∷ codes "o" ∷ []) ≡ None
unfolding command_of clap_on_literals
derive_short = refl

derive_long : command_of (codes "derive" ∷ codes "c" ∷ codes "o" ∷ codes "f" ∷ codes "d" ∷ []) ≡ None
unfolding command_of clap_on_literals
derive_long = refl

judge_alone : command_of (codes "judge" ∷ []) ≡ None
unfolding command_of clap_on_literals
judge_alone = refl

judge_short : command_of (codes "judge" ∷ codes "c" ∷ codes "o" ∷ codes "f" ∷ []) ≡ None
unfolding command_of clap_on_literals
judge_short = refl

judge_long : command_of (codes "judge" ∷ codes "c" ∷ codes "o" ∷ codes "f" ∷ codes "d" ∷ codes "g" ∷ []) ≡ None
unfolding command_of clap_on_literals
judge_long = refl

-- other names of commands, and names of commands as names of files
derivation_is_none : command_of (codes "derivation" ∷ codes "c" ∷ codes "o" ∷ codes "f" ∷ []) ≡ None
unfolding command_of clap_on_literals
derivation_is_none = refl

judges_is_none : command_of (codes "judges" ∷ codes "c" ∷ codes "o" ∷ codes "f" ∷ codes "d" ∷ []) ≡ None
unfolding command_of clap_on_literals
judges_is_none = refl

capital_is_none : command_of (codes "Derive" ∷ codes "c" ∷ codes "o" ∷ codes "f" ∷ []) ≡ None
unfolding command_of clap_on_literals
capital_is_none = refl

names_of_commands : command_of (codes "judge" ∷ codes "check" ∷ codes "derive" ∷ codes "judge" ∷ codes "gap" ∷ [])
    ≡ Some (judge (codes "check") (codes "derive") (codes "judge") (codes "gap"))
unfolding command_of clap_on_literals
names_of_commands = refl

-- they have no options
workers_of_derive : command_of (codes "derive" ∷ codes "c" ∷ codes "o" ∷ codes "f" ∷ codes "--workers" ∷ codes "1" ∷ []) ≡ None
unfolding command_of clap_on_literals
workers_of_derive = refl

mirror_of_derive : command_of (codes "derive" ∷ codes "c" ∷ codes "o" ∷ codes "f" ∷ codes "--mirror" ∷ []) ≡ None
unfolding command_of clap_on_literals
mirror_of_derive = refl

mirror_of_judge : command_of (codes "judge" ∷ codes "c" ∷ codes "o" ∷ codes "f" ∷ codes "d" ∷ codes "--mirror" ∷ []) ≡ None
unfolding command_of clap_on_literals
mirror_of_judge = refl

option_of_judge : command_of (codes "judge" ∷ codes "c" ∷ codes "o" ∷ codes "f" ∷ codes "--derivation" ∷ codes "d" ∷ []) ≡ None
unfolding command_of clap_on_literals
option_of_judge = refl

-- calls for help are faults
help_behind_derive : command_of (codes "derive" ∷ codes "c" ∷ codes "o" ∷ codes "f" ∷ codes "--help" ∷ []) ≡ None
unfolding command_of clap_on_literals
help_behind_derive = refl

help_alone_of_judge : command_of (codes "judge" ∷ codes "--help" ∷ []) ≡ None
unfolding command_of clap_on_literals
help_alone_of_judge = refl

-- names that begin with a hyphen follow `--`; a hyphen alone is a name
hyphens_of_judge : command_of (codes "judge" ∷ codes "c" ∷ codes "-" ∷ codes "--" ∷ codes "-f" ∷ codes "--help" ∷ [])
    ≡ Some (judge (codes "c") (codes "-") (codes "-f") (codes "--help"))
unfolding command_of clap_on_literals
hyphens_of_judge = refl

hyphens_bare_of_derive : command_of (codes "derive" ∷ codes "c" ∷ codes "o" ∷ codes "-f" ∷ []) ≡ None
unfolding command_of clap_on_literals
hyphens_bare_of_derive = refl

-- names have any bytes
name_of_a_byte : command_of (codes "derive" ∷ codes "c" ∷ (255 ∷ []) ∷ codes "" ∷ []) ≡ Some (derive (codes "c") (255 ∷ []) (codes ""))
unfolding command_of clap_on_literals
name_of_a_byte = refl
