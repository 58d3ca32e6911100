-- What is made for the definition of a command.
use Rattle.std.specs.Prelude.{◌≡◌, false}
use Rattle.clap.specs.Words.{App, app_of}
use Rattle.clap.specs.declared.builder.command.Command.{Command}
use Rattle.clap.specs.declared.builder.command.Command.TheViews.{out-Command}

-- The command is as it is defined, and no argument of it is its subcommands', too.
abbrev pub IsMadeAs : App → Command → Type 0
IsMadeAs app command = (app_of command ≡ app) × ((out-Command command).has_globals ≡ false)
