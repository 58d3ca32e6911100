-- an argument or a command that is put on
use Rattle.std.proofs.Common.{◌≡◌, false, ap, ap₂, ◌∙◌, ◌||◌}
use Rattle.std.specs.Prelude.{Ok, IfOk}
use Rattle.std.specs.declared.result.Result.{Result}
use Rattle.clap.specs.Words.{AddsArg, AddsSubcommand, App, Rule, app_of, rule_of, with_rule, with_subcommand}
use Rattle.clap.specs.declared.builder.arg.Arg.{Arg}
use Rattle.clap.specs.declared.builder.command.Command.{Command}
use Rattle.command_words.specs.Made.{IsMadeAs}

pub arg_on : {E : Type 0} (made : Result Command E) (command : Command) (arg : Arg) (new : Command) (app : App) (rule : Rule) → made ≡ Ok command → AddsArg command arg new
    → arg.global ≡ false → rule_of arg ≡ rule → IfOk made (IsMadeAs app) → IsMadeAs (with_rule app rule) new
arg_on made command arg new app rule is adds local rule_is made_as =
    let at : IsMadeAs app command = rw is at made_as in
    (adds.shape local ∙ ap₂ with_rule at.0 rule_is, adds.globals ∙ ap₂ ◌||◌ at.1 local)

pub command_on : {E : Type 0} (bare made : Result Command E) (program command new : Command) (app put : App) → bare ≡ Ok program → made ≡ Ok command
    → AddsSubcommand program command new → IfOk bare (λ c. app_of c ≡ app) → IfOk made (IsMadeAs put) → app_of new ≡ with_subcommand app put.top
command_on bare made program command new app put is made_is adds shape made_as =
    let at : IsMadeAs put command = rw made_is at made_as in
    let before : app_of program ≡ app = rw is at shape in
    adds.shape at.1 ∙ ap₂ with_subcommand before (ap (λ (a : App). a.top) at.0)
