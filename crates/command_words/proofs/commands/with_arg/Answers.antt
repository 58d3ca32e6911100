use Rattle.std.proofs.lemmas.Result.{IfOk-weaker}
use Rattle.command_words.proofs.Subcommands.{arg_on}
use Rattle.command_words.proofs.commands.with_arg.Goals as goal

pub returns-in-Ok : goal.returns-in-Ok
returns-in-Ok c = λ app rule rule_is made_as.
    IfOk-weaker c.arg.result _ _ (λ r adds. arg_on c.args.made c.in-Ok.command c.args.arg r app rule c.in-Ok.is adds c.requires.local rule_is made_as) c.arg.ensures
