use Rattle.std.proofs.lemmas.Result.{IfOk-weaker}
use Rattle.command_words.proofs.Subcommands.{command_on}
use Rattle.command_words.proofs.commands.with_command.Goals as goal

pub returns-in-Ok-made : goal.returns-in-Ok-made
returns-in-Ok-made c = λ app put shape made_as.
    IfOk-weaker c.subcommand.result _ _ (λ r adds. command_on c.args.program c.args.made c.in-Ok.program c.in-Ok-made.command r app put c.in-Ok.is c.in-Ok-made.is adds shape made_as) c.subcommand.ensures
