use Rattle.std.proofs.lemmas.Result.{IfOk-weaker}
use Rattle.command_words.proofs.Subcommands.{arg_on}
use Rattle.command_words.proofs.commands.with_word.Goals as goal

pub returns-in-Ok : goal.returns-in-Ok
returns-in-Ok c = λ app made_as.
    IfOk-weaker c.arg.result _ _ (λ r adds. arg_on c.args.made c.in-Ok.command c.word.result r app _ c.in-Ok.is adds c.word.ensures.local c.word.ensures.rule made_as) c.arg.ensures
