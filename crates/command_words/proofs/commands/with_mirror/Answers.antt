use Rattle.command_words.proofs.commands.with_mirror.Goals as goal

pub returns : goal.returns
returns c = λ app made_as. c.with_arg.ensures app _ c.mirror_option.ensures.rule made_as
