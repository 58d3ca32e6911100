use Rattle.command_words.proofs.commands.judge_command.Goals as goal

pub returns : goal.returns
returns c = c.with_word.ensures _ c.program_file_command.ensures
