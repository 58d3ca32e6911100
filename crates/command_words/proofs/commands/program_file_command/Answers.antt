use Rattle.command_words.proofs.commands.program_file_command.Goals as goal

pub returns : goal.returns
returns c = c.with_word.ensures _ (c.with_word-command-2.ensures _ (c.with_word-command.ensures _ (c.new.ensures.app, c.new.ensures.local)))
