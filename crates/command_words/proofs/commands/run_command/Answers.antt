use Rattle.command_words.proofs.commands.run_command.Goals as goal

pub returns : goal.returns
returns c = c.with_mirror.ensures _ (c.with_arg-command.ensures _ _ c.workers_option.ensures.rule c.files_command.ensures)
