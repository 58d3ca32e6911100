use Rattle.command_words.proofs.commands.audit_command.Goals as goal

pub returns : goal.returns
returns c = c.with_mirror.ensures _ c.files_command.ensures
