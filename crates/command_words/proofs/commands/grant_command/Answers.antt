use Rattle.std.proofs.Common.{ap, ◌∙◌, codes}
use Rattle.command_words.specs.Program.{required_number}
use Rattle.command_words.proofs.commands.grant_command.Goals as goal

pub returns : goal.returns
returns c = c.with_mirror.ensures _
    (c.with_arg-command.ensures _ _ (c.required_number.ensures.rule ∙ ap (required_number (codes "amount")) c.signed-amount.ensures)
    (c.with_word-command.ensures _ c.files_command.ensures))
