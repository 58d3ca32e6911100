use Rattle.std.proofs.Common.{ap, ◌∙◌, codes}
use Rattle.command_words.specs.Program.{required_option}
use Rattle.command_words.proofs.commands.serve_command.Goals as goal

pub returns : goal.returns
returns c = c.with_mirror.ensures _
    (c.with_arg-command-4.ensures _ _ (c.required_option-2.ensures.rule ∙ ap (required_option (codes "each")) c.signed-each.ensures)
    (c.with_arg-command-3.ensures _ _ c.workers_option.ensures.rule
    (c.with_arg-command-2.ensures _ _ (c.required_option.ensures.rule ∙ ap (required_option (codes "port")) c.signed-port.ensures)
    (c.with_arg-command.ensures _ _ c.address_option.ensures.rule c.files_command.ensures))))
