use Rattle.std.proofs.Common.{ap, ◌∙◌, codes}
use Rattle.command_words.specs.Program.{required_number}
use Rattle.command_words.proofs.commands.gen_command.Goals as goal

pub returns : goal.returns
returns c = c.with_arg.ensures _ _ c.workers.ensures.rule
    (c.with_arg-command-2.ensures _ _ (c.required_number-2.ensures.rule ∙ ap (required_number (codes "asks")) c.signed-asks.ensures)
    (c.with_arg-command.ensures _ _ (c.required_number.ensures.rule ∙ ap (required_number (codes "seed")) c.signed-seed.ensures) (c.new.ensures.app, c.new.ensures.local)))
