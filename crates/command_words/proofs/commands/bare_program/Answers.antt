use Rattle.std.proofs.Common.{ap, true}
use Rattle.clap.specs.Words.{App}
use Rattle.command_words.proofs.commands.bare_program.Goals as goal

abbrev set_up : App → App
set_up app = record app {
  top = record app.top {
    no_binary_name = true;
    subcommand_required = true;
    disable_help_flag = true;
    disable_help_subcommand = true;
  };
}

pub returns : goal.returns
returns c = rw (c.disable_help_subcommand.ensures, c.disable_help_flag.ensures, c.subcommand_required.ensures, c.no_binary_name.ensures) (ap set_up c.new.ensures.app)
