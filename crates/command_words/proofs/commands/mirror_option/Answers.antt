use Rattle.std.proofs.Common.{ap, Some, codes}
use Rattle.clap.specs.Words.{Rule}
use Rattle.clap.specs.declared.builder.action.ArgAction.TheVariants.{SetTrue}
use Rattle.command_words.proofs.commands.mirror_option.Goals as goal

pub returns : goal.returns
returns c =
    let set_up : Rule → Rule = λ rule. record rule { long = Some (codes "mirror"); action = Some SetTrue } in
    record {
      rule = rw (c.action.ensures, c.long.ensures) (ap set_up c.new.ensures.rule);
      local = rw (c.action.ensures, c.long.ensures) c.new.ensures.optional.1;
    }
