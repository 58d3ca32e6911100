use Rattle.std.proofs.Common.{ap, Some}
use Rattle.clap.specs.Words.{Rule}
use Rattle.command_words.proofs.commands.required_option.Goals as goal

pub returns : goal.returns
returns c =
    let set_up : Rule → Rule = λ rule. record rule { long = Some c.args.name.now } in
    record {
      rule = rw c.long.ensures (ap set_up c.required_number.ensures.rule);
      local = rw c.long.ensures c.required_number.ensures.local;
    }
