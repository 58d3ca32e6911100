use Rattle.std.proofs.Common.{ap, true}
use Rattle.clap.specs.Words.{Rule}
use Rattle.command_words.proofs.commands.word.Goals as goal

pub returns : goal.returns
returns c =
    let set_up : Rule → Rule = λ rule. record rule { required = true } in
    record {
      rule = rw c.required.ensures (ap set_up c.new.ensures.rule);
      local = rw c.required.ensures c.new.ensures.optional.1;
    }
