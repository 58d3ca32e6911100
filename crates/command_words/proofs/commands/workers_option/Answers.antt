use Rattle.std.proofs.Common.{ap, Some, codes}
use Rattle.clap.specs.Words.{Rule}
use Rattle.command_words.proofs.commands.workers_option.Goals as goal

pub returns : goal.returns
returns c =
    let set_up : Rule → Rule = λ rule. record rule { long = Some (codes "workers") } in
    record {
      rule = rw c.long.ensures (ap set_up c.workers.ensures.rule);
      local = rw c.long.ensures c.workers.ensures.local;
    }
