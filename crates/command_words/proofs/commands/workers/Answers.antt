use Rattle.std.proofs.Common.{ap, [], ◌∷◌, codes, ◌∙◌}
use Rattle.clap.specs.Words.{Rule}
use Rattle.command_words.specs.Program.{number_rule}
use Rattle.command_words.proofs.commands.workers.Goals as goal

pub returns : goal.returns
returns c =
    let set_up : Rule → Rule = λ rule. record rule { defaults = codes "1" ∷ [] } in
    record {
      rule = rw c.default_value.ensures (ap set_up (c.number.ensures.rule ∙ ap (number_rule (codes "workers")) c.signed.ensures));
      local = rw c.default_value.ensures c.number.ensures.local;
    }
