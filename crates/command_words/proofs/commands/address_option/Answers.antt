use Rattle.std.proofs.Common.{ap, [], ◌∷◌, Some, codes}
use Rattle.clap.specs.Words.{Rule}
use Rattle.command_words.proofs.commands.address_option.Goals as goal

pub returns : goal.returns
returns c =
    let set_up : Rule → Rule = λ rule. record rule { long = Some (codes "addr"); defaults = codes "127.0.0.1" ∷ [] } in
    record {
      rule = rw (c.default_value.ensures, c.long.ensures) (ap set_up c.new.ensures.rule);
      local = rw (c.default_value.ensures, c.long.ensures) c.new.ensures.optional.1;
    }
