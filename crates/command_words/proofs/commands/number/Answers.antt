use Rattle.std.proofs.Common.{◌≡◌, ap, Some, ◌∙◌}
use Rattle.clap.specs.Words.{Rule}
use Rattle.command_words.proofs.commands.number.Goals as goal

pub returns : goal.returns
returns c =
    let given = c.value_parser.ensures.given in
    let parser_is : c.value_parser.result.value_parser ≡ Some c.args.range = given.1 ∙ ap Some given.2 in
    let set_up : Rule → Rule = λ rule. record rule { parser = Some c.args.range } in
    record {
      rule = rw (c.value_parser.ensures.others, parser_is) (ap set_up c.new.ensures.rule);
      local = rw c.value_parser.ensures.others c.new.ensures.optional.1;
    }
