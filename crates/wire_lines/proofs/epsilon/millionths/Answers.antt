use Rattle.std.proofs.Common.{◌<◌, arith, rules}
use Rattle.wire_lines.proofs.Epsilons.{scale_small}
use Rattle.wire_lines.proofs.epsilon.millionths.Goals as goal

pub overflow_add-result : goal.overflow_add-result
overflow_add-result c =
    let whole : c.value_of.result < 1000000 = c.value_of.ensures.small (omega (arith, c.requires.whole_length)) in
    let part : c.value_of-2.result < 1000000 = c.value_of-2.ensures.small c.requires.fraction_length in
    search (rules, scale_small, whole, part)
