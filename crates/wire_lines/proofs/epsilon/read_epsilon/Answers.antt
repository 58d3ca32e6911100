use Rattle.std.proofs.Common.{sym, ap, ◌∙◌}
use Rattle.std.proofs.lemmas.Bool.{and_from, and_left, and_right, cond-true, cond-false}
use Rattle.wire_lines.specs.Epsilon.{epsilon_in_range}
use Rattle.wire_lines.proofs.Epsilons.{epsilon_cut}
use Rattle.wire_lines.proofs.epsilon.read_epsilon.Goals as goal

pub returns-in-Some : goal.returns-in-Some
returns-in-Some c =
    c.within-in-Some.ensures ∙ ap epsilon_in_range c.millionths-in-Some.ensures
    ∙ sym (epsilon_cut c.args.text.now c.in-Some.whole.now c.in-Some.fraction.now c.in-Some.ensures.first c.in-Some.ensures.cut
    ∙ cond-true _ _ _ (and_from _ _ (sym c.if-is_digits-2.ensures) (sym c.if-is_digits-3.ensures)))

pub returns-in_default-2 : goal.returns-in_default-2
returns-in_default-2 c =
    sym (epsilon_cut c.args.text.now c.in-Some.whole.now c.in-Some.fraction.now c.in-Some.ensures.first c.in-Some.ensures.cut
    ∙ cond-false _ _ _ (and_right _ _ (sym c.if-is_digits-3.ensures)))

pub returns-in_default-3 : goal.returns-in_default-3
returns-in_default-3 c =
    sym (epsilon_cut c.args.text.now c.in-Some.whole.now c.in-Some.fraction.now c.in-Some.ensures.first c.in-Some.ensures.cut
    ∙ cond-false _ _ _ (and_left _ _ (sym c.if-is_digits-2.ensures)))
