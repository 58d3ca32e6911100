use Rattle.std.proofs.Common.{refl, ap, ◌∙◌}
use Rattle.std.specs.Ordering.{is_lt}
use Rattle.derivation_lines.proofs.Says.{follows, follows_none}
use Rattle.derivation_lines.proofs.lines.may_follow.Goals as goal

pub returns-in-Some : goal.returns-in-Some
returns-in-Some c =
    follows c.args.says.now c.in-Some.field-0-1.now c.in-Some.last.now c.args.next.now c.is_lt.result c.in-Some.ensures.cases.0 c.requires
    (c.is_lt.ensures ∙ ap is_lt c.byte_order.ensures)

pub returns-in-None : goal.returns-in-None
returns-in-None c = (λ yes. follows_none c.args.says.now c.args.next.now c.in-None.ensures.cases, λ up. refl)
