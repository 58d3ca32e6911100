use Rattle.std.proofs.Common.{ap, ◌∙◌}
use Rattle.metric_values.specs.Values.{value_of}
use Rattle.flow_values.proofs.TableParts.{last_of_row, paired_part}
use Rattle.flow_values.specs.Founds.{plain_in}
use Rattle.flow_values.proofs.plain.last_plain.Goals as goal

pub returns-then-k-width : goal.returns-then-k-width
returns-then-k-width c =
    ap plain_in (paired_part c.args.table.now c.width-width.result c.width-width.ensures.columns c.args.i c.args.k c.requires.row c.if-k-width.true)

pub returns : goal.returns
returns c =
    let e = last_of_row c.args.table.now c.width-width.result c.width-width.ensures.columns c.args.i c.args.k c.requires.row c.if-k-width.false c.requires.column in
    c.plain_at.ensures ∙ ap (λ x. plain_in (value_of x)) e
