use Rattle.derivation_rows.proofs.Amounts.{line_of, no_line}
use Rattle.derivation_rows.proofs.numbers.amount_at.Goals as goal

pub returns-then-k-lines : goal.returns-then-k-lines
returns-then-k-lines c = λ T. rw (line_of T c.args.lines.now c.args.k c.index-lines-k.result c.if-k-lines.true, ← c.index-lines-k.is) c.amount.ensures

pub returns-else-k-lines : goal.returns-else-k-lines
returns-else-k-lines c = λ T. rw (no_line T c.args.lines.now c.args.k c.if-k-lines.false) c.whole.ensures
