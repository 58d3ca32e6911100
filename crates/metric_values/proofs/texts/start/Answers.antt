use Rattle.std.proofs.Common.{arith}
use Rattle.metric_values.proofs.TextPlaces.{end_before}
use Rattle.metric_values.proofs.texts.start.Goals as goal

pub returns-else-i-eq0 : goal.returns-else-i-eq0
returns-else-i-eq0 c = end_before c.args.ends.now c.args.i (omega (arith, c.if-i-eq0.false)) c.requires
