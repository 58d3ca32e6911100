use Rattle.std.proofs.Common.{arith, length, ap}
use Rattle.metric_values.proofs.TextPlaces.{texts_length}
use Rattle.metric_values.proofs.texts.Texts.len.Goals as goal

pub returns : goal.returns
returns c = omega (arith, c.len.ensures, c.self.inside.ends.ok.0, texts_length 0 c.self.inside.bytes.items c.self.inside.ends.items, ap length c.self.view_is)
