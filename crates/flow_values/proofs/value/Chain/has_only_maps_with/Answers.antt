use Rattle.std.proofs.Common.{◌∙◌}
use Rattle.flow_values.proofs.Stranded.{maps_more}
use Rattle.flow_values.proofs.value.Chain.has_only_maps_with.Goals as goal

pub returns : goal.returns
returns c = λ s e h. maps_more c.args.self.now.steps s (c.has_only_maps.ensures h) (e ∙ c.gives.ensures (cc c.if-not-gives.false))
