use Rattle.metric_law.proofs.FlatTyping.{flat_typed, ground_typed, typed_flat, typed_ground}
use Rattle.metric_law.proofs.ground_typing.Goals as goal

pub returns-clause-elements : goal.returns-clause-elements
returns-clause-elements c = λ A x g. (flat_typed A x g, typed_flat A x)

pub returns-clause-values : goal.returns-clause-values
returns-clause-values c = λ A v g. (ground_typed A v g, typed_ground A v)
