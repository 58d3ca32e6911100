use Rattle.metric_law.proofs.Fine.{fine}
use Rattle.metric_law.proofs.Unique.{same_value}
use Rattle.metric_law.proofs.one_value.Goals as goal

pub returns-clause-total : goal.returns-clause-total
returns-clause-total c = λ Γ e A D ok p γ t. let f = fine ok p γ t in (f.has.0, f.has.1, f.all f.has.1.0 f.has.0 f.has.1.1)

pub returns-clause-unique : goal.returns-clause-unique
returns-clause-unique c = λ γ e v w h k. same_value h.0 k.0 γ e v w h.1 k.1
