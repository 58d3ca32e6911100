use Rattle.fz_derive.proofs.Bounds.{fine, law}
use Rattle.fz_derive.proofs.ByNames.{by_names}
use Rattle.fz_derive.proofs.laws.derived_is_bounded.Goals as goal

pub returns-clause-places : goal.returns-clause-places
returns-clause-places c = λ Γ e l below t p. by_names t p

pub returns-clause-bound : goal.returns-clause-bound
returns-clause-bound c = λ Γ e A D ok p γ γ' δ t t' n v w h k. (law ok p γ γ' δ t t' n).by h.0 k.0 v w h.1 k.1

pub returns-clause-value : goal.returns-clause-value
returns-clause-value c = λ Γ e A D ok p γ t. let f = fine ok p γ t in (f.has.0, f.has.1, f.all f.has.1.0 f.has.0 f.has.1.1)
