use Rattle.metric_law.proofs.Flatness.{ground_of}
use Rattle.metric_law.proofs.Grounds.{dist_le, near_dist}
use Rattle.metric_law.proofs.Metric.{law, looser, looser_filter, looser_split}
use Rattle.metric_law.proofs.Nearness.{near_more}
use Rattle.metric_law.proofs.metric_preservation.Goals as goal

pub returns-clause-law : goal.returns-clause-law
returns-clause-law c = λ Γ e A D ok p γ γ' δ t t' n v w h k. (law ok p γ γ' δ t t' n).by h.0 k.0 v w h.1 k.1

pub returns-clause-distance : goal.returns-clause-distance
returns-clause-distance c = λ A v w d g t u. (λ p. dist_le A v w d (ground_of A g) p, λ h. near_more A v w (near_dist A v w (ground_of A g) t u) h)

pub returns-clause-looser : goal.returns-clause-looser
returns-clause-looser c = λ Γ o x e b s A B D E ok p q k l γ γ' δ t t' n v w h m. (looser ok p q k l γ γ' δ t t' n).by h.0 m.0 v w h.1 m.1

pub returns-clause-filter : goal.returns-clause-filter
returns-clause-filter c = λ Γ o f b A D E ok p q k l γ γ' δ t t' n v w h m. (looser_filter ok p q k l γ γ' δ t t' n (law ok p γ γ' δ t t' n) (law ok q γ γ' δ t t' n)).by h.0 m.0 v w h.1 m.1

pub returns-clause-split : goal.returns-clause-split
returns-clause-split c = λ Γ o f b A D E ok p q k l γ γ' δ t t' n v w h m. (looser_split ok p q k l γ γ' δ t t' n (law ok p γ γ' δ t t' n) (law ok q γ γ' δ t t' n)).by h.0 m.0 v w h.1 m.1
