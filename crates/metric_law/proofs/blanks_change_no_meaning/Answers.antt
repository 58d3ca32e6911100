use Rattle.std.proofs.Common.{subst, sym}
use Rattle.fz_ast.specs.Bare.{bare}
use Rattle.metric_values.specs.Tables.{rows_of}
use Rattle.metric_values.specs.Values.{NumV}
use Rattle.metric_law.proofs.Blanks.{forget, recall, rows_are_bare, same_number_bare}
use Rattle.metric_law.specs.Means.{Means}
use Rattle.metric_law.proofs.blanks_change_no_meaning.Goals as goal

pub returns-clause-values : goal.returns-clause-values
returns-clause-values c = λ γ e. (λ v h. (h.0, forget h.0 γ e v h.1), λ w h. let r = recall h.0 γ e w h.1 in (r.0, (h.0, r.1), r.2))

pub returns-clause-numbers : goal.returns-clause-numbers
returns-clause-numbers c = λ ts X t z. (
  λ h. subst (λ γ. Means γ (bare t) (NumV z)) (rows_are_bare ts X) (h.0, forget h.0 (rows_of ts X) t (NumV z) h.1),
  λ h. same_number_bare (rows_of ts X) t z (subst (λ γ. Means γ (bare t) (NumV z)) (sym (rows_are_bare ts X)) h),
)
