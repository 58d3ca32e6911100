use Rattle.budget_core.proofs.MineShares.{shares-cover, shares-kept}
use Rattle.budget_core.proofs.MineTotals.{mine-rest, charges-others-settled}
use Rattle.budget_core.proofs.MineLemmas.{spent_is_cost, spent_is_within, spent-settled, spent_goes_by_own, stays_within_limits}
use Rattle.budget_core.proofs.laws.analysts_have_limits.Goals as goal

pub returns-clause-cost : goal.returns-clause-cost
returns-clause-cost c = λ entry records analyst h. spent_is_cost entry records analyst h

pub returns-clause-within : goal.returns-clause-within
returns-clause-within c = λ entry records analyst. spent_is_within entry records analyst

pub returns-clause-falls : goal.returns-clause-falls
returns-clause-falls c = λ entry records analyst settlement. spent-settled entry records analyst settlement

pub returns-clause-own : goal.returns-clause-own
returns-clause-own c = λ entry records other ask h k same. spent_goes_by_own entry records other ask h k same

pub returns-clause-limited : goal.returns-clause-limited
returns-clause-limited c = λ entry records analyst limit h limited. stays_within_limits entry records analyst limit h limited

pub returns-clause-back : goal.returns-clause-back
returns-clause-back c = λ entry records number returned outcome asked back h open_before is. mine-rest entry records number returned outcome asked back h open_before is

pub returns-clause-others : goal.returns-clause-others
returns-clause-others c = λ entry records analyst number returned outcome asked h is others. charges-others-settled entry records analyst number returned outcome asked h is others

pub returns-clause-shares : goal.returns-clause-shares
returns-clause-shares c = λ entry records share h each. shares-cover entry records share h each

pub returns-clause-kept : goal.returns-clause-kept
returns-clause-kept c = λ entry records ask share h known limits fits within. shares-kept entry records ask share h known limits fits within
