use Rattle.shape_law.proofs.WorkedFunctions.{deep_body_plan, deep_term_plan, linear_plan, long_plan, too_deep_body_plan, too_deep_term_plan, too_long_plan, young_or_old_plan}
use Rattle.shape_law.proofs.worked_functions.Goals as goal

pub returns-clause-young_or_old : goal.returns-clause-young_or_old
returns-clause-young_or_old c = young_or_old_plan

pub returns-clause-linear : goal.returns-clause-linear
returns-clause-linear c = linear_plan

pub returns-clause-deep_body : goal.returns-clause-deep_body
returns-clause-deep_body c = deep_body_plan

pub returns-clause-too_deep_body : goal.returns-clause-too_deep_body
returns-clause-too_deep_body c = too_deep_body_plan

pub returns-clause-deep_term : goal.returns-clause-deep_term
returns-clause-deep_term c = deep_term_plan

pub returns-clause-too_deep_term : goal.returns-clause-too_deep_term
returns-clause-too_deep_term c = too_deep_term_plan

pub returns-clause-long : goal.returns-clause-long
returns-clause-long c = long_plan

pub returns-clause-too_long : goal.returns-clause-too_long
returns-clause-too_long c = too_long_plan
