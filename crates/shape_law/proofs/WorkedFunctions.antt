-- The plans of worked functions of rows.
use Rattle.std.proofs.Common.{refl}
use Rattle.metric_law.specs.Worked.{span}
use Rattle.row_functions.specs.Worked.{town_once, young_or_old}
use Rattle.shape_law.specs.Shapes.{Wide}
use Rattle.shape_law.specs.Walk.{TooDeep, TooLong, depth_limit}
use Rattle.shape_law.specs.Worked.{FunctionPassesLimit, FunctionPlans, behind_lets, least_of, of_rows, ten_functions}

pub young_or_old_plan : FunctionPlans young_or_old 9 5 5
unfolding depth_limit
young_or_old_plan = (Wide 0 0 0, refl)

pub linear_plan : FunctionPlans town_once 4 3 3
unfolding depth_limit
linear_plan = (Wide 0 0 0, refl)

pub deep_body_plan : FunctionPlans (of_rows (least_of 126)) 128 128 128
unfolding depth_limit
deep_body_plan = (Wide 0 0 0, refl)

pub too_deep_body_plan : FunctionPassesLimit (of_rows (least_of 127)) (TooDeep (span 0 1))
unfolding depth_limit
too_deep_body_plan = refl

pub deep_term_plan : FunctionPlans (behind_lets 127 (of_rows (least_of 0))) 256 128 128
unfolding depth_limit
deep_term_plan = (Wide 0 0 0, refl)

pub too_deep_term_plan : FunctionPassesLimit (behind_lets 128 (of_rows (least_of 0))) (TooDeep (span 3 4))
unfolding depth_limit
too_deep_term_plan = refl

pub long_plan : FunctionPlans (of_rows (ten_functions 13)) 20000 77 77
unfolding depth_limit
long_plan = (Wide 0 0 0, refl)

pub too_long_plan : FunctionPassesLimit (of_rows (ten_functions 14)) (TooLong (span 7 8))
unfolding depth_limit
too_long_plan = refl
