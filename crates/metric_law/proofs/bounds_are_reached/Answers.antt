use Rattle.metric_law.proofs.Reached.{at_least_one_reached, at_most_zero_reached, bang_reached, equal_to_zero_reached, first_name_reached, left_case_reached, let_bang_reached, let_reached, map_reached, name_reached, right_case_reached, second_name_reached, sum_reached, times_reached, zero_is_equal_reached}
use Rattle.metric_law.proofs.bounds_are_reached.Goals as goal

pub returns-clause-name : goal.returns-clause-name
returns-clause-name c = name_reached

pub returns-clause-bang : goal.returns-clause-bang
returns-clause-bang c = bang_reached

pub returns-clause-let_name : goal.returns-clause-let_name
returns-clause-let_name c = let_reached

pub returns-clause-let_bang : goal.returns-clause-let_bang
returns-clause-let_bang c = let_bang_reached

pub returns-clause-first_name : goal.returns-clause-first_name
returns-clause-first_name c = first_name_reached

pub returns-clause-second_name : goal.returns-clause-second_name
returns-clause-second_name c = second_name_reached

pub returns-clause-left_case : goal.returns-clause-left_case
returns-clause-left_case c = left_case_reached

pub returns-clause-right_case : goal.returns-clause-right_case
returns-clause-right_case c = right_case_reached

pub returns-clause-factor : goal.returns-clause-factor
returns-clause-factor c = times_reached

pub returns-clause-sum : goal.returns-clause-sum
returns-clause-sum c = sum_reached

pub returns-clause-at_most_left : goal.returns-clause-at_most_left
returns-clause-at_most_left c = at_most_zero_reached

pub returns-clause-at_most_right : goal.returns-clause-at_most_right
returns-clause-at_most_right c = at_least_one_reached

pub returns-clause-equal_left : goal.returns-clause-equal_left
returns-clause-equal_left c = equal_to_zero_reached

pub returns-clause-equal_right : goal.returns-clause-equal_right
returns-clause-equal_right c = zero_is_equal_reached

pub returns-clause-map : goal.returns-clause-map
returns-clause-map c = map_reached
