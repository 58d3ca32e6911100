use Rattle.std.proofs.Common.{◌+◌, ◌*◌}
use Rattle.std.specs.Prelude.{max}
use Rattle.sensitivity_check.proofs.judge.Walk.+judging.Given as goal

abbrev pub decreases-judge : goal.decreases-judge
decreases-judge l = 4 * l.i

abbrev pub decreases-judge_under : goal.decreases-judge_under
decreases-judge_under l = 4 * l.i + 1

abbrev pub decreases-judge_two : goal.decreases-judge_two
decreases-judge_two l = 4 * max l.a l.b + 1

abbrev pub decreases-judge_let : goal.decreases-judge_let
decreases-judge_let l = 4 * max l.e l.b + 2

abbrev pub decreases-judge_let_bang : goal.decreases-judge_let_bang
decreases-judge_let_bang l = 4 * max l.e l.b + 2

abbrev pub decreases-judge_let_pair : goal.decreases-judge_let_pair
decreases-judge_let_pair l = 4 * max l.e l.b + 2

abbrev pub decreases-judge_if : goal.decreases-judge_if
decreases-judge_if l = 4 * max l.e (max l.a l.b) + 2

abbrev pub decreases-judge_case : goal.decreases-judge_case
decreases-judge_case l = 4 * max l.e (max l.a l.b) + 2

abbrev pub decreases-judge_lambda : goal.decreases-judge_lambda
decreases-judge_lambda l = 4 * l.e + 2

abbrev pub decreases-judge_unary : goal.decreases-judge_unary
decreases-judge_unary l = 4 * l.e + 2

abbrev pub decreases-judge_binary : goal.decreases-judge_binary
decreases-judge_binary l = 4 * max l.a l.b + 2

abbrev pub decreases-judge_times : goal.decreases-judge_times
decreases-judge_times l = 4 * l.e + 2

abbrev pub decreases-judge_ranged : goal.decreases-judge_ranged
decreases-judge_ranged l = 4 * l.e + 2

abbrev pub decreases-judge_inject : goal.decreases-judge_inject
decreases-judge_inject l = 4 * l.e + 2

abbrev pub decreases-judge_bang : goal.decreases-judge_bang
decreases-judge_bang l = 4 * l.e + 2
