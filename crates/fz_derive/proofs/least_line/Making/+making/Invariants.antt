use Rattle.std.proofs.Common.{◌+◌, ◌*◌}
use Rattle.std.specs.Prelude.{max}
use Rattle.fz_derive.proofs.least_line.Making.+making.Given as goal

abbrev pub decreases-node : goal.decreases-node
decreases-node l = 4 * l.i + 3

abbrev pub decreases-parts : goal.decreases-parts
decreases-parts l = 4 * l.i + 2

abbrev pub decreases-under : goal.decreases-under
decreases-under l = 4 * l.i + 4

abbrev pub decreases-one : goal.decreases-one
decreases-one l = 4 * l.e + 5

abbrev pub decreases-two : goal.decreases-two
decreases-two l = 4 * max l.a l.b + 5

abbrev pub decreases-let_name : goal.decreases-let_name
decreases-let_name l = 4 * max l.e l.b + 5

abbrev pub decreases-let_bang : goal.decreases-let_bang
decreases-let_bang l = 4 * max l.e l.b + 5

abbrev pub decreases-let_pair : goal.decreases-let_pair
decreases-let_pair l = 4 * max l.e l.b + 5

abbrev pub decreases-choice : goal.decreases-choice
decreases-choice l = 4 * max l.e (max l.a l.b) + 5

abbrev pub decreases-cases : goal.decreases-cases
decreases-cases l = 4 * max l.e (max l.a l.b) + 5

abbrev pub decreases-lambda : goal.decreases-lambda
decreases-lambda l = 4 * l.e + 5
