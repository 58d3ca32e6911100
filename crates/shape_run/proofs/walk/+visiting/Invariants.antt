use Rattle.std.proofs.Common.{◌*◌, ◌+◌}
use Rattle.shape_run.proofs.walk.+visiting.Given as goal

-- each calls lower ranks with as many depths left, and any rank with one fewer

abbrev pub decreases-visit : goal.decreases-visit
decreases-visit l = 8 * l.left

abbrev pub decreases-visit_under : goal.decreases-visit_under
decreases-visit_under l = 8 * l.left + 1

abbrev pub decreases-enter : goal.decreases-enter
decreases-enter l = 8 * l.left + 3

abbrev pub decreases-combine : goal.decreases-combine
decreases-combine l = 8 * l.left + 5

abbrev pub decreases-visit_parts : goal.decreases-visit_parts
decreases-visit_parts l = 8 * l.left + 6

abbrev pub decreases-over : goal.decreases-over
decreases-over l = 8 * l.left + 4

abbrev pub decreases-visit_held : goal.decreases-visit_held
decreases-visit_held l = 8 * l.left + 2

abbrev pub decreases-visit_halves : goal.decreases-visit_halves
decreases-visit_halves l = 8 * l.left + 2

abbrev pub decreases-visit_both : goal.decreases-visit_both
decreases-visit_both l = 8 * l.left + 1

abbrev pub decreases-visit_sides : goal.decreases-visit_sides
decreases-visit_sides l = 8 * l.left + 2
