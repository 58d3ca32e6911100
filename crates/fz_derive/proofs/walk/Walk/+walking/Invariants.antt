use Rattle.std.proofs.Common.{◌+◌, ◌*◌}
use Rattle.std.specs.Prelude.{max}
use Rattle.fz_derive.proofs.walk.Walk.+walking.Given as goal

abbrev pub decreases-fault_at : goal.decreases-fault_at
decreases-fault_at l = 4 * l.i

abbrev pub decreases-inside : goal.decreases-inside
decreases-inside l = 4 * l.i + 1

abbrev pub decreases-two : goal.decreases-two
decreases-two l = 4 * max l.a l.b + 1

abbrev pub decreases-bound : goal.decreases-bound
decreases-bound l = 4 * max l.e l.b + 2

abbrev pub decreases-branches : goal.decreases-branches
decreases-branches l = 4 * max l.a l.b + 2

abbrev pub decreases-unbanged : goal.decreases-unbanged
decreases-unbanged l = 4 * max l.e l.b + 3

abbrev pub decreases-paired : goal.decreases-paired
decreases-paired l = 4 * max l.e l.b + 3

abbrev pub decreases-three : goal.decreases-three
decreases-three l = 4 * max l.e (max l.a l.b) + 3

abbrev pub decreases-cases : goal.decreases-cases
decreases-cases l = 4 * max l.e (max l.a l.b) + 3

abbrev pub decreases-body : goal.decreases-body
decreases-body l = 4 * l.e + 2
