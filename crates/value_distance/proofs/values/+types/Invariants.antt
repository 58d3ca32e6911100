-- What decreases where the values of a type are compared.
use Rattle.std.proofs.Common.{◌+◌, ◌*◌, max}
use Rattle.value_distance.proofs.values.+types.Given as goal

abbrev pub decreases-between : goal.decreases-between
decreases-between l = 3 * l.i

abbrev pub decreases-between_halves : goal.decreases-between_halves
decreases-between_halves l = 3 * max l.a l.b + 2

abbrev pub decreases-between_firsts : goal.decreases-between_firsts
decreases-between_firsts l = 3 * l.a + 1

abbrev pub decreases-between_seconds : goal.decreases-between_seconds
decreases-between_seconds l = 3 * l.b + 1

abbrev pub decreases-between_sides : goal.decreases-between_sides
decreases-between_sides l = 3 * max l.a l.b + 1

abbrev pub decreases-between_banged : goal.decreases-between_banged
decreases-between_banged l = 3 * l.a + 1
