use Rattle.std.proofs.Common.{◌+◌, ◌*◌}
use Rattle.row_kernels.proofs.meant.+meaning.Given as goal

abbrev pub decreases-lanes_of : goal.decreases-lanes_of
decreases-lanes_of l = 4 * l.left

abbrev pub decreases-lanes_of_word : goal.decreases-lanes_of_word
decreases-lanes_of_word l = 4 * l.left + 1

abbrev pub decreases-lanes_of_multiple : goal.decreases-lanes_of_multiple
decreases-lanes_of_multiple l = 4 * l.left + 1

abbrev pub decreases-lanes_of_clip : goal.decreases-lanes_of_clip
decreases-lanes_of_clip l = 4 * l.left + 1

abbrev pub decreases-lanes_of_two : goal.decreases-lanes_of_two
decreases-lanes_of_two l = 4 * l.left + 2

abbrev pub decreases-lanes_of_call : goal.decreases-lanes_of_call
decreases-lanes_of_call l = 4 * l.left + 1

abbrev pub decreases-lanes_of_let : goal.decreases-lanes_of_let
decreases-lanes_of_let l = 4 * l.left + 1

abbrev pub decreases-lanes_of_pair : goal.decreases-lanes_of_pair
decreases-lanes_of_pair l = 4 * l.left + 1

abbrev pub decreases-lanes_of_if : goal.decreases-lanes_of_if
decreases-lanes_of_if l = 4 * l.left + 1
