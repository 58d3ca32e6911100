use Rattle.std.proofs.Common.{ℕ}
use Rattle.outside_tests.proofs.loopback.is_told_bye.Given as goal

abbrev pub decreases-loop-left : goal.decreases-loop-left
decreases-loop-left g l = l.left
