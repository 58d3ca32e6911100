use Rattle.std.proofs.Common.{◌≡◌, ◌*◌}
use Rattle.outside_disks.specs.Disks.{WhereTold}
use Rattle.budget_journal.specs.Making.{AreZeros, AddsSteps}
use Rattle.budget_journal.proofs.making.put_zeros.Given as goal

abbrev pub invariant-loop-piece : goal.invariant-loop-piece
invariant-loop-piece g l =
    record {
      zeroed : WhereTold (AddsSteps (λ zeros. AreZeros zeros (64 * l.piece))) (g.D.Disk.trace l.fn.disk) (g.D.Disk.trace l.disk);
      passed : g.D.Disk.faults l.disk ≡ g.D.Disk.faults l.fn.disk;
    }
