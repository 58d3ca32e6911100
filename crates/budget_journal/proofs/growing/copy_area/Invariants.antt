use Rattle.std.proofs.Common.{◌≡◌, ◌-◌, ◌≤◌, length}
use Rattle.outside_disks.specs.Disks.{WhereTold}
use Rattle.budget_journal.specs.Growth.{AreaCopied}
use Rattle.budget_journal.proofs.growing.copy_area.Given as goal

abbrev pub invariant-loop-slot : goal.invariant-loop-slot
invariant-loop-slot g l =
    record {
      within : l.slot ≤ l.to.slots;
      long : length l.chunk ≡ 16384;
      copied : WhereTold (AreaCopied l.from.begin l.from.slots l.slot) (g.D.Disk.trace l.fn.disk) (g.D.Disk.trace l.disk);
      passed : g.D.Disk.faults l.disk ≡ g.D.Disk.faults l.fn.disk;
    }

abbrev pub decreases-loop-slot : goal.decreases-loop-slot
decreases-loop-slot g l = l.to.slots - l.slot
