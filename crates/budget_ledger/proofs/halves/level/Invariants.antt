use Rattle.std.proofs.Common.{◌≡◌, take, None}
use Rattle.budget_journal.specs.Journals.{disk_of, capacity_of}
use Rattle.budget_ledger.specs.Account.{HeldWent}
use Rattle.budget_ledger.specs.Kept.{HoldsSide, shown_on, held_on}
use Rattle.budget_ledger.proofs.halves.level.Given as goal

abbrev pub invariant-loop-slot : goal.invariant-loop-slot
invariant-loop-slot g l =
    record {
      holds : HoldsSide g.D.Disk.trace g.D.Disk.faults l.fn.side.header (take l.slot l.fn.records) None l.side;
      went : HeldWent (shown_on g.D.Disk.trace g.D.Disk.faults (disk_of l.fn.side.journal)) (shown_on g.D.Disk.trace g.D.Disk.faults (disk_of l.side.journal))
          (held_on g.D.Disk.trace g.D.Disk.faults (take l.fn.side.has l.fn.records) l.fn.side) (held_on g.D.Disk.trace g.D.Disk.faults (take l.slot l.fn.records) l.side);
      room : capacity_of l.side.journal ≡ capacity_of l.fn.side.journal;
    }
