use Rattle.std.proofs.Common.{◌≡◌, ◌≤◌, length, Some}
use Rattle.std.specs.List.{All}
use Rattle.outside_disks.specs.Disks.{Trace, seen_of}
use Rattle.journal_records.specs.Encoding.{IsValid}
use Rattle.budget_journal.specs.Areas.{area_in}
use Rattle.budget_journal.specs.Opening.{Scanned}
use Rattle.budget_journal.proofs.opening.read_slots.Given as goal

-- the slots so far were read, and nothing has failed
abbrev pub invariant-loop-slot : goal.invariant-loop-slot
invariant-loop-slot g l =
    record {
      judged : (t : Trace) → g.D.Disk.trace l.fn.disk ≡ Some t → l.size ≡ length (seen_of t)
          → Scanned (area_in l.live.form l.live.capacity l.live.number l.size) (seen_of t) l.slot l.records.items;
      bounded : length l.records.items ≤ l.slot;
      valid : All IsValid l.records.items;
      same : g.D.Disk.trace l.disk ≡ g.D.Disk.trace l.fn.disk;
      passed : g.D.Disk.faults l.disk ≡ g.D.Disk.faults l.fn.disk;
    }
