use Rattle.std.proofs.Common.{sym, ◌∙◌, ap, subst, Some, None}
use Rattle.outside_disks.specs.Stored.{stored_of}
use Rattle.outside_bays.specs.Bays.{Changes, shown_at, shelf_of}
use Rattle.outside_bays.proofs.Shelves.{shelf-at, shelf-set, not-away}
use Rattle.std.proofs.Common.{set}
use Rattle.outside_bays.proofs.memory.MemBayBay.take.Goals as goal

pub returns-in-Some-clause-given : goal.returns-in-Some-clause-given
returns-in-Some-clause-given g c =
    shelf-at (stored_of g.D.Disk.trace g.D.Disk.faults) c.args.self.now.disks.items c.args.owner
    c.requires.owner _ _ c.index_mut.ensures.value
    ∙ ap (λ o. shown_at (stored_of g.D.Disk.trace g.D.Disk.faults) (Some o)) (sym c.in-Some.ensures.value)

pub returns-in-Some-clause-taken : goal.returns-in-Some-clause-taken
returns-in-Some-clause-taken g c =
    subst (λ x. Changes c.args.owner None (shelf_of (stored_of g.D.Disk.trace g.D.Disk.faults) c.args.self.now.disks.items)
    (shelf_of (stored_of g.D.Disk.trace g.D.Disk.faults) (set c.args.self.now.disks.items c.args.owner x)))
    (sym c.in-Some.ensures.after)
    (shelf-set (stored_of g.D.Disk.trace g.D.Disk.faults) c.args.self.now.disks.items c.args.owner c.requires.owner None)

pub returns-in-None-clause-cause : goal.returns-in-None-clause-cause
returns-in-None-clause-cause g c =
    absurd (not-away (stored_of g.D.Disk.trace g.D.Disk.faults) c.args.self.now.disks.items c.args.owner
    c.requires.owner _ _ c.index_mut.ensures.value (sym c.in-None.ensures.value) c.requires.home)
