use Rattle.std.proofs.Common.{OnOk, subst, sym}
use Rattle.outside_disks.specs.Stored.{one_stored, stored_of}
use Rattle.owner_books.specs.Making.{IsMade}
use Rattle.owner_books.proofs.Made.{one_made}
use Rattle.owner_books.proofs.making.init_disks.Goals as goal

pub returns-in-One-clause-made : goal.returns-in-One-clause-made
returns-in-One-clause-made g c =
    subst (λ disks. OnOk c.init.result (IsMade c.args.header.now (stored_of g.D.Disk.trace g.D.Disk.faults disks)
    (one_stored (record { trace = g.D.Disk.trace c.init.new.disk; faults = g.D.Disk.faults c.init.new.disk })))) (sym c.in-One.is)
    (one_made c.args.header.now _ _ _ _ c.init.result c.init.ensures.made c.init.ensures.passed)
