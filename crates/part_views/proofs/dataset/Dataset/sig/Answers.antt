-- The whole signature, or that of the partition.
use Rattle.std.proofs.Common.{ap, subst}
use Rattle.part_views.specs.Holding.{Holding}
use Rattle.part_views.specs.Partitions.{HasPart}
use Rattle.part_views.specs.Views.{signature_in}
use Rattle.part_views.proofs.Making.{part_signature}
use Rattle.part_views.proofs.dataset.Dataset.sig.Goals as goal

pub returns-in-Whole-clause-tables : goal.returns-in-Whole-clause-tables
unfolding signature_in
returns-in-Whole-clause-tables c = rw c.in-Whole.is (ap (λ (h : Holding). h.tables) c.self.view_is)

pub returns-in-Part-clause-tables : goal.returns-in-Part-clause-tables
returns-in-Part-clause-tables c =
    let there = subst (HasPart c.args.self.now.partitions) c.in-Part.is c.requires in
    let inside = c.self.inside in
    rw (c.in-Part.is, ← c.self.view_is)
    (part_signature inside.sig inside.tables inside.divisions.items c.in-Part.partition c.in-Part.part c.index-division.result.now c.self.invariant.divided
    (rw (← c.self.view_is) at there) c.index-division.ensures)
