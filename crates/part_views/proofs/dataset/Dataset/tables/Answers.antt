-- All rows, or those of the key.
use Rattle.std.proofs.Common.{◌∙◌, ap, subst}
use Rattle.part_views.specs.Holding.{Holding}
use Rattle.part_views.specs.Partitions.{HasPart}
use Rattle.part_views.specs.Views.{rows_in}
use Rattle.part_views.proofs.Making.{part_rows_made}
use Rattle.part_views.proofs.dataset.Dataset.tables.Goals as goal

pub returns-in-Whole-clause-rows : goal.returns-in-Whole-clause-rows
unfolding rows_in
returns-in-Whole-clause-rows c = rw c.in-Whole.is (ap (λ (h : Holding). h.rows) c.self.view_is)

pub returns-in-Part-clause-rows : goal.returns-in-Part-clause-rows
returns-in-Part-clause-rows c =
    let there = subst (HasPart c.args.self.now.partitions) c.in-Part.is c.requires in
    let inside = c.self.inside in
    rw (c.in-Part.is, ← c.self.view_is)
    (c.index.ensures
    ∙ part_rows_made inside.sig inside.tables inside.divisions.items c.in-Part.partition c.in-Part.part c.index-division.result.now c.self.invariant.divided
    (rw (← c.self.view_is) at there) c.index-division.ensures c.index.result.now)
