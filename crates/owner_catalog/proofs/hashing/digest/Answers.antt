use Rattle.std.proofs.Common.{rules}
use Rattle.owner_catalog.proofs.Pieces.{concat_more}
use Rattle.owner_catalog.proofs.hashing.digest.Goals as goal

-- src/lib.rt:20:5
pub loop-table-preserved : goal.loop-table-preserved
loop-table-preserved c =
    let h = c.update-in-loop-table.ensures _ c.loop-table.invariant in
    rw (concat_more _ c.args.tables.now c.loop-table.table-index (search rules)) h
