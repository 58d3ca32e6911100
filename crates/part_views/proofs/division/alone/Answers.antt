-- A signature's table keeps what tables keep.
use Rattle.std.proofs.Common.{◌∙◌, ap}
use Rattle.fz_ast.specs.Types.{formed, is_flat}
use Rattle.part_views.proofs.CutLaws.{signature_at}
use Rattle.part_views.proofs.division.alone.Goals as goal

pub push-requires-clause-flat : goal.push-requires-clause-flat
push-requires-clause-flat c = ap is_flat c.in_ok-copy.ensures
    ∙ (signature_at c.args.sig.now c.args.i _ c.table-table.ensures.signature c.table-table.ensures.is).2

pub push-requires-clause-formed : goal.push-requires-clause-formed
push-requires-clause-formed c = ap formed c.in_ok-copy.ensures
    ∙ (signature_at c.args.sig.now c.args.i _ c.table-table.ensures.signature c.table-table.ensures.is).3
