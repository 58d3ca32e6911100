use Rattle.std.proofs.Common.{ap}
use Rattle.fz_ast.specs.Types.{TensorT}
use Rattle.fz_ast.specs.TypeNodes.{type_at}
use Rattle.fz_ast.specs.declared.types.TypeForm.TheVariants.{Tensor}
use Rattle.derivation_rows.specs.Rows.{halves}
use Rattle.derivation_rows.specs.declared.shape.Shape.TheVariants.{Of}
use Rattle.derivation_rows.proofs.Tests.{tested}
use Rattle.derivation_rows.proofs.row_parts.split.Goals as goal

pub returns-then-is_bag_of : goal.returns-then-is_bag_of
returns-then-is_bag_of c = λ L.
    let T = c.args.arena.now in
    tested T L halves c.args.f c.args.b (type_at T c.in-Some.x) (type_at T c.in-Some.y) (Of (Tensor c.args.b.ty c.args.b.ty)) c.formed.result c.formed.ensures (rw (c.in-Some.x-is, c.in-Some.y-is) c.in-Some.ensures.2) c.if-is_truth.ensures c.if-is_bag_of.ensures ((c.requires.b_known, c.requires.b_known), tt) (λ e. ap (λ B. TensorT B B) e)
