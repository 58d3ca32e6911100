-- What is left to prove of types::Types::node_of.
use Rattle.fz_ast.specs.TypeNodes.{type_at}
use Rattle.std.proofs.Common.{length}
use Rattle.fz_ast.proofs.TypeNodes.{limits_of, limits_at}
use Rattle.fz_ast.proofs.types.Types.node_of.Goals as goal

pub returns-clause-notes : goal.returns-clause-notes
returns-clause-notes c = record {
  limits = limits_of (type_at c.args.self.now) (length c.args.self.now) c.args.form (limits_at c.args.self.now c.self.inside.nodes.items (rw c.self.view_is at c.self.invariant)) c.requires.known c.requires.bang;
  ground = c.is_ground_form.ensures;
  flat = c.is_flat_form.ensures;
  formed = c.formed_form.ensures;
  depth = c.depth_form.ensures.is;
  shallow = c.depth_form.ensures.shallow;
}
