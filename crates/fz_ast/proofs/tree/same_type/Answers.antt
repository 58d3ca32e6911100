-- What is left to prove of tree::same_type.
use Rattle.fz_ast.proofs.SameTypes.{same_type_iff}
use Rattle.fz_ast.proofs.tree.same_type.Goals as goal

pub returns-clause-trees : goal.returns-clause-trees
returns-clause-trees c = same_type_iff c.args.a.now c.args.b.now c.same.result (rw (c.a.view_is, c.b.view_is) at c.same.ensures)
