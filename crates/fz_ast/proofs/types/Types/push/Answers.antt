-- What is left to prove of types::Types::push.
use Rattle.fz_ast.proofs.TypeNodes.{pushed, kept_pushed}
use Rattle.fz_ast.proofs.types.Types.push.Goals as goal

pub invariant_of-self-2 : goal.invariant_of-self-2
invariant_of-self-2 c = kept_pushed c.args.self.now c.self.inside.nodes.items _ c.node_of-node.result c.args.form c.self.view_is c.in_default.ensures.items c.node_of-node.ensures.form c.self.invariant c.requires.known c.node_of-node.ensures.notes

pub returns-clause-grown : goal.returns-clause-grown
returns-clause-grown c = pushed c.args.self.now c.self.inside.nodes.items _ c.node_of-node.result c.args.form c.self.view_is c.in_default.ensures.items c.node_of-node.ensures.form
