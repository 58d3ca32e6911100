-- What is left to prove of term::Nodes::push_type.
use Rattle.std.proofs.Common.{refl}
use Rattle.fz_ast.specs.TypeNodes.{type_at, type_of}
use Rattle.fz_ast.proofs.TermNodes.{type_pushed, type_kept}
use Rattle.fz_ast.proofs.term.Nodes.push_type.Goals as goal

pub invariant_of-self-2 : goal.invariant_of-self-2
invariant_of-self-2 c = type_kept c.self.inside.types _ c.self.inside.nodes.items c.args.form c.in_ok-n.ensures.grown (rw (← c.self.view_is) at c.requires.known) c.requires.bang c.self.invariant

pub returns-clause-grown : goal.returns-clause-grown
returns-clause-grown c =
    let T = c.self.inside.types in
    rw (← c.self.view_is, type_pushed T _ c.self.inside.nodes.items (type_of (type_at T) c.args.form) c.in_ok-n.ensures.grown c.self.invariant, c.in_ok-n.ensures.grown) refl
