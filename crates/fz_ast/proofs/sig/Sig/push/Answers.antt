-- What is left to prove of sig::Sig::push.
use Rattle.fz_ast.proofs.Signatures.{signature_pushed}
use Rattle.fz_ast.proofs.sig.Sig.push.Goals as goal

pub invariant_of-self-2 : goal.invariant_of-self-2
invariant_of-self-2 c = signature_pushed c.args.self.now c.self.inside.tables.items _ (record { name = c.args.name; row = c.args.row }) c.self.view_is c.in_default.ensures.items c.self.invariant c.requires.fresh c.requires.flat c.requires.formed c.parts.ensures.limits
