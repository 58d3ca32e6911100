-- What is left to prove of name::Name::new.
use Rattle.fz_ast.proofs.Padding.{padded_prefix}
use Rattle.fz_ast.proofs.name.Name.new.Goals as goal

pub invariant_of-result-clause-padded : goal.invariant_of-result-clause-padded
invariant_of-result-clause-padded c = padded_prefix 32 c.args.bytes.now c.put_prefix.new.held c.put_prefix.ensures
