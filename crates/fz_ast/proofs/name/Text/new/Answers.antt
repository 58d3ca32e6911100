-- What is left to prove of name::Text::new.
use Rattle.fz_ast.proofs.Padding.{padded_prefix}
use Rattle.fz_ast.proofs.name.Text.new.Goals as goal

pub invariant_of-result-clause-padded : goal.invariant_of-result-clause-padded
invariant_of-result-clause-padded c = padded_prefix 64 c.args.bytes.now c.put_prefix.new.held c.put_prefix.ensures
