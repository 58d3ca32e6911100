use Rattle.std.proofs.Common.{sym, subst}
use Rattle.fz_parser.specs.Grammar.{IsSensitivityOf}
use Rattle.fz_parser.proofs.Machine.{sensitivity_goal}
use Rattle.fz_parser.proofs.Phrases.{passed, sensitivity_fault, read_sensitivity}
use Rattle.fz_parser.proofs.parser.parse_sensitivity.Goals as goal

pub read-requires : goal.read-requires
read-requires c = sensitivity_goal

pub returns-in_err-reader-clause-fault : goal.returns-in_err-reader-clause-fault
returns-in_err-reader-clause-fault c = passed _ _ c.from_residual.result c.from_residual.ensures.1 (sensitivity_fault c.args.tokens.now _ c.in_err-reader.ensures.fault)

pub returns-clause-is : goal.returns-clause-is
returns-clause-is c = subst (IsSensitivityOf c.args.tokens.now) (sym c.factor.ensures.is) (read_sensitivity c.args.tokens.now _ c.in_ok-reader.ensures.read)
