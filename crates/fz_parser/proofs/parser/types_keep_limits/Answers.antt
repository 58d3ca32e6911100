use Rattle.fz_parser.proofs.Limits.{type_limits, sensitivity_limits}
use Rattle.fz_parser.proofs.parser.types_keep_limits.Goals as goal

pub returns-clause-types : goal.returns-clause-types
returns-clause-types c = type_limits

pub returns-clause-sensitivities : goal.returns-clause-sensitivities
returns-clause-sensitivities c = sensitivity_limits
