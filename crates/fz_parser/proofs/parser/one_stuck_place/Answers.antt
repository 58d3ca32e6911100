use Rattle.fz_parser.proofs.Types.{one_type_place, one_sensitivity_place}
use Rattle.fz_parser.proofs.parser.one_stuck_place.Goals as goal

pub returns-clause-types : goal.returns-clause-types
returns-clause-types c = one_type_place

pub returns-clause-sensitivities : goal.returns-clause-sensitivities
returns-clause-sensitivities c = one_sensitivity_place
