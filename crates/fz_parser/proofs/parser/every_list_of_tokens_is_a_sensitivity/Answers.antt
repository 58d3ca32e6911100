use Rattle.fz_parser.proofs.Parsing.{sensitivity_or_stuck}
use Rattle.fz_parser.proofs.parser.every_list_of_tokens_is_a_sensitivity.Goals as goal

pub returns : goal.returns
returns c = sensitivity_or_stuck
