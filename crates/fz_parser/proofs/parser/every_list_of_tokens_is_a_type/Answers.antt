use Rattle.fz_parser.proofs.Parsing.{type_or_stuck}
use Rattle.fz_parser.proofs.parser.every_list_of_tokens_is_a_type.Goals as goal

pub returns : goal.returns
returns c = type_or_stuck
