use Rattle.fz_parser.proofs.Parsing.{parsed_or_faulty}
use Rattle.fz_parser.proofs.parser.every_list_of_tokens_is_parsed.Goals as goal

pub returns : goal.returns
returns c = parsed_or_faulty
