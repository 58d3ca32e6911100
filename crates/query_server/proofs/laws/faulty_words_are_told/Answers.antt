use Rattle.query_server.proofs.Lines.{faulty_words_told}
use Rattle.query_server.proofs.laws.faulty_words_are_told.Goals as goal

pub returns : goal.returns
returns c = faulty_words_told
