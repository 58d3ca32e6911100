use Rattle.query_server.proofs.Transcribed.{headline_by_owners}
use Rattle.query_server.proofs.laws.owners_make_the_headline.Goals as goal

pub returns : goal.returns
returns c = headline_by_owners
