use Rattle.session_laws.proofs.Scripts.{headline_of}
use Rattle.session_laws.proofs.laws.every_script_keeps_the_headline.Goals as goal

pub returns : goal.returns
returns c = headline_of
