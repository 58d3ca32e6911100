use Rattle.release_laws.proofs.Texts.{as_the_widest}
use Rattle.release_laws.proofs.texts_are_judged_as_the_widest.Goals as goal

pub returns : goal.returns
returns c = as_the_widest
