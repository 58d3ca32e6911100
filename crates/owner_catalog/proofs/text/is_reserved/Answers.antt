use Rattle.fz_lexer.specs.Words.{spelling}
use Rattle.owner_catalog.specs.Forms.{is_reserved}
use Rattle.owner_catalog.proofs.text.is_reserved.Goals as goal

pub returns : goal.returns
unfolding is_reserved spelling
returns c = c.is_one_of.ensures
