use Rattle.row_functions.proofs.Texts.{gives_texts, one_text, text_computed}
use Rattle.row_functions.proofs.rows_have_texts.Goals as goal

pub returns-clause-texts : goal.returns-clause-texts
returns-clause-texts c = gives_texts

pub returns-clause-unique : goal.returns-clause-unique
returns-clause-unique c = one_text

pub returns-clause-computed : goal.returns-clause-computed
returns-clause-computed c = text_computed
