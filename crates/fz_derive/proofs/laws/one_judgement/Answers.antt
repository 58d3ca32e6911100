use Rattle.fz_derive.proofs.Every.{all_bytes}
use Rattle.fz_derive.proofs.OneAnswer.{number_or_line, one_line, one_number}
use Rattle.fz_derive.proofs.laws.one_judgement.Goals as goal

pub returns-clause-number : goal.returns-clause-number
returns-clause-number c = λ ts e bytes r s j k. one_number j k

pub returns-clause-either : goal.returns-clause-either
returns-clause-either c = λ ts e bytes r k j f. number_or_line j f

pub returns-clause-line : goal.returns-clause-line
returns-clause-line c = λ ts e bytes j k f g. one_line f g

pub returns-clause-all : goal.returns-clause-all
returns-clause-all c = all_bytes
