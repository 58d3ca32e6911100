use Rattle.journal_records.proofs.One.{record-one}
use Rattle.journal_records.proofs.laws.one_record.Goals as goal

pub returns : goal.returns
returns c = λ r s a b same. record-one r s a b same
