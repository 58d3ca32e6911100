use Rattle.answer_path.proofs.Walking.{told_of_walks, walks_alone}
use Rattle.answer_path.proofs.laws.walks_are_told.Goals as goal

pub returns-clause-told : goal.returns-clause-told
returns-clause-told c = told_of_walks

pub returns-clause-verdict : goal.returns-clause-verdict
returns-clause-verdict c = walks_alone
