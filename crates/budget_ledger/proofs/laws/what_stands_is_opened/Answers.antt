use Rattle.budget_ledger.proofs.Standing.{book_stands}
use Rattle.budget_ledger.proofs.laws.what_stands_is_opened.Goals as goal

pub returns : goal.returns
returns c = λ entry header records bytes stands version history fault is. book_stands header records bytes stands entry version history fault is
