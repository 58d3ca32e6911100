-- what is said of a book, said of it as it is watched under the lock
use Rattle.std.proofs.Common.{◌≡◌, sym, subst}
use Rattle.budget_ledger.specs.Account.{Account}
use Rattle.owner_desk.specs.Passes.{HasGone}
use Rattle.owner_desk.specs.Watched.{Watched, account_at}

abbrev pub watched : (opened now : Account) → Watched
watched opened now = record { opened = opened; records = now.ledger.records; storage = now.storage }

watched_is : (opened now : Account) → HasGone opened now → account_at (watched opened now) ≡ now
watched_is opened now h = λ i. record { ledger = sym h.ledger i; storage = now.storage }

pub said_of : (opened old new : Account) → HasGone opened old → HasGone opened new → (Said : Account → Account → Type 0) → Said old new
    → Said (account_at (watched opened old)) (account_at (watched opened new))
said_of opened old new h g Said is =
    subst (λ (a : Account). Said a (account_at (watched opened new))) (sym (watched_is opened old h))
    (subst (λ (a : Account). Said old a) (sym (watched_is opened new g)) is)
