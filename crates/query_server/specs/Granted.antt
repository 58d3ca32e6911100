-- What the code's ends of a grant mean.
use Rattle.std.specs.Prelude.{◌≡◌, ◌⊎◌, ℕ, List, Result, Ok, Err, IsOk}
use Rattle.journal_records.specs.declared.records.Record.TheVariants.{Grant}
use Rattle.budget_core.specs.declared.answers.Left.{Left}
use Rattle.budget_core.specs.declared.answers.GrantRefusal.{GrantRefusal}
use Rattle.budget_core.specs.Granting.{grant_behind, grant_verdict}
use Rattle.budget_core.specs.Ledger.{start_of}
use Rattle.budget_ledger.specs.Account.{Account}
use Rattle.budget_ledger.specs.Booked.{HasGained, IsUnwritten}
use Rattle.budget_ledger.specs.declared.book.AppendFault.{AppendFault}
use Rattle.catalog_loading.specs.declared.stops.Stop.TheVariants.{Disk, NoMemory}
use Rattle.query_server.specs.Ends.{Ended, end_status, end_text}
use Rattle.query_server.specs.Grant.{verdict_status, verdict_text}
use Rattle.owner_books.specs.Refusals.{disk_text}
use Rattle.query_server.specs.declared.end.End.{End}

-- the end of a grant that is refused so
abbrev pub IsRefusalEnd : GrantRefusal → End → Type 0
IsRefusalEnd refusal end = (end_status end ≡ verdict_status (Err refusal)) × ((owner : List ℕ) → end_text end ≡ verdict_text owner (Err refusal))

-- the verdict on a grant over this book
abbrev pub book_verdict : Account → (amount : ℕ) → Result Left GrantRefusal
book_verdict book amount = grant_verdict book.ledger.entry (start_of book.ledger) book.ledger.records amount

-- The book by the verdict: it has the grant, or is as it was.
abbrev pub IsBookBy : (old : Account) → (amount : ℕ) → Result Left GrantRefusal → (new : Account) → Type 0
IsBookBy old amount (Ok left) new = HasGained old (Grant (grant_behind old.ledger.records amount)) new
IsBookBy old amount (Err refusal) new = new ≡ old

-- The grant is allowed, and its record wasn't appended.
abbrev pub IsUnappendedGrant : (old : Account) → (amount : ℕ) → (new : Account) → Type 0
IsUnappendedGrant old amount new = IsOk (book_verdict old amount)
    × ((fault : AppendFault) × IsUnwritten old (Grant (grant_behind old.ledger.records amount)) fault new)

-- What came of a grant over a book.
abbrev pub IsGrantEnd : (old : Account) → (owner : List ℕ) → (amount : ℕ) → Ended → (new : Account) → Type 0
IsGrantEnd old owner amount (Ok end) new = (end_status end ≡ verdict_status (book_verdict old amount))
    × (end_text end ≡ verdict_text owner (book_verdict old amount)) × IsBookBy old amount (book_verdict old amount) new
IsGrantEnd old owner amount (Err (Disk line)) new = (line.items ≡ disk_text owner) × IsUnappendedGrant old amount new
IsGrantEnd old owner amount (Err NoMemory) new = (new ≡ old) ⊎ IsUnappendedGrant old amount new
IsGrantEnd old owner amount (Err stop) new = ⊥
