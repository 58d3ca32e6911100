-- What one line makes of a pass.
use Rattle.std.specs.Prelude.{◌≡◌, ◌++◌, ℕ, List, Result, Ok, Err}
use Rattle.journal_records.specs.declared.records.Outcome.{Outcome}
use Rattle.budget_core.specs.declared.entry.Grant.{Grant}
use Rattle.budget_ledger.specs.declared.book.AppendFault.{AppendFault}
use Rattle.budget_ledger.specs.declared.book.AppendFault.TheVariants.{Closed, DiskFault}
use Rattle.budget_ledger.specs.declared.book.BookFault.{BookFault}
use Rattle.budget_ledger.specs.declared.book.BookFault.TheVariants.{Refused, Unwritten}
use Rattle.wire_lines.specs.Reply.{Replied, refused}
use Rattle.wire_lines.specs.Refusal.{Refusal, by_money, by_disk}
use Rattle.wire_lines.specs.declared.refusal.DiskRefusal.{DiskRefusal}
use Rattle.wire_lines.specs.declared.refusal.DiskRefusal.TheVariants.{Closed as IsClosed, Fault}
use Rattle.owner_house.specs.Owner.{Owner}
use Rattle.owner_desk.specs.Passes.{Pass, Told, first_of_run}
use Rattle.answer_path.specs.Query.{Query}
use Rattle.answer_path.specs.Verdict.{money_refusal}
use Rattle.answer_path.specs.Answered.{IsAsked, outcome_reply}
use Rattle.answer_path.specs.Shut.{FailsBy, IsGrantPending, IsSaidOpen, disk_word, shut_of}

-- 42 and 52
abbrev pub disk_refusal : AppendFault → DiskRefusal
disk_refusal (Closed failed_at) = IsClosed failed_at
disk_refusal DiskFault = Fault

-- 40, 41, 43, 42 and 52
abbrev pub book_refusal : BookFault → Refusal
book_refusal (Refused fault) = by_money (money_refusal fault)
book_refusal (Unwritten fault) = by_disk (disk_refusal fault)

-- the reply to a grant, by what came of its settlement
abbrev pub settled_reply : Grant → Outcome → Result ℕ AppendFault → Replied
settled_reply grant outcome (Ok seen) = outcome_reply grant outcome
settled_reply grant outcome (Err fault) = refused (by_disk (disk_refusal fault))

-- One line of a query: its reply, what it added and what it did to the book.
pub record IsTurn (owner : Owner) (draws : ℕ → ℕ → ℕ) (query : Query) (before : Pass) (reply : Replied) (after : Pass) : Type 0 where
  pub told : List Told
  pub asked : IsAsked owner draws (first_of_run before) query before.seen reply told after.seen
  pub own : after.own ≡ before.own ++ told
  pub shuts : FailsBy owner draws query (disk_word reply) told (shut_of before) (shut_of after)
  pub said_open : IsSaidOpen reply after.failure
  pub due : IsGrantPending owner (first_of_run before) query reply told after.seen after.failure
