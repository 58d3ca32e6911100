-- What a line does to its owner's book, which is shut once a record wasn't appended.
use Rattle.std.specs.Prelude.{◌≡◌, ℕ, ◌<◌, List, [], ◌∷◌, ◌++◌, Option, Some, None, ⊤}
use Rattle.journal_records.specs.declared.records.Outcome.{Outcome}
use Rattle.journal_records.specs.declared.records.Record.{Record}
use Rattle.journal_records.specs.declared.records.Record.TheVariants.{Reserve}
use Rattle.budget_core.specs.declared.entry.Ask.{Ask}
use Rattle.budget_core.specs.declared.entry.Grant.{Grant}
use Rattle.budget_core.specs.Ledger.{settlement_for}
use Rattle.budget_ledger.specs.declared.failure.Failure.{Failure}
use Rattle.wire_lines.specs.Reply.{Replied, refused}
use Rattle.wire_lines.specs.Refusal.{by_disk, by_money}
use Rattle.wire_lines.specs.Codes.{money_code}
use Rattle.wire_lines.specs.declared.refusal.DiskRefusal.TheVariants.{Closed, Fault}
use Rattle.owner_house.specs.Owner.{Owner, signature_of_view}
use Rattle.owner_desk.specs.Passes.{Pass, Told}
use Rattle.answer_path.specs.Query.{Query}
use Rattle.answer_path.specs.Program.{IsCharged}
use Rattle.answer_path.specs.Demand.{Demand, asks, recalls, balances, spends}
use Rattle.answer_path.specs.Verdict.{granted, ask_for, IsVerdict}
use Rattle.answer_path.specs.Answered.{IsSettledBy, granted_record}

-- The record that a line couldn't append, which may stand in the journal all the same: a reservation of its query, charged
-- by the program, where the line added nothing; else the settlement of the reservation that it added, behind some records u.
abbrev pub IsPendingOf : Owner → (ℕ → ℕ → ℕ) → Query → (told : List Told) → (pending : Record) → Type 0
IsPendingOf owner draws query [] pending =
    (p q : ℕ) × IsCharged (signature_of_view owner query.view) query.program p q
    × (grant : Grant) × (pending ≡ granted_record (ask_for query p q) grant)
IsPendingOf owner draws query ((place, Reserve reserved) ∷ []) pending =
    (outcome : Outcome) × (u : List Record) × IsSettledBy owner draws query reserved.number outcome
    × (pending ≡ settlement_for owner.entry u reserved.number outcome)
IsPendingOf owner draws query told pending = ⊥

-- why a book is shut, as far as a pass has seen, and the pass's own appends that failed
pub record Shut : Type 0 where
  pub failure : Option Failure
  pub own : List Failure

abbrev pub unshut : Shut
unshut = record { failure = None; own = [] }

abbrev pub shut_of : Pass → Shut
shut_of pass = record { failure = pass.failure; own = pass.faults }

-- What was seen stays so, and to a book that was seen shut nothing is added.
pub record StaysShut (told : List Told) (before after : Option Failure) : Type 0 where
  pub still : (failure : Failure) → before ≡ Some failure → after ≡ Some failure
  pub adds_nothing : (failure : Failure) → before ≡ Some failure → told ≡ []

-- a refusal for the disk: 42 with its count, or 52
abbrev pub disk_word : Replied → Option (Option ℕ)
disk_word (refused (by_disk (Closed failed_at))) = Some (Some failed_at)
disk_word (refused (by_disk Fault)) = Some None
disk_word reply = None

-- A line that is told 42 has seen why the book is shut; of one that is told 52 the append failed, which shut it; and no other has
-- an append that failed. Other lines may shut the book at any time: so 42 may be told where it wasn't seen shut before, or after a
-- reservation was added.
abbrev pub FailsBy : Owner → (ℕ → ℕ → ℕ) → Query → (word : Option (Option ℕ)) → (told : List Told) → (before after : Shut) → Type 0
FailsBy owner draws query None told before after = StaysShut told before.failure after.failure × (after.own ≡ before.own)
FailsBy owner draws query (Some (Some failed_at)) told before after =
    (failure : Failure) × (after.failure ≡ Some failure) × (failed_at ≡ failure.failed_at)
    × StaysShut told before.failure after.failure × (after.own ≡ before.own)
FailsBy owner draws query (Some None) told before after =
    (failure : Failure) × (before.failure ≡ None) × (after.failure ≡ Some failure) × IsPendingOf owner draws query told failure.pending
    × (after.own ≡ before.own ++ failure ∷ [])

-- What stands behind 42 in the order of the codes is said of a book that isn't shut.
abbrev pub IsSaidOpen : Replied → (after : Option Failure) → Type 0
IsSaidOpen (refused (by_money refusal)) after = 42 < money_code refusal → after ≡ None
IsSaidOpen reply after = ⊤

-- what a demand does: only a query appends
unfoldable pub ShutsBy : Owner → (draws : ℕ → ℕ → ℕ) → Demand → Replied → (told : List Told) → (before after : Shut) → Type 0
ShutsBy owner draws (asks query) reply told before after =
    FailsBy owner draws query (disk_word reply) told before after × IsSaidOpen reply after.failure
ShutsBy owner draws (recalls analyst number) reply told before after = StaysShut told before.failure after.failure × (after.own ≡ before.own)
ShutsBy owner draws balances reply told before after = StaysShut told before.failure after.failure × (after.own ≡ before.own)
ShutsBy owner draws (spends analyst) reply told before after = StaysShut told before.failure after.failure × (after.own ≡ before.own)

-- the record is the reservation that the verdict on these records grants, with the number and the charge that it has there
abbrev pub IsGrantOn : Owner → (start : ℕ) → (records : List Record) → Query → Record → Type 0
IsGrantOn owner start records query next =
    (asking : Ask) × (grant : Grant)
    × IsVerdict owner.entry (signature_of_view owner query.view) start records query (granted asking grant)
    × (next ≡ granted_record asking grant)

-- Where a line added nothing and is told 52, the record that is pending is the grant's on the records that it knows after it.
abbrev pub IsGrantPending :
    Owner → (start : ℕ) → Query → Replied → (told : List Told) → (after : List Record) → (failure : Option Failure) → Type 0
IsGrantPending owner start query (refused (by_disk Fault)) [] after failure =
    (pending : Failure) × (failure ≡ Some pending) × IsGrantOn owner start after query pending.pending
IsGrantPending owner start query reply told after failure = ⊤

-- the same of a demand: nothing is pending after any that is no query
unfoldable pub LeavesDue :
    Owner → (start : ℕ) → Demand → Replied → (told : List Told) → (after : List Record) → (failure : Option Failure) → Type 0
LeavesDue owner start (asks query) reply told after failure = IsGrantPending owner start query reply told after failure
LeavesDue owner start (recalls analyst number) reply told after failure = ⊤
LeavesDue owner start balances reply told after failure = ⊤
LeavesDue owner start (spends analyst) reply told after failure = ⊤
