-- The reply to a query, and the records that it adds.
use Rattle.std.specs.Prelude.{◌≡◌, ℕ, ◌+◌, ◌^◌, ◌<◌, ◌≤◌, ℤ, ◌+ℤ◌, unsigned_abs, List, [], ◌∷◌, ◌++◌, length}
use Rattle.std.specs.Prelude.{Option, Some, None, ◌⊎◌, ⊤}
use mathlib.Core.List.{IsPrefix}
use Rattle.fz_ast.specs.Limits.{greatest_number}
use Rattle.journal_records.specs.declared.records.Outcome.{Outcome}
use Rattle.journal_records.specs.declared.records.Outcome.TheVariants.{Answered, Exhausted, Lost}
use Rattle.journal_records.specs.declared.records.Record.{Record}
use Rattle.journal_records.specs.declared.records.Record.TheVariants.{Reserve}
use Rattle.budget_core.specs.declared.entry.Ask.{Ask}
use Rattle.budget_core.specs.declared.entry.Grant.{Grant}
use Rattle.budget_core.specs.Entries.{Entry}
use Rattle.budget_core.specs.Ledger.{reservation_numbered, settlement_for}
use Rattle.wire_lines.specs.Reply.{Replied, answered, refused}
use Rattle.wire_lines.specs.Refusal.{Refusal, by_line, by_program, by_money, by_number, by_disk, no_memory}
use Rattle.wire_lines.specs.Codes.{money_code}
use Rattle.wire_lines.specs.declared.refusal.DiskRefusal.{DiskRefusal}
use Rattle.wire_lines.specs.declared.refusal.DiskRefusal.TheVariants.{Closed}
use Rattle.wire_lines.specs.declared.refusal.MoneyRefusal.{MoneyRefusal}
use Rattle.wire_lines.specs.declared.refusal.NumberRefusal.TheVariants.{Exhausted as NoNoise, Lost as NoAnswer}
use Rattle.owner_house.specs.Owner.{Owner, signature_of_view, rows_of_view}
pub use Rattle.owner_desk.specs.Passes.{Told}
use Rattle.answer_path.specs.Query.{Query}
use Rattle.answer_path.specs.Admission.{HasValue}
use Rattle.answer_path.specs.Noise.{noise_at}
use Rattle.answer_path.specs.Verdict.{Verdict, program_refused, money_refused, granted, IsVerdict}

-- How a reservation may be settled, by what its program is worth and its noise: where the draws don't suffice there is no
-- noise, and else there is the value plus the noise, or memory ran out before it was known.
abbrev pub IsSettledAt : (HasWorth : ℤ → Type 0) → Option ℤ → Outcome → Type 0
IsSettledAt HasWorth None outcome = outcome ≡ Exhausted
IsSettledAt HasWorth (Some noise) outcome = ((value : ℤ) × HasWorth value × (outcome ≡ Answered (value +ℤ noise))) ⊎ (outcome ≡ Lost)

-- what a query's program is worth: its value on the rows of the query's view
abbrev pub HasWorthIn : Owner → Query → ℤ → Type 0
HasWorthIn owner query value = HasValue (signature_of_view owner query.view) (rows_of_view owner query.view) query.program value

-- this owner's reservation of this number may be settled so; the owner's numbers have these draws
abbrev pub IsSettledBy : Owner → (ℕ → ℕ → ℕ) → Query → ℕ → Outcome → Type 0
IsSettledBy owner draws query number outcome = IsSettledAt (HasWorthIn owner query) (noise_at query.e (draws number)) outcome

abbrev pub outcome_reply : Grant → Outcome → Replied
outcome_reply grant (Answered value) = answered grant.number value grant.taken
outcome_reply grant Exhausted = refused (by_number (NoNoise grant.number))
outcome_reply grant Lost = refused (by_number (NoAnswer grant.number))

-- how far from 0 an answer may be: a number is within 2^50, and noise within 2^33
abbrev pub answer_limit : ℕ
answer_limit = greatest_number + 2 ^ 33

-- an answer is within the limit
abbrev pub HasSmallAnswer : Replied → Type 0
HasSmallAnswer (answered number value taken) = unsigned_abs value ≤ answer_limit
HasSmallAnswer reply = ⊤

-- The line is refused before its owner's book is asked: for itself, for its program, or for want of memory.
abbrev pub IsUnasked : Replied → Type 0
IsUnasked (refused (by_line refusal)) = ⊤
IsUnasked (refused (by_program refusal)) = ⊤
IsUnasked (refused no_memory) = ⊤
IsUnasked reply = ⊥

-- the reservation that was granted
abbrev pub granted_record : Ask → Grant → Record
granted_record asking grant = Reserve (reservation_numbered grant.number asking grant.taken)

-- A grant adds its reservation and, right behind it, its settlement, which says by how much the cost falls.
abbrev pub grant_records : Entry → List Record → Ask → Grant → Outcome → List Record
grant_records entry records asking grant outcome =
    granted_record asking grant ∷ settlement_for entry (records ++ granted_record asking grant ∷ []) grant.number outcome ∷ []

-- A grant on these records is settled and told so.
abbrev pub IsSettledAndTold : Owner → (ℕ → ℕ → ℕ) → List Record → Query → Ask → Grant → Replied → (added : List Record) → Type 0
IsSettledAndTold owner draws records query asking grant reply added =
    (outcome : Outcome) × IsSettledBy owner draws query grant.number outcome
    × (reply ≡ outcome_reply grant outcome) × (added ≡ grant_records owner.entry records asking grant outcome)

-- What was granted isn't written to the owner's journal: neither record, or the reservation alone.
abbrev pub IsUnrecorded : Ask → Grant → Replied → (added : List Record) → Type 0
IsUnrecorded asking grant reply added =
    (refusal : DiskRefusal) × (reply ≡ refused (by_disk refusal)) × ((added ≡ []) ⊎ (added ≡ granted_record asking grant ∷ []))

-- What is said where the budget refuses: its refusal, or 42 in the place of a greater code, since whether the book is shut is looked at
-- in the order of the codes, too.
abbrev pub IsSaidFor : MoneyRefusal → Refusal → Type 0
IsSaidFor refusal said = (said ≡ by_money refusal) ⊎ ((failed_at : ℕ) × (42 < money_code refusal) × (said ≡ by_disk (Closed failed_at)))

abbrev pub IsAnsweredBy : Owner → (ℕ → ℕ → ℕ) → List Record → Query → Verdict → Replied → (added : List Record) → Type 0
IsAnsweredBy owner draws records query (program_refused refusal) reply added = (reply ≡ refused (by_program refusal)) × (added ≡ [])
IsAnsweredBy owner draws records query (money_refused refusal) reply added =
    (said : Refusal) × IsSaidFor refusal said × (reply ≡ refused said) × (added ≡ [])
IsAnsweredBy owner draws records query (granted asking grant) reply added =
    IsSettledAndTold owner draws records query asking grant reply added ⊎ IsUnrecorded asking grant reply added

-- What is said to a query of an owner, and the records that it adds where no other line adds any, where the owner has
-- these records and those before start were found.
unfoldable pub IsAnswered : Owner → (ℕ → ℕ → ℕ) → (start : ℕ) → List Record → Query → Replied → (added : List Record) → Type 0
IsAnswered owner draws start records query reply added =
    (verdict : Verdict) × IsVerdict owner.entry (signature_of_view owner query.view) start records query verdict
    × IsAnsweredBy owner draws records query verdict reply added

-- memory ran out before a reservation
abbrev pub IsUnanswered : Replied → (added : List Record) → Type 0
IsUnanswered reply added = (reply ≡ refused no_memory) × (added ≡ [])

-- a refusal adds nothing to these records
abbrev pub AddsNothing : List Record → Refusal → Replied → (told : List Told) → (after : List Record) → Type 0
AddsNothing g refusal reply told after = (reply ≡ refused refusal) × (told ≡ []) × (after ≡ g)

-- A grant adds its reservation to the records g, and its settlement to some records u that are there by then.
pub record AddsTwo (owner : Owner) (draws : ℕ → ℕ → ℕ) (query : Query) (asking : Ask) (grant : Grant) (g : List Record) (reply : Replied)
    (told : List Told) (after : List Record) : Type 0 where
  pub outcome : Outcome
  pub u : List Record
  pub settled : IsSettledBy owner draws query grant.number outcome
  pub reserved : IsPrefix (g ++ granted_record asking grant ∷ []) u
  pub reply_is : reply ≡ outcome_reply grant outcome
  pub told_is : told ≡ (length g, granted_record asking grant) ∷ (length u, settlement_for owner.entry u grant.number outcome) ∷ []
  pub after_is : after ≡ u ++ settlement_for owner.entry u grant.number outcome ∷ []

-- What was granted isn't kept: it adds neither record to the records g, or its reservation alone.
abbrev pub IsUnkept : Ask → Grant → List Record → Replied → (told : List Told) → (after : List Record) → Type 0
IsUnkept asking grant g reply told after =
    (refusal : DiskRefusal) × (reply ≡ refused (by_disk refusal))
    × (((told ≡ []) × (after ≡ g))
    ⊎ ((told ≡ (length g, granted_record asking grant) ∷ []) × IsPrefix (g ++ granted_record asking grant ∷ []) after))

abbrev pub IsAskedBy :
    Owner → (ℕ → ℕ → ℕ) → Query → Verdict → List Record → Replied → (told : List Told) → (after : List Record) → Type 0
IsAskedBy owner draws query (program_refused refusal) g reply told after = AddsNothing g (by_program refusal) reply told after
IsAskedBy owner draws query (money_refused refusal) g reply told after =
    (said : Refusal) × IsSaidFor refusal said × AddsNothing g said reply told after
IsAskedBy owner draws query (granted asking grant) g reply told after =
    AddsTwo owner draws query asking grant g reply told after ⊎ IsUnkept asking grant g reply told after

-- What is said to a query where its line saw these of the owner's records, what the line added, with positions, and the
-- records after it: by the verdict on some records g that begin with those seen, or memory ran out before a reservation.
-- Other lines may add records before g, between the two of a grant, and later.
unfoldable pub IsAsked :
    Owner → (ℕ → ℕ → ℕ) → (start : ℕ) → Query → (seen : List Record) → Replied → (told : List Told) → (after : List Record) → Type 0
IsAsked owner draws start query seen reply told after =
    (g : List Record) × IsPrefix seen g
    × (((verdict : Verdict) × IsVerdict owner.entry (signature_of_view owner query.view) start g query verdict
    × IsAskedBy owner draws query verdict g reply told after)
    ⊎ AddsNothing g no_memory reply told after)
