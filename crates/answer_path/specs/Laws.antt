-- What is proved of readings and of admissions.
use Rattle.std.specs.Prelude.{◌≡◌, ◌↔◌, ◌⊎◌, ℕ, ℤ, List, [], ◌∷◌, ◌++◌}
use mathlib.Core.List.{IsPrefix}
use Rattle.journal_records.specs.declared.records.Record.{Record}
use Rattle.journal_records.specs.declared.records.Record.TheVariants.{Reserve}
use Rattle.journal_records.specs.Records.{settling}
use Rattle.journal_records.specs.declared.records.Outcome.TheVariants.{Lost}
use Rattle.budget_core.specs.declared.entry.Ask.{Ask}
use Rattle.budget_core.specs.Ledger.{reservation_numbered}
use Rattle.partition_charge.specs.declared.view.View.{View}
use Rattle.owner_catalog.specs.Entries.{PartitionEntry}
use Rattle.part_views.specs.Partitions.{ArePartitions}
use Rattle.part_views.specs.Views.{signature_in, rows_in}
use Rattle.budget_core.specs.Bare.{without_answers}
use Rattle.budget_core.specs.Entries.{Entry}
use Rattle.fz_frac.specs.Distance.{Distance, Fin, mul, ◌⊑◌}
use Rattle.fz_ast.specs.Limits.{IsNumber}
use Rattle.fz_ast.specs.Signature.{Signature, IsSignature}
use Rattle.fz_ast.specs.Terms.{Term}
use Rattle.metric_values.specs.Distances.{gap}
use Rattle.metric_values.specs.Tables.{Dataset, apart}
use Rattle.metric_values.specs.Tables.{IsDataset}
use Rattle.wire_lines.specs.Refusal.{by_number, no_memory}
use Rattle.wire_lines.specs.Reply.{Replied, refused}
use Rattle.wire_lines.specs.declared.refusal.NumberRefusal.TheVariants.{Lost as NoAnswer}
use Rattle.owner_house.specs.Owner.{Owner, signature_of_view}
use Rattle.answer_path.specs.Query.{Query}
use Rattle.answer_path.specs.Program.{IsCharged}
use Rattle.answer_path.specs.Verdict.{Verdict, IsVerdict}
use Rattle.owner_desk.specs.Passes.{Pass, Told, closing, first_of_run, records_told}
use Rattle.answer_path.specs.Demand.{Demand, asks}
use Rattle.answer_path.specs.Answered.{IsAsked, IsAnswered, IsUnanswered}
use Rattle.answer_path.specs.Met.{IsMet, IsMetExactly}
use Rattle.answer_path.specs.Shut.{Shut, ShutsBy, shut_of}
use Rattle.answer_path.specs.Idle.{AddsNone, IsAlone, IsIdle, IsShutOut, LeavesBook}
use Rattle.answer_path.specs.Closing.{Closes}
use Rattle.answer_path.specs.Reading.{Reading, read, IsReading}
use Rattle.answer_path.specs.Admission.{accepted, admission_of, HasTooManyWalks, HasValue}

-- a program comes to one thing at most
abbrev pub OneReading : Type 0
OneReading = (w : List ℕ) (a b : Reading) → IsReading w a → IsReading w b → a ≡ b

-- and to one thing at least
abbrev pub EveryReading : Type 0
EveryReading = (w : List ℕ) → (reading : Reading) × IsReading w reading

-- an accepted program has a number within -M..M on each dataset
abbrev pub AcceptedHaveValues : Type 0
AcceptedHaveValues =
    (ts : Signature) (w : List ℕ) (e t : Term) (r : Distance) → IsSignature ts → IsReading w (read e) → admission_of ts (read e) ≡ accepted t r
    → (X : Dataset) → IsDataset ts X → (z : ℤ) × HasValue ts X w z × IsNumber z

-- a program has one number at most on a dataset
abbrev pub OneValue : Type 0
OneValue = (ts : Signature) (X : Dataset) (w : List ℕ) (y z : ℤ) → HasValue ts X w y → HasValue ts X w z → y ≡ z

-- an accepted program's numbers on two datasets differ by at most its sensitivity times how far the datasets are apart
abbrev pub AcceptedAreBounded : Type 0
AcceptedAreBounded =
    (ts : Signature) (w : List ℕ) (e t : Term) (r : Distance) → IsSignature ts → IsReading w (read e) → admission_of ts (read e) ≡ accepted t r
    → (X Y : Dataset) → IsDataset ts X → IsDataset ts Y → (y z : ℤ) → HasValue ts X w y → HasValue ts Y w z
    → Fin (gap y z) 1 ⊑ mul r (Fin (apart X Y) 1)

-- a program that is accepted in a view has a number within -M..M on what the view shows of each dataset of the tables
abbrev pub ChargedHaveValues : Type 0
ChargedHaveValues =
    (tables : Signature) (partitions : List PartitionEntry) (rows : Dataset) (view : View) (program : List ℕ) (p q : ℕ)
    → IsSignature tables → ArePartitions tables partitions → IsDataset tables rows → IsCharged (signature_in tables partitions view) program p q
    → (z : ℤ) × HasValue (signature_in tables partitions view) (rows_in partitions view rows) program z × IsNumber z

-- Where the view's rows of two datasets are d apart, these numbers differ by at most p/q times d.
abbrev pub ChargedAreBounded : Type 0
ChargedAreBounded =
    (tables : Signature) (partitions : List PartitionEntry) (rows other : Dataset) (view : View) (program : List ℕ) (p q : ℕ) (y z : ℤ)
    → IsSignature tables → ArePartitions tables partitions → IsDataset tables rows → IsDataset tables other
    → IsCharged (signature_in tables partitions view) program p q
    → HasValue (signature_in tables partitions view) (rows_in partitions view rows) program y
    → HasValue (signature_in tables partitions view) (rows_in partitions view other) program z
    → Fin (gap y z) 1 ⊑ mul (Fin p q) (Fin (apart (rows_in partitions view rows) (rows_in partitions view other)) 1)

-- a verdict, in any view, is the same with every answer in the records set to 0; rows and noise it isn't given
abbrev pub VerdictsSeeNoAnswers : Type 0
VerdictsSeeNoAnswers =
    (entry : Entry) (tables : Signature) (start : ℕ) (records : List Record) (query : Query) (verdict : Verdict)
    → IsVerdict entry tables start (without_answers records) query verdict ↔ IsVerdict entry tables start records query verdict

-- where no other line adds records, a line is answered on those that it saw, or memory ran out
abbrev pub AloneIsAnswered : Type 0
AloneIsAnswered =
    (owner : Owner) (draws : ℕ → ℕ → ℕ) (start : ℕ) (query : Query) (seen : List Record) (reply : Replied) (told : List Told) (after : List Record)
    → IsAsked owner draws start query seen reply told after → after ≡ seen ++ records_told told
    → IsAnswered owner draws start seen query reply (records_told told) ⊎ IsUnanswered reply (records_told told)

-- a demand too is met on just the records that were known, and what it adds stands right behind them
abbrev pub AloneIsMet : Type 0
AloneIsMet =
    (owner : Owner) (draws : ℕ → ℕ → ℕ) (start : ℕ) (demand : Demand) (seen : List Record) (reply : Replied) (told : List Told) (after : List Record)
    → IsMet owner draws start demand seen reply told after → after ≡ seen ++ records_told told → IsMetExactly owner draws start demand seen reply told after

-- what was met so is met
abbrev pub ExactlyIsMet : Type 0
ExactlyIsMet =
    (owner : Owner) (draws : ℕ → ℕ → ℕ) (start : ℕ) (demand : Demand) (seen : List Record) (reply : Replied) (told : List Told) (after : List Record)
    → IsMetExactly owner draws start demand seen reply told after → IsMet owner draws start demand seen reply told after × (after ≡ seen ++ records_told told)

-- Where a book is shut by this pass's own appends alone, before and after a query: it is told 42 only where the book was shut
-- before, which stays as it was, and nothing was added; an answer, 50 and 51 come of an open book, which stays open.
abbrev pub OnePassCloses : Type 0
OnePassCloses =
    (owner : Owner) (draws : ℕ → ℕ → ℕ) (start : ℕ) (query : Query) (seen : List Record) (reply : Replied) (told : List Told) (after : List Record)
    (before now : Shut) → IsAsked owner draws start query seen reply told after → ShutsBy owner draws (asks query) reply told before now
    → before.own ≡ closing before.failure → now.own ≡ closing now.failure → Closes owner draws query reply told before.failure now.failure

-- where memory ran out after a reservation, both records were added: the reservation of the number that is told, and its
-- settlement as lost
abbrev pub LostAreCharged : Type 0
LostAreCharged =
    (owner : Owner) (draws : ℕ → ℕ → ℕ) (start : ℕ) (query : Query) (seen : List Record) (reply : Replied) (told : List Told)
    → (after : List Record) (n : ℕ) → IsAsked owner draws start query seen reply told after → reply ≡ refused (by_number (NoAnswer n))
    → (asking : Ask) × (taken : ℕ) × (records_told told ≡ Reserve (reservation_numbered n asking taken) ∷ settling n Lost ∷ [])

-- A line that adds no record leaves its owner's book alone.
abbrev pub RefusalsAddNothing : Type 0
RefusalsAddNothing =
    (owner : Owner) (draws : ℕ → ℕ → ℕ) (demand : Demand) (before after : Pass) (reply : Replied) (told : List Told)
    → IsMet owner draws (first_of_run before) demand before.seen reply told after.seen → after.own ≡ before.own ++ told
    → ShutsBy owner draws demand reply told (shut_of before) (shut_of after) → IsIdle before reply → LeavesBook before after

-- Where its pass is alone on the book, it leaves the pass as it was; and so does one that is told 42.
abbrev pub RefusalsLeavePass : Type 0
RefusalsLeavePass =
    (owner : Owner) (draws : ℕ → ℕ → ℕ) (demand : Demand) (before after : Pass) (reply : Replied) (told : List Told)
    → IsMet owner draws (first_of_run before) demand before.seen reply told after.seen → after.own ≡ before.own ++ told
    → ShutsBy owner draws demand reply told (shut_of before) (shut_of after) → after.opened ≡ before.opened
    → IsAlone before → IsAlone after → AddsNone reply ⊎ IsShutOut reply → after ≡ before

-- So it is where a demand is met exactly: the records are those that were seen.
abbrev pub RefusalsLeaveRecords : Type 0
RefusalsLeaveRecords =
    (owner : Owner) (draws : ℕ → ℕ → ℕ) (start : ℕ) (demand : Demand) (seen : List Record) (reply : Replied) (told : List Told) (after : List Record)
    → IsMetExactly owner draws start demand seen reply told after → AddsNone reply → (told ≡ []) × (after ≡ seen)

-- A query whose program takes too many walks over the tables of its view is told that memory ran out, whatever the records and the rows are, and
-- it adds nothing: so it is never charged.
abbrev pub WalksAreTold : Type 0
WalksAreTold =
    (owner : Owner) (draws : ℕ → ℕ → ℕ) (start : ℕ) (query : Query) (seen : List Record) (reply : Replied) (told : List Told) (after : List Record)
    → HasTooManyWalks (signature_of_view owner query.view) query.program → IsMet owner draws start (asks query) seen reply told after
    → (reply ≡ refused no_memory) × (told ≡ []) × IsPrefix seen after

-- There is a verdict on each other program, and on such a one there is none.
abbrev pub WalksAloneHaveNoVerdict : Type 0
WalksAloneHaveNoVerdict =
    (entry : Entry) (tables : Signature) (start : ℕ) (records : List Record) (query : Query)
    → (((verdict : Verdict) × IsVerdict entry tables start records query verdict) ⊎ HasTooManyWalks tables query.program)
    × (HasTooManyWalks tables query.program → (verdict : Verdict) → IsVerdict entry tables start records query verdict → ⊥)
