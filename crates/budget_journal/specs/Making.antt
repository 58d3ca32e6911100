-- The steps in which a journal is made.
use Rattle.std.specs.Prelude.{◌≡◌, ℕ, ◌+◌, ◌*◌, ◌≤◌, List, [], ◌∷◌, ◌++◌, length, drop, replicate, ⊤}
use Rattle.outside_disks.specs.Disks.{Step, Trace}
use Rattle.outside_disks.specs.Disks.Step.{Wrote, Synced}
use Rattle.journal_records.specs.Encoding.{gate, encoded_header}
use Rattle.journal_records.specs.declared.records.Header.{Header}
use Rattle.budget_journal.specs.declared.form.Form.TheVariants.{Many}
use Rattle.budget_journal.specs.Areas.{area_slots}

-- Writes of zeros from the start of a file on, each where the one before it ended: so many bytes. The newest stands first.
abbrev pub AreZeros : List Step → ℕ → Type 0
AreZeros [] n = n ≡ 0
AreZeros (Wrote place bytes ∷ earlier) n = (bytes ≡ replicate (length bytes) 0) × (n ≡ place + length bytes) × AreZeros earlier place
AreZeros (Synced ∷ earlier) n = ⊥

-- the header and area 0
abbrev pub first_bytes : Header → ℕ
first_bytes header = 128 + 64 * area_slots Many header.capacity 0

-- behind zeros over the header and area 0, these steps
abbrev pub AreBehindZeros : Header → (done steps : List Step) → Type 0
AreBehindZeros header done steps = (zeros : List Step) × AreZeros zeros (first_bytes header) × (steps ≡ done ++ zeros)

-- the header without its gate, and then its gate, each made stable
abbrev pub header_steps : Header → List Step
header_steps header = Synced ∷ Wrote 0 (gate ∷ []) ∷ Synced ∷ Wrote 1 (drop 1 (encoded_header header)) ∷ Synced ∷ []

-- A journal with many areas is made: zeros over the header and area 0, the header without its gate, and the gate. Each is stable
-- before the next is written. The newest step stands first.
abbrev pub MakesJournal : Header → List Step → Type 0
MakesJournal header steps = AreBehindZeros header (header_steps header) steps

-- the oldest of these steps, some or none
abbrev pub AreFirst : List Step → List Step → Type 0
AreFirst steps first = (later : List Step) × (steps ≡ later ++ first)

-- A beginning of these steps. Its last one, if it is a write, may have written other bytes, at most as many.
abbrev pub Begins : List Step → List Step → Type 0
Begins steps [] = ⊤
Begins steps (Synced ∷ earlier) = AreFirst steps (Synced ∷ earlier)
Begins steps (Wrote place bytes ∷ earlier) = (whole : List ℕ) × (length bytes ≤ length whole) × AreFirst steps (Wrote place whole ∷ earlier)

-- a beginning of steps that have P
abbrev pub BeginsSome : (List Step → Type 0) → List Step → Type 0
BeginsSome P begun = (steps : List Step) × P steps × Begins steps begun

-- from one trace to the other there were these steps, which have P
abbrev pub AddsSteps : (List Step → Type 0) → Trace → Trace → Type 0
AddsSteps P t u = (more : List Step) × P more × (u ≡ record { start = t.start; steps = more ++ t.steps })
