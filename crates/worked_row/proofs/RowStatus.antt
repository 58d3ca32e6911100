-- What the status and what is written come to where that script is answered over a journal that was made and has no records.
use Rattle.std.proofs.Common.{◌≡◌, ℕ, ◌<◌, List, [], ◌∷◌, ◌++◌, get_or, length, Option, Some, None, refl, sym, ◌∙◌, ap, subst, arith, length-append}
use Rattle.std.specs.Prelude.{IfSome}
use mathlib.Core.Logic.{◌⊎◌, inl, inr}
use Rattle.fz_outside.specs.Faults.{HasRisen}
use Rattle.outside_disks.specs.Stored.{Twins}
use Rattle.budget_journal.specs.Journals.{Stands}
use Rattle.budget_journal.proofs.Gates.{head-version}
use Rattle.budget_journal.proofs.One.{stands-one}
use Rattle.budget_core.specs.Entries.{Entry}
use Rattle.budget_core.specs.Legal.{IsHistory}
use Rattle.query_server.proofs.Unopened.{not_refused as never_refused}
use Rattle.query_server.specs.SessionCore.Transcript.{Journals}
use Rattle.query_server.specs.Work.{Work, to_answer}
use Rattle.query_server.specs.Run.{IsScriptAnswered, IsScriptDue}
use Rattle.catalog_loading.specs.Loaded.{header_in, in_versions, new_entry, new_header, owner_name_at}
use Rattle.query_server.specs.Opened.{AreOpened, IsUnopened, IsUnopenedBy}
use Rattle.query_server.specs.Duty.{IsRefusalDue}
use Rattle.query_server.specs.Shelves.{Shelf, both_on, bytes_on}
use Rattle.query_server.specs.Due.{IsBeginning, IsToWrite, IsStopLine, IsWrittenAt}
use Rattle.query_server.specs.Refusals.{disk_text}
use Rattle.query_server.specs.Status.{memory_text}
use Rattle.query_server.specs.declared.end.Status.{Status}
use Rattle.query_server.specs.declared.end.Status.TheVariants.{Done, Fault, DiskFault, NoMemory}
use Rattle.worked_row.specs.Held.{IsJournalMade, loading, zeros}
use Rattle.worked_row.specs.Row.{script, row, row_without, row_lost, row_failed, IsRowText}
use Rattle.worked_row.proofs.RowReplies.{answered_is}

-- no records are a history
pub no_records : (entry : Entry) → IsHistory entry []
no_records entry = record { follows = λ k next is. absurd (cc is) }

-- what is so of two things, by the names that they have elsewhere
pub both_given : {A B : Type 0} (P : A → B → Type 0) (a x : A) (b y : B) → a ≡ x → b ≡ y → P a b → P x y
both_given {A} {B} P a x b y is same p = subst (λ (w : B). P x w) same (subst (λ (v : A). P v b) is p)

-- it isn't refused
not_refused : (old new : Shelf) (status : Status) (text : List ℕ) → IsJournalMade old → IsRefusalDue loading zeros old new status text → ⊥
not_refused old new status text (bytes, told, one, made) due =
    let first : due.o ≡ 0 = omega (arith, due.at.known) in
    let refused : IsUnopened (new_entry loading 0) (new_header loading zeros 0) (old 0) (new 0) due.refusal =
    subst (λ (o : ℕ). IsUnopened (new_entry loading o) (new_header loading zeros o) (old o) (new o) due.refusal) first due.at.refused in
    never_refused (new_entry loading 0) (new_header loading zeros 0) [] bytes due.refusal made refl (no_records (new_entry loading 0))
    (both_given (λ (b : Option (List ℕ)) (t : Option Twins). IsUnopenedBy (new_entry loading 0) (new_header loading zeros 0) b t (both_on new 0) due.refusal)
    (bytes_on old 0) (Some bytes) (both_on old 0) None told one refused)

-- the first of these versions is 3
begins_new : (versions : List ℕ) → length versions ≡ 64 → get_or versions 0 3 ≡ 3 → (rest : List ℕ) × (versions ≡ 3 ∷ rest)
begins_new [] many is = absurd (omega (arith, many))
begins_new (version ∷ rest) many is = (rest, ap (λ (v : ℕ). v ∷ rest) is)

-- it is opened in version 3, without records
pub none_there : (old new : Shelf) (versions : List ℕ) (found : Journals) → IsJournalMade old → AreOpened loading zeros old new versions found → ((rest : List ℕ) × (versions ≡ 3 ∷ rest)) × (found 0 ≡ [])
none_there old new versions found (bytes, told, one, made) opened =
    let version = get_or versions 0 3 in
    let stands : Stands (header_in loading zeros 0 version) (found 0) bytes =
    subst (λ (b : Option (List ℕ)). IfSome b (Stands (header_in loading zeros 0 version) (found 0))) told (opened.each 0 (omega arith)).stands in
    let new : version ≡ 3 = sym (head-version (header_in loading zeros 0 version) bytes stands.head) ∙ head-version (header_in loading zeros 0 3) bytes made.head in (
      begins_new versions opened.counted new,
      stands-one (header_in loading zeros 0 3) (found 0) [] bytes (subst (λ (v : ℕ). Stands (header_in loading zeros 0 v) (found 0) bytes) new stands) made,
    )

script_length : length script ≡ 39
script_length = refl

-- so what is due is the row
due_is : (old new : Shelf) (status : Status) (text : List ℕ) → IsJournalMade old → IsScriptDue loading zeros 1 old new script status text → (status ≡ Done) × IsRowText text
due_is old new status text made (inl refusal) = absurd (not_refused old new status text made refusal)
due_is old new status text made (inr (versions, found, opened, inl (done, few, answered))) =
    let there = none_there old new versions found made opened in
    (done, answered_is there.0.0 old new found text there.1 (subst (λ (vs : List ℕ). IsScriptAnswered (in_versions loading vs) zeros 1 old new found script text) there.0.1 answered))
due_is old new status text made (inr (versions, found, opened, inr (over, many, is, disks))) = absurd (omega (arith, many, script_length))

row_length : length row ≡ 33
row_length = refl

without_length : length row_without ≡ 20
without_length = refl

lost_length : length row_lost ≡ 22
lost_length = refl

failed_length : length row_failed ≡ 20
failed_length = refl

memory_length : length memory_text ≡ 7
memory_length = refl

disk_length : length (disk_text (owner_name_at loading 0)) ≡ 12
disk_length = refl

row_short : (text : List ℕ) → IsRowText text → length text < 64
row_short text (inl is) = let e : length text ≡ length row = ap length is in omega (arith, row_length)
row_short text (inr (inl is)) = let e : length text ≡ length row_without = ap length is in omega (arith, without_length)
row_short text (inr (inr (inl is))) = let e : length text ≡ length row_lost = ap length is in omega (arith, lost_length)
row_short text (inr (inr (inr is))) = let e : length text ≡ length row_failed = ap length is in omega (arith, failed_length)

prefix_short : (text whole : List ℕ) → IsBeginning text whole → length whole < 64 → length text < 64
prefix_short text whole (rest, is) short =
    let e : length whole ≡ length (text ++ rest) = ap length is in
    omega (arith, length-append text rest)

stop_short : (old new : Shelf) (status : Status) (text : List ℕ) → IsStopLine (to_answer 1 loading zeros) old new status text → length text < 64
stop_short old new status text (inl (memory, is)) = let e : length text ≡ length memory_text = ap length is in omega (arith, memory_length)
stop_short old new status text (inr (disk, (o, few, is, opened, others))) =
    let first : o ≡ 0 = omega (arith, few) in
    let e : length text ≡ length (disk_text (owner_name_at loading 0)) = ap length (is ∙ ap (λ (o : ℕ). disk_text (owner_name_at loading o)) first) in omega (arith, disk_length)

to_write_short : (old new : Shelf) (status : Status) (text : List ℕ) → IsJournalMade old → IsToWrite (to_answer 1 loading zeros) old new script status text → length text < 64
to_write_short old new status text made (inl due) = row_short text (due_is old new status text made due).1
to_write_short old new status text made (inr (stop, more)) = stop_short old new status text stop

-- At any status fewer bytes are written than there is room for.
pub short : (old new : Shelf) (status : Status) (text : List ℕ) → IsJournalMade old → IsWrittenAt (to_answer 1 loading zeros) old new script status text → length text < 64
short old new status text made (inl whole) = to_write_short old new status text made whole
short old new status text made (inr (fault, (other, due, is, prefix))) = prefix_short text due prefix (to_write_short old new other due made is)

-- So a sink that fails only where it is full hasn't failed.
pub none_failed : (ending : Work) (old new : Shelf) (status : Status) (text written : List ℕ) (faults : ℕ) → IsJournalMade old → ending ≡ to_answer 1 loading zeros → IsWrittenAt ending old new script status text
    → Some written ≡ Some ([] ++ text) → (0 < faults → length written ≡ 64) → faults ≡ 0
none_failed ending old new status text written faults made due is whole full =
    let few : length text < 64 = short old new status text made (subst (λ (e : Work). IsWrittenAt e old new script status text) due is) in
    let same : written ≡ text = cc in
    let e : length written ≡ length text = ap length same in
    grind arith

-- where files, source and sink don't fail
finished_row : (old new : Shelf) (status : Status) (text : List ℕ) → IsJournalMade old → IsWrittenAt (to_answer 1 loading zeros) old new script status text → (status ≡ Fault → ⊥)
    → (status ≡ NoMemory) ⊎ (status ≡ DiskFault) ⊎ ((status ≡ Done) × IsRowText text)
finished_row old new status text made (inl (inl due)) sound = inr (inr (due_is old new status text made due))
finished_row old new status text made (inl (inr (inl (memory, is), more))) sound = inl memory
finished_row old new status text made (inl (inr (inr (disk, is), more))) sound = inr (inl disk)
finished_row old new status text made (inr (fault, is)) sound = absurd (sound fault)

-- what the sink may hold then
abbrev IsRowWritten : List ℕ → Type 0
IsRowWritten written = (Some written ≡ Some row) ⊎ (Some written ≡ Some row_without) ⊎ (Some written ≡ Some row_lost) ⊎ (Some written ≡ Some row_failed)

written_row : (text written : List ℕ) → Some written ≡ Some ([] ++ text) → IsRowText text → IsRowWritten written
written_row text written whole (inl is) = inl (whole ∙ ap Some is)
written_row text written whole (inr (inl is)) = inr (inl (whole ∙ ap Some is))
written_row text written whole (inr (inr (inl is))) = inr (inr (inl (whole ∙ ap Some is)))
written_row text written whole (inr (inr (inr is))) = inr (inr (inr (whole ∙ ap Some is)))

-- Where those don't fail, the row is written, or memory is wanting, or the disk fails at the opening.
pub finished : (ending : Work) (old new : Shelf) (status : Status) (text written : List ℕ) → IsJournalMade old → ending ≡ to_answer 1 loading zeros → IsWrittenAt ending old new script status text
    → Some written ≡ Some ([] ++ text) → (status ≡ Fault → ⊥)
    → (status ≡ NoMemory) ⊎ (status ≡ DiskFault) ⊎ ((status ≡ Done) × IsRowWritten written)
finished ending old new status text written made due is whole sound = here (finished_row old new status text made (subst (λ (e : Work). IsWrittenAt e old new script status text) due is) sound)
  where
    here : (status ≡ NoMemory) ⊎ (status ≡ DiskFault) ⊎ ((status ≡ Done) × IsRowText text) → (status ≡ NoMemory) ⊎ (status ≡ DiskFault) ⊎ ((status ≡ Done) × IsRowWritten written)
    here (inl none) = inl none
    here (inr (inl disk)) = inr (inl disk)
    here (inr (inr (complete, same))) = inr (inr (complete, written_row text written whole same))

-- counts that are 0 haven't risen
pub none_risen : {Q P D R : Type 0} → (before now : ℕ) → before ≡ 0 → now ≡ 0 → (D → ⊥) → (Q × HasRisen 0 0) ⊎ (P × HasRisen 0 0) ⊎ (D × R) ⊎ HasRisen before now → ⊥
none_risen before now zero none doorless (inl risen) = let h : 0 < 0 = risen.1 (omega arith) in omega arith
none_risen before now zero none doorless (inr (inl risen)) = let h : 0 < 0 = risen.1 (omega arith) in omega arith
none_risen before now zero none doorless (inr (inr (inl listens))) = doorless listens.0
none_risen before now zero none doorless (inr (inr (inr risen))) = let h : before < now = risen (omega arith) in omega arith
