-- commands of which nothing is in the way
use Rattle.std.proofs.Common.{◌≡◌, ℕ, ◌<◌, ◌≤◌, List, [], length, Option, Some, None, refl, subst, arith}
use Rattle.std.specs.Prelude.{Result, Ok, Err, IfSome, IsSome}
use Rattle.budget_core.specs.declared.answers.Left.{Left}
use Rattle.budget_core.specs.declared.answers.GrantRefusal.{GrantRefusal}
use Rattle.budget_core.specs.declared.answers.GrantRefusal.TheVariants.{TooLarge, Full}
use mathlib.Core.Logic.{◌⊎◌, inl, inr}
use Rattle.journal_records.specs.declared.records.Header.{Header}
use Rattle.journal_records.specs.declared.records.Record.{Record}
use Rattle.outside_disks.specs.Disks.{Trace, seen_of}
use Rattle.outside_disks.specs.Stored.{Twins}
use Rattle.budget_journal.specs.Journals.{TellsSome}
use Rattle.budget_journal.specs.declared.opening.OpenFault.TheVariants as open_fault
use Rattle.budget_core.specs.Entries.{Entry}
use Rattle.budget_ledger.specs.Both.{IsBothFault}
use Rattle.budget_ledger.specs.declared.both.BothFault.{BothFault}
use Rattle.budget_ledger.specs.declared.both.BothFault.TheVariants.{Forked, Refused, VersionsDiffer}
use Rattle.command_words.specs.Command.{Command, command_of}
use Rattle.catalog_loading.specs.Files.{ReadsToCome}
use Rattle.catalog_loading.specs.Loaded.{KeyedOwner, Loading, its_entry, its_header, new_entry, new_header, owners_in}
use Rattle.query_server.specs.Work.{Work, usage, refused, to_answer, to_make, to_count, to_grant, to_check, to_compare, to_serve, to_generate, of_derivation}
use Rattle.owner_books.specs.Shelves.{Shelf, both_on, bytes_on}
use Rattle.query_server.specs.Outside.{NoCallFailed, Outside}
use Rattle.query_server.specs.Grant.{verdict_on, verdict_status}
use Rattle.owner_books.specs.Making.{IsThere, IsTwinThere}
use Rattle.owner_books.specs.Opened.{AreBothUnopened, IsOneUnopened, IsRefusedAt, IsUnopened, IsUnopenedBy}
use Rattle.query_server.specs.Due.{AreRead, IfFinished, IsDue, IsWrittenAt, SomeFailed, files_of, work_of}
use Rattle.query_server.specs.Valid.{AreEmpty, EndsWell, HoldTheSame, HoldsJournal, HoldJournals, IsEmpty, IsValidFor, MayEndWell, TellsRecords}
use Rattle.query_server.specs.Laws.{ValidCommandsEndWell}
use Rattle.query_server.specs.Ends.{Ended}
use Rattle.owner_books.specs.declared.refusals.JournalRefusal.{JournalRefusal}
use Rattle.owner_books.specs.declared.refusals.JournalRefusal.TheVariants.{Changed, Damaged, Exists, Forked as ForkedAt, Uninitialised}
use Rattle.query_server.specs.declared.end.Status.{Status}
use Rattle.query_server.specs.declared.end.Status.TheVariants as code
use Rattle.catalog_loading.specs.declared.stops.Stop.TheVariants.{Fault}
use Rattle.query_server.proofs.Contents.{for_contents}
use Rattle.query_server.proofs.Outcomes.{Comes, due_status, finished_due}
use Rattle.budget_ledger.proofs.BothOpens.{both_stand}
use Rattle.owner_books.proofs.Unopened.{not_refused}

-- ---- journals that are there

not_length : (n : ℕ) → (Refused (open_fault.NotInitialised n) ≡ Refused open_fault.DiskFault) ⊎ (Refused (open_fault.NotInitialised n) ≡ Refused open_fault.NoMemory) → ⊥
not_length n (inl is) = cc
not_length n (inr is) = cc

not_header : (kept found : List ℕ) → (Refused (open_fault.Changed kept found) ≡ Refused open_fault.DiskFault) ⊎ (Refused (open_fault.Changed kept found) ≡ Refused open_fault.NoMemory) → ⊥
not_header kept found (inl is) = cc
not_header kept found (inr is) = cc

not_slot : (k : ℕ) → (Refused (open_fault.Damaged k) ≡ Refused open_fault.DiskFault) ⊎ (Refused (open_fault.Damaged k) ≡ Refused open_fault.NoMemory) → ⊥
not_slot k (inl is) = cc
not_slot k (inr is) = cc

not_version : (VersionsDiffer ≡ Refused open_fault.DiskFault) ⊎ (VersionsDiffer ≡ Refused open_fault.NoMemory) → ⊥
not_version (inl is) = cc
not_version (inr is) = cc

not_fork : (k : ℕ) → (Forked k ≡ Refused open_fault.DiskFault) ⊎ (Forked k ≡ Refused open_fault.NoMemory) → ⊥
not_fork k (inl is) = cc
not_fork k (inr is) = cc

-- two that hold the same aren't refused
both_opened : (entry : Entry) (header : Header) (before now : Twins) → HoldTheSame entry header before → (fault : BothFault) → IsBothFault entry header before now fault
    → (fault ≡ Refused open_fault.DiskFault) ⊎ (fault ≡ Refused open_fault.NoMemory)
both_opened entry header before now h fault =
    both_stand entry header before now h.version h.other h.records h.others h.first h.second h.agree h.longer fault

both_unrefused : (entry : Entry) (header : Header) (before now : Twins) (refusal : JournalRefusal) → HoldTheSame entry header before → AreBothUnopened entry header refusal before now → ⊥
both_unrefused entry header before now (Uninitialised n) h is = not_length n (both_opened entry header before now h (Refused (open_fault.NotInitialised n)) is)
both_unrefused entry header before now Changed h (inl (kept, found, is)) = not_header kept found (both_opened entry header before now h (Refused (open_fault.Changed kept found)) is)
both_unrefused entry header before now Changed h (inr is) = not_version (both_opened entry header before now h VersionsDiffer is)
both_unrefused entry header before now (Damaged k) h is = not_slot k (both_opened entry header before now h (Refused (open_fault.Damaged k)) is)
both_unrefused entry header before now (Exists n) h is = is
both_unrefused entry header before now (ForkedAt k) h is = not_fork k (both_opened entry header before now h (Forked k) is)

-- why a journal isn't opened doesn't hang on the version that it is looked for in
in_version : (entry : Entry) (header : Header) (version : ℕ) (bytes : Option (List ℕ)) (refusal : JournalRefusal) → IsOneUnopened entry header bytes refusal
    → IsOneUnopened (record entry { version = version }) (record header { version = version }) bytes refusal
in_version entry header version bytes (Uninitialised n) is = is
in_version entry header version bytes Changed is = is
in_version entry header version bytes (Damaged slot) is = is
in_version entry header version bytes (Exists n) is = is
in_version entry header version bytes (ForkedAt slot) is = is

unrefused : (entry : Entry) (header : Header) (bytes : Option (List ℕ)) (before now : Option Twins) (refusal : JournalRefusal) → TellsRecords entry header bytes before → IsUnopenedBy entry header bytes before now refusal → ⊥
unrefused entry header None None now refusal told isnt = told
unrefused entry header (Some bytes) None now refusal h isnt =
    not_refused (record entry { version = h.version }) (record header { version = h.version }) h.found bytes refusal h.stands refl h.history (in_version entry header h.version (Some bytes) refusal isnt)
unrefused entry header bytes (Some before) None refusal h isnt = isnt
unrefused entry header bytes (Some before) (Some now) refusal h isnt = both_unrefused entry header before now refusal h isnt

-- journals that are told, and stand for records that may follow one another, aren't refused
never_refused : (loading : Loading) (key : List ℕ) (b a : Shelf) (o : ℕ) (refusal : JournalRefusal) → HoldJournals loading key b → IsRefusedAt loading key b a o refusal → ⊥
never_refused loading key b a o refusal told at =
    unrefused (new_entry loading o) (new_header loading key o) (bytes_on b o) (both_on b o) (both_on a o) refusal (told o at.known) at.refused

-- no journal is there on an empty disk
long_is : (n : ℕ) (told : Option Trace) → 1 ≤ n → TellsSome (λ t. seen_of t ≡ []) told → IfSome told (λ t. length (seen_of t) ≡ n) → ⊥
long_is n None some empty long = empty
long_is n (Some t) some empty long = let none : length {A = ℕ} [] ≡ n = subst (λ (bytes : List ℕ). length bytes ≡ n) empty long in omega (arith, some, none)

not_there : (n : ℕ) (bytes : Option (List ℕ)) (twins : Option Twins) → 1 ≤ n → IsEmpty bytes twins → IfSome bytes (λ bytes. length bytes ≡ n) → IsTwinThere n twins → ⊥
not_there n bytes None some empty long there =
    let none : length {A = ℕ} [] ≡ n = subst (λ (bytes : Option (List ℕ)). IfSome bytes (λ (w : List ℕ). length w ≡ n)) empty long in
    omega (arith, some, none)
not_there n bytes (Some twins) some empty long (inl first) = long_is n twins.first.trace some empty.0 first
not_there n bytes (Some twins) some empty long (inr (none, second)) = long_is n twins.second.trace some empty.1 second

never_there : (loading : Loading) (b : Shelf) (o n : ℕ) → AreEmpty (owners_in loading) b → o < owners_in loading → 1 ≤ n → IsThere n (b o) → ⊥
never_there loading b o n empty known some long = not_there n (bytes_on b o) (both_on b o) some (empty o known) long.0 long.1

-- nor is the journal of one owner that is there
never_unopened : (one : KeyedOwner) (b a : Shelf) (refusal : JournalRefusal) → HoldsJournal one b → IsUnopened (its_entry one) (its_header one) (b one.number) (a one.number) refusal → ⊥
never_unopened one b a refusal told at =
    unrefused (its_entry one) (its_header one) (bytes_on b one.number) (both_on b one.number) (both_on a one.number) refusal told at

granted_well : (verdict : Result Left GrantRefusal) (status : Status) → status ≡ verdict_status verdict → (status ≡ code.Done) ⊎ ((status ≡ code.TooLarge) ⊎ (status ≡ code.JournalFull))
granted_well (Ok left) status is = inl is
granted_well (Err (TooLarge budget amount)) status is = inr (inl is)
granted_well (Err (Full used unsettled capacity)) status is = inr (inr is)

pub ends_well : (work : Work) (b a : Shelf) (script : List ℕ) (status : Status) (text : List ℕ) → IsValidFor work b → IsDue work b a script status text → EndsWell work status
ends_well usage b a script status text valid due = absurd valid
ends_well (refused name) b a script status text valid due = absurd valid
ends_well (to_answer workers loading key) b a script status text valid (inl r) = absurd (never_refused loading key b a r.o r.refusal valid r.at)
ends_well (to_answer workers loading key) b a script status text valid (inr (versions, found, opened, inl (done, short, answered))) = inl done
ends_well (to_answer workers loading key) b a script status text valid (inr (versions, found, opened, inr (over, long, is, disks))) = inr over
ends_well (to_make loading key) b a script status text valid (inl (done, is, disks)) = done
ends_well (to_make loading key) b a script status text valid (inr r) = absurd (never_there loading b r.o r.n valid r.known r.some r.long)
ends_well (to_count loading key) b a script status text valid (inl r) = absurd (never_refused loading key b a r.o r.refusal valid r.at)
ends_well (to_count loading key) b a script status text valid (inr (versions, found, opened, done, is, disks)) = done
ends_well (to_check tables program) b a script status text valid due = due_status (to_check tables program) b a script status text due
ends_well (to_serve workers each loading key) b a script status text valid (inl r) = absurd (never_refused loading key b a r.o r.refusal valid r.at)
ends_well (to_serve workers each loading key) b a script status text valid (inr (versions, found, opened, done, none, held)) = done
ends_well (to_generate seed asks) b a script status text valid due = due.0
ends_well (to_grant amount one) b a script status text valid (inl due) = absurd (never_unopened one b a due.refusal valid due.refused)
ends_well (to_grant amount one) b a script status text valid (inr due) = granted_well (verdict_on one due.version due.found amount) status due.is_status
ends_well (to_compare tables X Y program) b a script status text valid due = due_status (to_compare tables X Y program) b a script status text due
ends_well (of_derivation task) b a script status text valid due = due_status (of_derivation task) b a script status text due

pub complete_by : (work : Work) (b a : Shelf) (script : List ℕ) (status : Status) (text : List ℕ) → IsValidFor work b → (status ≡ code.Fault → ⊥) → (status ≡ code.DiskFault → ⊥)
    → IsWrittenAt work b a script status text → MayEndWell work status
complete_by work b a script status text valid fault disk written = here (finished_due work b a script status text written)
  where
    here : IfFinished status (IsDue work b a script status text) → MayEndWell work status
    here (inl is) = absurd (fault is)
    here (inr (inl is)) = inr is
    here (inr (inr (inl is))) = absurd (disk is)
    here (inr (inr (inr due))) = inl (ends_well work b a script status text valid due)

-- no cause, no failure
pub no_cause : {OfRun OfDoors Files Source Doors Sink : Type 0} (end : Ended) → (Files → ⊥) → (Source → ⊥) → (Doors → ⊥) → (Sink → ⊥) → (end ≡ Err Fault) ⊎ Sink
    → (end ≡ Err Fault → Files ⊎ (OfRun × Source) ⊎ (OfDoors × Doors)) → ⊥
no_cause {OfRun} {OfDoors} {Files} {Source} {Doors} {Sink} end file source door sink (inl is) cause = here (cause is)
  where
    here : Files ⊎ (OfRun × Source) ⊎ (OfDoors × Doors) → ⊥
    here (inl rose) = file rose
    here (inr (inl (of, rose))) = source rose
    here (inr (inr (of, rose))) = door rose
no_cause end file source door sink (inr rose) cause = sink rose

pub no_disk_cause : {Bay Disk : Type 0} → (Bay → ⊥) → (Disk → ⊥) → Bay ⊎ Disk → ⊥
no_disk_cause bay disk (inl rose) = bay rose
no_disk_cause bay disk (inr rose) = disk rose

-- the same of what is seen of the outside
none_failed : (command : Option Command) (before after : Outside) → NoCallFailed before after → SomeFailed command before after → ⊥
none_failed command before after (files, source, sink, disks, doors) (inl (some, rose)) = files rose
none_failed command before after (files, source, sink, disks, doors) (inr (inl (takes, rose))) = source rose
none_failed command before after (files, source, sink, disks, doors) (inr (inr (inl (listens, rose)))) = doors rose
none_failed command before after (files, source, sink, disks, doors) (inr (inr (inr rose))) = sink rose

pub valid_end_well : ValidCommandsEndWell
valid_end_well words before after status text line cause failed nothing =
    let Also : ReadsToCome → List ℕ → Type 0 = λ reads script. IsWrittenAt (work_of words reads) before.bay.shelf after.bay.shelf script status text
    × AreRead status (files_of words reads) before.files.names after.files.names × (IsValidFor (work_of words reads) before.bay.shelf → MayEndWell (work_of words reads) status) in
    for_contents before.files.held before.source.left (Comes words before.files.names after.files.names before.bay.shelf after.bay.shelf status text) Also
    (λ reads script (due, read). (
      due,
      read,
      λ valid. complete_by (work_of words reads) before.bay.shelf after.bay.shelf script status text valid
          (λ fault. none_failed (command_of words) before after nothing (cause fault)) (λ disk. nothing.3 (failed disk)) due,
    )) line.1
