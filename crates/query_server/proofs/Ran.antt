-- a script that was answered over passes, and what became of the owners' disks
use Rattle.std.proofs.Common.{◌≡◌, ℕ, ◌<◌, ◌≤◌, List, length, slice_get, Option, Some, refl, sym, ◌∙◌, ap, subst, arith}
use Rattle.std.specs.Prelude.{IfSome, Result, Ok, Err, IsErrAnd, Vec}
use Rattle.std.specs.declared.alloc.Global.{Global}
use mathlib.Core.Logic.{inl, inr}
use Rattle.fz_outside.specs.declared.FileFault.{FileFault}
use Rattle.fz_outside.specs.declared.FileFault.TheVariants.{Failed, NoMemory as NoneToRead}
use Rattle.word_streams.specs.Draws.{draws_of}
use Rattle.outside_disks.specs.Disks.{WhereTold}
use Rattle.outside_disks.specs.Stored.{Stored}
use Rattle.journal_records.specs.declared.records.Record.{Record}
use Rattle.budget_journal.specs.Journals.{Found}
use Rattle.budget_core.specs.Entries.{Entry}
use Rattle.budget_core.specs.Legal.{MayFollow}
use Rattle.budget_core.specs.Ledger.{Ledger}
use Rattle.budget_ledger.specs.Account.{Account, Went}
use Rattle.budget_ledger.specs.declared.failure.Failure.{Failure}
use Rattle.owner_desk.specs.Passes.{Pass}
use Rattle.owner_house.specs.House.{House, Register, house_of, owner_at}
use Rattle.owner_house.specs.Owner.{Owner}
use Rattle.owner_desk.specs.Shared.{Shared}
use Rattle.generated_run.specs.SessionCore.Blocks.{crew_of, script_blocks}
use Rattle.generated_run.specs.SessionCore.Bundles.{Bundle, bundle_of}
use Rattle.generated_run.specs.SessionCore.Code.{AreClosed, ArePasses, AreFresh, found_by, pass_at}
use Rattle.generated_run.specs.SessionCore.Worked.{HasWorked, HaveAddedNone}
use Rattle.generated_run.specs.SessionCore.Transcript.{Journals}
use Rattle.generated_run.proofs.Worked.{script_gathered}
use Rattle.owner_house.proofs.Owners.{in_catalog, owner_there, owners_length}
use Rattle.std.proofs.lemmas.Option.{slice_get_within}
use Rattle.catalog_loading.specs.Given.{stop_at_fault}
use Rattle.catalog_loading.specs.Loaded.{IsLoading, KeyedHouse, Loading, header_of, entry_at, in_versions, keyed, owners_in}
use Rattle.query_server.specs.Work.{Work, to_answer}
use Rattle.query_server.specs.Due.{IsDiskLine, IsDue, MayStop}
use Rattle.owner_books.specs.Shelves.{Shelf, EachDisk, IsOnlySynced}
use Rattle.owner_books.specs.Opened.{AreOpened, IsDiskNamed, IsOpened}
use Rattle.query_server.specs.Duty.{IsRefusalDue}
use Rattle.owner_catalog.specs.Limits.{owner_limit}
use Rattle.query_server.specs.Run.{IsScriptAnswered, WentOn}
use Rattle.owner_books.specs.Books.{ArePassesOn, ArePutBack, GaveBook, IsNewPass, IsOpenStop, shown_by}
use Rattle.query_server.specs.Ends.{Ended, IsScriptEnd, IsEndOf}
use Rattle.catalog_loading.specs.declared.stops.Stop.{Stop}
use Rattle.catalog_loading.specs.declared.stops.Stop.TheVariants.{Journal, Disk, NoMemory}
use Rattle.query_server.specs.declared.end.End.TheVariants.{Done, ProgramRefused, ScriptTooLong, TooLarge, JournalFull, DerivationTooLong}
use Rattle.query_server.specs.declared.end.Status.TheVariants as code
use Rattle.owner_books.proofs.Bundled.{many_known}
use Rattle.owner_books.proofs.Passes.{all_back, fresh_none}
use Rattle.query_server.proofs.Ends.{end_passed}
use Rattle.owner_books.proofs.Stops.{err_same, pass_opened}
use Rattle.owner_books.proofs.Twins.{CountsStay, went_later}
use Rattle.query_server.proofs.Went.{went_on}

-- what was answered by workers, by the draws and the script as they are called elsewhere
pub worked_as : (house : House) (given draws : ℕ → ℕ → ℕ → ℕ) (workers : ℕ) (script other text : List ℕ) (old new : List Pass) → given ≡ draws → script ≡ other
    → HasWorked house given workers script text old new → HasWorked house draws workers other text old new
worked_as house given draws workers script other text old new drawn same worked =
    subst (λ (d : ℕ → ℕ → ℕ → ℕ). HasWorked house d workers other text old new) drawn (subst (λ (s : List ℕ). HasWorked house given workers s text old new) same worked)

-- what was answered over a house and a key, by the names that they have elsewhere
pub answered_in : (register other : Register) (bytes key : List ℕ) (workers : ℕ) (script : List ℕ) (old new : List Pass) (result : Ended) → register ≡ other → bytes ≡ key
    → IsScriptEnd (house_of register) (draws_of bytes) workers script old new result → IsScriptEnd (house_of other) (draws_of key) workers script old new result
answered_in register other bytes key workers script old new result same is answered =
    subst (λ (r : Register). IsScriptEnd (house_of r) (draws_of key) workers script old new result) same
    (subst (λ (k : List ℕ). IsScriptEnd (house_of register) (draws_of k) workers script old new result) is answered)

-- nothing was added by passes that were just made
pub none_yet : (house : House) (passes : List Pass) → AreFresh house passes → HaveAddedNone house passes passes
none_yet house passes fresh = λ o owner at. fresh_none (pass_at passes o) (fresh o owner at)

-- what stopped the opening of the owners' books ends the work that it was for
pub open_ends : (work : Work) (loading : Loading) (key : List ℕ) (old new : Shelf) (script : List ℕ) (stop : Stop)
    → ((text : List ℕ) → IsRefusalDue loading key old new code.JournalRefused text → IsDue work old new script code.JournalRefused text)
    → ((text : List ℕ) → IsDiskNamed loading key old new text → IsDiskLine work old new text) → MayStop work old new
    → IsOpenStop loading key old new stop → EachDisk (owners_in loading) (λ _. IsOnlySynced) old new → IsEndOf work old new script (Err stop)
open_ends work loading key old new script (Journal line) refused named may (o, refusal, at, is) disks =
    inl (refused line.items (record { o = o; refusal = refusal; at = at; is_status = refl; is_text = is; disks = disks }))
open_ends work loading key old new script (Disk line) refused named may is disks = inr (inr (inr (line, refl, named line.items is)), may)
open_ends work loading key old new script NoMemory refused named may is disks = inr (inr (inl refl), may)
open_ends work loading key old new script stop refused named may is disks = absurd is

module _ (loading : Loading) (key : List ℕ) (lawful : IsLoading loading) where
  abbrev house : House
  house = house_of loading.register

  count_owners : length house.owners ≡ owners_in loading
  count_owners = owners_length loading.register lawful.register

  pub there : (o : ℕ) → o < owners_in loading → slice_get house.owners o ≡ Some (owner_at house o)
  there o within = owner_there loading.register o (omega (arith, within, count_owners))

  -- the passes that were opened are fresh
  pub opened_fresh : (old mid : Shelf) (passes : List Pass) → ArePassesOn (entry_at loading) (header_of loading key) (owners_in loading) old mid passes → AreFresh (house_of loading.register) passes
  opened_fresh old mid passes on = λ o owner at. (on.each o (in_catalog loading.register lawful.register o (slice_get_within house.owners o owner at))).fresh

  -- what a book became that was opened for a pass
  book_went : (o : ℕ) (shown : Option Stored) (p q : Pass) (book : Account) → IsNewPass (entry_at loading o) (header_of loading key o) shown p → q.opened ≡ p.opened → GaveBook q book
      → Went p.opened.ledger.found book.ledger.records p.opened.storage book.storage × (book.ledger.entry ≡ entry_at loading o)
  book_went o shown p q book new same gave = (
    subst (λ (rs : List Record). Went rs book.ledger.records p.opened.storage book.storage) new.book.fresh
        (subst (λ (a : Account). Went a.ledger.records book.ledger.records a.storage book.storage) same gave.went),
    ap (λ (l : Ledger). l.entry) gave.ledger ∙ ap (λ (a : Account). a.ledger.entry) same ∙ new.book.of_entry,
  )

  pub passes_opened : (old mid new : Shelf) (passes after : List Pass) (books : ℕ → Account) → ArePassesOn (entry_at loading) (header_of loading key) (owners_in loading) old mid passes
      → ((o : ℕ) → o < owners_in loading → (pass_at after o).opened ≡ (pass_at passes o).opened) → ArePutBack (owners_in loading) after books mid new
      → (o : ℕ) → o < owners_in loading → IsOpened (entry_at loading o) (header_of loading key o) (old o) (new o) (found_by passes o)
  passes_opened old mid new passes after books on same back o within =
      let p = pass_at passes o in
      let q = pass_at after o in
      let counts = subst (λ (a : Account). CountsStay (shown_by a).twins (shown_by (books o)).twins) (same o within)
      (went_later q.opened.ledger.records (books o).ledger.records q.opened.storage (books o).storage (back.gave o within).went) in
      subst (λ (now : Option Stored). IsOpened (entry_at loading o) (header_of loading key o) (old o) now p.opened.ledger.found) (sym (back.each o within))
      (pass_opened (entry_at loading o) (header_of loading key o) (old o) (shown_by (books o)) p (on.each o within) counts)

  -- the records and the closings of the owners' books
  abbrev pub records_of : (ℕ → Account) → Journals
  records_of books o = (books o).ledger.records

  abbrev pub closings_of : (ℕ → Account) → ℕ → Option Failure
  closings_of books o = (books o).storage.closed

  -- there are as many passes as owners, also after the script
  pub many_opened : (register : Register) (passes : List Shared) (bundle : Bundle) → bundle_of passes ≡ bundle → register ≡ loading.register → ArePasses (house_of register) bundle.knows
      → length passes ≡ owners_in loading
  many_opened register passes bundle is same are =
      sym (many_known passes) ∙ ap (λ (b : Bundle). length b.knows) is ∙ (subst (λ (r : Register). ArePasses (house_of r) bundle.knows) same are).each_has ∙ count_owners

  pub books_closed : (mid new : Shelf) (after : List Pass) (books : ℕ → Account) → ArePutBack (owners_in loading) after books mid new
      → AreClosed (house_of loading.register) after (records_of books) (closings_of books)
  books_closed mid new after books back = λ o owner at. (back.gave o (in_catalog loading.register lawful.register o (slice_get_within house.owners o owner at))).closed

  -- an owner's disk, by its pass before the script and the book that the pass after it gave
  pub owner_went : (o : ℕ) (old : Shelf) (before : Stored) (p q : Pass) (book : Account) → old o ≡ Some before → IsNewPass (entry_at loading o) (header_of loading key o) (old o) p → q.opened ≡ p.opened → GaveBook q book
      → WentOn (entry_at loading o) (header_of loading key o) p.opened.ledger.found book.ledger.records book.storage.closed before (shown_by book)
  owner_went o old before p q book at new same gave =
      let w = book_went o (old o) p q book new same gave in
      went_on (entry_at loading o) (header_of loading key o) book.ledger.records (old o) before p.opened book at new.book w.0 refl w.1 gave.sound

  pub answered_over : (workers : ℕ) (old mid new : Shelf) (passes after : List Pass) (books : ℕ → Account) (script text : List ℕ) → 0 < workers
      → ArePassesOn (entry_at loading) (header_of loading key) (owners_in loading) old mid passes → HasWorked (house_of loading.register) (draws_of key) workers script text passes after
      → ArePutBack (owners_in loading) after books mid new → IsScriptAnswered loading key workers old new (found_by passes) script text
  answered_over workers old mid new passes after books script text some on h back =
      let all = script_gathered (house_of loading.register) (draws_of key) workers script text passes after (records_of books) (closings_of books) some (opened_fresh old mid passes on) h (books_closed mid new after books back) in
      record {
        crew = crew_of workers 0 (script_blocks script);
        dealt = λ at. refl;
        exchanges = h.exchanges;
        records = records_of books;
        gathered = all.0;
        written = h.written;
        closed = closings_of books;
        shut = all.1;
        disks = record {
          owned = λ o before within at. (
            shown_by (books o),
            back.each o within,
            owner_went o old before (pass_at passes o) (pass_at after o) (books o) at (on.each o within) (h.owners o (owner_at house o) (there o within)).opened (back.gave o within),
          );
          others = λ o past. back.others o past ∙ on.others o past;
        };
      }

  -- passes that added nothing give the disks back with nothing written
  pub unserved_back : (old mid new : Shelf) (passes after : List Pass) (books : ℕ → Account) → ArePassesOn (entry_at loading) (header_of loading key) (owners_in loading) old mid passes
      → HaveAddedNone (house_of loading.register) passes after → ArePutBack (owners_in loading) after books mid new → EachDisk (owners_in loading) (λ _. IsOnlySynced) old new
  unserved_back old mid new passes after books on none back =
      all_back (entry_at loading) (header_of loading key) (owners_in loading) old mid new passes after books on (λ o within. none o (owner_at house o) (there o within)) back

  -- There are as many passes as owners.
  pub few_owners : owners_in loading ≤ 64
  few_owners = lawful.register.catalog.few_owners

  -- a script that was to be answered names no disk at its end
  pub answered_no_disk : {A : Type 0} (draws : ℕ → ℕ → ℕ → ℕ) (workers : ℕ) (passes after : List Pass) (script : List ℕ) (result : Ended) (line : Vec ℕ Global)
      → IsScriptEnd (house_of loading.register) draws workers script passes after result
      → result ≡ Err (Disk line) → A
  answered_no_disk draws workers passes after script (Ok end) line due is = cc
  answered_no_disk draws workers passes after script (Err (Disk other)) line (failing, none) is = absurd (grind (arith, failing))
  answered_no_disk draws workers passes after script (Err stop) line (failing, none) is = cc

-- what stops the opening of the books ends a run
pub open_passed : (loading : Loading) (key : List ℕ) (workers : ℕ) (old new : Shelf) (script : List ℕ) (stop : Stop) (result : Ended) → IsOpenStop loading key old new stop → EachDisk (owners_in loading) (λ _. IsOnlySynced) old new → IsErrAnd result (λ e. e ≡ stop)
    → IsEndOf (to_answer workers loading key) old new script result
open_passed loading key workers old new script stop result is disks passed =
    subst (IsEndOf (to_answer workers loading key) old new script) (sym (end_passed stop result passed))
    (open_ends (to_answer workers loading key) loading key old new script stop (λ text. inl) (λ text named. named) disks is disks)

-- a fault of the source is passed on
pub unread_passed : (house : House) (draws : ℕ → ℕ → ℕ → ℕ) (workers : ℕ) (script : List ℕ) (passes : List Pass) (fault : FileFault) (result : Ended) → AreFresh house passes
    → IsErrAnd result (λ e. e ≡ stop_at_fault fault) → IsScriptEnd house draws workers script passes passes result
unread_passed owners draws workers script passes fault (Ok end) fresh wrong = absurd wrong
unread_passed owners draws workers script passes Failed (Err stop) fresh is = (inl is, none_yet owners passes fresh)
unread_passed owners draws workers script passes NoneToRead (Err stop) fresh is = (inr is, none_yet owners passes fresh)

pub passed_disk : {T : Type 0} (stop : Stop) (result : Result T Stop) (line : Vec ℕ Global) → IsErrAnd result (λ e. e ≡ stop) → result ≡ Err (Disk line) → stop ≡ Disk line
passed_disk stop (Ok x) line wrong is = absurd wrong
passed_disk stop (Err other) line same is = sym same ∙ err_same other (Disk line) (Err other) refl is

-- ---- over a house whose journals' versions were found

module _ (loading : Loading) (key : List ℕ) (versions : List ℕ) (counted : length versions ≡ owner_limit) (found_lawful : IsLoading (in_versions loading versions)) where
  abbrev house_found : Loading
  house_found = in_versions loading versions

  pub all_opened : (old mid new : Shelf) (passes after : List Pass) (books : ℕ → Account) → ArePassesOn (entry_at house_found) (header_of house_found key) (owners_in loading) old mid passes
      → ((o : ℕ) → o < owners_in loading → (pass_at after o).opened ≡ (pass_at passes o).opened) → ArePutBack (owners_in loading) after books mid new
      → AreOpened loading key old new versions (found_by passes)
  all_opened old mid new passes after books on same back = record { counted = counted; each = passes_opened house_found key found_lawful old mid new passes after books on same back }

  abbrev owner_found : ℕ → Owner
  owner_found o = owner_at (house_of house_found.register) o

  -- How the script that was to be answered ends, once the disks are put back.
  pub run_ends : (workers : ℕ) (old mid new : Shelf) (passes after : List Pass) (books : ℕ → Account) (script : List ℕ) (result : Ended) → 0 < workers
      → ArePassesOn (entry_at house_found) (header_of house_found key) (owners_in loading) old mid passes → IsScriptEnd (house_of house_found.register) (draws_of key) workers script passes after result
      → ArePutBack (owners_in loading) after books mid new → IsEndOf (to_answer workers loading key) old new script result
  run_ends workers old mid new passes after books script (Ok (Done replies)) some on (short, h) back =
      inl (inr (
        versions,
        found_by passes,
        all_opened old mid new passes after books on (λ o within. (h.owners o (owner_found o) (there house_found key found_lawful o within)).opened) back,
        inl (refl, short, answered_over house_found key found_lawful workers old mid new passes after books script replies.items some on h back),
      ))
  run_ends workers old mid new passes after books script (Ok (ProgramRefused line)) some on wrong back = absurd wrong
  run_ends workers old mid new passes after books script (Ok (TooLarge line)) some on wrong back = absurd wrong
  run_ends workers old mid new passes after books script (Ok (JournalFull line)) some on wrong back = absurd wrong
  run_ends workers old mid new passes after books script (Ok DerivationTooLong) some on wrong back = absurd wrong
  run_ends workers old mid new passes after books script (Ok ScriptTooLong) some on (long, none) back =
      inl (inr (
        versions,
        found_by passes,
        all_opened old mid new passes after books on (λ o within. (none o (owner_found o) (there house_found key found_lawful o within)).0) back,
        inr (refl, long, refl, unserved_back house_found key found_lawful old mid new passes after books on none back),
      ))
  run_ends workers old mid new passes after books script (Err stop) some on (inl is, none) back = inr (inl (ap Err is), unserved_back house_found key found_lawful old mid new passes after books on none back)
  run_ends workers old mid new passes after books script (Err stop) some on (inr is, none) back = inr (inr (inl (ap Err is)), unserved_back house_found key found_lawful old mid new passes after books on none back)

-- the same by the names that the house has where it was opened
pub run_over : (loading : Loading) (key versions : List ℕ) (counted : length versions ≡ owner_limit) (opened : KeyedHouse) → opened ≡ keyed (in_versions loading versions) key → IsLoading opened.loading
    → (workers : ℕ) (old mid new : Shelf) (passes after : List Pass) (books : ℕ → Account) (script : List ℕ) (result : Ended) → 0 < workers
    → ArePassesOn (entry_at opened.loading) (header_of opened.loading opened.key) (owners_in opened.loading) old mid passes
    → IsScriptEnd (house_of opened.loading.register) (draws_of opened.key) workers script passes after result
    → ArePutBack (owners_in opened.loading) after books mid new → IsEndOf (to_answer workers loading key) old new script result
run_over loading key versions counted opened is lawful workers old mid new passes after books script result some =
    subst (λ (h : KeyedHouse). IsLoading h.loading → ArePassesOn (entry_at h.loading) (header_of h.loading h.key) (owners_in h.loading) old mid passes
    → IsScriptEnd (house_of h.loading.register) (draws_of h.key) workers script passes after result → ArePutBack (owners_in h.loading) after books mid new
    → IsEndOf (to_answer workers loading key) old new script result) (sym is)
    (λ found. run_ends loading key versions counted found workers old mid new passes after books script result some) lawful
