-- an owner's disk through a grant
use Rattle.std.proofs.Common.{◌≡◌, ℕ, List, length, Option, Some, None, Vec, Global, refl, sym, ◌∙◌, ap, subst}
use Rattle.std.specs.Prelude.{Result, Ok, Err, IsOk, IsSome, IfSome}
use mathlib.Core.Logic.{inl, inr}
use Rattle.outside_disks.specs.Disks.{WhereTold}
use Rattle.outside_disks.specs.Stored.{Stored}
use Rattle.outside_bays.specs.Bays.{Changes}
use Rattle.fz_outside.specs.Faults.{HasRisen}
use Rattle.journal_records.specs.declared.records.Header.{Header}
use Rattle.journal_records.specs.declared.records.Record.{Record}
use Rattle.journal_records.specs.declared.records.Record.TheVariants.{Grant}
use Rattle.budget_journal.specs.Journals.{Found}
use Rattle.budget_core.specs.declared.answers.Left.{Left}
use Rattle.budget_core.specs.declared.answers.GrantRefusal.{GrantRefusal}
use Rattle.budget_core.specs.Counts.{reservations_of}
use Rattle.budget_core.specs.Entries.{Entry}
use Rattle.budget_core.specs.Granting.{grant_behind, grant_verdict, with_grant}
use Rattle.budget_core.specs.Ledger.{Ledger}
use Rattle.budget_core.specs.Legal.{MayFollow}
use Rattle.budget_ledger.specs.Account.{Account, IsBook, IsKeptNow, Went}
use Rattle.budget_ledger.specs.declared.failure.Failure.{Failure}
use Rattle.budget_ledger.specs.declared.book.AppendFault.TheVariants.{Closed, DiskFault}
use Rattle.catalog_loading.specs.Loaded.{KeyedOwner, its_entry, its_header, its_name}
use Rattle.catalog_loading.specs.declared.stops.Stop.{Stop}
use Rattle.catalog_loading.specs.declared.stops.Stop.TheVariants.{Disk, Fault, Journal, NoMemory, Refused, Usage}
use Rattle.owner_books.specs.Books.{IsNewBook, IsUnopenedStop, TookDisk, shown_by}
use Rattle.query_server.specs.Ends.{Ended, IsEndOf}
use Rattle.query_server.specs.Grant.{IsGrantUnwritten, WentBy, entry_in, header_in, verdict_on, verdict_status, verdict_text}
use Rattle.query_server.specs.Granted.{IsBookBy, IsGrantEnd, IsUnappendedGrant, book_verdict}
use Rattle.owner_books.specs.Opened.{IsOpened}
use Rattle.query_server.specs.Run.{WentOn}
use Rattle.owner_books.specs.Shelves.{AreLost, NoOtherRose, OneDisk, IsOnlySynced, Shelf, SomeLost, SomeRose}
use Rattle.query_server.specs.Work.{to_grant}
use Rattle.owner_books.proofs.Back.{changed_elsewhere, changed_here}
use Rattle.owner_books.proofs.Disks.{same_still}
use Rattle.query_server.proofs.Home.{some_of}
use Rattle.owner_books.proofs.Passes.{book_synced}
use Rattle.owner_books.proofs.Stops.{book_opened}
use Rattle.owner_books.proofs.Twins.{went_later}
use Rattle.query_server.proofs.Mirrored.{lost_rose}
use Rattle.query_server.proofs.Went.{went_on}

-- A journal that isn't opened ends the grant, with nothing written.
pub unopened_end : (one : KeyedOwner) (amount : ℕ) (old new : Shelf) (script : List ℕ) (stop : Stop) → OneDisk one.number IsOnlySynced old new → NoOtherRose one.number old new
    → IsUnopenedStop (its_name one) (its_entry one) (its_header one) (old one.number) (new one.number) stop → IsEndOf (to_grant amount one) old new script (Err stop)
unopened_end one amount old new script (Journal line) disk others (refusal, unopened, unwritten, is) =
    inl (inl (record { refusal = refusal; refused = unopened; is_status = refl; is_text = is; disk = disk }))
unopened_end one amount old new script (Disk line) disk others is = inr (inr (inr (line, refl, (is, others))), inl disk)
unopened_end one amount old new script NoMemory disk others is = inr (inr (inl refl), inl disk)
unopened_end one amount old new script Usage disk others is = absurd is
unopened_end one amount old new script (Refused name) disk others is = absurd is
unopened_end one amount old new script Fault disk others is = absurd is

-- where the disk of one owner alone went on, no other's count rose
pub one_risen : (o : ℕ) (Goes : Stored → Stored → Type 0) (old new : Shelf) → OneDisk o Goes old new → NoOtherRose o old new
one_risen o Goes old new went p isnt = same_still p old new (went.elsewhere p isnt)

-- What a book that was opened on an owner's disk went through, and how its disk was put back.
module _ (entry : Entry) (header : Header) (o : ℕ) (old mid new : Shelf) (opened later : Account) (is : IsNewBook entry header (old o) opened) (took : TookDisk o old mid)
    (back : Changes o (Some (shown_by later)) mid new) (went : Went opened.ledger.records later.ledger.records opened.storage later.storage) (sound : IsBook later) where
  back_here : (Goes : Stored → Stored → Type 0) → ((before : Stored) → old o ≡ Some before → Goes before (shown_by later)) → OneDisk o Goes old new
  back_here Goes goes = record {
    here = λ before was. (shown_by later, changed_here o (Some (shown_by later)) mid new back, goes before was);
    elsewhere = λ p isnt. changed_elsewhere o p (Some (shown_by later)) mid new isnt back ∙ took.1 p isnt;
  }

  -- nothing was done to it
  pub untouched : later ≡ opened → OneDisk o IsOnlySynced old new
  untouched same = back_here IsOnlySynced (λ before was. subst (λ (a : Account). IsOnlySynced before (shown_by a)) (sym same) (book_synced entry header before (old o) opened was is))

  -- it has these records now, and is closed so
  pub went_through : (records : List Record) (closed : Option Failure) → later.ledger.records ≡ records → later.storage.closed ≡ closed → later.ledger.entry ≡ entry
      → OneDisk o (WentOn entry header opened.ledger.found records closed) old new
  went_through records closed are shut its = back_here (WentOn entry header opened.ledger.found records closed) (λ before was.
      let through : Went opened.ledger.found records opened.storage later.storage
      = subst (λ (xs : List Record). Went xs records opened.storage later.storage) is.fresh (subst (λ (xs : List Record). Went opened.ledger.records xs opened.storage later.storage) are went) in
      subst (λ (c : Option Failure). WentOn entry header opened.ledger.found records c before (shown_by later)) shut
      (went_on entry header records (old o) before opened later was is through are its sound))

-- The same of a grant over a book that was just opened in this version.
module _ (one : KeyedOwner) (amount version : ℕ) (old mid new : Shelf) (opened later : Account) (is : IsNewBook (entry_in one version) (header_in one version) (old one.number) opened)
    (took : TookDisk one.number old mid) (back : Changes one.number (Some (shown_by later)) mid new)
    (went : Went opened.ledger.records later.ledger.records opened.storage later.storage) (sound : IsBook later) where
  abbrev found : List Record
  found = opened.ledger.found

  same : book_verdict opened amount ≡ verdict_on one version found amount
  same = λ i. grant_verdict (is.of_entry i) (length (reservations_of found)) (is.fresh i) amount

  was_opened : IsOpened (entry_in one version) (header_in one version) (old one.number) (new one.number) found
  was_opened =
      subst (λ (now : Option Stored). IsOpened (entry_in one version) (header_in one version) (old one.number) now found) (sym (changed_here one.number (Some (shown_by later)) mid new back))
      (book_opened (entry_in one version) (header_in one version) (old one.number) (shown_by later) opened is
      (went_later opened.ledger.records later.ledger.records opened.storage later.storage went))

  through : (records : List Record) (closed : Option Failure) → later.ledger.records ≡ records → later.storage.closed ≡ closed → later.ledger.entry ≡ entry_in one version
      → OneDisk one.number (WentOn (entry_in one version) (header_in one version) found records closed) old new
  through = went_through (entry_in one version) (header_in one version) one.number old mid new opened later is took back went sound

  left_alone : later ≡ opened → OneDisk one.number IsOnlySynced old new
  left_alone = untouched (entry_in one version) (header_in one version) one.number old mid new opened later is took back went sound

  disk_by : (verdict : Result Left GrantRefusal) → IsBookBy opened amount verdict later
      → OneDisk one.number (WentBy (entry_in one version) (header_in one version) found amount verdict) old new
  disk_by (Ok left) gained = through (with_grant found amount) None
      (ap (λ (l : Ledger). l.records) gained.ledger ∙ ap (λ (xs : List Record). with_grant xs amount) is.fresh) gained.open_after
      (ap (λ (l : Ledger). l.entry) gained.ledger ∙ is.of_entry)
  disk_by (Err refusal) unchanged = left_alone unchanged

  not_closed : {A : Type 0} (failure : Failure) → opened.storage.closed ≡ Some failure → A
  not_closed failure shut = let both : None ≡ Some failure = sym is.unclosed ∙ shut in cc both

  unwritten : IsUnappendedGrant opened amount later → IsGrantUnwritten one amount old new
  unwritten (allowed, (Closed failed_at, (failure, shut, at, unchanged))) = not_closed failure shut
  unwritten (allowed, (DiskFault, closed)) = record {
    version = version;
    found = found;
    failure = record { failed_at = later.storage.faults; pending = Grant (grant_behind opened.ledger.records amount) };
    opened = was_opened;
    allowed = subst (λ (v : Result Left GrantRefusal). IsOk v) same allowed;
    pending = ap (λ (xs : List Record). Grant (grant_behind xs amount)) is.fresh;
    disk = through found (Some (record { failed_at = later.storage.faults; pending = Grant (grant_behind opened.ledger.records amount) }))
        (ap (λ (l : Ledger). l.records) closed.ledger ∙ is.fresh) closed.closed (ap (λ (l : Ledger). l.entry) closed.ledger ∙ is.of_entry);
  }

  pub granted_end : (script : List ℕ) (result : Ended) → IsGrantEnd opened (its_name one) amount result later → IsEndOf (to_grant amount one) old new script result
  granted_end script (Ok end) (status, text, by) = inl (inr (record {
    version = version;
    found = found;
    opened = was_opened;
    is_status = status ∙ ap verdict_status same;
    is_text = text ∙ ap (verdict_text (its_name one)) same;
    disk = subst (λ (v : Result Left GrantRefusal). OneDisk one.number (WentBy (entry_in one version) (header_in one version) found amount v) old new) same
        (disk_by (book_verdict opened amount) by);
  }))
  granted_end script (Err (Disk line)) (text, failed) =
      let it = unwritten failed in inr (inr (inr (line, refl, (text, one_risen one.number _ old new it.disk))), inr it)
  granted_end script (Err NoMemory) (inl unchanged) = inr (inr (inl refl), inl (left_alone unchanged))
  granted_end script (Err NoMemory) (inr failed) = inr (inr (inl refl), inr (unwritten failed))
  granted_end script (Err Usage) wrong = absurd wrong
  granted_end script (Err (Refused name)) wrong = absurd wrong
  granted_end script (Err (Journal line)) wrong = absurd wrong
  granted_end script (Err Fault) wrong = absurd wrong

  lost_here : (before : Stored) → old one.number ≡ Some before → IsUnappendedGrant opened amount later → SomeLost old new
  lost_here before was (allowed, (Closed failed_at, (failure, shut, at, unchanged))) = not_closed failure shut
  lost_here before was (allowed, (DiskFault, closed)) = (
    one.number,
    before,
    shown_by later,
    was,
    changed_here one.number (Some (shown_by later)) mid new back,
    let fails = unwritten (allowed, (DiskFault, closed)) in
        let now = fails.disk.here before was in
        let shows : now.0 ≡ shown_by later = let e : Some now.0 ≡ Some (shown_by later) = sym now.1 ∙ changed_here one.number (Some (shown_by later)) mid new back in cc e in
        subst (AreLost before) shows (now.2.failed fails.failure refl).0,
  )

  -- The line of the disk comes only where its count rose, or none of two is left.
  pub granted_lost : (result : Ended) (line : Vec ℕ Global) → IsSome (old one.number) → result ≡ Err (Disk line) → IsGrantEnd opened (its_name one) amount result later → SomeLost old new
  granted_lost result line home is_disk end =
      let before = some_of (old one.number) home in
      lost_here before.0 before.1 (subst (λ (r : Ended). IsGrantEnd opened (its_name one) amount r later) is_disk end).1

  pub granted_rose : (result : Ended) (line : Vec ℕ Global) → IsSome (old one.number) → result ≡ Err (Disk line) → IsGrantEnd opened (its_name one) amount result later → SomeRose old new
  granted_rose result line home is_disk end =
      let lost = granted_lost result line home is_disk end in
      (lost.0, lost.1, lost.2, lost.3, lost.4, lost_rose lost.1 lost.2 lost.5)
