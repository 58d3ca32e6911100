-- why not all books were opened
use Rattle.std.proofs.Common.{◌≡◌, ℕ, ◌<◌, List, Option, Some, None, refl, sym, ap, subst}
use Rattle.std.specs.Prelude.{IfSome, Vec, Result, Err, option_map}
use Rattle.std.specs.declared.alloc.Global.{Global}
use mathlib.Core.Logic.{inl, inr}
use Rattle.outside_disks.specs.Disks.{Trace, WhereTold, seen_of}
use Rattle.outside_disks.specs.Stored.{Stored, Twins, one_stored, two_stored}
use Rattle.journal_records.specs.declared.records.Header.{Header}
use Rattle.journal_records.specs.declared.records.Record.{Record}
use Rattle.budget_journal.specs.Journals.{Found, Stands}
use Rattle.budget_journal.specs.declared.opening.OpenFault.TheVariants as open_fault
use Rattle.budget_core.specs.Entries.{Entry}
use Rattle.budget_core.specs.Ledger.{Ledger}
use Rattle.budget_core.specs.Legal.{IsHistory}
use Rattle.budget_ledger.specs.Account.{Account, IsBook, Storage}
use Rattle.budget_ledger.specs.Both.{IsBothFault, IsOpenedBoth}
use Rattle.budget_ledger.specs.Opened.{IsBookFault}
use Rattle.budget_ledger.specs.declared.both.BothFault.{BothFault}
use Rattle.budget_ledger.specs.declared.both.BothFault.TheVariants as both_fault
use Rattle.owner_desk.specs.Passes.{Pass}
use Rattle.session_core.specs.Code.{pass_at}
use Rattle.catalog_loading.specs.Files.{Contents}
use Rattle.catalog_loading.specs.Steps.{FileStep}
use Rattle.catalog_loading.specs.Loaded.{Loading, entry_at, header_of, new_entry, new_header, owners_in, version_at}
use Rattle.owner_books.specs.Shelves.{IsUnwritten, NoOtherRose, Shelf, both_of, bytes_of}
use Rattle.owner_books.specs.Opened.{AreBothUnopened, AreFoundOn, AreOpenedBefore, IsFaultBy, IsFaultOf, IsOneFault, IsOneUnopened, IsOpened, IsUnopened, IsUnopenedBy, IsUnwrittenAt, OfTwo}
use Rattle.owner_books.specs.Books.{ArePassesOn, ArePutBack, IsBookStop, IsBothFaultStop, IsDiskStop, IsJournalStop, IsNewBook, IsNewPass, IsOnBoth, IsOpenStop, IsUnopenedStop, shown_by}
use Rattle.owner_books.proofs.Twins.{CountsStay, found_on, in_version, on_one, shows_two, went_later}
use Rattle.catalog_loading.proofs.Reached.{IsStopped, any_reads}
use Rattle.owner_books.specs.declared.refusals.JournalRefusal.TheVariants.{Uninitialised, Changed, Damaged, Forked}
use Rattle.owner_books.specs.declared.refusals.JournalRefusal.{JournalRefusal}
use Rattle.catalog_loading.specs.declared.stops.Stop.{Stop}
use Rattle.catalog_loading.specs.declared.stops.Stop.TheVariants.{Journal, Disk}

-- what was found is what the disk stands for
stands_told : (header : Header) (found : List Record) (before now : Option Trace) → WhereTold (Found header found) before now → IfSome (option_map seen_of before) (Stands header found)
stands_told header found None now f = tt
stands_told header found (Some t) None f = absurd f
stands_told header found (Some t) (Some u) (is, rest) = subst (λ (w : Trace). Stands header found (seen_of w)) is rest.stands

stands_shown : (header : Header) (found : List Record) (now : Option Trace) (shown : Option Stored) (faults : ℕ) → IfSome shown (λ b. WhereTold (Found header found) b.trace now × (faults ≡ b.faults)) → IfSome (bytes_of shown) (Stands header found)
stands_shown header found now None faults on = tt
stands_shown header found now (Some b) faults on = stands_told header found b.trace now on.0

-- what was found is what both disks make
twins_shown : (entry : Entry) (header : Header) (twins now : Option Twins) (book : Account) → book.storage.header ≡ header → IsOnBoth entry header book twins book.storage.copies
    → CountsStay (shown_by book).twins now → OfTwo (AreFoundOn header book.ledger.found) twins now
twins_shown entry header None now book is on later = tt
twins_shown entry header (Some twins) now book is on later =
    told now (subst (λ (s : Stored). CountsStay s.twins now) (shows_two entry header twins book on) later)
  where
    told : (now : Option Twins) → CountsStay (Some (record { first = on.copies.first.shown; second = on.copies.second.shown })) now → OfTwo (AreFoundOn header book.ledger.found) (Some twins) now
    told None later = absurd later
    told (Some after) later = found_on entry header twins book on header after is refl later.0 later.1

both_shown : (entry : Entry) (header : Header) (shown : Option Stored) (now : Stored) (book : Account) → book.storage.header ≡ header
    → IfSome shown (λ b. IsOnBoth entry header book b.twins book.storage.copies) → CountsStay (shown_by book).twins now.twins
    → OfTwo (AreFoundOn header book.ledger.found) (both_of shown) now.twins
both_shown entry header None now book is on later = tt
both_shown entry header (Some b) now book is on later = twins_shown entry header b.twins now.twins book is on later

pub book_opened : (entry : Entry) (header : Header) (shown : Option Stored) (now : Stored) (book : Account) → IsNewBook entry header shown book → CountsStay (shown_by book).twins now.twins
    → IsOpened entry header shown (Some now) book.ledger.found
book_opened entry header shown now book new later = record {
  stands = stands_shown header book.ledger.found book.storage.trace shown book.storage.faults new.on;
  history = new.history;
  twins = both_shown entry header shown now book new.of_header new.on_both later;
}

pub pass_opened : (entry : Entry) (header : Header) (shown : Option Stored) (now : Stored) (pass : Pass) → IsNewPass entry header shown pass → CountsStay (shown_by pass.opened).twins now.twins
    → IsOpened entry header shown (Some now) pass.opened.ledger.found
pass_opened entry header shown now pass new later = book_opened entry header shown now pass.opened new.book later

pub opened_before : (loading : Loading) (key : List ℕ) (k : ℕ) (old mid left new : Shelf) (passes : List Pass) (books : ℕ → Account)
    → ArePassesOn (entry_at loading) (header_of loading key) k old mid passes → ArePutBack k passes books left new → AreOpenedBefore loading key old new k
opened_before loading key k old mid left new passes books on back p less = (
  version_at loading p,
  (pass_at passes p).opened.ledger.found,
  subst (λ (now : Option Stored). IsOpened (entry_at loading p) (header_of loading key p) (old p) now (pass_at passes p).opened.ledger.found) (sym (back.each p less))
      (pass_opened (entry_at loading p) (header_of loading key p) (old p) (shown_by (books p)) (pass_at passes p) (on.each p less)
      (went_later (pass_at passes p).opened.ledger.records (books p).ledger.records (pass_at passes p).opened.storage (books p).storage (back.gave p less).went)),
)

-- A book that isn't opened, behind others that are, stops the opening.
pub book_stopped : (loading : Loading) (key : List ℕ) (k : ℕ) (old mid left new : Shelf) (stop : Stop) → k < owners_in loading → mid k ≡ old k → new k ≡ left k
    → AreOpenedBefore loading key old new k → NoOtherRose k old new → IsBookStop loading key mid left k stop → IsOpenStop loading key old new stop
book_stopped loading key k old mid left new (Journal line) within was is before others (refusal, unopened, unwritten, text) =
    let refused = subst (λ (s : Option Stored). IsUnopened (new_entry loading k) (new_header loading key k) s (new k) refusal) was
    (subst (λ (s : Option Stored). IsUnopened (new_entry loading k) (new_header loading key k) (mid k) s refusal) (sym is) unopened) in
    let kept = subst (λ (s : Option Stored). IsUnwrittenAt s (new k)) was (subst (λ (s : Option Stored). IsUnwrittenAt (mid k) s) (sym is) unwritten) in
    (k, refusal, record { known = within; before = before; refused = refused; unwritten = kept }, text)
book_stopped loading key k old mid left new (Disk line) within was is before others text = (k, within, text, before, others)
book_stopped loading key k old mid left new stop within was is before others text = text

-- ---- one book

pub disk_stopped : (name : List ℕ) (entry : Entry) (header : Header) (before now : Option Stored) (stop : Stop) → IsDiskStop name stop → IsUnopenedStop name entry header before now stop
disk_stopped name entry header before now (Journal line) is = absurd is
disk_stopped name entry header before now (Disk line) is = is
disk_stopped name entry header before now stop is = is

journal_stopped : (name : List ℕ) (entry : Entry) (header : Header) (before now : Option Stored) (refusal : JournalRefusal) (stop : Stop)
    → IsUnopened entry header before now refusal → IsUnwrittenAt before now → IsJournalStop name refusal stop → IsUnopenedStop name entry header before now stop
journal_stopped name entry header before now refusal (Journal line) unopened unwritten is = (refusal, unopened, unwritten, is)
journal_stopped name entry header before now refusal (Disk line) unopened unwritten is = absurd is
journal_stopped name entry header before now refusal stop unopened unwritten is = is

if_some : {A : Type 0} (P Q : A → Type 0) (x : Option A) → ((a : A) → P a → Q a) → IfSome x P → IfSome x Q
if_some P Q (Some a) f p = f a p
if_some P Q None f p = tt

-- one disk is refused by its bytes, and two are by both
refused_by : (entry : Entry) (header : Header) (bytes : Option (List ℕ)) (before now : Option Twins) (fault : BothFault) (refusal : JournalRefusal)
    → (IsOneFault entry header bytes fault → IsOneUnopened entry header bytes refusal) → ((b n : Twins) → IsBothFault entry header b n fault → AreBothUnopened entry header refusal b n)
    → IsFaultBy entry header bytes before now fault → IsUnopenedBy entry header bytes before now refusal
refused_by entry header bytes None now fault refusal one two is = one is
refused_by entry header bytes (Some before) None fault refusal one two is = absurd is
refused_by entry header bytes (Some before) (Some now) fault refusal one two is = two before now is

module _ (name : List ℕ) (entry : Entry) (header : Header) (before now : Stored) where
  abbrev bytes : Option (List ℕ)
  bytes = bytes_of (Some before)

  unwritten_at : IsUnwritten before now → IsUnwrittenAt (Some before) (Some now)
  unwritten_at left b is = (now, refl, subst (λ (s : Stored). IsUnwritten s now) (the_same before b is) left)
    where
      the_same : (x y : Stored) → Some x ≡ Some y → x ≡ y
      the_same x y is = cc

  stopped : (fault : BothFault) (refusal : JournalRefusal) (stop : Stop) → (IsOneFault entry header bytes fault → IsOneUnopened entry header bytes refusal)
      → ((b n : Twins) → IsBothFault entry header b n fault → AreBothUnopened entry header refusal b n) → IsFaultOf entry header before now fault → IsUnwritten before now
      → IsJournalStop name refusal stop → IsUnopenedStop name entry header (Some before) (Some now) stop
  stopped fault refusal stop one two told left is =
      journal_stopped name entry header (Some before) (Some now) refusal stop (refused_by entry header bytes before.twins now.twins fault refusal one two told) (unwritten_at left) is

  fault_stopped : (fault : BothFault) (stop : Stop) → IsFaultOf entry header before now fault → IsUnwritten before now → IsBothFaultStop name fault stop
      → IsUnopenedStop name entry header (Some before) (Some now) stop
  fault_stopped (both_fault.Refused open_fault.DiskFault) stop told left is = disk_stopped name entry header (Some before) (Some now) stop is
  fault_stopped (both_fault.Refused open_fault.NoMemory) stop told left is = subst (IsUnopenedStop name entry header (Some before) (Some now)) (sym is) tt
  fault_stopped (both_fault.Refused (open_fault.NotInitialised n)) stop told left is =
      stopped (both_fault.Refused (open_fault.NotInitialised n)) (Uninitialised n) stop (λ one. one) (λ b n two. two) told left is
  fault_stopped (both_fault.Refused (open_fault.Changed kept found)) stop told left is =
      stopped (both_fault.Refused (open_fault.Changed kept found)) Changed stop
      (if_some (λ b. IsBookFault entry header b (open_fault.Changed kept found)) _ bytes (λ b p. (kept, found, p))) (λ b n two. inl (kept, found, two)) told left is
  fault_stopped (both_fault.Refused (open_fault.Damaged slot)) stop told left is =
      stopped (both_fault.Refused (open_fault.Damaged slot)) (Damaged slot) stop (λ one. one) (λ b n two. two) told left is
  fault_stopped (both_fault.Forked slot) stop told left is = stopped (both_fault.Forked slot) (Forked slot) stop (λ one. one) (λ b n two. two) told left is
  fault_stopped both_fault.VersionsDiffer stop told left is = stopped both_fault.VersionsDiffer Changed stop (λ one. absurd one) (λ b n two. inr two) told left is

-- by the names that the shelves have for it
pub shelf_stopped : (name : List ℕ) (entry : Entry) (header : Header) (before now : Stored) (old new : Option Stored) (fault : BothFault) (stop : Stop) → old ≡ Some before → new ≡ Some now
    → IsFaultOf entry header before now fault → IsUnwritten before now → IsBothFaultStop name fault stop → IsUnopenedStop name entry header old new stop
shelf_stopped name entry header before now old new fault stop was is told left stops =
    subst (λ (s : Option Stored). IsUnopenedStop name entry header s new stop) (sym was)
    (subst (λ (s : Option Stored). IsUnopenedStop name entry header (Some before) s stop) (sym is) (fault_stopped name entry header before now fault stop told left stops))

-- the line of a disk comes where it failed, and of two where none is left
pub faulted : (name : List ℕ) (fault : BothFault) (line : Vec ℕ Global) → IsBothFaultStop name fault (Disk line) → fault ≡ both_fault.Refused open_fault.DiskFault
faulted name (both_fault.Refused open_fault.DiskFault) line is = refl
faulted name (both_fault.Refused open_fault.NoMemory) line is = cc is
faulted name (both_fault.Refused (open_fault.NotInitialised n)) line is = absurd is
faulted name (both_fault.Refused (open_fault.Changed kept found)) line is = absurd is
faulted name (both_fault.Refused (open_fault.Damaged slot)) line is = absurd is
faulted name (both_fault.Forked slot) line is = absurd is
faulted name both_fault.VersionsDiffer line is = absurd is

-- ---- a book that is opened

-- the version of a book's journal
abbrev version_of_book : Account → ℕ
version_of_book book = book.storage.header.version

pub one_book : (entry : Entry) (header : Header) (trace : Option Trace) (faults : ℕ) (book : Account) → WhereTold (Found book.storage.header book.ledger.found) trace book.storage.trace
    → (book.ledger ≡ record { entry = record entry { version = version_of_book book }; found = book.ledger.found; records = book.ledger.found })
    × (book.storage ≡ record { header = record header { version = version_of_book book }; trace = book.storage.trace; faults = faults; closed = None; copies = None })
    → IsBook book → IsNewBook (record entry { version = version_of_book book }) (record header { version = version_of_book book }) (Some (one_stored (record { trace = trace; faults = faults }))) book
one_book entry header trace faults book found fresh sound =
    let its = ap (λ (l : Ledger). l.entry) fresh.0 in
    let head = ap (λ (s : Storage). s.header) fresh.1 in
    record {
      of_entry = its;
      fresh = ap (λ (l : Ledger). l.records) fresh.0;
      of_header = head;
      unclosed = ap (λ (s : Storage). s.closed) fresh.1;
      history = subst (λ (e : Entry). IsHistory e book.ledger.found) its sound.sound.found;
      on = (subst (λ (h : Header). WhereTold (Found h book.ledger.found) trace book.storage.trace) head found, ap (λ (s : Storage). s.faults) fresh.1);
      on_both = on_one (record entry { version = version_of_book book }) (record header { version = version_of_book book }) book (ap (λ (s : Storage). s.copies) fresh.1);
      sound = sound;
    }

pub two_books : (entry : Entry) (header : Header) (twins : Twins) (book : Account) → IsOpenedBoth entry header twins book → IsBook book
    → IsNewBook (record entry { version = version_of_book book }) (record header { version = version_of_book book }) (Some (two_stored twins)) book
two_books entry header twins book on sound =
    let its = ap (λ (l : Ledger). l.entry) on.ledger in
    let head = ap (λ (s : Storage). s.header) on.storage in
    record {
      of_entry = its;
      fresh = ap (λ (l : Ledger). l.records) on.ledger;
      of_header = head;
      unclosed = ap (λ (s : Storage). s.closed) on.storage;
      history = subst (λ (e : Entry). IsHistory e book.ledger.found) its sound.sound.found;
      on = (untold book.storage.trace (ap (λ (s : Storage). s.trace) on.storage), ap (λ (s : Storage). s.faults) on.storage);
      on_both = in_version entry header twins book on;
      sound = sound;
    }
  where
    untold : (trace : Option Trace) → trace ≡ None → WhereTold (Found (record header { version = version_of_book book }) book.ledger.found) None trace
    untold None is = tt
    untold (Some t) is = absurd cc

-- steps over files name no disk
pub step_no_disk : {A B : Type 0} (held : Option Contents) (old new : List (List ℕ)) (step : FileStep A) (stop : Stop) (line : Vec ℕ Global) → IsStopped held old new step stop → stop ≡ Disk line → B
step_no_disk held old new step stop line is same =
    let some = any_reads held in
    let wrong = (subst (λ (s : Stop). IsStopped held old new step s) same is) some.0 some.1 in
    absurd wrong.2

-- one result has one stop
pub err_same : {T : Type 0} (a b : Stop) (r : Result T Stop) → r ≡ Err a → r ≡ Err b → a ≡ b
err_same a b r first second = cc
