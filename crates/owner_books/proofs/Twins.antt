-- a book that was just opened on two disks
use Rattle.std.proofs.Common.{◌≡◌, ℕ, ◌≤◌, List, [], ◌∷◌, ◌++◌, true, false, Option, Some, None, refl, sym, ◌∙◌, ap, subst, arith}
use Rattle.std.specs.Prelude.{IfSome}
use mathlib.Core.List.{IsPrefix}
use mathlib.Core.Logic.{◌⊎◌, inl, inr}
use Rattle.fz_outside.specs.Faults.{HasRisen}
use Rattle.outside_disks.specs.Disks.{IsImageOf, Passes, Shown, Trace, WhereTold, noted, seen_of}
use Rattle.outside_disks.specs.Disks.Step.{Synced}
use Rattle.outside_disks.specs.Stored.{Twins, one_stored, two_stored}
use Rattle.outside_disks.proofs.Images.{passes-weaker}
use Rattle.journal_records.specs.declared.records.Header.{Header}
use Rattle.journal_records.specs.declared.records.Record.{Record}
use Rattle.budget_journal.specs.Journals.{Found, IsAtRest, Stands}
use Rattle.budget_core.specs.Entries.{Entry}
use Rattle.budget_core.specs.Ledger.{Ledger}
use Rattle.budget_ledger.specs.Account.{Account, AreCopies, Copies, Copy, CopyWentBy, EachCopyWent, HasPassed, Held, HeldWent, IsBook, IsCopy, IsHeldCopy, IsInUse, IsKeptNow, IsMoment, Storage, Went, stored_by, stored_with}
use Rattle.budget_ledger.specs.declared.failure.Failure.{Failure}
use Rattle.budget_ledger.specs.Both.{HoldsBytes, IsOpenedBoth, IsOpenedCopy, IsReading, Make, Reading}
use Rattle.budget_ledger.specs.Both.Reading.{Holding, Missing, Unfit}
use Rattle.budget_ledger.proofs.Wents.{not_both, prefix_by, prefix_self, prefix_then}
use Rattle.owner_books.specs.Books.{IsOnBoth, shown_by}
use Rattle.owner_books.specs.Opened.{AreFoundOn}
use Rattle.owner_books.specs.Shelves.{AreSynced, BothGo, IsLevelled, IsTwinSynced, OneStands}
use Rattle.owner_books.proofs.Disks.{risen_from}

-- ---- a disk that was synced and read

-- what was found is what it stood for
pub stood_for : (header : Header) (found : List Record) (before read : Option Trace) → WhereTold (Found header found) before read → IfSome before (λ t. Stands header found (seen_of t))
stood_for header found None read f = tt
stood_for header found (Some t) None f = absurd f
stood_for header found (Some t) (Some u) (is, rest) = subst (λ (w : Trace). Stands header found (seen_of w)) is rest.stands

read_noted : (header : Header) (found : List Record) (before read : Option Trace) → WhereTold (Found header found) before read → read ≡ noted Synced before
read_noted header found None None f = refl
read_noted header found None (Some u) f = absurd f
read_noted header found (Some t) None f = absurd f
read_noted header found (Some t) (Some u) f = ap Some f.0

read_rest : (header : Header) (found : List Record) (before read : Option Trace) → WhereTold (Found header found) before read → IfSome read (IsAtRest header found)
read_rest header found before None f = tt
read_rest header found None (Some u) f = absurd f
read_rest header found (Some t) (Some u) f = f.1

-- ---- and brought up to some records

module _ (header : Header) (a has all : List Record) (closed : Option Failure) (begins : IsPrefix a has) (within : IsPrefix has all)
    (follows : (failure : Failure) → closed ≡ Some failure → IsPrefix (has ++ failure.pending ∷ []) all) where
  abbrev IsBetween : List ℕ → Type 0
  IsBetween bytes = (g : List Record) × IsPrefix a g × IsPrefix g all × Stands header g bytes

  between : (t : Trace) → IsAtRest header a t → (bytes : List ℕ) → IsImageOf t bytes ⊎ IsMoment header a has closed bytes → IsBetween bytes
  between t rest bytes (inl image) = (a, prefix_self a, prefix_then a has all begins within, subst (Stands header a) (sym (rest.stable bytes image)) rest.stands)
  between t rest bytes (inr (inl (g, from, to, stands))) = (g, from, prefix_then g has all to within, stands)
  between t rest bytes (inr (inr (failure, is, stands))) =
      (has ++ failure.pending ∷ [], prefix_then a has (has ++ failure.pending ∷ []) begins (prefix_by has (failure.pending ∷ [])), follows failure is, stands)

  told_between : (read now : Option Trace) → IfSome read (IsAtRest header a) → WhereTold (HasPassed header a has closed) read now → WhereTold (Passes IsBetween) read now
  told_between None None rest passed = tt
  told_between None (Some u) rest passed = absurd passed
  told_between (Some t) None rest passed = absurd passed
  told_between (Some t) (Some u) rest passed = passes-weaker (λ bytes. IsImageOf t bytes ⊎ IsMoment header a has closed bytes) IsBetween t u (between t rest) passed

module _ (common : Header) (all : List Record) (other before shown : Shown) (was held : Held) (version : ℕ) (read : Option Trace)
    (found : WhereTold (Found was.header was.has) before.trace read) (open_before : was.closed ≡ None)
    (went : HeldWent (record { trace = read; faults = before.faults }) shown was held) (copy : IsHeldCopy common all None shown held) where
  keeps : (closed : Option Failure) → held.closed ≡ closed → IfSome shown.trace (IsAtRest was.header all) ⊎ HasRisen before.faults shown.faults
  keeps None is =
      inl (subst (λ (rs : List Record). IfSome shown.trace (IsAtRest was.header rs)) (copy.whole is)
      (subst (λ (h : Header). IfSome shown.trace (IsAtRest h held.has)) went.header
      (subst (λ (c : Option Failure). IfSome shown.trace (IsKeptNow held.header held.has c)) is copy.kept)))
  keeps (Some failure) is = inr (went.failed failure open_before is).0

  level : (all ≡ was.has) ⊎ HoldsBytes (Stands (record was.header { version = version }) all) other → IsLevelled other before shown
  level by_other = record {
    header = was.header;
    version = version;
    has = was.has;
    all = all;
    begins = prefix_then was.has held.has all went.begins copy.begins;
    stood = stood_for was.header was.has before.trace read found;
    by_other = by_other;
    moments = subst (λ (r : Option Trace). WhereTold (Passes (IsBetween was.header was.has held.has all held.closed went.begins copy.begins copy.follows)) r shown.trace)
        (read_noted was.header was.has before.trace read found)
        (told_between was.header was.has held.has all held.closed went.begins copy.begins copy.follows read shown.trace
        (read_rest was.header was.has before.trace read found) went.moments);
    kept = keeps held.closed refl;
    counts = went.counts;
  }

-- ---- one of two disks of a book that was opened

abbrev ByOther : Header → (all has : List Record) → Shown → Type 0
ByOther header all has other = (version : ℕ) × ((all ≡ has) ⊎ HoldsBytes (Stands (record header { version = version }) all) other)

module _ (header common : Header) (all : List Record) (other before : Shown) (copy : Copy) where
  holding : (v : ℕ) (a : List Record) (read : Option Trace) → WhereTold (Found (record header { version = v }) a) before.trace read → ByOther header all a other → (held : Option Held)
      → CopyWentBy (record { trace = read; faults = before.faults }) copy.shown (Some (record { header = record header { version = v }; has = a; closed = None })) held
      → IfSome held (IsHeldCopy common all None copy.shown) → IsTwinSynced other before copy.shown
  holding v a read found by None went copied = absurd went
  holding v a read found by (Some held) went copied =
      inr (level common all other before copy.shown (record { header = record header { version = v }; has = a; closed = None }) held by.0 read found refl went copied by.1)

  twin_synced : (mine : Reading) → IsOpenedCopy header before mine copy → IsCopy common all None copy → ((v : ℕ) (a : List Record) → mine ≡ Holding v a → ByOther header all a other)
      → IsTwinSynced other before copy.shown
  twin_synced (Missing empty) opened copied by = inl opened.2
  twin_synced (Holding v a) (read, found, went) copied by = holding v a read found (by v a refl) copy.held went copied
  twin_synced (Unfit fault) opened copied by = absurd opened

-- a disk that is in use hasn't failed
in_use_still : (header : Header) (before : Shown) (copy : Copy) (mine : Reading) → IsOpenedCopy header before mine copy → IsInUse copy → copy.shown.faults ≡ before.faults
in_use_still header before copy (Missing empty) opened (held, is, none) = absurd (not_both copy.held held opened.0 is)
in_use_still header before copy (Holding v a) (read, found, went) (held, is, none) =
    (subst (λ (h : Option Held). CopyWentBy (record { trace = read; faults = before.faults }) copy.shown (Some (record { header = record header { version = v }; has = a; closed = None })) h) is went).«open» none
in_use_still header before copy (Unfit fault) opened used = absurd opened

-- what was found on it
reading_by : (header : Header) (before : Shown) (copy : Copy) (mine : Reading) → IsOpenedCopy header before mine copy → IsReading header before copy.shown mine
reading_by header before copy (Missing empty) opened = opened.1
reading_by header before copy (Holding v a) (read, found, went) = stood_for (record header { version = v }) a before.trace read found
reading_by header before copy (Unfit fault) opened = absurd opened

reading_later : (header : Header) (before mid after : Shown) (mine : Reading) → mid.faults ≤ after.faults → before.faults ≤ mid.faults → IsReading header before mid mine
    → IsReading header before after mine
reading_later header before mid after (Missing true) later since is = is
reading_later header before mid after (Missing false) later since is = risen_from before.faults before.faults mid.faults after.faults (omega arith) since later is
reading_later header before mid after (Holding v a) later since is = is
reading_later header before mid after (Unfit fault) later since is = is

copy_counts : (header : Header) (before : Shown) (copy : Copy) (mine : Reading) → IsOpenedCopy header before mine copy → before.faults ≤ copy.shown.faults
copy_counts header before copy (Missing empty) opened = opened.2.counts
copy_counts header before copy (Holding v a) (read, found, went) = counted copy.held went
  where
    counted : (held : Option Held) → CopyWentBy (record { trace = read; faults = before.faults }) copy.shown (Some (record { header = record header { version = v }; has = a; closed = None })) held
        → before.faults ≤ copy.shown.faults
    counted None went = absurd went
    counted (Some held) went = went.counts
copy_counts header before copy (Unfit fault) opened = absurd opened

-- the header's own version says nothing of what is found
reading_any : (header : Header) (version : ℕ) (before after : Shown) (mine : Reading) → IsReading header before after mine → IsReading (record header { version = version }) before after mine
reading_any header version before after (Missing true) is = is
reading_any header version before after (Missing false) is = is
reading_any header version before after (Holding v a) is = is
reading_any header version before after (Unfit fault) is = is

copy_any : (header : Header) (version : ℕ) (before : Shown) (copy : Copy) (mine : Reading) → IsOpenedCopy header before mine copy → IsOpenedCopy (record header { version = version }) before mine copy
copy_any header version before copy (Missing empty) (gone, is, left) = (gone, reading_any header version before copy.shown (Missing empty) is, left)
copy_any header version before copy (Holding v a) opened = opened
copy_any header version before copy (Unfit fault) opened = opened

-- ---- both

by_second : (header : Header) (v : ℕ) (a : List Record) (second : Reading) (version : ℕ) (all : List Record) (before : Shown) (copy : Copy) → Make (Holding v a) second version all
    → IsOpenedCopy header before second copy → ByOther header all a before
by_second header v a (Missing empty) version all before copy made opened = (v, inl made.1)
by_second header v a (Holding w b) version all before copy (agree, inl (begins, of, is)) opened = (w, inl is)
by_second header v a (Holding w b) version all before copy (agree, inr (begins, short, of, is)) (read, found, went) =
    (w, inr (subst (λ (rs : List Record). HoldsBytes (Stands (record header { version = w }) rs) before) (sym is) (stood_for (record header { version = w }) b before.trace read found)))
by_second header v a (Unfit fault) version all before copy made opened = absurd made

by_first : (header : Header) (w : ℕ) (b : List Record) (first : Reading) (version : ℕ) (all : List Record) (before : Shown) (copy : Copy) → Make first (Holding w b) version all
    → IsOpenedCopy header before first copy → ByOther header all b before
by_first header w b (Missing empty) version all before copy made opened = (w, inl made.1)
by_first header w b (Holding v a) version all before copy (agree, inl (begins, of, is)) (read, found, went) =
    (v, inr (subst (λ (rs : List Record). HoldsBytes (Stands (record header { version = v }) rs) before) (sym is) (stood_for (record header { version = v }) a before.trace read found)))
by_first header w b (Holding v a) version all before copy (agree, inr (begins, short, of, is)) opened = (v, inl is)
by_first header w b (Unfit fault) version all before copy made opened = absurd made

module _ (entry : Entry) (header : Header) (before : Twins) (book : Account) (on : IsOpenedBoth entry header before book) where
  abbrev twins : Twins
  twins = record { first = on.copies.first.shown; second = on.copies.second.shown }

  pub shows_two : shown_by book ≡ two_stored twins
  shows_two = ap stored_by on.storage

  copied : IsBook book → AreCopies book.ledger.found book.storage on.copies
  copied sound =
      subst (λ (rs : List Record). AreCopies rs book.storage on.copies) (ap (λ (l : Ledger). l.records) on.ledger)
      (subst (λ (c : Option Copies). IfSome c (AreCopies book.ledger.records book.storage)) (ap (λ (s : Storage). s.copies) on.storage) sound.copies)

  none_closed : book.storage.closed ≡ None
  none_closed = ap (λ (s : Storage). s.closed) on.storage

  as_open : (copy : Copy) → IsCopy book.storage.header book.ledger.found book.storage.closed copy → IsCopy book.storage.header book.ledger.found None copy
  as_open copy is = subst (λ (c : Option Failure). IsCopy book.storage.header book.ledger.found c copy) none_closed is

  pub both_synced : IsBook book → AreSynced before twins
  both_synced sound =
      let each = copied sound in (
        twin_synced header book.storage.header book.ledger.found before.second before.first on.copies.first on.first on.on_first (as_open on.copies.first each.first)
            (λ v a is. by_second header v a on.second book.storage.header.version book.ledger.found before.second on.copies.second
            (subst (λ (r : Reading). Make r on.second book.storage.header.version book.ledger.found) is on.made) on.on_second),
        twin_synced header book.storage.header book.ledger.found before.first before.second on.copies.second on.second on.on_second (as_open on.copies.second each.second)
            (λ w b is. by_first header w b on.first book.storage.header.version book.ledger.found before.first on.copies.first
            (subst (λ (r : Reading). Make on.first r book.storage.header.version book.ledger.found) is on.made) on.on_first),
      )

  pub one_stands : IsBook book → OneStands before twins
  one_stands sound = used ((copied sound).in_use none_closed)
    where
      used : IsInUse on.copies.first ⊎ IsInUse on.copies.second → OneStands before twins
      used (inl first) = inl (in_use_still header before.first on.copies.first on.first on.on_first first)
      used (inr second) = inr (in_use_still header before.second on.copies.second on.second on.on_second second)

  pub found_on : (wanted : Header) (now : Twins) → book.storage.header ≡ wanted → header ≡ wanted → twins.first.faults ≤ now.first.faults → twins.second.faults ≤ now.second.faults
      → AreFoundOn wanted book.ledger.found before now
  found_on wanted now is same first second =
      subst (λ (h : Header). AreFoundOn h book.ledger.found before now) same (record {
        first = on.first;
        second = on.second;
        on_first = reading_later header before.first twins.first now.first on.first first (copy_counts header before.first on.copies.first on.first on.on_first)
            (reading_by header before.first on.copies.first on.first on.on_first);
        on_second = reading_later header before.second twins.second now.second on.second second (copy_counts header before.second on.copies.second on.second on.on_second)
            (reading_by header before.second on.copies.second on.second on.on_second);
        made = subst (λ (h : Header). Make on.first on.second h.version book.ledger.found) (is ∙ sym same) on.made;
      })

  -- said of the entry and the header in the version that was found
  pub in_version : IsOpenedBoth (record entry { version = book.storage.header.version }) (record header { version = book.storage.header.version }) before book
  in_version = record {
    first = on.first;
    second = on.second;
    copies = on.copies;
    made = on.made;
    ledger = on.ledger;
    storage = on.storage;
    on_first = copy_any header book.storage.header.version before.first on.copies.first on.first on.on_first;
    on_second = copy_any header book.storage.header.version before.second on.copies.second on.second on.on_second;
  }

-- ---- on one disk

one_copy : (entry : Entry) (header : Header) (book : Account) (copies : Option Copies) → IsOnBoth entry header book None copies → copies ≡ None
one_copy entry header book None on = refl
one_copy entry header book (Some copies) on = absurd on

pub shows_one : (entry : Entry) (header : Header) (book : Account) → IsOnBoth entry header book None book.storage.copies
    → shown_by book ≡ one_stored (record { trace = book.storage.trace; faults = book.storage.faults })
shows_one entry header book on = ap (λ (c : Option Copies). stored_with book.storage.trace book.storage.faults c) (one_copy entry header book book.storage.copies on)

pub on_one : (entry : Entry) (header : Header) (book : Account) → book.storage.copies ≡ None → IsOnBoth entry header book None book.storage.copies
on_one entry header book is = subst (IsOnBoth entry header book None) (sym is) tt

-- ---- counts of a book's disks don't fall

abbrev pub CountsStay : Option Twins → Option Twins → Type 0
CountsStay before after = BothGo (λ b a. (b.first.faults ≤ a.first.faults) × (b.second.faults ≤ a.second.faults)) before after

pub counts_same : (twins : Option Twins) → CountsStay twins twins
counts_same None = tt
counts_same (Some twins) = (omega arith, omega arith)

copy_later : (before after : Shown) (was is : Option Held) → CopyWentBy before after was is → before.faults ≤ after.faults
copy_later before after None None went = omega (arith, ap (λ (s : Shown). s.faults) went)
copy_later before after None (Some is) went = absurd went
copy_later before after (Some was) None went = absurd went
copy_later before after (Some was) (Some is) went = went.counts

each_later : (t u : Option Trace) (m n : ℕ) (before after : Option Copies) → EachCopyWent before after → CountsStay (stored_with t m before).twins (stored_with u n after).twins
each_later t u m n None None went = tt
each_later t u m n None (Some after) went = absurd went
each_later t u m n (Some before) None went = absurd went
each_later t u m n (Some before) (Some after) went =
    (copy_later before.first.shown after.first.shown before.first.held after.first.held went.0, copy_later before.second.shown after.second.shown before.second.held after.second.held went.1)

pub went_later : (old new : List Record) (before after : Storage) → Went old new before after → CountsStay (stored_by before).twins (stored_by after).twins
went_later old new before after went = each_later before.trace after.trace before.faults after.faults before.copies after.copies went.copies
