-- passes on books that were opened one after another
use Rattle.std.proofs.Common.{◌≡◌, ℕ, ◌+◌, ◌<◌, ◌≤◌, List, [], ◌∷◌, ◌++◌, length, Option, Some, None, refl, sym, ◌∙◌, ap, subst, arith, length-append}
use Rattle.std.specs.Prelude.{IfSome}
use mathlib.Core.Logic.{◌⊎◌, inl, inr}
use Rattle.std.proofs.lemmas.Bool.{cases_eq, cases_lt}
use Rattle.std.proofs.Math.ListN.{get_or-append}
use Rattle.std.proofs.Math.Seq.{get_or-append_seam}
use Rattle.outside_disks.specs.Disks.{Trace, WhereTold}
use Rattle.outside_disks.specs.Stored.{Stored, Twins}
use Rattle.outside_bays.specs.Bays.{Changes}
use Rattle.journal_records.specs.declared.records.Header.{Header}
use Rattle.journal_records.specs.declared.records.Record.{Record}
use Rattle.budget_journal.specs.Journals.{Found, MayHaveSynced}
use Rattle.budget_core.specs.Entries.{Entry}
use Rattle.budget_ledger.specs.Account.{Account, IsBook, Storage, stored_by}
use Rattle.owner_desk.specs.Passes.{Pass}
use Rattle.owner_desk.specs.Shared.{Shared}
use Rattle.session_core.specs.Bundles.{bundle_of}
use Rattle.session_core.specs.Code.{fresh_pass, no_pass, pass_at}
use Rattle.owner_books.specs.Shelves.{Shelf, EachDisk, IsOnlySynced, IsStanding, NoOtherRose, StandsStill}
use Rattle.owner_books.specs.Books.{ArePassesOn, ArePutBack, GaveBook, IsNewBook, IsNewPass, IsOnBoth, LeftDisk, TookDisk, shown_by}
use Rattle.owner_books.proofs.Back.{changed_elsewhere, changed_here}
use Rattle.owner_books.proofs.Bundled.{many_known}
use Rattle.owner_books.proofs.Disks.{before_last, same_still, shown_still, synced_same}
use Rattle.owner_books.proofs.Twins.{both_synced, one_stands, shows_one, shows_two}

new_at : (entries : ℕ → Entry) (headers : ℕ → Header) (old : Shelf) (passes : List Pass) (pass : Pass) (n : ℕ) → length passes ≡ n → IsNewPass (entries n) (headers n) (old n) pass
    → ((o : ℕ) → o < n → IsNewPass (entries o) (headers o) (old o) (pass_at passes o))
    → (o : ℕ) → o < n + 1 → (o ≡ n) ⊎ (o ≡ n → ⊥) → IsNewPass (entries o) (headers o) (old o) (pass_at (passes ++ pass ∷ []) o)
new_at entries headers old passes pass n count new each o less (inl is) =
    let seam : pass_at (passes ++ pass ∷ []) o ≡ pass = ap (pass_at (passes ++ pass ∷ [])) (is ∙ sym count) ∙ get_or-append_seam passes pass [] no_pass in
    subst (λ (p : Pass). IsNewPass (entries o) (headers o) (old o) p) (sym seam) (subst (λ (k : ℕ). IsNewPass (entries k) (headers k) (old k) pass) (sym is) new)
new_at entries headers old passes pass n count new each o less (inr isnt) =
    let first : o < n = before_last o n less isnt in
    subst (λ (p : Pass). IsNewPass (entries o) (headers o) (old o) p) (sym (get_or-append passes (pass ∷ []) no_pass o (omega (arith, first, count)))) (each o first)

-- a new pass, by the names that its header and its disk have elsewhere
pub opened_pass : (entry : Entry) (header wanted : Header) (mid old : Option Stored) (pass : Pass) → header ≡ wanted → mid ≡ old → IsNewPass entry header mid pass → IsNewPass entry wanted old pass
opened_pass entry header wanted mid old pass of_header at new =
    subst (λ (h : Header). IsNewPass entry h old pass) of_header (subst (λ (s : Option Stored). IsNewPass entry header s pass) at new)

-- disks that were put back, by how many passes there are
pub back_counted : (passes : List Shared) (n : ℕ) (books : ℕ → Account) (old new : Shelf) → length (bundle_of passes).knows ≡ n → ArePutBack (length passes) (bundle_of passes).knows books old new
    → ArePutBack n (bundle_of passes).knows books old new
back_counted passes n books old new count back = subst (λ (k : ℕ). ArePutBack k (bundle_of passes).knows books old new) (sym (many_known passes) ∙ count) back

-- one more
pub one_opened : (entries : ℕ → Entry) (headers : ℕ → Header) (n : ℕ) (old mid new : Shelf) (passes : List Pass) (pass : Pass) → ArePassesOn entries headers n old mid passes → TookDisk n mid new
    → IsNewPass (entries n) (headers n) (old n) pass → ArePassesOn entries headers (n + 1) old new (passes ++ pass ∷ [])
one_opened entries headers n old mid new passes pass on took is = record {
  count = length-append passes (pass ∷ []) ∙ ap (λ k. k + 1) on.count;
  each = λ o less. new_at entries headers old passes pass n on.count is on.each o less (cases_eq o n);
  taken = λ o less. taken_at o less (cases_eq o n);
  others = λ o past. took.1 o (λ same. omega (arith, past, same)) ∙ on.others o (omega (arith, past));
}
  where
    taken_at : (o : ℕ) → o < n + 1 → (o ≡ n) ⊎ (o ≡ n → ⊥) → new o ≡ None
    taken_at o less (inl same) = ap new same ∙ took.0
    taken_at o less (inr isnt) = took.1 o isnt ∙ on.taken o (before_last o n less isnt)

-- ---- disks that are put back with nothing written

synced_trace : (header : Header) (found : List Record) (before now : Option Trace) → WhereTold (Found header found) before now → MayHaveSynced before now
synced_trace header found None None f = inl refl
synced_trace header found None (Some u) f = absurd f
synced_trace header found (Some t) None f = absurd f
synced_trace header found (Some t) (Some u) f = inr (ap Some f.0)

-- what the one disk of a book shows, or its two
abbrev IsOnOne : Header → Account → Stored → Type 0
IsOnOne header book before = WhereTold (Found header book.ledger.found) before.trace book.storage.trace × (book.storage.faults ≡ before.faults)

abbrev IsSynced : Stored → Stored → Type 0
IsSynced before now = IsOnlySynced before now × IsStanding before now

shown_synced : (entry : Entry) (header : Header) (trace : Option Trace) (faults : ℕ) (twins : Option Twins) (book : Account) → IsOnOne header book (record { trace = trace; faults = faults; twins = twins })
    → IsOnBoth entry header book twins book.storage.copies → IsBook book → IsSynced (record { trace = trace; faults = faults; twins = twins }) (shown_by book)
shown_synced entry header trace faults None book on both sound =
    subst (IsSynced (record { trace = trace; faults = faults; twins = None })) (sym (shows_one entry header book both)) (
      record { synced = synced_trace header book.ledger.found trace book.storage.trace on.0; counts = omega (arith, on.1); twins = tt },
      (on.1, tt),
    )
shown_synced entry header trace faults (Some twins) book on both sound =
    let none : faults ≡ 0 = sym on.1 ∙ ap (λ (s : Storage). s.faults) both.storage in
    let synced = subst (λ (t : Option Trace). MayHaveSynced trace t) (ap (λ (s : Storage). s.trace) both.storage) (synced_trace header book.ledger.found trace book.storage.trace on.0) in
    subst (IsSynced (record { trace = trace; faults = faults; twins = Some twins })) (sym (shows_two entry header twins book both)) (
      record { synced = synced; counts = omega (arith, none); twins = both_synced entry header twins book both sound },
      (sym none, one_stands entry header twins book both sound),
    )

book_shows : (entry : Entry) (header : Header) (before : Stored) (shown : Option Stored) (book : Account) → shown ≡ Some before → IsNewBook entry header shown book → IsSynced before (shown_by book)
book_shows entry header before shown book at new =
    shown_synced entry header before.trace before.faults before.twins book
    (subst (λ (s : Option Stored). IfSome s (λ b. WhereTold (Found header book.ledger.found) b.trace book.storage.trace × (book.storage.faults ≡ b.faults))) at new.on)
    (subst (λ (s : Option Stored). IfSome s (λ b. IsOnBoth entry header book b.twins book.storage.copies)) at new.on_both) new.sound

pub book_synced : (entry : Entry) (header : Header) (before : Stored) (shown : Option Stored) (book : Account) → shown ≡ Some before → IsNewBook entry header shown book → IsOnlySynced before (shown_by book)
book_synced entry header before shown book at new = (book_shows entry header before shown book at new).0

pub book_stands : (entry : Entry) (header : Header) (before : Stored) (shown : Option Stored) (book : Account) → shown ≡ Some before → IsNewBook entry header shown book → IsStanding before (shown_by book)
book_stands entry header before shown book at new = (book_shows entry header before shown book at new).1

-- A book that was opened and isn't kept: its disk is at home again.
pub book_back : (entry : Entry) (header : Header) (o : ℕ) (old mid new : Shelf) (book : Account) → IsNewBook entry header (old o) book → TookDisk o old mid → Changes o (Some (shown_by book)) mid new
    → LeftDisk o old new
book_back entry header o old mid new book is took changes = record {
  here = λ before was. (shown_by book, changed_here o (Some (shown_by book)) mid new changes, book_synced entry header before (old o) book was is);
  elsewhere = λ p isnt. changed_elsewhere o p (Some (shown_by book)) mid new isnt changes ∙ took.1 p isnt;
}

-- A pass that added nothing, and of which no append failed, gives the disk back as the book showed it when it was opened.
abbrev pub HasAddedNone : (before after : Pass) → Type 0
HasAddedNone before after = (after.opened ≡ before.opened) × (after.own ≡ []) × (after.faults ≡ [])

pub fresh_none : (pass : Pass) → pass ≡ fresh_pass pass.opened → HasAddedNone pass pass
fresh_none pass fresh = (refl, ap (λ (p : Pass). p.own) fresh, ap (λ (p : Pass). p.faults) fresh)

given_back : (before after : Pass) (book : Account) → HasAddedNone before after → GaveBook after book → shown_by before.opened ≡ shown_by book
given_back before after book none gave =
    let same : book.storage ≡ before.opened.storage = gave.untouched none.1 none.2 ∙ ap (λ (a : Account). a.storage) none.0 in
    ap stored_by (sym same)

new_synced : (entry : Entry) (header : Header) (before : Stored) (shown : Option Stored) (pass after : Pass) (book : Account) → shown ≡ Some before → IsNewPass entry header shown pass → HasAddedNone pass after
    → GaveBook after book → IsOnlySynced before (shown_by book)
new_synced entry header before shown pass after book at new none gave =
    subst (IsOnlySynced before) (given_back pass after book none gave) (book_synced entry header before shown pass.opened at new.book)

-- all
pub all_back : (entries : ℕ → Entry) (headers : ℕ → Header) (n : ℕ) (old mid new : Shelf) (passes after : List Pass) (books : ℕ → Account) → ArePassesOn entries headers n old mid passes
    → ((o : ℕ) → o < n → HasAddedNone (pass_at passes o) (pass_at after o)) → ArePutBack n after books mid new → EachDisk n (λ _. IsOnlySynced) old new
all_back entries headers n old mid new passes after books on none back = record {
  owned = λ o before less at. (
    shown_by (books o),
    back.each o less,
    new_synced (entries o) (headers o) before (old o) (pass_at passes o) (pass_at after o) (books o) at (on.each o less) (none o less) (back.gave o less),
  );
  others = λ o past. back.others o past ∙ on.others o past;
}

-- some, and one that wasn't opened
pub some_back : (entries : ℕ → Entry) (headers : ℕ → Header) (n k : ℕ) (old mid left new : Shelf) (passes : List Pass) (books : ℕ → Account) → k < n → ArePassesOn entries headers k old mid passes → LeftDisk k mid left
    → ArePutBack k passes books left new → EachDisk n (λ _. IsOnlySynced) old new
some_back entries headers n k old mid left new passes books within on stays back = record {
  owned = λ o before less at. here o before at (cases_lt o k) (cases_eq o k);
  others = λ o past. back.others o (omega (arith, past, within)) ∙ stays.elsewhere o (λ same. omega (arith, past, within, same)) ∙ on.others o (omega (arith, past, within));
}
  where
    here : (o : ℕ) (before : Stored) → old o ≡ Some before → (o < k) ⊎ (k ≤ o) → (o ≡ k) ⊎ (o ≡ k → ⊥) → (after : Stored) × (new o ≡ Some after) × IsOnlySynced before after
    here o before at (inl first) same =
        (shown_by (books o), back.each o first, new_synced (entries o) (headers o) before (old o) (pass_at passes o) (pass_at passes o) (books o) at (on.each o first) (fresh_none _ (on.each o first).fresh) (back.gave o first))
    here o before at (inr past) (inl same) =
        let one = stays.here before (on.others k (omega arith) ∙ ap old (sym same) ∙ at) in
        (one.0, ap new same ∙ back.others k (omega arith) ∙ one.1, one.2)
    here o before at (inr past) (inr isnt) =
        (before, back.others o past ∙ stays.elsewhere o isnt ∙ on.others o past ∙ at, synced_same before)

-- ---- a disk of which a call failed

-- a pass that was just opened, and did nothing, shows its disk's count
opened_still : (entry : Entry) (header : Header) (before : Stored) (shown : Option Stored) (pass : Pass) (book : Account) → shown ≡ Some before → IsNewPass entry header shown pass → GaveBook pass book
    → IsStanding before (shown_by book)
opened_still entry header before shown pass book at new gave =
    subst (IsStanding before) (given_back pass pass book (fresh_none pass new.fresh) gave) (book_stands entry header before shown pass.opened at new.book)

-- It is the one that wasn't opened: those of the owners before it are put back as they were opened.
pub no_other_opened : (entries : ℕ → Entry) (headers : ℕ → Header) (k : ℕ) (old mid left new : Shelf) (passes : List Pass) (books : ℕ → Account) → ArePassesOn entries headers k old mid passes → LeftDisk k mid left
    → ArePutBack k passes books left new → NoOtherRose k old new
no_other_opened entries headers k old mid left new passes books on stays back o isnt = here (cases_lt o k)
  where
    here : (o < k) ⊎ (k ≤ o) → StandsStill o old new
    here (inl first) =
        shown_still o old new (shown_by (books o)) (back.each o first)
        (λ before was. opened_still (entries o) (headers o) before (old o) (pass_at passes o) (books o) was (on.each o first) (back.gave o first))
    here (inr past) = same_still o old new (back.others o past ∙ stays.elsewhere o isnt ∙ on.others o past)

none_some : (before : Stored) → None ≡ Some before → ⊥
none_some before is = cc

-- some owner's disks, at home before and after, went on like this
abbrev pub SomeWent : (Stored → Stored → Type 0) → (old new : Shelf) → Type 0
SomeWent Goes old new = (o : ℕ) × (before : Stored) × (after : Stored) × (old o ≡ Some before) × (new o ≡ Some after) × Goes before after

-- Where it is one of those that weren't taken, or were put back as they were, it is so still.
pub went_still : (Goes : Stored → Stored → Type 0) (entries : ℕ → Entry) (headers : ℕ → Header) (k : ℕ) (old mid left new : Shelf) (passes : List Pass) (books : ℕ → Account) → ArePassesOn entries headers k old mid passes
    → ArePutBack k passes books left new → SomeWent Goes mid left → SomeWent Goes old new
went_still Goes entries headers k old mid left new passes books on back (o, before, after, was, is, goes) = here (cases_lt o k)
  where
    here : (o < k) ⊎ (k ≤ o) → SomeWent Goes old new
    here (inl first) = absurd (none_some before (sym (on.taken o first) ∙ was))
    here (inr past) = (o, before, after, sym (on.others o past) ∙ was, back.others o past ∙ is, goes)

pub rose_by : {A B C D : Type 0} → A ⊎ B → (A → C) → (B → D) → C ⊎ D
rose_by (inl a) f g = inl (f a)
rose_by (inr b) f g = inr (g b)
