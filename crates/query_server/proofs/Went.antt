-- an owner's disk through a run, by its book
use Rattle.std.proofs.Common.{◌≡◌, ℕ, ◌≤◌, List, [], Option, Some, None, refl, sym, ◌∙◌, ap, subst, append-nil, arith}
use Rattle.fz_outside.specs.Faults.{HasRisen}
use Rattle.std.specs.Prelude.{IfSome}
use mathlib.Core.Logic.{◌⊎◌, inl, inr}
use mathlib.Core.List.{IsPrefix}
use Rattle.outside_disks.specs.Disks.{Trace, IsImageOf, Passes, WhereTold, noted}
use Rattle.outside_disks.specs.Stored.{Stored, Twins, one_stored, two_stored}
use Rattle.outside_disks.specs.Disks.Step.{Synced}
use Rattle.journal_records.specs.declared.records.Header.{Header}
use Rattle.journal_records.specs.declared.records.Record.{Record}
use Rattle.budget_journal.specs.Journals.{Found, IsAtRest, Stands}
use Rattle.budget_core.specs.Entries.{Entry}
use Rattle.budget_core.specs.Legal.{MayFollow}
use Rattle.budget_ledger.specs.Account.{Account, AreCopies, Copies, CopyWent, EachCopyWent, IsBook, IsKeptNow, IsMoment, HasPassed, Storage, Went, stored_with}
use Rattle.budget_ledger.specs.Both.{IsOpenedBoth}
use Rattle.budget_ledger.specs.declared.failure.Failure.{Failure}
use Rattle.owner_books.specs.Books.{IsNewBook, IsOnBoth, shown_by}
use Rattle.owner_books.specs.Shelves.{AreGone}
use Rattle.query_server.specs.Mirrors.{BothWentOn, TwinsWentOn}
use Rattle.query_server.specs.Run.{WentOn}
use Rattle.query_server.proofs.Mirrored.{both_lost, both_went}

prefix_same : (records : List Record) → IsPrefix records records
prefix_same records = ([], append-nil records)

-- A file that a stop left when the journal was opened stands for what was found.
opened_moment : (header : Header) (found records : List Record) (closed : Option Failure) (t : Trace) (bytes : List ℕ) → IsAtRest header found t → IsPrefix found records → IsImageOf t bytes ⊎ IsMoment header found records closed bytes
    → IsMoment header found records closed bytes
opened_moment header found records closed t bytes rest begins (inl image) =
    inl (found, prefix_same found, begins, subst (Stands header found) (sym (rest.stable bytes image)) rest.stands)
opened_moment header found records closed t bytes rest begins (inr moment) = moment

passed_since : (header : Header) (found records : List Record) (closed : Option Failure) (t u : Trace) → IsAtRest header found t → IsPrefix found records → HasPassed header found records closed t u → Passes (IsMoment header found records closed) t u
passed_since header found records closed t u rest begins p = record {
  more = p.more;
  grew = p.grew;
  each = λ bytes was. opened_moment header found records closed t bytes rest begins (p.each bytes was);
}

moments_since : (header : Header) (found records : List Record) (closed : Option Failure) (before opened later : Option Trace) → IsPrefix found records → WhereTold (Found header found) before opened
    → WhereTold (HasPassed header found records closed) opened later → WhereTold (Passes (IsMoment header found records closed)) (noted Synced before) later
moments_since header found records closed None None None begins f p = tt
moments_since header found records closed None None (Some v) begins f p = absurd p
moments_since header found records closed None (Some u) later begins f p = absurd f
moments_since header found records closed (Some t) None later begins f p = absurd f
moments_since header found records closed (Some t) (Some u) None begins f p = absurd p
moments_since header found records closed (Some t) (Some u) (Some v) begins (is, rest) p =
    subst (λ (w : Trace). Passes (IsMoment header found records closed) w v) is (passed_since header found records closed u v rest begins p)

-- a disk that tells nothing told nothing
none_before : (R : Trace → Trace → Type 0) (before : Option Trace) → WhereTold R before None → before ≡ None
none_before R None told = refl
none_before R (Some t) told = absurd told

module _ (entry : Entry) (header : Header) (records : List Record) (before : Stored) (opened later : Account) (new : IsNewBook entry header (Some before) opened) (w : Went opened.ledger.found records opened.storage later.storage)
    (are : later.ledger.records ≡ records) (its : later.ledger.entry ≡ entry) (sound : IsBook later) where
  abbrev found : List Record
  found = opened.ledger.found

  abbrev closed : Option Failure
  closed = later.storage.closed

  same : later.storage.header ≡ header
  same = w.header ∙ new.of_header

  follows : (failure : Failure) → closed ≡ Some failure → MayFollow entry records failure.pending
  follows failure shut =
      subst (λ (e : Entry). MayFollow e records failure.pending) its (subst (λ (rs : List Record). MayFollow later.ledger.entry rs failure.pending) are (sound.follows failure shut))

  on_one : before.twins ≡ None → WentOn entry header found records closed before (one_stored (record { trace = later.storage.trace; faults = later.storage.faults }))
  on_one one = record {
    begins = w.begins;
    moments = moments_since header found records closed before.trace opened.storage.trace later.storage.trace w.begins new.on.0
        (subst (λ (h : Header). WhereTold (HasPassed h found records closed) opened.storage.trace later.storage.trace) new.of_header w.moments);
    kept = subst (λ (h : Header). IfSome later.storage.trace (IsKeptNow h records closed)) same
        (subst (λ (rs : List Record). IfSome later.storage.trace (IsKeptNow later.storage.header rs closed)) are sound.kept);
    counts = subst (λ (n : ℕ). n ≤ later.storage.faults) new.on.1 w.counts;
    steady = λ shut. w.«open» shut ∙ new.on.1;
    failed = λ failure shut.
        let r = w.failed failure new.unclosed shut in (inl (one, subst (λ (n : ℕ). HasRisen n later.storage.faults) new.on.1 r.0), λ alone. r.1);
    follows = follows;
    twins = subst (λ (t : Option Twins). TwinsWentOn header found records closed t None) (sym one) tt;
  }

  on_two : (was : Twins) (had now : Copies) → before.twins ≡ Some was → opened.storage.copies ≡ Some had → IsOpenedBoth entry header was opened → CopyWent had.first now.first → CopyWent had.second now.second
      → AreCopies later.ledger.records later.storage now → WentOn entry header found records closed before (two_stored (record { first = now.first.shown; second = now.second.shown }))
  on_two was had now two have both first second kept =
      let went : BothWentOn header found records closed was (record { first = now.first.shown; second = now.second.shown })
      = subst (λ (rs : List Record). BothWentOn header found rs closed was (record { first = now.first.shown; second = now.second.shown })) are
      (both_went entry header was opened later had now both new.of_header have first second same kept) in
      let untold : before.trace ≡ None
      = none_before (Found header found) before.trace (subst (λ (t : Option Trace). WhereTold (Found header found) before.trace t) (ap (λ (s : Storage). s.trace) both.storage) new.on.0) in
      let none : 0 ≡ before.faults = sym (ap (λ (s : Storage). s.faults) both.storage) ∙ new.on.1 in
      record {
        begins = w.begins;
        moments = subst (λ (t : Option Trace). WhereTold (Passes (IsMoment header found records closed)) (noted Synced t) None) (sym untold) tt;
        kept = tt;
        counts = omega (arith, none);
        steady = λ shut. none;
        failed = λ failure shut. (
          inr (subst (λ (t : Option Twins). AreGone t (Some (record { first = now.first.shown; second = now.second.shown }))) (sym two)
              (both_lost header found records closed was (record { first = now.first.shown; second = now.second.shown }) failure shut went)),
          λ alone. let wrong : None ≡ Some was = sym alone ∙ two in cc wrong,
        );
        follows = follows;
        twins = subst (λ (t : Option Twins). TwinsWentOn header found records closed t (Some (record { first = now.first.shown; second = now.second.shown }))) (sym two) went;
      }

  goes : (was : Option Twins) (had now : Option Copies) → before.twins ≡ was → opened.storage.copies ≡ had → IsOnBoth entry header opened was had → EachCopyWent had now → IfSome now (AreCopies later.ledger.records later.storage)
      → WentOn entry header found records closed before (stored_with later.storage.trace later.storage.faults now)
  goes None None None one have both went kept = on_one one
  goes None None (Some now) one have both went kept = absurd went
  goes None (Some had) now one have both went kept = absurd both
  goes (Some was) None now two have both went kept = let wrong : None ≡ Some both.copies = sym have ∙ ap (λ (s : Storage). s.copies) both.storage in cc wrong
  goes (Some was) (Some had) None two have both went kept = absurd went
  goes (Some was) (Some had) (Some now) two have both went kept = on_two was had now two have both went.0 went.1 kept

  pub went_new : WentOn entry header found records closed before (shown_by later)
  went_new = goes before.twins opened.storage.copies later.storage.copies refl refl new.on_both w.copies sound.copies

-- An owner's disks, by the book that was opened on them and what it became.
pub went_on : (entry : Entry) (header : Header) (records : List Record) (shown : Option Stored) (before : Stored) (opened later : Account) → shown ≡ Some before → IsNewBook entry header shown opened
    → Went opened.ledger.found records opened.storage later.storage → later.ledger.records ≡ records → later.ledger.entry ≡ entry → IsBook later
    → WentOn entry header opened.ledger.found records later.storage.closed before (shown_by later)
went_on entry header records shown before opened later at new w are its sound =
    went_new entry header records before opened later (subst (λ (s : Option Stored). IsNewBook entry header s opened) at new) w are its sound
