-- What an opening finds.
use Rattle.std.proofs.Common.{◌≡◌, ◌⊎◌, ℕ, List, ◌∙◌, ap, sym, refl, subst, inl, inr, Option, Some, None}
use Rattle.std.specs.Prelude.{IfSome}
use Rattle.outside_disks.specs.Disks.{Trace, seen_of, after, IsImageOf, Passes, WhereTold}
use Rattle.outside_disks.proofs.Images.{passes-weaker}
use Rattle.journal_records.specs.declared.records.Record.{Record}
use Rattle.journal_records.specs.declared.records.Header.{Header}
use Rattle.budget_journal.specs.declared.opening.OpenFault.{OpenFault}
use Rattle.budget_journal.specs.declared.opening.OpenFault.TheVariants.{NotInitialised, Changed, Damaged, DiskFault, NoMemory}
use Rattle.budget_journal.specs.Areas.{version_in}
use Rattle.budget_journal.proofs.Gates.{head-version}
use Rattle.budget_journal.specs.Journals.{Stands, IsAtRest, Found, IsOpenFault, MayHaveSynced}
use Rattle.budget_core.specs.Entries.{Entry}
use Rattle.budget_core.specs.Legal.{IsFirstAstray}
use Rattle.budget_ledger.specs.Account.{Storage, IsMoment, HasPassed, Went}
use Rattle.budget_ledger.specs.Opened.{IsBookFault}
use Rattle.budget_ledger.proofs.Wents.{WentAlone, went_alone, prefix_self}

-- a journal that was opened has synced its disk
pub told_synced : (header : Header) (records : List Record) (old new : Option Trace) → WhereTold (Found header records) old new → MayHaveSynced old new
told_synced header records None None found = inl refl
told_synced header records None (Some u) found = absurd found
told_synced header records (Some t) None found = absurd found
told_synced header records (Some t) (Some u) found = inr (ap (λ (v : Trace). Some v) found.0)

-- and is at rest
pub told_rest : (header : Header) (records : List Record) (old new : Option Trace) → WhereTold (Found header records) old new → IfSome new (IsAtRest header records)
told_rest header records None None found = tt
told_rest header records None (Some u) found = absurd found
told_rest header records (Some t) None found = absurd found
told_rest header records (Some t) (Some u) found = found.1

-- the first record that may not follow is a fault of the bytes that were found
pub told_astray : (entry : Entry) (header : Header) (version : ℕ) (records : List Record) (k : ℕ) (old new : Option Trace)
    → WhereTold (Found (record header { version = version }) records) old new
    → IsFirstAstray (record entry { version = version }) records k → (t : Trace) → old ≡ Some t → IsBookFault entry header (seen_of t) (Damaged k)
told_astray entry header version records k None new found astray t told = cc
told_astray entry header version records k (Some s) None found astray t told = absurd found
told_astray entry header version records k (Some s) (Some u) found astray t told =
    let here : seen_of u ≡ seen_of t = ap seen_of found.0 ∙ ap seen_of (same_some s t told) in
    let stands : Stands (record header { version = version }) records (seen_of t) = subst (Stands (record header { version = version }) records) here found.1.stands in
    let named : version ≡ version_in (seen_of t) = sym (head-version (record header { version = version }) (seen_of t) stands.head) in
    inr (
      records,
      subst (λ (v : ℕ). Stands (record header { version = v }) records (seen_of t)) named stands,
      subst (λ (v : ℕ). IsFirstAstray (record entry { version = v }) records k) named astray,
    )
  where
    same_some : (x y : Trace) → Some x ≡ Some y → x ≡ y
    same_some x y e = cc

-- what refuses a journal refuses a book
pub journal_fault : (entry : Entry) (header : Header) (bytes : List ℕ) (fault : OpenFault) → IsOpenFault header bytes fault → IsBookFault entry header bytes fault
journal_fault entry header bytes (Damaged k) is = inl is
journal_fault entry header bytes (NotInitialised n) is = is
journal_fault entry header bytes (Changed kept found) is = is
journal_fault entry header bytes DiskFault is = is
journal_fault entry header bytes NoMemory is = is

-- ---- since a book was at rest

told_moments : (old new : List Record) (before after : Storage) → WentAlone old new before after → (s u : Option Trace) → IfSome s (IsAtRest before.header old)
    → WhereTold (HasPassed before.header old new after.closed) s u → WhereTold (Passes (IsMoment before.header old new after.closed)) s u
told_moments old new before after went None None rest passed = tt
told_moments old new before after went None (Some u) rest passed = passed
told_moments old new before after went (Some t) None rest passed = passed
told_moments old new before after went (Some t) (Some u) rest passed =
    passes-weaker (λ bytes. IsImageOf t bytes ⊎ IsMoment before.header old new after.closed bytes) (IsMoment before.header old new after.closed) t u each passed
  where
    each : (bytes : List ℕ) → IsImageOf t bytes ⊎ IsMoment before.header old new after.closed bytes → IsMoment before.header old new after.closed bytes
    each bytes (inl image) = inl (old, prefix_self old, went.begins, subst (λ (c : List ℕ). Stands before.header old c) (sym (rest.stable bytes image)) rest.stands)
    each bytes (inr is) = is

-- Since a book was at rest, each file that a stop may have left is a moment between then and now.
pub alone_from_rest : (old new : List Record) (before after : Storage) → IfSome before.trace (IsAtRest before.header old) → WentAlone old new before after
    → WhereTold (Passes (IsMoment before.header old new after.closed)) before.trace after.trace
alone_from_rest old new before after rest went = told_moments old new before after went before.trace after.trace rest went.moments

pub went_from_rest : (old new : List Record) (before after : Storage) → IfSome before.trace (IsAtRest before.header old) → Went old new before after
    → WhereTold (Passes (IsMoment before.header old new after.closed)) before.trace after.trace
went_from_rest old new before after rest went = alone_from_rest old new before after rest (went_alone old new before after went)
