-- a grant of a program, as one between runs
use Rattle.std.proofs.Common.{◌≡◌, ℕ, List, [], ◌∷◌, ◌++◌, Option, Some, None, refl, sym, ◌∙◌, ap, subst}
use Rattle.std.specs.Prelude.{Result, Ok, Err, IsOk, IfSome}
use mathlib.Core.Logic.{◌⊎◌, inl, inr}
use Rattle.outside_disks.specs.Disks.{Leaves, Passes, WhereTold, noted}
use Rattle.outside_disks.specs.Stored.{Stored}
use Rattle.outside_disks.specs.Disks.Step.{Synced}
use Rattle.journal_records.specs.declared.records.Header.{Header}
use Rattle.journal_records.specs.declared.records.Record.{Record}
use Rattle.journal_records.specs.declared.records.Record.TheVariants.{Grant}
use Rattle.budget_core.specs.declared.answers.Left.{Left}
use Rattle.budget_core.specs.declared.answers.GrantRefusal.{GrantRefusal}
use Rattle.budget_core.specs.Entries.{Entry}
use Rattle.budget_core.specs.Granting.{IsAmount, grant_behind, with_grant}
use Rattle.budget_core.specs.Ledger.{Ledger}
use Rattle.budget_core.specs.Legal.{MayFollow}
use Rattle.budget_core.proofs.SoundLemmas.{may-raise}
use Rattle.budget_ledger.specs.Account.{IsMoment}
use Rattle.budget_ledger.specs.declared.failure.Failure.{Failure}
use Rattle.catalog_loading.specs.Loaded.{KeyedOwner}
use Rattle.query_server.specs.Grant.{IsGrantAnswered, IsGrantUnwritten, WentBy, entry_in, header_in, verdict_on}
use Rattle.query_server.specs.Run.{WentOn}
use Rattle.query_server.specs.Shelves.{Shelf, OneDisk}
use Rattle.query_server.specs.declared.end.Status.{Status}
use Rattle.query_server.proofs.Gained.{between, same_as, told_weaker}
use Rattle.successive_runs.specs.Left.{IsLeft}
use Rattle.successive_runs.specs.Life.{AreGranted}
use Rattle.successive_runs.specs.Raised.{IsRaisedFrom, LeavesRaised}
use Rattle.successive_runs.proofs.Files.{HasAll, kept_has_all, leaves_weaker, moment_stands}

module _ (entry : Entry) (header : Header) (found : List Record) (amount : ℕ) (may : MayFollow entry found (Grant (grant_behind found amount))) where
  abbrev IsRaised : (left : List Record) → Type 0
  IsRaised left = (left ≡ found) ⊎ AreGranted entry found (amount ∷ []) left

  raised : (left : List Record) → (left ≡ found) ⊎ (left ≡ with_grant found amount) → IsRaised left
  raised left (inl none) = inl none
  raised left (inr one) = inr (may, one)

  with_it : (left : List Record) → IsLeft found (with_grant found amount) None left → IsRaised left
  with_it left (inl (begins, ends)) = raised left (between found left (Grant (grant_behind found amount)) begins ends)
  with_it left (inr (failure, shut, is)) = cc (shut)

  perhaps : (failure : Failure) → failure.pending ≡ Grant (grant_behind found amount) → (left : List Record) → IsLeft found found (Some failure) left → IsRaised left
  perhaps failure which left (inl (begins, ends)) = raised left (inl (same_as found left begins ends))
  perhaps failure which left (inr (other, shut, is)) =
      let one : failure ≡ other = cc (shut) in
      raised left (inr (is ∙ ap (λ (f : Failure). found ++ f.pending ∷ []) (sym one) ∙ ap (λ (r : Record). found ++ r ∷ []) which))

  -- a disk that went on to such records
  on_disk : (records : List Record) (closed : Option Failure) (before after : Stored) → ((left : List Record) → IsLeft found records closed left → IsRaised left)
      → WentOn entry header found records closed before after
      → WhereTold (Passes (IsRaisedFrom entry header found amount)) (noted Synced before.trace) after.trace × IfSome after.trace (Leaves (IsRaisedFrom entry header found amount))
  on_disk records closed before after leaves went = (
    told_weaker (IsMoment header found records closed) (IsRaisedFrom entry header found amount)
        (λ bytes moment. let m = moment_stands header found records closed bytes moment in (m.0, m.1, leaves m.0 m.2)) (noted Synced before.trace) after.trace went.moments,
    leaves_weaker (HasAll header found records closed) (IsRaisedFrom entry header found amount) (λ bytes h. (h.left, h.stands, leaves h.left h.leaves)) after.trace
        (kept_has_all header found records closed went.begins after.trace went.kept),
  )

went_to : (o : ℕ) (Goes : Stored → Stored → Type 0) (old new : Shelf) (before after : Stored) → OneDisk o Goes old new → old o ≡ Some before → new o ≡ Some after → Goes before after
went_to o Goes old new before after disk was is =
    let w = disk.here before was in
    let both : Some w.0 ≡ Some after = sym w.1 ∙ is in
    let same : w.0 ≡ after = cc (both) in
    subst (Goes before) same w.2

pub granted_leaves : (one : KeyedOwner) (amount : ℕ) (old new : Shelf) (status : Status) (text : List ℕ) → IsAmount amount → (done : IsGrantAnswered one amount old new status text)
    → IsOk (verdict_on one done.version done.found amount) → LeavesRaised one done.version done.found amount old new
granted_leaves one amount old new status text valid done ok before after was is =
    let entry = entry_in one done.version in
    let header = header_in one done.version in
    let found = done.found in
    let may = may-raise (record { entry = entry; found = found; records = found }) amount valid ok in
    on_disk entry header found amount may.follows (with_grant found amount) None before after (with_it entry header found amount may.follows)
    (by_verdict (verdict_on one done.version found amount) ok (went_to one.number (WentBy entry header found amount (verdict_on one done.version found amount)) old new before after done.disk was is))
  where
    by_verdict : (verdict : Result Left GrantRefusal) → IsOk verdict → WentBy (entry_in one done.version) (header_in one done.version) done.found amount verdict before after
        → WentOn (entry_in one done.version) (header_in one done.version) done.found (with_grant done.found amount) None before after
    by_verdict (Ok left) ok went = went
    by_verdict (Err refusal) ok went = absurd (cc (ok))

pub unwritten_leaves : (one : KeyedOwner) (amount : ℕ) (old new : Shelf) → IsAmount amount → (fails : IsGrantUnwritten one amount old new) → LeavesRaised one fails.version fails.found amount old new
unwritten_leaves one amount old new valid fails before after was is =
    let entry = entry_in one fails.version in
    let header = header_in one fails.version in
    let found = fails.found in
    let may = may-raise (record { entry = entry; found = found; records = found }) amount valid fails.allowed in
    on_disk entry header found amount may.follows found (Some fails.failure) before after (perhaps entry header found amount may.follows fails.failure fails.pending)
    (went_to one.number (WentOn entry header found found (Some fails.failure)) old new before after fails.disk was is)
