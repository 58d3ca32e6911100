-- Why journals aren't made on two disks, and what is made.
use Rattle.std.proofs.Common.{◌≡◌, ◌≢◌, ℕ, ◌≤◌, [], length, refl, sym, ◌∙◌, subst, arith, inl, inr, Option, Some, None, Result, Ok, Err}
use Rattle.std.specs.Prelude.{IfSome, IfErr, IsErrAnd}
use Rattle.std.proofs.lemmas.List.{nil_from_length}
use Rattle.fz_outside.specs.Faults.{HasRisen}
use Rattle.outside_disks.specs.Disks.{Trace, Shown, WhereTold, seen_of}
use Rattle.outside_disks.specs.Stored.{Twins}
use Rattle.journal_records.specs.declared.records.Header.{Header}
use Rattle.budget_journal.specs.declared.making.InitFault.{InitFault}
use Rattle.budget_journal.specs.declared.making.InitFault.TheVariants.{DiskFault, AlreadyThere}
use Rattle.budget_journal.specs.Journals.{IsAtRest, TellsSome}
use Rattle.budget_journal.specs.Making.{MakesJournal, BeginsSome, AddsSteps}
use Rattle.budget_journal.proofs.Made.{told-nothing}
use Rattle.budget_ledger.specs.Both.{HasMade, HasBroken, IsUntouched, IsBothInitFault}

-- A disk whose length was asked for.
pub record IsAsked (before after : Shown) : Type 0 where
  pub same : after.trace ≡ before.trace
  pub still : after.faults ≡ before.faults

pub untouched : (before after : Shown) → IsAsked before after → IsUntouched before after
untouched before after asked = record { same = asked.same; later = omega (arith, asked.still) }

pub untouched_at_all : (shown : Shown) → IsUntouched shown shown
untouched_at_all shown = record { same = refl; later = omega arith }

-- Its length is 0: then it is empty, where it is told.
pub empty_by : (o : Option Trace) (n : ℕ) → IfSome o (λ t. n ≡ length (seen_of t)) → n ≡ 0 → IfSome o (λ t. seen_of t ≡ [])
empty_by None n long zero = tt
empty_by (Some t) n long zero = nil_from_length (seen_of t) (sym long ∙ zero)

-- What init promises of a disk whose length it looks at first.
pub record IsInit (header : Header) (before after : Shown) (fault : InitFault) : Type 0 where
  pub begun : fault ≡ DiskFault → WhereTold (AddsSteps (BeginsSome (MakesJournal header))) before.trace after.trace
  pub there : (n : ℕ) → fault ≡ AlreadyThere n → (n ≢ 0) × (after.trace ≡ before.trace) × ((t : Trace) → before.trace ≡ Some t → n ≡ length (seen_of t))
  pub later : before.faults ≤ after.faults
  pub failed : fault ≡ DiskFault → HasRisen before.faults after.faults

-- A call of a disk failed.
pub stop_failed : {T : Type 0} (header : Header) (before now : Twins) (r : Result T InitFault) → IsErrAnd r (λ e. e ≡ DiskFault)
    → IsBothInitFault header before now DiskFault → IfErr r (IsBothInitFault header before now)
stop_failed header before now (Ok value) wrong holds = tt
stop_failed header before now (Err fault) same holds = subst (IsBothInitFault header before now) (sym same) holds

module _ (header : Header) where
  -- the call that asks for a disk's length failed
  pub broken_at_once : (before after : Shown) → after.trace ≡ before.trace → before.faults ≤ after.faults → HasRisen before.faults after.faults → HasBroken header before after
  broken_at_once before after same later risen = record { begun = told-nothing header before.trace after.trace same; risen = risen; later = later }

  broken : (before mid after : Shown) → IsAsked before mid → IsInit header mid after DiskFault → HasBroken header before after
  broken before mid after asked init = record {
    begun = subst (λ (o : Option Trace). WhereTold (AddsSteps (BeginsSome (MakesJournal header))) o after.trace) asked.same (init.begun refl);
    risen = subst (λ (n : ℕ). HasRisen n after.faults) asked.still (init.failed refl);
    later = omega (arith, asked.still, init.later);
  }

  told_long : (o : Option Trace) (n : ℕ) → ((t : Trace) → o ≡ Some t → n ≡ length (seen_of t)) → IfSome o (λ t. n ≡ length (seen_of t))
  told_long None n long = tt
  told_long (Some t) n long = long t refl

  pub made : (before mid after : Shown) → IsAsked before mid
      → ((t : Trace) → mid.trace ≡ Some t → (seen_of t ≡ []) × TellsSome (IsAtRest header []) after.trace)
      → WhereTold (AddsSteps (MakesJournal header)) mid.trace after.trace → after.faults ≡ mid.faults → HasMade header before after
  made before mid after asked rest turn still = record {
    made = λ t told. rest t (asked.same ∙ told);
    in_turn = subst (λ (o : Option Trace). WhereTold (AddsSteps (MakesJournal header)) o after.trace) asked.same turn;
    still = still ∙ asked.still;
  }

  -- the first isn't empty
  pub first_there : (before mid : Shown) (second : Shown) (n : ℕ) → (n ≡ 0 → ⊥) → IsAsked before mid → IfSome before.trace (λ t. n ≡ length (seen_of t))
      → IsBothInitFault header (record { first = before; second = second }) (record { first = mid; second = second }) (AlreadyThere n)
  first_there before mid second n some asked long = (some, untouched_at_all second, inl (long, untouched before mid asked))

  -- the second isn't
  pub second_there : (before mid : Shown) (other now : Shown) (k n : ℕ) → IsAsked before mid → IfSome before.trace (λ t. k ≡ length (seen_of t)) → k ≡ 0
      → (n ≡ 0 → ⊥) → IsAsked other now → IfSome other.trace (λ t. n ≡ length (seen_of t))
      → IsBothInitFault header (record { first = before; second = other }) (record { first = mid; second = now }) (AlreadyThere n)
  second_there before mid other now k n asked long zero some asked_too long_too =
      (some, untouched other now asked_too, inr (empty_by before.trace k long zero, long_too, where_told other.trace))
    where
      where_told : (o : Option Trace) → IfSome o (λ t. IsUntouched before mid)
      where_told None = tt
      where_told (Some t) = untouched before mid asked

  -- the first wasn't made
  pub first_unmade : (fault : InitFault) (before mid after : Shown) (other now : Shown) → IsAsked before mid → IsInit header mid after fault → IsAsked other now
      → IsBothInitFault header (record { first = before; second = other }) (record { first = after; second = now }) fault
  first_unmade DiskFault before mid after other now asked init asked_too = inl (broken before mid after asked init, untouched other now asked_too)
  first_unmade (AlreadyThere n) before mid after other now asked init asked_too =
      let there = init.there n refl in (
        there.0,
        untouched other now asked_too,
        inl (
          subst (λ (o : Option Trace). IfSome o (λ t. n ≡ length (seen_of t))) asked.same (told_long mid.trace n there.2),
          record { same = there.1 ∙ asked.same; later = omega (arith, init.later, asked.still) },
        ),
      )

  -- the second wasn't, once the first was
  pub second_unmade : (fault : InitFault) (before after : Shown) (other now new : Shown) (j k : ℕ) → HasMade header before after
      → IfSome before.trace (λ t. j ≡ length (seen_of t)) → j ≡ 0 → IsAsked other now → IfSome other.trace (λ t. k ≡ length (seen_of t)) → k ≡ 0
      → IsInit header now new fault
      → IsBothInitFault header (record { first = before; second = other }) (record { first = after; second = new }) fault
  second_unmade DiskFault before after other now new j k has_made long zero asked long_too zero_too init =
      inr (broken other now new asked init, inr has_made)
  second_unmade (AlreadyThere n) before after other now new j k has_made long zero asked long_too zero_too init =
      let there = init.there n refl in (
        there.0,
        record { same = there.1 ∙ asked.same; later = omega (arith, init.later, asked.still) },
        inr (
          empty_by before.trace j long zero,
          subst (λ (o : Option Trace). IfSome o (λ t. n ≡ length (seen_of t))) asked.same (told_long now.trace n there.2),
          none_such other.trace long_too (λ t told. there.2 t (asked.same ∙ told)) there.0,
        ),
      )
    where
      none_such : (o : Option Trace) → IfSome o (λ t. k ≡ length (seen_of t)) → ((t : Trace) → o ≡ Some t → n ≡ length (seen_of t)) → (n ≡ 0 → ⊥)
          → IfSome o (λ t. IsUntouched before after)
      none_such None long says some = tt
      none_such (Some t) long says some = absurd (some (says t refl ∙ sym long ∙ zero_too))
