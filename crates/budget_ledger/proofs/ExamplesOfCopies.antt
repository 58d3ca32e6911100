-- A book on two disks, on both sides of each choice.
use Rattle.std.proofs.Common.{◌≡◌, ◌⊎◌, ℕ, ◌<◌, List, [], ◌∷◌, length, refl, sym, ap, subst, arith, inl, inr, Option, Some, None}
use Rattle.outside_disks.specs.Disks.{Trace, Shown}
use Rattle.outside_disks.specs.Stored.{one_stored, two_stored}
use Rattle.journal_records.specs.declared.records.Outcome.TheVariants.{Lost}
use Rattle.journal_records.specs.declared.records.Record.{Record}
use Rattle.journal_records.specs.declared.records.Record.TheVariants.{Settle}
use Rattle.journal_records.specs.Records.{settling}
use Rattle.journal_records.specs.declared.records.Header.{Header}
use Rattle.budget_ledger.specs.Account.{Failure, Held, Copy, Copies, Storage, with_closing, count_of, IsHeldCopy, AreCopies, HeldWent, CopyWent, EachCopyWent, stored_by}
use Rattle.budget_ledger.proofs.Wents.{not_both}
use Rattle.budget_ledger.proofs.Sides.{same_failure}

abbrev lost : Record
lost = settling 0 Lost

abbrev other : Record
other = settling 1 Lost

abbrev wide : Header
wide = record { owner = 0; budget = 20; capacity = 10; digest = []; version = 2 }

abbrev two : List Record
two = lost ∷ other ∷ []

-- a disk on which so many calls have failed
abbrev shown : ℕ → Shown
shown faults = record { trace = None; faults = faults }

-- the append of the second record failed
abbrev fell : Failure
fell = record { failed_at = 3; pending = other }

abbrev in_use : Held
in_use = record { header = wide; has = two; closed = None }

-- of another version
abbrev dropped : Held
dropped = record { header = record wide { version = 1 }; has = lost ∷ []; closed = Some fell }

-- ---- one of two disks

no_closing : with_closing (lost ∷ []) None ≡ lost ∷ []
no_closing = refl

its_closing : with_closing (lost ∷ []) (Some fell) ≡ two
its_closing = refl

open_counts : count_of None ≡ 0
open_counts = refl

closed_counts : count_of (Some fell) ≡ 3
closed_counts = refl

has_all : IsHeldCopy wide two None (shown 0) in_use
has_all = record {
  header = refl;
  begins = ([], refl);
  whole = λ none. refl;
  kept = tt;
  failed = λ failure closed. absurd (not_both None failure refl closed);
  follows = λ failure closed. absurd (not_both None failure refl closed);
}

-- A dropped one may lag by its record, where the other disk has that, or the book was closed by it.
module _ (records : List Record) (closed : Option Failure) (begins : records ≡ lost ∷ [] ⊎ records ≡ two) (ahead : with_closing records closed ≡ two) where
  lags : IsHeldCopy wide records closed (shown 3) dropped
  lags = record {
    header = refl;
    begins = by begins;
    whole = λ none. absurd (not_both (Some fell) fell none refl);
    kept = tt;
    failed = λ failure is. ap (λ (f : Failure). f.failed_at) (sym (same_failure fell failure is));
    follows = λ failure is. subst (λ (f : Failure). (rest : List Record) × (lost ∷ f.pending ∷ rest ≡ with_closing records closed)) (same_failure fell failure is) ([], sym ahead);
  }
    where
      by : records ≡ lost ∷ [] ⊎ records ≡ two → (rest : List Record) × (lost ∷ rest ≡ records)
      by (inl one) = ([], sym one)
      by (inr more) = (other ∷ [], sym more)

lags_by_one : IsHeldCopy wide two None (shown 3) dropped
lags_by_one = lags two None (inr refl) refl

lags_by_none : IsHeldCopy wide (lost ∷ []) (Some fell) (shown 3) dropped
lags_by_none = lags (lost ∷ []) (Some fell) (inl refl) refl

lags_in_use : IsHeldCopy wide two None (shown 0) (record in_use { has = lost ∷ [] }) → ⊥
lags_in_use copy = let same : 1 ≡ 2 = ap (λ (rs : List Record). length rs) (copy.whole refl) in omega (arith, same)

abbrev number_in : List Record → ℕ
number_in (first ∷ Settle settlement ∷ rest) = settlement.number
number_in records = 7

-- the record of its failed append isn't the next one
forks : IsHeldCopy wide two None (shown 3) (record dropped { closed = Some (record { failed_at = 3; pending = lost }) }) → ⊥
forks copy =
    let next = copy.follows (record { failed_at = 3; pending = lost }) refl in
    let same : 0 ≡ 1 = ap number_in next.1 in omega (arith, same)

other_capacity : IsHeldCopy wide two None (shown 0) (record in_use { header = record wide { capacity = 9 } }) → ⊥
other_capacity copy = let same : 9 ≡ 10 = ap (λ (h : Header). h.capacity) copy.header in omega (arith, same)

other_count : IsHeldCopy wide two None (shown 4) dropped → ⊥
other_count copy = let same : 3 ≡ 4 = copy.failed fell refl in omega (arith, same)

-- ---- both

abbrev kept : Held → ℕ → Copy
kept held faults = record { shown = shown faults; held = Some held }

abbrev gone : ℕ → Copy
gone faults = record { shown = shown faults; held = None }

abbrev one_gone : Copies
one_gone = record { first = kept in_use 0; second = gone 1 }

abbrev one_dropped : Copies
one_dropped = record { first = kept dropped 3; second = gone 1 }

abbrev both_gone : Copies
both_gone = record { first = gone 1; second = gone 1 }

abbrev storage : Option Failure → Copies → Storage
storage closed copies = record { header = wide; trace = None; faults = count_of closed; closed = closed; copies = Some copies }

opens_by_one : AreCopies two (storage None one_gone) one_gone
opens_by_one = record {
  untold = refl;
  counted = refl;
  first = has_all;
  second = tt;
  in_use = λ none. inl (in_use, refl, refl);
  out = λ failure closed. absurd (not_both None failure refl closed);
  shut = λ failure closed. absurd (not_both None failure refl closed);
}

opens_by_none : AreCopies two (storage None both_gone) both_gone → ⊥
opens_by_none are = by (are.in_use refl)
  where
    by : ((held : Held) × (None ≡ Some held) × (held.closed ≡ None)) ⊎ ((held : Held) × (None ≡ Some held) × (held.closed ≡ None)) → ⊥
    by (inl (held, same, still)) = cc
    by (inr (held, same, still)) = cc

shuts_with_one : AreCopies two (storage (Some fell) one_gone) one_gone → ⊥
shuts_with_one are = (are.out fell refl).0 (in_use, refl, refl)

-- the last one in use failed
abbrev shut : Option Failure
shut = Some fell

shuts_by_last : AreCopies (lost ∷ []) (storage shut one_dropped) one_dropped
shuts_by_last = record {
  untold = refl;
  counted = refl;
  first = lags_by_none;
  second = tt;
  in_use = λ none. absurd (not_both (Some fell) fell none refl);
  out = λ failure closed. (λ was. not_dropped was, λ was. not_gone was);
  shut = λ failure closed. inl (dropped, refl, closed, refl);
}
  where
    same_held : {x y : Held} → Some x ≡ Some y → x ≡ y
    same_held e = cc

    not_dropped : (held : Held) × (Some dropped ≡ Some held) × (held.closed ≡ None) → ⊥
    not_dropped (held, same, still) = not_both held.closed fell still (sym (ap (λ (h : Held). h.closed) (same_held same)))

    not_gone : (held : Held) × (None ≡ Some held) × (held.closed ≡ None) → ⊥
    not_gone (held, same, still) = cc

-- ---- from one state to a later one

loses_a_record : HeldWent (shown 0) (shown 0) in_use (record in_use { has = lost ∷ [] }) → ⊥
loses_a_record went = let longer = ap (λ (rs : List Record). length rs) went.begins.1 in omega (arith, longer)

falls_unnoticed : HeldWent (shown 0) (shown 0) in_use (record in_use { closed = Some (record { failed_at = 0; pending = lost }) }) → ⊥
falls_unnoticed went =
    let up : 0 < 0 = (went.failed (record { failed_at = 0; pending = lost }) refl refl).0 (omega arith) in omega (arith, up)

goes_on_dropped : HeldWent (shown 3) (shown 3) dropped (record dropped { has = two }) → ⊥
goes_on_dropped went =
    let same : 2 ≡ 1 = ap (λ (h : Held). length h.has) (went.shut fell refl).1 in omega (arith, same)

touches_gone : CopyWent (gone 1) (gone 2) → ⊥
touches_gone went = let same : 2 ≡ 1 = ap (λ (s : Shown). s.faults) went in omega (arith, same)

stays_gone : CopyWent (gone 1) (gone 1)
stays_gone = refl

rebuilds : CopyWent (gone 0) (kept in_use 0) → ⊥
rebuilds went = went

takes_a_second : EachCopyWent None (Some one_gone) → ⊥
takes_a_second went = went

-- ---- what is put back

stored_one : (trace : Option Trace) → stored_by (record { header = wide; trace = trace; faults = 3; closed = None; copies = None }) ≡ one_stored (record { trace = trace; faults = 3 })
stored_one trace = refl

stored_two : stored_by (storage None one_gone) ≡ two_stored (record { first = shown 0; second = shown 1 })
stored_two = refl
