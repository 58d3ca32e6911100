-- What an append makes of a journal on one of two disks.
use Rattle.std.proofs.Common.{◌≡◌, ℕ, ◌<◌, ◌≤◌, take, List, [], ◌∷◌, ◌++◌, length, length-append, refl, sym, ◌∙◌, ap, subst, arith, Bool, true, false, Option, Some, None, Result, Ok, Err, IsOk}
use Rattle.std.specs.Prelude.{IfSome, IsSome, ⊤}
use Rattle.std.proofs.lemmas.List.{take_all, take-append-le}
use Rattle.std.proofs.lemmas.Bool.{ltb-true, ltb-false}
use Rattle.std.proofs.Math.Dec.{ltb}
use mathlib.Core.List.{IsPrefix}
use Rattle.fz_outside.specs.Faults.{HasRisen, last_count}
use Rattle.outside_disks.specs.Disks.{Trace, WhereTold}
use Rattle.journal_records.specs.declared.records.Record.{Record}
use Rattle.journal_records.specs.declared.records.Header.{Header}
use Rattle.budget_journal.specs.Journals.{IsAtRest, IsMarked, disk_of, mark_of}
use Rattle.budget_ledger.specs.Account.{Failure, Held, HasPassed, IsKeptNow, IsHeldCopy, IsInUse, HasShut, HeldWent, CopyWent, with_closing}
use Rattle.budget_ledger.specs.Kept.{IsReadySide, IsReadyHalf, shown_on, held_on, copy_on, HoldsSide, HoldsHalf, HasWrittenOn, HasFailedOn, HalfWent}
use Rattle.budget_ledger.specs.declared.halves.Side.{Side}
use Rattle.budget_ledger.specs.declared.halves.Half.{Half}
use Rattle.budget_ledger.specs.declared.halves.Half.TheVariants.{Gone, Kept}
use Rattle.budget_ledger.proofs.Wents.{prefix_self, prefix_by, prefix_then, not_both, held_self}
use Rattle.budget_ledger.proofs.Told.{told_added, told_failed}

pub same_failure : (x y : Failure) → Some x ≡ Some y → x ≡ y
same_failure x y e = cc

prefix_length : (a b : List Record) → IsPrefix a b → length a ≤ length b
prefix_length a b p = omega (arith, length-append a p.0, ap (λ (rs : List Record). length rs) p.1)

-- a count that rose, or stood at its last value, is above 0
pub above : (before after : ℕ) → HasRisen before after → before ≤ after → 0 < after
above before after risen later = by_case (ltb before last_count) refl
  where
    by_case : (low : Bool) → ltb before last_count ≡ low → 0 < after
    by_case true low = let up : before < after = risen (ltb-true before last_count low) in omega (arith, up)
    by_case false high = let most : last_count ≤ before = ltb-false before last_count high in omega (arith, most, later)

module _ {D : Type 0} (trace : D → Option Trace) (faults : D → ℕ) (common : Header) (records : List Record) (next : Record) where
  abbrev more : List Record
  more = records ++ next ∷ []

  abbrev Holds : List Record → Option Failure → Side D → Type 0
  Holds rs closed side = HoldsSide trace faults common rs closed side

  abbrev Went : List Record → (old new : Side D) → Type 0
  Went all old new = HeldWent (shown_on trace faults (disk_of old.journal)) (shown_on trace faults (disk_of new.journal))
      (held_on trace faults records old) (held_on trace faults all new)

  -- a side to which no append has failed
  module _ (old : Side D) (holds : Holds records None old) (none : old.failure ≡ None) where
    had : held_on trace faults records old ≡ record { header = old.header; has = records; closed = None }
    had = λ i. record { header = old.header; has = holds.copy.whole none i; closed = none i }

    rest : IfSome (trace (disk_of old.journal)) (IsAtRest old.header records)
    rest = subst (λ (h : Held). IfSome (trace (disk_of old.journal)) (IsKeptNow h.header h.has h.closed)) had holds.copy.kept

  -- ---- with the record

  module _ (old new : Side D) (holds : Holds records None old) (ready : IsReadySide old) (w : HasWrittenOn trace faults next old new) where
    none : old.failure ≡ None
    none = w.written.open_before

    told : IfSome (trace (disk_of new.journal)) (IsAtRest old.header more)
        × WhereTold (HasPassed old.header records more None) (trace (disk_of old.journal)) (trace (disk_of new.journal))
        × IfSome (trace (disk_of new.journal)) (IsMarked (mark_of new.journal) old.header more)
    told = told_added old.header records next (mark_of old.journal) (mark_of new.journal) (trace (disk_of old.journal)) (trace (disk_of new.journal))
        (ready.journal.room none) (rest old holds none) (holds.journal.marked none) w.written.appended

    counts : new.has ≡ length more
    counts = omega (arith, w.has, holds.whole none, length-append records (next ∷ []))

    now : held_on trace faults more new ≡ record { header = old.header; has = more; closed = None }
    now = λ i. record { header = w.header i; has = take_all new.has more (omega (arith, counts)) i; closed = w.written.open_after i }

    written_copy : IsHeldCopy common more None (shown_on trace faults (disk_of new.journal)) (record { header = old.header; has = more; closed = None })
    written_copy = record {
      header = holds.copy.header;
      begins = prefix_self more;
      whole = λ still. refl;
      kept = told.0;
      failed = λ failure closed. absurd (not_both None failure refl closed);
      follows = λ failure closed. absurd (not_both None failure refl closed);
    }

    pub written_holds : Holds more None new
    written_holds = record {
      copy = subst (IsHeldCopy common more None (shown_on trace faults (disk_of new.journal))) (sym now) written_copy;
      journal = record {
        room = w.room ∙ holds.journal.room ∙ ap (λ (h : Header). h.capacity) (sym w.header);
        counted = λ still. omega (arith, w.written.counted, holds.journal.counted none, length-append records (next ∷ []));
        marked = λ still. subst (λ (h : Header). IfSome (trace (disk_of new.journal)) (IsMarked (mark_of new.journal) h more)) (sym w.header) told.2;
        ready = λ still. w.written.ready;
      };
      has = omega (arith, counts);
      whole = λ still. counts;
    }

    went_on : HeldWent (shown_on trace faults (disk_of old.journal)) (shown_on trace faults (disk_of new.journal))
        (record { header = old.header; has = records; closed = None }) (record { header = old.header; has = more; closed = None })
    went_on = record {
      header = refl;
      begins = prefix_by records (next ∷ []);
      moments = told.1;
      counts = omega (arith, w.written.passed);
      shut = λ failure closed. absurd (not_both None failure refl closed);
      «open» = λ still. w.written.passed;
      failed = λ failure still closed. absurd (not_both None failure refl closed);
    }

    pub written_went : Went more old new
    written_went = subst (λ (h : Held). HeldWent (shown_on trace faults (disk_of old.journal)) (shown_on trace faults (disk_of new.journal)) h (held_on trace faults more new))
        (sym (had old holds none))
        (subst (HeldWent (shown_on trace faults (disk_of old.journal)) (shown_on trace faults (disk_of new.journal)) (record { header = old.header; has = records; closed = None }))
        (sym now) went_on)

    pub written_in_use : IsInUse (copy_on trace faults more (Kept new))
    written_in_use = (held_on trace faults more new, refl, w.written.open_after)

  -- ---- without it: the book goes on to all, or is closed

  module _ (all : List Record) (closed : Option Failure) (begins : IsPrefix records all) (is_next : with_closing all closed ≡ more) where
    keeps : (n : ℕ) → n ≤ length records → take n all ≡ take n records
    keeps n low = ap (take n) (sym begins.1) ∙ take-append-le n records begins.0 low

    module _ (old new : Side D) (failure : Failure) (holds : Holds records None old) (ready : IsReadySide old) (f : HasFailedOn trace faults next old new failure) where
      out : old.failure ≡ None
      out = f.failed.open_before

      abbrev here : Failure
      here = record { failed_at = faults (disk_of new.journal); pending = next }

      told_not : IfSome (trace (disk_of new.journal)) (IsKeptNow old.header records (Some here))
          × WhereTold (HasPassed old.header records records (Some here)) (trace (disk_of old.journal)) (trace (disk_of new.journal))
      told_not = told_failed old.header records next (faults (disk_of new.journal)) (mark_of old.journal) (trace (disk_of old.journal)) (trace (disk_of new.journal))
          (ready.journal.room out) (rest old holds out) (holds.journal.marked out) f.failed.refused

      as_many : new.has ≡ length records
      as_many = omega (arith, f.has, holds.whole out)

      now_fallen : held_on trace faults all new ≡ record { header = old.header; has = records; closed = Some here }
      now_fallen = λ i. record {
        header = f.header i;
        has = (keeps new.has (omega (arith, as_many)) ∙ take_all new.has records (omega (arith, as_many))) i;
        closed = f.failed.closed i;
      }

      fallen_copy : IsHeldCopy common all closed (shown_on trace faults (disk_of new.journal)) (record { header = old.header; has = records; closed = Some here })
      fallen_copy = record {
        header = holds.copy.header;
        begins = begins;
        whole = λ still. absurd (not_both (Some here) here still refl);
        kept = told_not.0;
        failed = λ other some. ap (λ (x : Failure). x.failed_at) (sym (same_failure here other some));
        follows = λ other some. subst (λ (x : Failure). IsPrefix (records ++ x.pending ∷ []) (with_closing all closed)) (same_failure here other some)
            (subst (IsPrefix more) (sym is_next) (prefix_self more));
      }

      gone : {X : Type 0} → new.failure ≡ None → X
      gone still = absurd (not_both new.failure here still f.failed.closed)

      pub fallen_holds : Holds all closed new
      fallen_holds = record {
        copy = subst (IsHeldCopy common all closed (shown_on trace faults (disk_of new.journal))) (sym now_fallen) fallen_copy;
        journal = record {
          room = f.room ∙ holds.journal.room ∙ ap (λ (h : Header). h.capacity) (sym f.header);
          counted = λ still. gone still;
          marked = λ still. gone still;
          ready = λ still. gone still;
        };
        has = omega (arith, as_many, prefix_length records all begins);
        whole = λ still. gone still;
      }

      fell_on : HeldWent (shown_on trace faults (disk_of old.journal)) (shown_on trace faults (disk_of new.journal))
          (record { header = old.header; has = records; closed = None }) (record { header = old.header; has = records; closed = Some here })
      fell_on = record {
        header = refl;
        begins = prefix_self records;
        moments = told_not.1;
        counts = f.failed.later;
        shut = λ other some. absurd (not_both None other refl some);
        «open» = λ still. absurd (not_both (Some here) here still refl);
        failed = λ other still some. (f.failed.risen, ap (λ (x : Failure). x.failed_at) (sym (same_failure here other some)));
      }

      pub fallen_went : Went all old new
      fallen_went = subst (λ (h : Held). HeldWent (shown_on trace faults (disk_of old.journal)) (shown_on trace faults (disk_of new.journal)) h (held_on trace faults all new))
          (sym (had old holds out))
          (subst (HeldWent (shown_on trace faults (disk_of old.journal)) (shown_on trace faults (disk_of new.journal)) (record { header = old.header; has = records; closed = None }))
          (sym now_fallen) fell_on)

      which : here ≡ failure
      which = same_failure here failure (sym f.failed.closed ∙ f.dropped)

      pub fallen_pending : failure.pending ≡ next
      fallen_pending = ap (λ (x : Failure). x.pending) (sym which)

      pub fallen_above : 0 < failure.failed_at
      fallen_above = subst (λ (x : Failure). 0 < x.failed_at) which (above (faults (disk_of old.journal)) (faults (disk_of new.journal)) f.failed.risen f.failed.later)

      pub fallen_shut : HasShut records failure (copy_on trace faults records (Kept new))
      fallen_shut = (held_on trace faults records new, refl, f.dropped, take_all new.has records (omega (arith, as_many)))

    -- a side that was dropped before
    module _ (old : Side D) (before : Failure) (holds : Holds records None old) (dropped : old.failure ≡ Some before) where
      no_more : {X : Type 0} → old.failure ≡ None → X
      no_more still = absurd (not_both old.failure before still dropped)

      stays : held_on trace faults all old ≡ held_on trace faults records old
      stays = λ i. record { header = old.header; has = keeps old.has holds.has i; closed = old.failure }

      stayed_copy : IsHeldCopy common all closed (shown_on trace faults (disk_of old.journal)) (held_on trace faults records old)
      stayed_copy = record {
        header = holds.copy.header;
        begins = prefix_then (take old.has records) records all holds.copy.begins begins;
        whole = λ still. no_more still;
        kept = holds.copy.kept;
        failed = holds.copy.failed;
        follows = λ other some. prefix_then (take old.has records ++ other.pending ∷ []) records (with_closing all closed) (holds.copy.follows other some)
            (subst (IsPrefix records) (sym is_next) (prefix_by records (next ∷ [])));
      }

      pub stayed_holds : Holds all closed old
      stayed_holds = record {
        copy = subst (IsHeldCopy common all closed (shown_on trace faults (disk_of old.journal))) (sym stays) stayed_copy;
        journal = record { room = holds.journal.room; counted = λ still. no_more still; marked = λ still. no_more still; ready = λ still. no_more still };
        has = omega (arith, holds.has, prefix_length records all begins);
        whole = λ still. no_more still;
      }

      pub stayed_went : Went all old old
      stayed_went = subst (λ (h : Held). HeldWent (shown_on trace faults (disk_of old.journal)) (shown_on trace faults (disk_of old.journal)) (held_on trace faults records old) h) (sym stays)
          (held_self (shown_on trace faults (disk_of old.journal)) (held_on trace faults records old))

  -- ---- one of two disks

  some_of : {X : Type 0} (o : Option X) → IsSome o → (x : X) × (o ≡ Some x)
  some_of None some = absurd (cc some)
  some_of (Some x) some = (x, refl)

  module _ (all : List Record) (closed : Option Failure) (begins : IsPrefix records all) (is_next : with_closing all closed ≡ more) where
    -- It hasn't the record.
    pub half_without : (old new : Half D) (fell : Option Failure) → HoldsHalf trace faults common records None old → IsReadyHalf old
        → HalfWent trace faults next old new (Err fell)
        → HoldsHalf trace faults common all closed new × CopyWent (copy_on trace faults records old) (copy_on trace faults all new)
    half_without (Gone disk) (Gone still) None holds ready went =
        (tt, ap (shown_on trace faults) went)
    half_without (Gone disk) (Gone still) (Some failure) holds ready went = absurd went
    half_without (Gone disk) (Kept side) fell holds ready went = absurd went
    half_without (Kept side) (Gone disk) fell holds ready went = absurd went
    half_without (Kept old) (Kept new) None holds ready (same, some) =
        let dropped = some_of old.failure some in
        subst (λ (s : Side D). HoldsSide trace faults common all closed s × Went all old s) (sym same)
        (stayed_holds all closed begins is_next old dropped.0 holds dropped.1, stayed_went all closed begins is_next old dropped.0 holds dropped.1)
    half_without (Kept old) (Kept new) (Some failure) holds ready went =
        (fallen_holds all closed begins is_next old new failure holds ready went, fallen_went all closed begins is_next old new failure holds ready went)

  -- It may have it.
  pub half_on : (old new : Half D) (answer : Result ⊤ (Option Failure)) → HoldsHalf trace faults common records None old → IsReadyHalf old
      → HalfWent trace faults next old new answer
      → HoldsHalf trace faults common more None new × CopyWent (copy_on trace faults records old) (copy_on trace faults more new)
  half_on old new (Err fell) holds ready went = half_without more None (prefix_by records (next ∷ [])) refl old new fell holds ready went
  half_on (Gone disk) (Gone still) (Ok value) holds ready went = absurd went
  half_on (Gone disk) (Kept side) (Ok value) holds ready went = absurd went
  half_on (Kept side) (Gone disk) (Ok value) holds ready went = absurd went
  half_on (Kept old) (Kept new) (Ok value) holds ready went = (written_holds old new holds ready went, written_went old new holds ready went)

  -- whether it is in use then
  pub half_in_use : (old new : Half D) (answer : Result ⊤ (Option Failure)) → HoldsHalf trace faults common records None old → IsReadyHalf old
      → HalfWent trace faults next old new answer → IsOk answer → IsInUse (copy_on trace faults more new)
  half_in_use old new (Err fell) holds ready went ok = absurd (cc ok)
  half_in_use (Gone disk) (Gone still) (Ok value) holds ready went ok = absurd went
  half_in_use (Gone disk) (Kept side) (Ok value) holds ready went ok = absurd went
  half_in_use (Kept side) (Gone disk) (Ok value) holds ready went ok = absurd went
  half_in_use (Kept old) (Kept new) (Ok value) holds ready went ok = written_in_use old new holds ready went

  dropped_out : (all : List Record) (side : Side D) (failure : Failure) → side.failure ≡ Some failure → IsInUse (copy_on trace faults all (Kept side)) → ⊥
  dropped_out all side failure is (held, same, still) = not_both side.failure failure (ap (λ (h : Held). h.closed) (same_held (held_on trace faults all side) held same) ∙ still) is
    where
      same_held : (x y : Held) → Some x ≡ Some y → x ≡ y
      same_held x y e = cc

  gone_out : (all : List Record) (disk : D) → IsInUse (copy_on trace faults all (Gone disk)) → ⊥
  gone_out all disk (held, same, still) = not_both None held refl same

  pub half_out : (all : List Record) (old new : Half D) (fell : Option Failure) → HalfWent trace faults next old new (Err fell)
      → IsInUse (copy_on trace faults all new) → ⊥
  half_out all (Gone disk) (Gone still) fell went in_use = gone_out all still in_use
  half_out all (Gone disk) (Kept side) fell went in_use = went
  half_out all (Kept side) (Gone disk) fell went in_use = went
  half_out all (Kept old) (Kept new) None (same, some) in_use =
      let dropped = some_of old.failure some in
      dropped_out all new dropped.0 (ap (λ (s : Side D). s.failure) same ∙ dropped.1) in_use
  half_out all (Kept old) (Kept new) (Some failure) went in_use = dropped_out all new failure went.dropped in_use

  -- one that wasn't in use before
  pub half_was_out : (old new : Half D) → HalfWent trace faults next old new (Err None) → IsInUse (copy_on trace faults records old) → ⊥
  half_was_out (Gone disk) (Gone still) went in_use = gone_out records disk in_use
  half_was_out (Gone disk) (Kept side) went in_use = went
  half_was_out (Kept side) (Gone disk) went in_use = went
  half_was_out (Kept old) (Kept new) (same, some) in_use = let dropped = some_of old.failure some in dropped_out records old dropped.0 dropped.1 in_use

  -- one whose append failed
  pub half_fell : (old new : Half D) (failure : Failure) → HoldsHalf trace faults common records None old → IsReadyHalf old
      → HalfWent trace faults next old new (Err (Some failure))
      → (failure.pending ≡ next) × (0 < failure.failed_at) × HasShut records failure (copy_on trace faults records new)
  half_fell (Gone disk) (Gone still) failure holds ready went = absurd went
  half_fell (Gone disk) (Kept side) failure holds ready went = absurd went
  half_fell (Kept side) (Gone disk) failure holds ready went = absurd went
  half_fell (Kept old) (Kept new) failure holds ready went = (
    fallen_pending more None (prefix_by records (next ∷ [])) refl old new failure holds ready went,
    fallen_above more None (prefix_by records (next ∷ [])) refl old new failure holds ready went,
    fallen_shut more None (prefix_by records (next ∷ [])) refl old new failure holds ready went,
  )
