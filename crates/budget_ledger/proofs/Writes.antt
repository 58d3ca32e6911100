-- What an append makes of a book.
use Rattle.std.proofs.Common.{◌≡◌, ◌⊎◌, ℕ, ◌<◌, ◌≤◌, List, [], ◌∷◌, ◌++◌, length, length-append, refl, sym, ◌∙◌, ap, subst, arith, inl, inr, ⊎_elim, Option, Some, None, Result, Err, IsOk}
use Rattle.std.specs.Prelude.{IfSome, ⊤}
use Rattle.std.specs.Option.{option_or}
use Rattle.fz_outside.specs.Faults.{HasRisen}
use Rattle.outside_disks.specs.Disks.{Trace, WhereTold}
use Rattle.outside_disks.specs.Stored.{stored_of}
use Rattle.journal_records.specs.declared.records.Outcome.{Outcome}
use Rattle.journal_records.specs.declared.records.Record.{Record}
use Rattle.journal_records.specs.declared.records.Header.{Header}
use Rattle.budget_journal.specs.declared.journal.Journal.{Journal}
use Rattle.budget_journal.specs.Journals.{IsAtRest, disk_of, capacity_of, mark_of}
use Rattle.budget_core.specs.Legal.{MayFollow}
use Rattle.budget_core.specs.Ledger.{Ledger, start_of, IsUnsettled}
use Rattle.budget_core.specs.Sound.{IsSound}
use Rattle.budget_core.proofs.Histories.{legal-history}
use Rattle.budget_core.proofs.Numbers.{open_from-Settle}
use Rattle.budget_ledger.specs.Account.{Failure, Storage, IsKeptNow, IsCopy, IsInUse, HasShut, AreCopies, HasPassed, EachCopyWent, Went, stored_by}
use Rattle.budget_ledger.specs.Booked.{HasGained, IsUnwritten}
use Rattle.budget_ledger.specs.Kept.{IsReadyHalf, MayAppend, disks_in, faults_in, trace_in, copies_in, copy_on, storage_in, account_in, HoldsHalf, HoldsStore, HoldsBook}
use Rattle.budget_ledger.specs.Kept.{HasWritten, HasFailed, HalfWent, HasWrittenBoth, HasWrittenTo, IsUnappendedTo}
use Rattle.budget_ledger.specs.declared.book.AppendFault.{AppendFault}
use Rattle.budget_ledger.specs.declared.book.AppendFault.TheVariants.{Closed, DiskFault}
use Rattle.budget_ledger.specs.declared.halves.Half.{Half}
use Rattle.budget_ledger.specs.declared.halves.Half.TheVariants.{Gone, Kept}
use Rattle.budget_ledger.specs.declared.halves.Store.{Store}
use Rattle.budget_ledger.specs.declared.halves.Store.TheVariants.{One, Two}
use Rattle.budget_ledger.proofs.Wents.{prefix_self, prefix_by, not_both, went_self}
use Rattle.budget_ledger.proofs.Told.{told_added, told_failed}
use Rattle.budget_ledger.proofs.Sides.{same_failure, half_without, half_on, half_in_use, half_out, half_was_out, half_fell}

-- There is room for the settlement of what is unsettled.
pub settlement_fits : (ledger : Ledger) (number : ℕ) (outcome : Outcome) → IsSound ledger → IsUnsettled ledger number → length ledger.records < ledger.entry.capacity
settlement_fits ledger number outcome sound u =
    let history = legal-history ledger.entry ledger.found ledger.records sound.found sound.legal in
    omega (arith, sound.room, open_from-Settle ledger.entry (start_of ledger) ledger.records number outcome 0 history u.ours u.reserved u.unsettled)

module _ {D : Type 0} (trace : D → Option Trace) (faults : D → ℕ) (ledger : Ledger) (header : Header) (next : Record) where
  abbrev more : Ledger
  more = record ledger { records = ledger.records ++ next ∷ [] }

  abbrev Holds : Ledger → Store D → Option Failure → Type 0
  Holds l store closed = HoldsBook trace faults l header store closed

  abbrev shown_by : List Record → Store D → Option Failure → Storage
  shown_by records store closed = storage_in trace faults records header store closed

  -- ---- a book that may be appended to

  half_ready : (half : Half D) → HoldsHalf trace faults header ledger.records None half → length ledger.records < header.capacity → IsReadyHalf half
  half_ready (Gone disk) holds room = tt
  half_ready (Kept side) holds room = record {
    journal = record {
      ready = holds.journal.ready;
      room = λ still. omega (arith, holds.journal.counted still, holds.journal.room, ap (λ (h : Header). h.capacity) holds.copy.header, room);
    };
    counted = λ still. holds.journal.counted still ∙ sym (holds.whole still);
    room = holds.journal.room;
  }

  halves_ready : (first second : Half D) → Holds ledger (Two first second) None → length ledger.records < ledger.entry.capacity → IsReadyHalf first × IsReadyHalf second
  halves_ready first second holds room =
      let low : length ledger.records < header.capacity = omega (arith, holds.book.capacity, room) in
      (half_ready first holds.disks.0 low, half_ready second holds.disks.1 low)

  pub may_append : (store : Store D) (closed : Option Failure) → Holds ledger store closed → (closed ≡ None → length ledger.records < ledger.entry.capacity)
      → MayAppend store closed
  may_append (One journal) closed holds room = record {
    ready = holds.disks.ready;
    room = λ none. omega (arith, holds.disks.counted none, room none, holds.book.capacity, holds.disks.room);
  }
  may_append (Two first second) closed holds room = λ none.
      halves_ready first second (subst (λ (o : Option Failure). Holds ledger (Two first second) o) none holds) (room none)

  half_copy : (records : List Record) (closed : Option Failure) (half : Half D) → HoldsHalf trace faults header records closed half
      → IsCopy header records closed (copy_on trace faults records half)
  half_copy records closed (Gone disk) holds = tt
  half_copy records closed (Kept side) holds = holds.copy

  -- ---- a book with one record more

  grown_book : (old new : Store D) → Holds ledger old None → IsSound more → IfSome (trace_in trace faults new) (IsAtRest header more.records)
      → IfSome (copies_in trace faults more.records new) (AreCopies more.records (shown_by more.records new None))
      → HoldsStore trace faults header more.records new None → Holds more new None
  grown_book old new holds sound kept copies store = record {
    book = record {
      sound = sound;
      budget = holds.book.budget;
      capacity = holds.book.capacity;
      version = holds.book.version;
      kept = kept;
      failed = λ failure closed. absurd (not_both None failure refl closed);
      follows = λ failure closed. absurd (not_both None failure refl closed);
      copies = copies;
    };
    disks = store;
  }

  grown_went : (old new : Store D) → WhereTold (HasPassed header ledger.records more.records None) (trace_in trace faults old) (trace_in trace faults new)
      → faults_in faults new None ≡ faults_in faults old None → EachCopyWent (copies_in trace faults ledger.records old) (copies_in trace faults more.records new)
      → Went ledger.records more.records (shown_by ledger.records old None) (shown_by more.records new None)
  grown_went old new moments still copies = record {
    header = refl;
    begins = prefix_by ledger.records (next ∷ []);
    moments = moments;
    counts = omega (arith, still);
    shut = λ failure closed. absurd (not_both None failure refl closed);
    «open» = λ none. still;
    failed = λ failure none closed. absurd (not_both None failure refl closed);
    copies = copies;
  }

  abbrev Grown : (old new : Store D) → Type 0
  Grown old new = Holds more new None × Went ledger.records more.records (shown_by ledger.records old None) (shown_by more.records new None)

  rest_before : (journal : Journal D) → Holds ledger (One journal) None → IfSome (trace (disk_of journal)) (IsAtRest header ledger.records)
  rest_before journal holds = holds.book.kept

  module _ (room : length ledger.records < ledger.entry.capacity) where
    grown_one : (old new : Journal D) → Holds ledger (One old) None → IsSound more → HasWritten trace faults next old new None None
        → capacity_of new ≡ capacity_of old → Grown (One old) (One new)
    grown_one old new holds sound written capacity =
        let told = told_added header ledger.records next (mark_of old) (mark_of new) (trace (disk_of old)) (trace (disk_of new))
        (omega (arith, holds.disks.counted refl, room, holds.book.capacity, holds.disks.room)) (rest_before old holds) (holds.disks.marked refl) written.appended in (
          grown_book (One old) (One new) holds sound told.0 tt (record {
            room = capacity ∙ holds.disks.room;
            counted = λ none. omega (arith, written.counted, holds.disks.counted refl, length-append ledger.records (next ∷ []));
            marked = λ none. told.2;
            ready = λ none. written.ready;
          }),
          grown_went (One old) (One new) told.1 written.passed tt,
        )

    in_use_by : (first second : Half D) (x y : Result ⊤ (Option Failure)) (first' second' : Half D) → Holds ledger (Two first second) None
        → HalfWent trace faults next first first' x → HalfWent trace faults next second second' y → IsOk x ⊎ IsOk y
        → IsInUse (copy_on trace faults more.records first') ⊎ IsInUse (copy_on trace faults more.records second')
    in_use_by first second x y first' second' holds one two (inl ok) =
        inl (half_in_use trace faults header ledger.records next first first' x holds.disks.0 (halves_ready first second holds room).0 one ok)
    in_use_by first second x y first' second' holds one two (inr ok) =
        inr (half_in_use trace faults header ledger.records next second second' y holds.disks.1 (halves_ready first second holds room).1 two ok)

    grown_two : (first second first' second' : Half D) → Holds ledger (Two first second) None → IsSound more
        → HasWrittenBoth trace faults next first second first' second' None None → Grown (Two first second) (Two first' second')
    grown_two first second first' second' holds sound written =
        let ready = halves_ready first second holds room in
        let one = half_on trace faults header ledger.records next first first' written.on_first holds.disks.0 ready.0 written.first in
        let two = half_on trace faults header ledger.records next second second' written.on_second holds.disks.1 ready.1 written.second in (
          grown_book (Two first second) (Two first' second') holds sound tt (record {
            untold = refl;
            counted = refl;
            first = half_copy more.records None first' one.0;
            second = half_copy more.records None second' two.0;
            in_use = λ none. in_use_by first second written.on_first written.on_second first' second' holds written.first written.second written.written;
            out = λ failure closed. absurd (not_both None failure refl closed);
            shut = λ failure closed. absurd (not_both None failure refl closed);
          }) (one.0, two.0),
          grown_went (Two first second) (Two first' second') tt refl (one.1, two.1),
        )

    grown_store : (old new : Store D) → Holds ledger old None → IsSound more → HasWrittenTo trace faults next old new None None → Grown old new
    grown_store (One old) (One new) holds sound written = grown_one old new holds sound written.0 written.1
    grown_store (One old) (Two first second) holds sound written = absurd written
    grown_store (Two first second) (One new) holds sound written = absurd written
    grown_store (Two first second) (Two first' second') holds sound written = grown_two first second first' second' holds sound written

    -- ---- a book whose append failed

    abbrev Shut : (old new : Store D) → Failure → Type 0
    Shut old new failure = Holds ledger new (Some failure) × Went ledger.records ledger.records (shown_by ledger.records old None) (shown_by ledger.records new (Some failure))
        × (failure ≡ record { failed_at = faults_in faults new (Some failure); pending = next })

    shut_book : (old new : Store D) (failure : Failure) → Holds ledger old None → MayFollow ledger.entry ledger.records next
        → failure ≡ record { failed_at = faults_in faults new (Some failure); pending = next }
        → IfSome (trace_in trace faults new) (IsKeptNow header ledger.records (Some failure))
        → IfSome (copies_in trace faults ledger.records new) (AreCopies ledger.records (shown_by ledger.records new (Some failure)))
        → HoldsStore trace faults header ledger.records new (Some failure) → Holds ledger new (Some failure)
    shut_book old new failure holds may is kept copies store = record {
      book = record {
        sound = holds.book.sound;
        budget = holds.book.budget;
        capacity = holds.book.capacity;
        version = holds.book.version;
        kept = kept;
        failed = λ other closed. subst (λ (f : Failure). f.failed_at ≡ faults_in faults new (Some failure)) (same_failure failure other closed)
            (ap (λ (f : Failure). f.failed_at) is);
        follows = λ other closed. subst (λ (f : Failure). MayFollow ledger.entry ledger.records f.pending) (same_failure failure other closed)
            (subst (MayFollow ledger.entry ledger.records) (sym (ap (λ (f : Failure). f.pending) is)) may);
        copies = copies;
      };
      disks = store;
    }

    shut_went : (old new : Store D) (failure : Failure) → failure ≡ record { failed_at = faults_in faults new (Some failure); pending = next }
        → WhereTold (HasPassed header ledger.records ledger.records (Some failure)) (trace_in trace faults old) (trace_in trace faults new)
        → faults_in faults old None ≤ faults_in faults new (Some failure) → HasRisen (faults_in faults old None) (faults_in faults new (Some failure))
        → EachCopyWent (copies_in trace faults ledger.records old) (copies_in trace faults ledger.records new)
        → Went ledger.records ledger.records (shown_by ledger.records old None) (shown_by ledger.records new (Some failure))
    shut_went old new failure is moments later risen copies = record {
      header = refl;
      begins = prefix_self ledger.records;
      moments = moments;
      counts = later;
      shut = λ other closed. absurd (not_both None other refl closed);
      «open» = λ none. absurd (not_both (Some failure) failure none refl);
      failed = λ other none closed. (
        risen,
        subst (λ (f : Failure). f.failed_at ≡ faults_in faults new (Some failure)) (same_failure failure other closed)
            (ap (λ (f : Failure). f.failed_at) is),
      );
      copies = copies;
    }

    abbrev Closing : (old new : Store D) → Option Failure → Type 0
    Closing old new closed = (failure : Failure) × (closed ≡ Some failure) × Shut old new failure

    shut_one : (old new : Journal D) (closed : Option Failure) → Holds ledger (One old) None → MayFollow ledger.entry ledger.records next
        → HasFailed trace faults next old new None closed → capacity_of new ≡ capacity_of old → Closing (One old) (One new) closed
    shut_one old new closed holds may failed capacity =
        let here : Failure = record { failed_at = faults (disk_of new); pending = next } in
        let told = told_failed header ledger.records next (faults (disk_of new)) (mark_of old) (trace (disk_of old)) (trace (disk_of new))
        (omega (arith, holds.disks.counted refl, room, holds.book.capacity, holds.disks.room)) (rest_before old holds) (holds.disks.marked refl) failed.refused in (
          here,
          failed.closed,
          (
            shut_book (One old) (One new) here holds may refl told.0 tt (record {
              room = capacity ∙ holds.disks.room;
              counted = λ none. absurd (not_both (Some here) here none refl);
              marked = λ none. absurd (not_both (Some here) here none refl);
              ready = λ none. absurd (not_both (Some here) here none refl);
            }),
            shut_went (One old) (One new) here refl told.1 failed.later failed.risen tt,
            refl,
          ),
        )

    -- the failure that closed it, by one of two disks
    shut_by : (first second first' second' : Half D) (x y : Option Failure) (failure : Failure) → Holds ledger (Two first second) None
        → MayFollow ledger.entry ledger.records next → HalfWent trace faults next first first' (Err x) → HalfWent trace faults next second second' (Err y)
        → failure.pending ≡ next → 0 < failure.failed_at
        → HasShut ledger.records failure (copy_on trace faults ledger.records first') ⊎ HasShut ledger.records failure (copy_on trace faults ledger.records second')
        → Shut (Two first second) (Two first' second') failure
    shut_by first second first' second' x y failure holds may went_first went_second pending above by =
        let ready = halves_ready first second holds room in
        let ahead : ledger.records ++ failure.pending ∷ [] ≡ ledger.records ++ next ∷ [] = ap (λ (r : Record). ledger.records ++ r ∷ []) pending in
        let one = half_without trace faults header ledger.records next ledger.records (Some failure) (prefix_self ledger.records) ahead first first' x holds.disks.0 ready.0 went_first in
        let two = half_without trace faults header ledger.records next ledger.records (Some failure) (prefix_self ledger.records) ahead second second' y holds.disks.1 ready.1 went_second in
        let is : failure ≡ record { failed_at = failure.failed_at; pending = next } = λ i. record { failed_at = failure.failed_at; pending = pending i } in (
          shut_book (Two first second) (Two first' second') failure holds may is tt (record {
            untold = refl;
            counted = refl;
            first = half_copy ledger.records (Some failure) first' one.0;
            second = half_copy ledger.records (Some failure) second' two.0;
            in_use = λ none. absurd (not_both (Some failure) failure none refl);
            out = λ other closed. (
              half_out trace faults header ledger.records next ledger.records first first' x went_first,
              half_out trace faults header ledger.records next ledger.records second second' y went_second,
            );
            shut = λ other closed. subst (λ (f : Failure). HasShut ledger.records f (copy_on trace faults ledger.records first')
                ⊎ HasShut ledger.records f (copy_on trace faults ledger.records second')) (same_failure failure other closed) by;
          }) (one.0, two.0),
          shut_went (Two first second) (Two first' second') failure is tt (omega arith) (λ low. above) (one.1, two.1),
          is,
        )

    shut_two : (first second first' second' : Half D) (x y closed : Option Failure) → Holds ledger (Two first second) None
        → MayFollow ledger.entry ledger.records next → HalfWent trace faults next first first' (Err x) → HalfWent trace faults next second second' (Err y)
        → closed ≡ option_or y x → Closing (Two first second) (Two first' second') closed
    shut_two first second first' second' x (Some failure) closed holds may one two is =
        let fell = half_fell trace faults header ledger.records next second second' failure holds.disks.1 (halves_ready first second holds room).1 two in
        (failure, is, shut_by first second first' second' x (Some failure) failure holds may one two fell.0 fell.1 (inr fell.2))
    shut_two first second first' second' (Some failure) None closed holds may one two is =
        let fell = half_fell trace faults header ledger.records next first first' failure holds.disks.0 (halves_ready first second holds room).0 one in
        (failure, is, shut_by first second first' second' (Some failure) None failure holds may one two fell.0 fell.1 (inl fell.2))
    shut_two first second first' second' None None closed holds may one two is =
        absurd (⊎_elim (half_was_out trace faults header ledger.records next first first' one) (half_was_out trace faults header ledger.records next second second' two)
        (holds.book.copies.in_use refl))

    shut_store : (old new : Store D) (closed : Option Failure) → Holds ledger old None → MayFollow ledger.entry ledger.records next
        → IsUnappendedTo trace faults next old new None closed DiskFault → Closing old new closed
    shut_store (One old) (One new) closed holds may (failed, capacity) = shut_one old new closed holds may failed capacity
    shut_store (One old) (Two first second) closed holds may failed = absurd failed
    shut_store (Two first second) (One new) closed holds may failed = absurd failed
    shut_store (Two first second) (Two first' second') closed holds may failed =
        shut_two first second first' second' failed.fell_first failed.fell_second closed holds may failed.first failed.second failed.closed

  -- ---- as the calls have it

  module _ (old new : Store D) (was is : Option Failure) (holds : Holds ledger old was) (room : was ≡ None → length ledger.records < ledger.entry.capacity) where
    module _ (written : HasWrittenTo trace faults next old new was is) where
      opened : (was ≡ None) × (is ≡ None)
      opened = open_by old new written
        where
          open_by : (x y : Store D) → HasWrittenTo trace faults next x y was is → (was ≡ None) × (is ≡ None)
          open_by (One x) (One y) w = (w.0.open_before, w.0.open_after)
          open_by (One x) (Two y z) w = absurd w
          open_by (Two x y) (One z) w = absurd w
          open_by (Two x y) (Two z v) w = (w.open_before, w.open_after)

      grown : IsSound more → Grown old new
      grown sound = grown_store (room opened.0) old new (subst (λ (o : Option Failure). Holds ledger old o) opened.0 holds) sound
          (subst (λ (o : Option Failure). HasWrittenTo trace faults next old new None o) opened.1 (subst (λ (o : Option Failure). HasWrittenTo trace faults next old new o is) opened.0 written))

      pub written_holds : (after : Ledger) → after ≡ record ledger { records = ledger.records ++ next ∷ [] } → IsSound after → Holds after new is
      written_holds after same sound = subst (λ (o : Option Failure). Holds after new o) (sym opened.1)
          (subst (λ (l : Ledger). Holds l new None) (sym same) (grown (subst IsSound same sound)).0)

      pub written_went : (after : Ledger) → after ≡ record ledger { records = ledger.records ++ next ∷ [] } → IsSound after
          → Went ledger.records after.records (shown_by ledger.records old was) (shown_by after.records new is)
      written_went after same sound =
          subst (λ (o : Option Failure). Went ledger.records after.records (shown_by ledger.records old o) (shown_by after.records new is)) (sym opened.0)
          (subst (λ (o : Option Failure). Went ledger.records after.records (shown_by ledger.records old None) (shown_by after.records new o)) (sym opened.1)
          (subst (λ (l : Ledger). Went ledger.records l.records (shown_by ledger.records old None) (shown_by l.records new None)) (sym same) (grown (subst IsSound same sound)).1))

      pub written_added : (after : Ledger) → after ≡ record ledger { records = ledger.records ++ next ∷ [] }
          → HasGained (account_in trace faults ledger header old was) next (account_in trace faults after header new is)
      written_added after same = record { ledger = same; open_before = opened.0; open_after = opened.1 }

    -- a record that wasn't appended
    module _ (may : MayFollow ledger.entry ledger.records next) where
      stays : (n : ℕ) → IsUnappendedTo trace faults next old new was is (Closed n)
          → (failure : Failure) × (was ≡ Some failure) × (n ≡ failure.failed_at) × (new ≡ old) × (is ≡ was)
      stays n stopped = by old new stopped
        where
          by : (x y : Store D) → IsUnappendedTo trace faults next x y was is (Closed n)
              → (failure : Failure) × (was ≡ Some failure) × (n ≡ failure.failed_at) × (y ≡ x) × (is ≡ was)
          by (One x) (One y) ((failure, closed, at, same, still), capacity) = (failure, closed, at, ap One same, still)
          by (One x) (Two y z) w = absurd w
          by (Two x y) (One z) w = absurd w
          by (Two x y) (Two z v) (failure, closed, at, first, second, still) = (failure, closed, at, λ i. Two (first i) (second i), still)

      opened_before : IsUnappendedTo trace faults next old new was is DiskFault → was ≡ None
      opened_before stopped = by old new stopped
        where
          by : (x y : Store D) → IsUnappendedTo trace faults next x y was is DiskFault → was ≡ None
          by (One x) (One y) w = w.0.open_before
          by (One x) (Two y z) w = absurd w
          by (Two x y) (One z) w = absurd w
          by (Two x y) (Two z v) w = w.open_before

      closing : IsUnappendedTo trace faults next old new was is DiskFault → (failure : Failure) × (is ≡ Some failure)
          × (Holds ledger new (Some failure) × Went ledger.records ledger.records (shown_by ledger.records old None) (shown_by ledger.records new (Some failure))
          × (failure ≡ record { failed_at = faults_in faults new (Some failure); pending = next }))
      closing stopped =
          let none = opened_before stopped in
          shut_store (room none) old new is (subst (λ (o : Option Failure). Holds ledger old o) none holds) may
          (subst (λ (o : Option Failure). IsUnappendedTo trace faults next old new o is DiskFault) none stopped)

      pub stopped_holds : (fault : AppendFault) → IsUnappendedTo trace faults next old new was is fault → Holds ledger new is
      stopped_holds (Closed n) stopped =
          let same = stays n stopped in
          subst (λ (o : Option Failure). Holds ledger new o) (sym same.4) (subst (λ (s : Store D). Holds ledger s was) (sym same.3) holds)
      stopped_holds DiskFault stopped =
          let fell = closing stopped in subst (λ (o : Option Failure). Holds ledger new o) (sym fell.1) fell.2.0

      pub stopped_went : (fault : AppendFault) → IsUnappendedTo trace faults next old new was is fault
          → Went ledger.records ledger.records (shown_by ledger.records old was) (shown_by ledger.records new is)
      stopped_went (Closed n) stopped =
          let same = stays n stopped in
          subst (λ (o : Option Failure). Went ledger.records ledger.records (shown_by ledger.records old was) (shown_by ledger.records new o)) (sym same.4)
          (subst (λ (s : Store D). Went ledger.records ledger.records (shown_by ledger.records old was) (shown_by ledger.records s was)) (sym same.3)
          (went_self ledger.records (shown_by ledger.records old was)))
      stopped_went DiskFault stopped =
          let fell = closing stopped in
          subst (λ (o : Option Failure). Went ledger.records ledger.records (shown_by ledger.records old o) (shown_by ledger.records new is)) (sym (opened_before stopped))
          (subst (λ (o : Option Failure). Went ledger.records ledger.records (shown_by ledger.records old None) (shown_by ledger.records new o)) (sym fell.1) fell.2.1)

      pub stopped_unwritten : (fault : AppendFault) → IsUnappendedTo trace faults next old new was is fault
          → IsUnwritten (account_in trace faults ledger header old was) next fault (account_in trace faults ledger header new is)
      stopped_unwritten (Closed n) stopped =
          let same = stays n stopped in
          (same.0, same.1, same.2, ap (λ (s : Store D). account_in trace faults ledger header s is) same.3 ∙ ap (account_in trace faults ledger header old) same.4)
      stopped_unwritten DiskFault stopped =
          let fell = closing stopped in
          record {
            ledger = refl;
            open_before = opened_before stopped;
            closed = fell.1 ∙ ap (λ (f : Failure). Some f) fell.2.2
                ∙ ap (λ (o : Option Failure). Some (record { failed_at = faults_in faults new o; pending = next })) (sym fell.1);
          }

-- ---- what is given back

module _ {D : Type 0} (trace : D → Option Trace) (faults : D → ℕ) where
  pub stored_is : (records : List Record) (header : Header) (store : Store D) (closed : Option Failure)
      → stored_of trace faults (disks_in store) ≡ stored_by (storage_in trace faults records header store closed)
  stored_is records header (One journal) closed = refl
  stored_is records header (Two first second) closed = refl

  pub stored_kept : (ledger : Ledger) (header : Header) (store : Store D) (closed : Option Failure) → HoldsBook trace faults ledger header store closed
      → IfSome (stored_of trace faults (disks_in store)).trace (IsKeptNow header ledger.records closed)
  stored_kept ledger header (One journal) closed holds = holds.book.kept
  stored_kept ledger header (Two first second) closed holds = tt
