-- What two disks that were read make, and the book of it.
use Rattle.std.proofs.Common.{◌≡◌, ◌⊎◌, ℕ, ◌+◌, ◌<◌, ◌≤◌, Bool, true, false, List, [], ◌∷◌, ◌++◌, length, length-append, take, drop, get_or, All, refl, sym, ◌∙◌, ap, subst, arith, inl, inr, Option, Some, None, Result, Ok, Err, min}
use Rattle.std.specs.Prelude.{IfSome, IfOk, IfErr, IsErrAnd, ⊤}
use Rattle.std.proofs.lemmas.List.{take_all, take-append-drop, take-append-le, nil_from_length, append-nil}
use Rattle.std.proofs.lemmas.Bool.{cases_lt}
use Rattle.std.proofs.lemmas.Option.{slice_get-get_or}
use mathlib.Core.List.{IsPrefix}
use Rattle.outside_disks.specs.Disks.{Trace, Shown, WhereTold, seen_of}
use Rattle.journal_records.specs.Encoding.{IsValid}
use Rattle.journal_records.specs.declared.records.Record.{Record}
use Rattle.journal_records.specs.declared.records.Header.{Header}
use Rattle.budget_journal.specs.declared.journal.Journal.{Journal}
use Rattle.budget_journal.specs.declared.opening.OpenFault.TheVariants.{DiskFault}
use Rattle.budget_journal.specs.Journals.{Stands, Found, IsAtRest, disk_of, version_of}
use Rattle.budget_core.specs.Entries.{Entry}
use Rattle.budget_core.specs.Ledger.{Ledger}
use Rattle.budget_core.specs.Sound.{IsSound}
use Rattle.budget_ledger.specs.Account.{Account, IsInUse, IsCopy, HeldWent}
use Rattle.budget_ledger.specs.Both.{IsReading, RefusesBoth, AgreeOnCost, IsFork, Make, MakeNone, AreUnfit, IsBothFault, IsLeft, AreLeft, HaveFailed}
use Rattle.budget_ledger.specs.Both.{twins_of, IsOpenedCopy, IsOpenedBoth}
use Rattle.budget_ledger.specs.Both.Reading.{Missing, Holding}
use Rattle.budget_ledger.specs.Joined.{reading_in, disk_under, half_of, side_of, IsHalfOf, IsWholeHalf, IsRead, IsSight, IsFresh, IsFreshHalf, AreFresh, SideLevelled, HalfLevelled, IsJudged}
use Rattle.budget_ledger.specs.Kept.{HoldsSide, HoldsHalf, HoldsBook, shown_on, held_on, copy_on, disk_in, storage_in, account_in}
use Rattle.budget_ledger.specs.declared.both.BothFault.{BothFault}
use Rattle.budget_ledger.specs.declared.both.BothFault.TheVariants.{Refused}
use Rattle.budget_ledger.specs.declared.both.Sight.{Sight}
use Rattle.budget_ledger.specs.declared.both.Sight.TheVariants as sight
use Rattle.budget_ledger.specs.declared.both.Joined.{Joined}
use Rattle.budget_ledger.specs.declared.halves.Side.{Side}
use Rattle.budget_ledger.specs.declared.halves.Half.{Half}
use Rattle.budget_ledger.specs.declared.halves.Half.TheVariants as half
use Rattle.budget_ledger.specs.declared.halves.Store.TheVariants.{Two}
use Rattle.budget_ledger.proofs.Wents.{prefix_self, not_both, held_self}
use Rattle.budget_ledger.proofs.Opens.{told_rest, told_synced}
use Rattle.budget_ledger.proofs.BothOpens.{first_begins, second_begins}
use Rattle.budget_ledger.proofs.Levelling.{take_next}

-- ---- two lists

-- With one record more on both sides they are still alike.
pub alike_more : (a b : List Record) (k : ℕ) (x y : Record) → take k a ≡ take k b → k < min (length a) (length b) → get_or a k x ≡ get_or b k y
    → take (k + 1) a ≡ take (k + 1) b
alike_more a b k x y same low at =
    take_next a k x (omega (arith, low)) ∙ ap (λ (rs : List Record). rs ++ get_or a k x ∷ []) same ∙ ap (λ (r : Record). take k b ++ r ∷ []) at
    ∙ sym (take_next b k y (omega (arith, low)))

-- Where the next ones differ, it is there that they do.
pub fork_at : (a b : List Record) (k : ℕ) (x y : Record) → take k a ≡ take k b → k < min (length a) (length b) → (get_or a k x ≡ get_or b k y → ⊥) → IsFork a b k
fork_at a b k x y same low other = record {
  within = omega (arith, low);
  beside = omega (arith, low);
  same = same;
  differ = λ is. other (same_some (sym (slice_get-get_or a k x (omega (arith, low))) ∙ is ∙ slice_get-get_or b k y (omega (arith, low))));
}
  where
    same_some : {r q : Record} → Some r ≡ Some q → r ≡ q
    same_some e = cc

front : (a b : List Record) (n : ℕ) → length a ≤ n → take n a ≡ take n b → IsPrefix a b
front a b n long same = (drop n b, ap (λ (rs : List Record). rs ++ drop n b) (sym (take_all n a long) ∙ same) ∙ take-append-drop n b)

-- Where they are alike up to one's length, it begins the other.
pub alike_along : (a b : List Record) (n : ℕ) → min (length a) (length b) ≤ n → take n a ≡ take n b → IsPrefix a b ⊎ IsPrefix b a
alike_along a b n most same = by (cases_lt (length a) (length b))
  where
    by : (length a < length b) ⊎ (length b ≤ length a) → IsPrefix a b ⊎ IsPrefix b a
    by (inl short) = inl (front a b n (omega (arith, short, most)) same)
    by (inr short) = inr (front b a n (omega (arith, short, most)) (sym same))

-- The longer begins with the shorter.
longer_begins : (a b : List Record) → length b ≤ length a → IsPrefix a b ⊎ IsPrefix b a → IsPrefix b a
longer_begins a b long (inr begins) = begins
longer_begins a b long (inl (rest, is)) =
    let none : rest ≡ [] = nil_from_length rest (omega (arith, long, length-append a rest, ap (λ (rs : List Record). length rs) is)) in
    ([], append-nil b ∙ sym is ∙ ap (λ (rs : List Record). a ++ rs) none ∙ append-nil a)

pub makes_longer : (v w : ℕ) (a b : List Record) (version : ℕ) (records : List Record) → AgreeOnCost v w × (IsPrefix a b ⊎ IsPrefix b a)
    → (length b ≤ length a → (version ≡ v) × (records ≡ a)) → (length a < length b → (version ≡ w) × (records ≡ b))
    → Make (Holding v a) (Holding w b) version records
makes_longer v w a b version records (agree, ordered) first second = (agree, by (cases_lt (length a) (length b)))
  where
    swapped : IsPrefix a b ⊎ IsPrefix b a → IsPrefix b a ⊎ IsPrefix a b
    swapped (inl p) = inr p
    swapped (inr p) = inl p

    by : (length a < length b) ⊎ (length b ≤ length a)
        → (IsPrefix b a × (version ≡ v) × (records ≡ a)) ⊎ (IsPrefix a b × (length a < length b) × (version ≡ w) × (records ≡ b))
    by (inl less) = inr (longer_begins b a (omega (arith, less)) (swapped ordered), less, (second less).0, (second less).1)
    by (inr long) = inl (longer_begins a b long ordered, (first long).0, (first long).1)

-- ---- a disk that was read

told_stands : (header : Header) (records : List Record) (old new : Option Trace) → WhereTold (Found header records) old new
    → IfSome old (λ t. Stands header records (seen_of t))
told_stands header records None new found = tt
told_stands header records (Some t) None found = absurd found
told_stands header records (Some t) (Some u) found = subst (Stands header records) (ap seen_of found.0) found.1.stands

module _ {D : Type 0} (trace : D → Option Trace) (faults : D → ℕ) (header : Header) where
  abbrev Shows : D → Shown
  Shows = shown_on trace faults

  pub sight_reads : (disk : D) (s : Sight D) → IsSight trace faults header disk s → IsReading header (Shows disk) (Shows (disk_under s)) (reading_in s)
  sight_reads disk (sight.Gone now empty) is = is.0
  sight_reads disk (sight.Has journal records) is =
      told_stands (record header { version = version_of journal }) records.items (trace disk) (trace (disk_of journal)) is.found
  sight_reads disk (sight.Unfit now fault) is = is.0

  pub sight_left : (disk : D) (s : Sight D) → IsSight trace faults header disk s → IsLeft (Shows disk) (Shows (disk_under s))
  sight_left disk (sight.Gone now empty) is = is.1
  sight_left disk (sight.Has journal records) is = record {
    synced = told_synced (record header { version = version_of journal }) records.items (trace disk) (trace (disk_of journal)) is.found;
    counts = omega (arith, is.passed);
  }
  sight_left disk (sight.Unfit now fault) is = is.1

  -- Where nothing else refuses, both have failed, or one has and the other is empty.
  pub both_failed : (d e : D) (s t : Sight D) → IsSight trace faults header d s → IsSight trace faults header e t
      → MakeNone (reading_in s) (reading_in t) (Refused DiskFault) → HaveFailed (twins_of trace faults d e) (twins_of trace faults (disk_under s) (disk_under t))
  both_failed d e (sight.Unfit now f) t is at none = absurd (subst RefusesBoth (same_fault none) is.0.0)
    where
      same_fault : Refused DiskFault ≡ Refused f → f ≡ DiskFault
      same_fault e = cc
  both_failed d e (sight.Gone now empty) (sight.Unfit other f) is at none = absurd (subst RefusesBoth (same_fault none) at.0.0)
    where
      same_fault : Refused DiskFault ≡ Refused f → f ≡ DiskFault
      same_fault e = cc
  both_failed d e (sight.Has journal records) (sight.Unfit other f) is at none = absurd (subst RefusesBoth (same_fault none) at.0.0)
    where
      same_fault : Refused DiskFault ≡ Refused f → f ≡ DiskFault
      same_fault e = cc
  both_failed d e (sight.Gone now true) (sight.Gone other true) is at none = absurd cc
  both_failed d e (sight.Gone now true) (sight.Gone other false) is at none = inr (inr (is.0, at.0))
  both_failed d e (sight.Gone now false) (sight.Gone other true) is at none = inr (inl (is.0, at.0))
  both_failed d e (sight.Gone now false) (sight.Gone other false) is at none = inl (is.0, at.0)
  both_failed d e (sight.Gone now empty) (sight.Has journal records) is at none = absurd none
  both_failed d e (sight.Has journal records) (sight.Gone other empty) is at none = absurd none
  both_failed d e (sight.Has journal records) (sight.Has other others) is at none = absurd none

  -- ---- a journal that was read

  abbrev side_read : Journal D → (has : ℕ) → Side D
  side_read journal has = record { journal = journal; header = record header { version = version_of journal }; has = has; failure = None }

  module _ (disk : D) (journal : Journal D) (own : List Record) (read : IsRead trace faults header disk journal own) where
    abbrev here : Header
    here = record header { version = version_of journal }

    all_own : take (length own) own ≡ own
    all_own = take_all (length own) own (omega arith)

    holds_own : HoldsSide trace faults here own None (side_read journal (length own))
    holds_own = record {
      copy = record {
        header = refl;
        begins = subst (λ (rs : List Record). IsPrefix rs own) (sym all_own) (prefix_self own);
        whole = λ none. all_own;
        kept = subst (λ (rs : List Record). IfSome (trace (disk_of journal)) (IsAtRest here rs)) (sym all_own) (told_rest here own (trace disk) (trace (disk_of journal)) read.found);
        failed = λ failure closed. absurd (not_both None failure refl closed);
        follows = λ failure closed. absurd (not_both None failure refl closed);
      };
      journal = record { room = read.capacity; counted = λ none. read.counted; marked = λ none. read.marked; ready = λ none. read.ready };
      has = omega arith;
      whole = λ none. refl;
    }

    module _ (records : List Record) (begins : IsPrefix own records) where
      first_ones : take (length own) records ≡ own
      first_ones = ap (take (length own)) (sym begins.1) ∙ take-append-le (length own) own begins.0 (omega arith) ∙ all_own

      no_longer : length own ≤ length records
      no_longer = omega (arith, length-append own begins.0, ap (λ (rs : List Record). length rs) begins.1)

      pub fresh_read : length records ≤ header.capacity → IsFresh trace faults records (side_read journal (length own))
      fresh_read room = record {
        unfailed = refl;
        holds = subst (λ (rs : List Record). HoldsSide trace faults here rs None (side_read journal (length own))) (sym first_ones) holds_own;
        short = no_longer;
        room = omega (arith, room, read.capacity);
      }

      -- and where it stands in a book that was just opened
      opened_read : (new : Half D) → HalfLevelled trace faults records (side_of header journal (length own)) new
          → IsOpenedCopy header (Shows disk) (Holding (version_of journal) own) (copy_on trace faults records new)
      opened_read (half.Gone other) went = absurd went
      opened_read (half.Kept side) went = (
        trace (disk_of journal),
        read.found,
        subst (λ (n : ℕ). HeldWent (record { trace = trace (disk_of journal); faults = n }) (Shows (disk_of side.journal)) (record { header = here; has = own; closed = None })
            (held_on trace faults records side)) read.passed
            (subst (λ (rs : List Record). HeldWent (Shows (disk_of journal)) (Shows (disk_of side.journal)) (record { header = here; has = rs; closed = None })
            (held_on trace faults records side)) (ap (take (length own)) first_ones ∙ all_own) went),
      )

  -- ---- two disks that were read

  -- It isn't what refuses both, and where it has records they begin these.
  abbrev Begins : List Record → Sight D → Type 0
  Begins records (sight.Gone now empty) = ⊤
  Begins records (sight.Has journal own) = IsPrefix own.items records
  Begins records (sight.Unfit now fault) = ⊥

  begin_both : (s t : Sight D) (version : ℕ) (records : List Record) → Make (reading_in s) (reading_in t) version records → Begins records s × Begins records t
  begin_both (sight.Gone now empty) (sight.Gone other also) version records made = absurd made
  begin_both (sight.Gone now empty) (sight.Has journal own) version records made = (tt, second_begins (version_of journal) own.items (Missing empty) version records made)
  begin_both (sight.Gone now empty) (sight.Unfit other fault) version records made = absurd made
  begin_both (sight.Has journal own) (sight.Gone other empty) version records made = (first_begins (version_of journal) own.items (Missing empty) version records made, tt)
  begin_both (sight.Has journal own) (sight.Has k others) version records made = (
    first_begins (version_of journal) own.items (Holding (version_of k) others.items) version records made,
    second_begins (version_of k) others.items (Holding (version_of journal) own.items) version records made,
  )
  begin_both (sight.Has journal own) (sight.Unfit other fault) version records made = absurd made
  begin_both (sight.Unfit now fault) t version records made = absurd made

  fresh_half : (disk : D) (s : Sight D) (records : List Record) → IsSight trace faults header disk s → Begins records s → length records ≤ header.capacity
      → IsFreshHalf trace faults records (half_of header s)
  fresh_half disk (sight.Gone now empty) records is begins room = tt
  fresh_half disk (sight.Has journal own) records is begins room = fresh_read disk journal own.items is records begins room
  fresh_half disk (sight.Unfit now fault) records is begins room = absurd begins

  of_header : (s : Sight D) → IsHalfOf header (half_of header s)
  of_header (sight.Gone now empty) = tt
  of_header (sight.Has journal own) = refl
  of_header (sight.Unfit now fault) = tt

  -- What two disks make is what one of them has.
  abbrev HasAll : List Record → Sight D → Type 0
  HasAll records (sight.Has journal own) = records ≡ own.items
  HasAll records (sight.Gone now empty) = ⊥
  HasAll records (sight.Unfit now fault) = ⊥

  one_has : (s t : Sight D) (version : ℕ) (records : List Record) → Make (reading_in s) (reading_in t) version records → HasAll records s ⊎ HasAll records t
  one_has (sight.Gone now empty) (sight.Gone other also) version records made = absurd made
  one_has (sight.Gone now empty) (sight.Has journal own) version records made = inr made.1
  one_has (sight.Gone now empty) (sight.Unfit other fault) version records made = absurd made
  one_has (sight.Has journal own) (sight.Gone other empty) version records made = inl made.1
  one_has (sight.Has journal own) (sight.Has k others) version records (agree, inl (begins, is, are)) = inl are
  one_has (sight.Has journal own) (sight.Has k others) version records (agree, inr (begins, less, is, are)) = inr are
  one_has (sight.Has journal own) (sight.Unfit other fault) version records made = absurd made
  one_has (sight.Unfit now fault) t version records made = absurd made

  abbrev Good : List Record → Sight D → Type 0
  Good records s = IsWholeHalf records (half_of header s) × (length records ≤ header.capacity) × All IsValid records

  good_one : (disk : D) (s : Sight D) (records : List Record) → IsSight trace faults header disk s → HasAll records s → Good records s
  good_one disk (sight.Has journal own) records is are =
      ((ap (λ (rs : List Record). length rs) (sym are), refl), omega (arith, is.room, ap (λ (rs : List Record). length rs) are), subst (All IsValid) (sym are) is.valid)
  good_one disk (sight.Gone now empty) records is are = absurd are
  good_one disk (sight.Unfit now fault) records is are = absurd are

  pub fresh_both : (d e : D) (s t : Sight D) (joined : Joined D) → IsSight trace faults header d s → IsSight trace faults header e t
      → Make (reading_in s) (reading_in t) joined.version joined.records.items → joined.first ≡ half_of header s → joined.second ≡ half_of header t
      → AreFresh trace faults header joined
  fresh_both d e s t joined is at made first second = by (one_has s t joined.version joined.records.items made)
    where
      with : IsWholeHalf joined.records.items joined.first ⊎ IsWholeHalf joined.records.items joined.second → length joined.records.items ≤ header.capacity → All IsValid joined.records.items → AreFresh trace faults header joined
      with whole room valid =
          let begins = begin_both s t joined.version joined.records.items made in record {
            first = subst (IsFreshHalf trace faults joined.records.items) (sym first) (fresh_half d s joined.records.items is begins.0 room);
            second = subst (IsFreshHalf trace faults joined.records.items) (sym second) (fresh_half e t joined.records.items at begins.1 room);
            of_first = subst (IsHalfOf header) (sym first) (of_header s);
            of_second = subst (IsHalfOf header) (sym second) (of_header t);
            whole = whole;
            room = room;
            valid = valid;
          }

      by : HasAll joined.records.items s ⊎ HasAll joined.records.items t → AreFresh trace faults header joined
      by (inl all) = let good = good_one d s joined.records.items is all in with (inl (subst (IsWholeHalf joined.records.items) (sym first) good.0)) good.1 good.2
      by (inr all) = let good = good_one e t joined.records.items at all in with (inr (subst (IsWholeHalf joined.records.items) (sym second) good.0)) good.1 good.2

  -- ---- the book

  opened_half : (disk : D) (s : Sight D) (records : List Record) (new : Half D) → IsSight trace faults header disk s → Begins records s
      → HalfLevelled trace faults records (half_of header s) new → IsOpenedCopy header (Shows disk) (reading_in s) (copy_on trace faults records new)
  opened_half disk (sight.Gone now empty) records (half.Gone still) is begins went =
      subst (λ (d : D). IsOpenedCopy header (Shows disk) (Missing empty) (copy_on trace faults records (half.Gone d))) (sym went) (gone empty is.0 is.1)
    where
      gone : (empty : Bool) → IsReading header (Shows disk) (Shows now) (Missing empty) → IsLeft (Shows disk) (Shows now)
          → IsOpenedCopy header (Shows disk) (Missing empty) (copy_on trace faults records (half.Gone now))
      gone true is left = (refl, is, left)
      gone false is left = (refl, is, left)
  opened_half disk (sight.Gone now empty) records (half.Kept side) is begins went = absurd went
  opened_half disk (sight.Has journal own) records new is begins went = opened_read disk journal own.items is records begins new went
  opened_half disk (sight.Unfit now fault) records new is begins went = absurd begins

  pub opened_both : (entry : Entry) (d e : D) (s t : Sight D) (joined : Joined D) (book : Account) → IsSight trace faults header d s → IsSight trace faults header e t
      → Make (reading_in s) (reading_in t) joined.version joined.records.items → joined.first ≡ half_of header s → joined.second ≡ half_of header t
      → IsJudged trace faults entry header joined book → IsOpenedBoth entry header (twins_of trace faults d e) book
  opened_both entry d e s t joined book is at made first second judged =
      let begins = begin_both s t joined.version joined.records.items made in
      let version : book.storage.header.version ≡ joined.version = ap (λ x. x.header.version) judged.storage in
      let found : book.ledger.found ≡ joined.records.items = ap (λ (l : Ledger). l.found) judged.ledger in
      record {
        first = reading_in s;
        second = reading_in t;
        copies = record { first = copy_on trace faults joined.records.items judged.first; second = copy_on trace faults joined.records.items judged.second };
        made = subst (λ (v : ℕ). Make (reading_in s) (reading_in t) v book.ledger.found) (sym version)
            (subst (λ (rs : List Record). Make (reading_in s) (reading_in t) joined.version rs) (sym found) made);
        ledger = judged.ledger ∙ ap (λ (v : ℕ). record { entry = record entry { version = v }; found = joined.records.items; records = joined.records.items }) (sym version)
            ∙ ap (λ (rs : List Record). record { entry = record entry { version = book.storage.header.version }; found = rs; records = rs }) (sym found);
        storage = judged.storage ∙ ap (λ (v : ℕ). storage_in trace faults joined.records.items (record header { version = v }) (Two judged.first judged.second) None) (sym version);
        on_first = opened_half d s joined.records.items judged.first is begins.0 (subst (λ (h : Half D). HalfLevelled trace faults joined.records.items h judged.first) first judged.went_first);
        on_second = opened_half e t joined.records.items judged.second at begins.1 (subst (λ (h : Half D). HalfLevelled trace faults joined.records.items h judged.second) second judged.went_second);
      }

  disk_in_half : (s : Sight D) → disk_in (half_of header s) ≡ disk_under s
  disk_in_half (sight.Gone now empty) = refl
  disk_in_half (sight.Has journal own) = refl
  disk_in_half (sight.Unfit now fault) = refl

  pub disk_of_half : (h : Half D) (s : Sight D) → h ≡ half_of header s → (d : D) → d ≡ disk_in h → d ≡ disk_under s
  disk_of_half h s is d at = at ∙ ap disk_in is ∙ disk_in_half s

  -- a refusal, of two disks that were read
  module _ (entry : Entry) (d e : D) (s t : Sight D) (is : IsSight trace faults header d s) (at : IsSight trace faults header e t) (one other : D)
      (first : one ≡ disk_under s) (second : other ≡ disk_under t) (fault : BothFault) where
    pub both_left : AreLeft (twins_of trace faults d e) (twins_of trace faults one other)
    both_left = (
      subst (λ (x : D). IsLeft (Shows d) (Shows x)) (sym first) (sight_left d s is),
      subst (λ (x : D). IsLeft (Shows e) (Shows x)) (sym second) (sight_left e t at),
    )

    pub both_refused : MakeNone (reading_in s) (reading_in t) fault
        ⊎ ((version : ℕ) × (records : List Record) × Make (reading_in s) (reading_in t) version records × AreUnfit (record entry { version = version }) records fault)
        → IsBothFault entry header (twins_of trace faults d e) (twins_of trace faults one other) fault
    both_refused why = record {
      first = reading_in s;
      second = reading_in t;
      on_first = subst (λ (x : D). IsReading header (Shows d) (Shows x) (reading_in s)) (sym first) (sight_reads d s is);
      on_second = subst (λ (x : D). IsReading header (Shows e) (Shows x) (reading_in t)) (sym second) (sight_reads e t at);
      refused = why;
    }

    pub both_cause : MakeNone (reading_in s) (reading_in t) fault → fault ≡ Refused DiskFault
        → HaveFailed (twins_of trace faults d e) (twins_of trace faults one other)
    both_cause none failed =
        subst (λ (x : D). HaveFailed (twins_of trace faults d e) (twins_of trace faults x other)) (sym first)
        (subst (λ (y : D). HaveFailed (twins_of trace faults d e) (twins_of trace faults (disk_under s) y)) (sym second)
        (both_failed d e s t is at (subst (MakeNone (reading_in s) (reading_in t)) failed none)))

  -- two that make none
  module _ {B : Type 0} (entry : Entry) (d e : D) (s t : Sight D) (is : IsSight trace faults header d s) (at : IsSight trace faults header e t)
      (r : Result B (D × D × BothFault)) (x : D × D × BothFault) (disks : (x.0 ≡ disk_under s) × (x.1 ≡ disk_under t)) where
    pub none_refused : IsErrAnd r (λ y. y ≡ x) → MakeNone (reading_in s) (reading_in t) x.2
        → IfErr r (λ refused. IsBothFault entry header (twins_of trace faults d e) (twins_of trace faults refused.0 refused.1) refused.2)
    none_refused same none = by r same
      where
        by : (q : Result B (D × D × BothFault)) → IsErrAnd q (λ y. y ≡ x)
            → IfErr q (λ refused. IsBothFault entry header (twins_of trace faults d e) (twins_of trace faults refused.0 refused.1) refused.2)
        by (Ok book) wrong = tt
        by (Err y) at_x = subst (λ (z : D × D × BothFault). IsBothFault entry header (twins_of trace faults d e) (twins_of trace faults z.0 z.1) z.2) (sym at_x)
            (both_refused entry d e s t is at x.0 x.1 disks.0 disks.1 x.2 (inl none))

    pub none_left : IsErrAnd r (λ y. y ≡ x) → IfErr r (λ refused. AreLeft (twins_of trace faults d e) (twins_of trace faults refused.0 refused.1))
    none_left same = by r same
      where
        by : (q : Result B (D × D × BothFault)) → IsErrAnd q (λ y. y ≡ x) → IfErr q (λ refused. AreLeft (twins_of trace faults d e) (twins_of trace faults refused.0 refused.1))
        by (Ok book) wrong = tt
        by (Err y) at_x = subst (λ (z : D × D × BothFault). AreLeft (twins_of trace faults d e) (twins_of trace faults z.0 z.1)) (sym at_x)
            (both_left entry d e s t is at x.0 x.1 disks.0 disks.1 x.2)

  -- what was judged
  module _ (entry : Entry) (d e : D) (s t : Sight D) (joined : Joined D) (is : IsSight trace faults header d s) (at : IsSight trace faults header e t)
      (made : Make (reading_in s) (reading_in t) joined.version joined.records.items) (first : joined.first ≡ half_of header s) (second : joined.second ≡ half_of header t) where
    abbrev Unfits : BothFault → Type 0
    Unfits fault = AreUnfit (record entry { version = joined.version }) joined.records.items fault

    pub judged_opened : {E : Type 0} (r : Result Account E) → IfOk r (IsJudged trace faults entry header joined) → IfOk r (IsOpenedBoth entry header (twins_of trace faults d e))
    judged_opened (Ok book) judged = opened_both entry d e s t joined book is at made first second judged
    judged_opened (Err refused) judged = tt

    pub judged_refused : {B : Type 0} (r : Result B (D × D × BothFault)) → IfErr r (λ refused. Unfits refused.2)
        → IfErr r (λ refused. (refused.0 ≡ disk_in joined.first) × (refused.1 ≡ disk_in joined.second))
        → IfErr r (λ refused. IsBothFault entry header (twins_of trace faults d e) (twins_of trace faults refused.0 refused.1) refused.2)
    judged_refused (Ok book) unfit disks = tt
    judged_refused (Err refused) unfit disks = both_refused entry d e s t is at refused.0 refused.1
        (disk_of_half joined.first s first refused.0 disks.0) (disk_of_half joined.second t second refused.1 disks.1) refused.2
        (inr (joined.version, joined.records.items, made, unfit))

    pub judged_left : {B : Type 0} (r : Result B (D × D × BothFault))
        → IfErr r (λ refused. (refused.0 ≡ disk_in joined.first) × (refused.1 ≡ disk_in joined.second))
        → IfErr r (λ refused. AreLeft (twins_of trace faults d e) (twins_of trace faults refused.0 refused.1))
    judged_left (Ok book) disks = tt
    judged_left (Err refused) disks = both_left entry d e s t is at refused.0 refused.1
        (disk_of_half joined.first s first refused.0 disks.0) (disk_of_half joined.second t second refused.1 disks.1) refused.2

    pub judged_cause : {B : Type 0} (r : Result B (D × D × BothFault)) → IfErr r (λ refused. Unfits refused.2)
        → IfErr r (λ refused. refused.2 ≡ Refused DiskFault → HaveFailed (twins_of trace faults d e) (twins_of trace faults refused.0 refused.1))
    judged_cause (Ok book) unfit = tt
    judged_cause (Err refused) unfit = λ failed. absurd (subst Unfits failed unfit)

  -- ---- a half that gets what it lacks

  whole_use : (records : List Record) (h : Half D) → IsWholeHalf records h → IsInUse (copy_on trace faults records h)
  whole_use records (half.Gone disk) whole = absurd whole
  whole_use records (half.Kept side) whole = (held_on trace faults records side, refl, whole.1)

  half_copy : (common : Header) (records : List Record) (h : Half D) → HoldsHalf trace faults common records None h → IsCopy common records None (copy_on trace faults records h)
  half_copy common records (half.Gone disk) holds = tt
  half_copy common records (half.Kept side) holds = holds.copy

  pub of_version : (version : ℕ) (h : Half D) → IsHalfOf header h → IsHalfOf (record header { version = version }) h
  of_version version (half.Gone disk) of = tt
  of_version version (half.Kept side) of = of

  pub book_of_two : (entry : Entry) (version : ℕ) (ledger : Ledger) (first second : Half D) → ledger.entry ≡ record entry { version = version }
      → header.budget ≡ entry.budget → header.capacity ≡ entry.capacity → IsSound ledger
      → HoldsHalf trace faults (record header { version = version }) ledger.records None first
      → HoldsHalf trace faults (record header { version = version }) ledger.records None second
      → IsWholeHalf ledger.records first ⊎ IsWholeHalf ledger.records second
      → HoldsBook trace faults ledger (record header { version = version }) (Two first second) None
  book_of_two entry version ledger first second of budget capacity sound on_first on_second whole = record {
    book = record {
      sound = sound;
      budget = budget ∙ ap (λ (x : Entry). x.budget) (sym of);
      capacity = capacity ∙ ap (λ (x : Entry). x.capacity) (sym of);
      version = ap (λ (x : Entry). x.version) (sym of);
      kept = tt;
      failed = λ failure closed. absurd (not_both None failure refl closed);
      follows = λ failure closed. absurd (not_both None failure refl closed);
      copies = record {
        untold = refl;
        counted = refl;
        first = half_copy (record header { version = version }) ledger.records first on_first;
        second = half_copy (record header { version = version }) ledger.records second on_second;
        in_use = λ none. in_use whole;
        out = λ failure closed. absurd (not_both None failure refl closed);
        shut = λ failure closed. absurd (not_both None failure refl closed);
      };
    };
    disks = (on_first, on_second);
  }
    where
      in_use : IsWholeHalf ledger.records first ⊎ IsWholeHalf ledger.records second
          → IsInUse (copy_on trace faults ledger.records first) ⊎ IsInUse (copy_on trace faults ledger.records second)
      in_use (inl all) = inl (whole_use ledger.records first all)
      in_use (inr all) = inr (whole_use ledger.records second all)

  -- ---- a journal that gets what it lacks

  -- one that lacks nothing
  pub lacks_nothing : (records : List Record) (side : Side D) → IsFresh trace faults records side → length records ≤ side.has
      → HoldsSide trace faults side.header records None side × SideLevelled trace faults records side side
  lacks_nothing records side fresh whole =
      let all : take side.has records ≡ records = take_all side.has records whole in (
        subst (λ (rs : List Record). HoldsSide trace faults side.header rs None side) all fresh.holds,
        subst (λ (rs : List Record). HeldWent (Shows (disk_of side.journal)) (Shows (disk_of side.journal)) (held_on trace faults rs side) (held_on trace faults records side))
            (sym all) (held_self (Shows (disk_of side.journal)) (held_on trace faults records side)),
      )

  -- under the header of the book
  pub holds_levelled : (common : Header) (records : List Record) (old new : Side D) → old.header ≡ record common { version = old.header.version }
      → HoldsSide trace faults old.header records None new → SideLevelled trace faults records old new → HoldsSide trace faults common records None new
  holds_levelled common records old new of holds went = record {
    copy = record {
      header = went.header ∙ of ∙ ap (λ (h : Header). record common { version = h.version }) (sym went.header);
      begins = holds.copy.begins;
      whole = holds.copy.whole;
      kept = holds.copy.kept;
      failed = holds.copy.failed;
      follows = holds.copy.follows;
    };
    journal = holds.journal;
    has = holds.has;
    whole = holds.whole;
  }

  -- ---- the book of what two disks make

  pub found_as : (entry e : Entry) (joined : Joined D) (ledger : Ledger) → ledger ≡ record { entry = e; found = joined.records.items; records = joined.records.items }
      → e ≡ record entry { version = joined.version }
      → ledger ≡ record { entry = record entry { version = joined.version }; found = joined.records.items; records = joined.records.items }
  found_as entry e joined ledger is of = is ∙ ap (λ (x : Entry). record { entry = x; found = joined.records.items; records = joined.records.items }) of

  module _ (entry : Entry) (joined : Joined D) (ledger : Ledger) (first second : Half D)
      (is : ledger ≡ record { entry = record entry { version = joined.version }; found = joined.records.items; records = joined.records.items }) where
    same_records : ledger.records ≡ joined.records.items
    same_records = ap (λ (l : Ledger). l.records) is

    pub judged_by : HalfLevelled trace faults ledger.records joined.first first → HalfLevelled trace faults ledger.records joined.second second
        → IsJudged trace faults entry header joined (account_in trace faults ledger (record header { version = joined.version }) (Two first second) None)
    judged_by on_first on_second = record {
      first = first;
      second = second;
      ledger = is;
      storage = ap (λ (rs : List Record). storage_in trace faults rs (record header { version = joined.version }) (Two first second) None) same_records;
      went_first = subst (λ (rs : List Record). HalfLevelled trace faults rs joined.first first) same_records on_first;
      went_second = subst (λ (rs : List Record). HalfLevelled trace faults rs joined.second second) same_records on_second;
    }

    pub book_by : AreFresh trace faults header joined → header.budget ≡ entry.budget → header.capacity ≡ entry.capacity → IsSound ledger
        → ((common : Header) → IsHalfOf common joined.first → HoldsHalf trace faults common ledger.records None first)
        → ((common : Header) → IsHalfOf common joined.second → HoldsHalf trace faults common ledger.records None second)
        → (IsWholeHalf ledger.records joined.first → first ≡ joined.first) → (IsWholeHalf ledger.records joined.second → second ≡ joined.second)
        → HoldsBook trace faults ledger (record header { version = joined.version }) (Two first second) None
    book_by fresh budget capacity sound on_first on_second whole_first whole_second =
        book_of_two entry joined.version ledger first second (ap (λ (l : Ledger). l.entry) is) budget capacity sound
        (on_first (record header { version = joined.version }) (of_version joined.version joined.first fresh.of_first))
        (on_second (record header { version = joined.version }) (of_version joined.version joined.second fresh.of_second)) (whole fresh.whole)
      where
        stays : (old new : Half D) → (IsWholeHalf ledger.records old → new ≡ old) → IsWholeHalf joined.records.items old → IsWholeHalf ledger.records new
        stays old new same all =
            let here : IsWholeHalf ledger.records old = subst (λ (rs : List Record). IsWholeHalf rs old) (sym same_records) all in
            subst (IsWholeHalf ledger.records) (sym (same here)) here

        whole : IsWholeHalf joined.records.items joined.first ⊎ IsWholeHalf joined.records.items joined.second
            → IsWholeHalf ledger.records first ⊎ IsWholeHalf ledger.records second
        whole (inl all) = inl (stays joined.first first whole_first all)
        whole (inr all) = inr (stays joined.second second whole_second all)
