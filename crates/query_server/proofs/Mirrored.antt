-- an owner's two disks through a run
use Rattle.std.proofs.Common.{◌≡◌, ℕ, List, [], true, false, Option, Some, None, refl, sym, ◌∙◌, ap, subst, arith}
use mathlib.Core.Logic.{◌⊎◌, inl, inr}
use Rattle.fz_outside.specs.Faults.{HasRisen}
use Rattle.outside_disks.specs.Disks.{Shown}
use Rattle.outside_disks.specs.Stored.{ATwinRose, HasCountRisen, Stored, Twins}
use Rattle.journal_records.specs.declared.records.Header.{Header}
use Rattle.journal_records.specs.declared.records.Record.{Record}
use Rattle.budget_core.specs.Entries.{Entry}
use Rattle.budget_ledger.specs.Account.{Account, AreCopies, Copies, Copy, CopyWent, CopyWentBy, HasShut, Held, HeldWent, IsCopy, IsInUse, Storage}
use Rattle.budget_ledger.specs.Both.{HaveFailed, HoldsBytes, IsLeft, IsOpenedBoth, IsOpenedCopy, IsReading, Make, Reading, copy_read}
use Rattle.budget_ledger.specs.Both.Reading.{Missing, Holding, Unfit}
use Rattle.budget_ledger.specs.declared.failure.Failure.{Failure}
use Rattle.budget_ledger.proofs.Wents.{held_then}
use Rattle.owner_books.specs.Shelves.{AreGone, AreLost}
use Rattle.query_server.specs.Mirrors.{BothWentOn, storage_on}

-- ---- one of two

-- a disk that was gone stays as it is
pub gone_stays : (before after : Shown) (was is : Option Held) → CopyWentBy before after was is → was ≡ None → (after ≡ before) × (is ≡ None)
gone_stays before after None None went none = (went, refl)
gone_stays before after None (Some h) went none = absurd went
gone_stays before after (Some h) is went none = cc

-- and one that has a journal goes on
pub held_on : (before after : Shown) (was : Held) (is : Option Held) (now : Held) → CopyWentBy before after (Some was) is → is ≡ Some now → HeldWent before after was now
held_on before after was (Some h) now went same = let one : h ≡ now = cc same in subst (λ (x : Held). HeldWent before after was x) one went
held_on before after was None now went same = absurd went

copy_then : (a b c : Shown) (x y z : Option Held) → CopyWentBy a b x y → CopyWentBy b c y z → CopyWentBy a c x z
copy_then a b c None None None p q = q ∙ p
copy_then a b c None None (Some z) p q = absurd q
copy_then a b c None (Some y) z p q = absurd p
copy_then a b c (Some x) None z p q = absurd p
copy_then a b c (Some x) (Some y) None p q = absurd q
copy_then a b c (Some x) (Some y) (Some z) p q = held_then a b c x y z p q

-- what was found on it, and how it went on from there
pub copy_on : (header : Header) (before : Shown) (reading : Reading) (opened later : Copy) → IsOpenedCopy header before reading opened → CopyWent opened later → IsOpenedCopy header before reading later
copy_on header before (Missing empty) opened later (none, gone, left) went =
    let stays = gone_stays opened.shown later.shown opened.held later.held went none in (
      stays.1,
      subst (λ (s : Shown). IsReading header before s (Missing empty)) (sym stays.0) gone,
      subst (IsLeft before) (sym stays.0) left,
    )
copy_on header before (Holding version records) opened later (read, found, first) went = (
  read,
  found,
  copy_then (record { trace = read; faults = before.faults }) opened.shown later.shown
      (copy_read header (record { trace = read; faults = before.faults }) version records).held opened.held later.held first went,
)
copy_on header before (Unfit fault) opened later wrong went = absurd wrong

-- where an append to it failed, its count rose
pub copy_risen : (header : Header) (before : Shown) (reading : Reading) (copy : Copy) → IsOpenedCopy header before reading copy → (held : Held) (failure : Failure) → copy.held ≡ Some held → held.closed ≡ Some failure
    → HasRisen before.faults copy.shown.faults
copy_risen header before (Missing empty) copy (none, gone, left) held failure is closed = let both : None ≡ Some held = sym none ∙ is in cc both
copy_risen header before (Holding version records) copy (read, found, went) held failure is closed =
    ((held_on (record { trace = read; faults = before.faults }) copy.shown (record { header = record header { version = version }; has = records; closed = None }) copy.held held went is).failed failure refl closed).0
copy_risen header before (Unfit fault) copy wrong held failure is closed = absurd wrong

-- where it isn't in use, its count rose or it was empty
copy_out : (header : Header) (before : Shown) (reading : Reading) (copy : Copy) → IsOpenedCopy header before reading copy → (IsInUse copy → ⊥) → HasRisen before.faults copy.shown.faults ⊎ HoldsBytes (λ bytes. bytes ≡ []) before
copy_out header before (Missing true) copy (none, gone, left) out = inr gone
copy_out header before (Missing false) copy (none, gone, left) out = inl gone
copy_out header before (Holding version records) copy opened out = held_out copy.held refl opened.2
  where
    held_out : (some : Option Held) → copy.held ≡ some → CopyWentBy (record { trace = opened.0; faults = before.faults }) copy.shown (copy_read header (record { trace = opened.0; faults = before.faults }) version records).held some
        → HasRisen before.faults copy.shown.faults ⊎ HoldsBytes (λ bytes. bytes ≡ []) before
    held_out None is went = absurd went
    held_out (Some held) is went = here held.closed refl
      where
        here : (closed : Option Failure) → held.closed ≡ closed → HasRisen before.faults copy.shown.faults ⊎ HoldsBytes (λ bytes. bytes ≡ []) before
        here None unclosed = absurd (out (held, is, unclosed))
        here (Some failure) shut = inl (copy_risen header before (Holding version records) copy opened held failure is shut)
copy_out header before (Unfit fault) copy wrong out = absurd wrong

-- ---- both

module _ (header : Header) (found records : List Record) (before : Twins) (storage : Storage) (copies : Copies) (first second : Reading) (on_first : IsOpenedCopy header before.first first copies.first) (on_second : IsOpenedCopy header before.second second copies.second)
    (kept : AreCopies records storage copies) where
  abbrev now : Twins
  now = record { first = copies.first.shown; second = copies.second.shown }

  -- Where the book was closed none is left.
  pub none_left : (failure : Failure) → storage.closed ≡ Some failure → HaveFailed before now
  none_left failure shut = here (kept.shut failure shut)
    where
      out : (IsInUse copies.first → ⊥) × (IsInUse copies.second → ⊥)
      out = kept.out failure shut

      with_first : HasRisen before.first.faults now.first.faults → HasRisen before.second.faults now.second.faults ⊎ HoldsBytes (λ bytes. bytes ≡ []) before.second → HaveFailed before now
      with_first rose (inl also) = inl (rose, also)
      with_first rose (inr empty) = inr (inl (rose, empty))

      with_second : HasRisen before.first.faults now.first.faults ⊎ HoldsBytes (λ bytes. bytes ≡ []) before.first → HasRisen before.second.faults now.second.faults → HaveFailed before now
      with_second (inl also) rose = inl (also, rose)
      with_second (inr empty) rose = inr (inr (empty, rose))

      here : HasShut records failure copies.first ⊎ HasShut records failure copies.second → HaveFailed before now
      here (inl (held, is, closed, all)) = with_first (copy_risen header before.first first copies.first on_first held failure is closed) (copy_out header before.second second copies.second on_second out.1)
      here (inr (held, is, closed, all)) = with_second (copy_out header before.first first copies.first on_first out.0) (copy_risen header before.second second copies.second on_second held failure is closed)

  -- So it is told of the two.
  pub both_on : Make first second header.version found → storage.header ≡ header → BothWentOn header found records storage.closed before now
  both_on made same = record {
    first = first;
    second = second;
    made = made;
    copies = copies;
    on_first = on_first;
    on_second = on_second;
    kept = record {
      untold = refl;
      counted = refl;
      first = subst (λ (h : Header). IsCopy h records storage.closed copies.first) same kept.first;
      second = subst (λ (h : Header). IsCopy h records storage.closed copies.second) same kept.second;
      in_use = kept.in_use;
      out = kept.out;
      shut = kept.shut;
    };
    shown = refl;
  }

-- of a book that was opened on both, and what it became
pub both_went : (entry : Entry) (header : Header) (before : Twins) (opened later : Account) (had now : Copies) → IsOpenedBoth entry header before opened → opened.storage.header ≡ header → opened.storage.copies ≡ Some had
    → CopyWent had.first now.first → CopyWent had.second now.second → later.storage.header ≡ header → AreCopies later.ledger.records later.storage now
    → BothWentOn header opened.ledger.found later.ledger.records later.storage.closed before (record { first = now.first.shown; second = now.second.shown })
both_went entry header before opened later had now on of_header are first second same kept =
    let its : had ≡ on.copies = let e : Some had ≡ Some on.copies = sym are ∙ ap (λ (s : Storage). s.copies) on.storage in cc e in
    let at_first = subst (λ (c : Copies). CopyWent c.first now.first) its first in
    let at_second = subst (λ (c : Copies). CopyWent c.second now.second) its second in
    both_on header opened.ledger.found later.ledger.records before later.storage now on.first on.second
    (copy_on header before.first on.first on.copies.first now.first on.on_first at_first)
    (copy_on header before.second on.second on.copies.second now.second on.on_second at_second)
    kept (subst (λ (v : ℕ). Make on.first on.second v opened.ledger.found) (ap (λ (h : Header). h.version) of_header) on.made) same

pub both_lost : (header : Header) (found records : List Record) (closed : Option Failure) (before after : Twins) (failure : Failure) → closed ≡ Some failure → BothWentOn header found records closed before after
    → HaveFailed before after
both_lost header found records closed before after failure shut went =
    subst (HaveFailed before) (sym went.shown)
    (none_left header found records before (storage_on header closed went.copies) went.copies went.first went.second went.on_first went.on_second went.kept failure shut)

-- Where disks are lost a count rose.
both_rose : (before after : Twins) → HaveFailed before after → ATwinRose (Some before) (Some after)
both_rose before after (inl (first, second)) = inl first
both_rose before after (inr (inl (first, empty))) = inl first
both_rose before after (inr (inr (empty, second))) = inr second

gone_rose : (before after : Option Twins) → AreGone before after → ATwinRose before after
gone_rose None after gone = absurd gone
gone_rose (Some before) None gone = absurd gone
gone_rose (Some before) (Some after) gone = both_rose before after gone

pub lost_rose : (before after : Stored) → AreLost before after → HasCountRisen before after
lost_rose before after (inl one) = inl one
lost_rose before after (inr gone) = inr (gone_rose before.twins after.twins gone)
