-- A slot for the next record, in the live area or in a next one, and the record in it.
use Rattle.std.proofs.Common.{◌≡◌, ℕ, suc, ◌+◌, ◌*◌, ◌<◌, ◌≤◌, List, [], ◌∷◌, ◌++◌, length, sym, ◌∙◌, ap, subst, arith, inl, Result, Ok, Err, OnOk, IfOk, Option}
use Rattle.std.proofs.lemmas.List.{length_push}
use Rattle.std.proofs.lemmas.Nat.{pow_pos}
use Rattle.outside_disks.specs.Disks.{Trace, seen_of, Passes, WhereTold}
use Rattle.outside_disks.proofs.Told.{told-both, told-none}
use Rattle.outside_disks.proofs.Images.{passes-none, passes-both, passes-weaker}
use Rattle.journal_records.specs.declared.records.Record.{Record}
use Rattle.journal_records.specs.declared.records.Header.{Header}
use Rattle.budget_journal.specs.declared.form.Form.{Form}
use Rattle.budget_journal.specs.declared.form.Form.TheVariants.{Many}
use Rattle.budget_journal.specs.Areas.{form_in, area_slots, area_begin, area_in, live_area}
use Rattle.budget_journal.specs.Journals.{Layout, slots_in, slot_place, Stands, IsBeforeOrAfter, IsAtRest, Mark, IsMarked, Appended, AppendFailed}
use Rattle.budget_journal.specs.Growth.{IsNextPlace, SlotFilled, SlotFillFailed, IsFull, AreaAdded, AreaAddFailed, RoomMade, RoomNotMade}
use Rattle.budget_journal.proofs.Geometry.{slots-double, grows}
use Rattle.budget_journal.proofs.Copied.{told-weaker}
use Rattle.budget_journal.proofs.Gates.{live-same, form-same}

-- what holds of a result on both counts
pub if_ok_both : {T E P : Type 0} {Q R : T → Type 0} (r : Result T E) → OnOk r P → IfOk r Q → ((x : T) → P → Q x → R x) → IfOk r R
if_ok_both (Ok x) p q join = join x p q
if_ok_both (Err e) p q join = tt

-- ---- room

rest-passes : (header : Header) (records : List Record) (t : Trace) → IsAtRest header records t → Passes (Stands header records) t t
rest-passes header records t rest = passes-none (Stands header records) t
    (λ c image. subst (λ (d : List ℕ). Stands header records d) (sym (rest.stable c image)) rest.stands)

module _ (mark : Mark) where
  room-here : mark.used < area_slots mark.form mark.capacity mark.area → (t : Trace) → RoomMade mark mark.area t t
  room-here free t header records rest marked lt = (rest, marked, free, rest-passes header records t rest)

  pub told-room-here : mark.used < area_slots mark.form mark.capacity mark.area → (told : Option Trace) → WhereTold (RoomMade mark mark.area) told told
  told-room-here free = told-none (RoomMade mark mark.area) (room-here free)

  module _ (past : area_slots mark.form mark.capacity mark.area ≤ mark.used) (lt : mark.used < mark.capacity) where
    two : mark.form ≡ Many
    two = grows mark.form mark.capacity mark.area (omega (arith, past, lt))

    past-two : area_slots Many mark.capacity mark.area ≤ mark.used
    past-two = subst (λ (v : Form). area_slots v mark.capacity mark.area ≤ mark.used) two past

    full : (header : Header) (records : List Record) (t : Trace) → IsAtRest header records t → IsMarked mark header records t
        → IsFull mark.capacity mark.area header records t
    full header records t rest marked =
        let form = marked.form ∙ two in
        let room : length records ≤ area_slots Many mark.capacity mark.area = subst (λ (c : ℕ). length records ≤ area_slots Many c mark.area) marked.capacity
        (subst (λ (n : ℕ). length records ≤ area_slots Many header.capacity n) marked.area
        (subst (λ (v : Form). length records ≤ area_slots v header.capacity (live_area (seen_of t))) form rest.stands.fills.room)) in
        let used = marked.used in
        record {
          rest = rest;
          two = form;
          capacity_is = marked.capacity;
          live = marked.area;
          full = omega (arith, room, used, past-two);
          more = omega (arith, past-two, lt);
        }

    free-next : mark.used ≤ area_slots Many mark.capacity mark.area → mark.used < area_slots mark.form mark.capacity (suc mark.area)
    free-next le = subst (λ (v : Form). mark.used < area_slots v mark.capacity (suc mark.area)) (sym two)
        (omega (arith, slots-double mark.capacity mark.area, pow_pos mark.area, past-two, le, lt))

    room-added : (t u : Trace) → AreaAdded mark.capacity mark.area t u → RoomMade mark (suc mark.area) t u
    room-added t u added header records rest marked less =
        let is_full = full header records t rest marked in
        let more = added header records is_full in
        let all = is_full.full in
        let used = marked.used in (
          more.0,
          record { form = more.1 ∙ sym two; capacity = marked.capacity; area = more.2; used = marked.used },
          free-next (omega (arith, all, used)),
          more.3,
        )

    room-not-added : (t u : Trace) → AreaAddFailed mark.capacity mark.area t u → RoomNotMade mark t u
    room-not-added t u failed header records rest marked less = failed header records (full header records t rest marked)

    pub told-room-added : (area : ℕ) → area ≡ mark.area + 1 → (old new : Option Trace) → WhereTold (AreaAdded mark.capacity mark.area) old new
        → WhereTold (RoomMade mark area) old new
    told-room-added area is old new told =
        let next : suc mark.area ≡ area = omega (arith, is) in
        subst (λ (n : ℕ). WhereTold (RoomMade mark n) old new) next
        (told-weaker (AreaAdded mark.capacity mark.area) (RoomMade mark (suc mark.area)) room-added old new told)

    pub told-room-not-added : (old new : Option Trace) → WhereTold (AreaAddFailed mark.capacity mark.area) old new → WhereTold (RoomNotMade mark) old new
    told-room-not-added = told-weaker (AreaAddFailed mark.capacity mark.area) (RoomNotMade mark) room-not-added

-- ---- and the record

-- the slots of a journal that is marked
marked-slots : (mark : Mark) (header : Header) (records : List Record) (u : Trace) → IsMarked mark header records u
    → slots_in header (seen_of u) ≡ area_in mark.form mark.capacity mark.area (length (seen_of u))
marked-slots mark header records u marked = ap (λ (v : Form). area_in v header.capacity (live_area (seen_of u)) (length (seen_of u))) marked.form
    ∙ ap (λ (c : ℕ). area_in mark.form c (live_area (seen_of u)) (length (seen_of u))) marked.capacity
    ∙ ap (λ (n : ℕ). area_in mark.form mark.capacity n (length (seen_of u))) marked.area

module _ (mark : Mark) (next : Record) (area place : ℕ) (here : place ≡ area_begin mark.form mark.capacity area + 64 * mark.used) where
  abbrev at : Mark
  at = record mark { area = area }

  before-or-after : (header : Header) (records : List Record) (t u : Trace) → Passes (Stands header records) t u
      → Passes (IsBeforeOrAfter header records next) t u
  before-or-after header records t u = passes-weaker (Stands header records) (IsBeforeOrAfter header records next) t u (λ c stands. inl stands)

  next-place : (header : Header) (records : List Record) (u : Trace) → IsMarked at header records u
      → mark.used < area_slots mark.form mark.capacity area → IsNextPlace place header records u
  next-place header records u marked free =
      let used = marked.used in
      let slots = marked-slots at header records u marked in (
        subst (λ (l : Layout). place ≡ slot_place l (length records)) (sym slots) (omega (arith, here, used)),
        subst (λ (l : Layout). length records < l.slots) (sym slots) (omega (arith, used, free)),
      )

  record-added : (now : Mark) → now ≡ record mark { area = area; used = mark.used + 1 } → (t u v : Trace) → RoomMade mark area t u → SlotFilled place next u v
      → Appended mark next now t v
  record-added now same t u v room filled header records rest marked lt =
      let made = room header records rest marked lt in
      let put = filled header records made.0 (next-place header records u made.1 made.2) in
      let used = made.1.used in (
        put.0,
        subst (λ (m : Mark). IsMarked m header (records ++ next ∷ []) v) (sym same) (record {
          form = form-same (seen_of v) (seen_of u) put.1 ∙ made.1.form;
          capacity = made.1.capacity;
          area = live-same (seen_of v) (seen_of u) put.1 ∙ made.1.area;
          used = omega (arith, length_push records next, used);
        }),
        passes-both (IsBeforeOrAfter header records next) t u v (before-or-after header records t u made.3) put.2,
      )

  record-refused : (t u v : Trace) → RoomMade mark area t u → SlotFillFailed place next u v → AppendFailed mark next t v
  record-refused t u v room failed header records rest marked lt =
      let made = room header records rest marked lt in
      passes-both (IsBeforeOrAfter header records next) t u v (before-or-after header records t u made.3)
      (failed header records made.0 (next-place header records u made.1 made.2))

  pub told-record-added : (now : Mark) → now ≡ record mark { area = area; used = mark.used + 1 } → (old mid new : Option Trace)
      → WhereTold (RoomMade mark area) old mid → WhereTold (SlotFilled place next) mid new → WhereTold (Appended mark next now) old new
  told-record-added now same = told-both (RoomMade mark area) (SlotFilled place next) (Appended mark next now) (record-added now same)

  pub told-record-refused : (old mid new : Option Trace) → WhereTold (RoomMade mark area) old mid → WhereTold (SlotFillFailed place next) mid new
      → WhereTold (AppendFailed mark next) old new
  told-record-refused = told-both (RoomMade mark area) (SlotFillFailed place next) (AppendFailed mark next) record-refused

pub told-no-room : (mark : Mark) (next : Record) (old new : Option Trace) → WhereTold (RoomNotMade mark) old new
    → WhereTold (AppendFailed mark next) old new
told-no-room mark next = told-weaker (RoomNotMade mark) (AppendFailed mark next)
    (λ t u none header records rest marked lt. passes-weaker (Stands header records) (IsBeforeOrAfter header records next) t u
    (λ c stands. inl stands) (none header records rest marked lt))

pub told-nothing : (mark : Mark) (next : Record) (told : Option Trace) → WhereTold (AppendFailed mark next) told told
told-nothing mark next = told-none (AppendFailed mark next)
    (λ t header records rest marked lt. passes-weaker (Stands header records) (IsBeforeOrAfter header records next) t t (λ c stands. inl stands)
    (rest-passes header records t rest))
