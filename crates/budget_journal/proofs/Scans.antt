-- Reading one slot of an area after another.
use Rattle.std.proofs.Common.{◌≡◌, ◌≢◌, ◌⊎◌, ℕ, zero, suc, ◌+◌, ◌-◌, ◌*◌, ◌<◌, ◌≤◌, List, [], ◌∷◌, ◌++◌, length, length-drop, get_or, take, drop, slice_index, slice_get, Option, None, Some, refl, sym, ◌∙◌, ap, subst, arith, inl, inr, ⊎_elim, Bool, true, Ok, Err, Vec}
use Rattle.std.proofs.lemmas.Bool.{cases_lt, cases_eq}
use Rattle.std.proofs.lemmas.List.{length-take, get_or-take, get_or-drop, ext_get_or, length_push}
use Rattle.std.proofs.lemmas.Option.{slice_get-get_or}
use Rattle.std.specs.Prelude.{IfSome, IfErr, OnOk, Result, ⊤, false}
use Rattle.std.proofs.lemmas.Nat.{pow_pos}
use Rattle.outside_disks.specs.Disks.{Gives, Trace, noted, seen_of, WhereTold}
use Rattle.outside_disks.specs.Disks.Step.{Synced}
use Rattle.journal_records.specs.Encoding.{gate}
use Rattle.journal_records.specs.declared.records.Record.{Record}
use Rattle.journal_records.specs.declared.records.Header.{Header}
use Rattle.journal_records.proofs.Shapes.{encoded-gate}
use Rattle.budget_journal.specs.declared.opening.OpenFault.{OpenFault}
use Rattle.budget_journal.specs.declared.opening.OpenFault.TheVariants.{DiskFault, NoMemory, NotInitialised, Changed, Damaged}
use Rattle.std.specs.declared.alloc.Global.{Global}
use Rattle.budget_journal.specs.declared.area.Area.{Area}
use Rattle.budget_journal.specs.declared.form.Form.{Form}
use Rattle.budget_journal.specs.declared.form.Form.TheVariants.{One, Many}
use Rattle.budget_journal.specs.Areas.{form_in, area_slots, area_begin, IsArea, area_in, live_area}
use Rattle.budget_journal.specs.Journals.{Layout, slot_place, slot, gate_of, Holds, IsUnreadable, IsBehindClosed, IsDamaged, FillsSlots, IsFirstDamaged, as_found, HasHeader, slots_in, Stands, Mark, IsMarked, Found, IsHeaderFault, IsOpenFault}
use Rattle.budget_journal.specs.Opening.{HeaderRead, IsSlotRefused, SlotAdded, IsSlotFault, Scanned}
use Rattle.budget_journal.proofs.Fills.{pushed-cases}
use Rattle.budget_journal.proofs.Geometry.{size-whole}

-- what a read gives, as a piece of the file
pub gives-piece : (file buf : List ℕ) (place n : ℕ) → Gives file place buf → length buf ≡ n → place + n ≤ length file → buf ≡ take n (drop place file)
gives-piece file buf place n gives long within = ext_get_or 0 buf (take n (drop place file))
    (omega (arith, length-take n (drop place file), length-drop place file))
    (λ i lt. gives i lt ∙ sym (get_or-drop place file i 0) ∙ sym (get_or-take n (drop place file) i 0 (omega (arith, lt))))

pub slot-gate : (layout : Layout) (bytes : List ℕ) (k : ℕ) → slice_index (slot layout bytes k) 0 ≡ gate_of layout bytes k
slot-gate layout bytes k = let here : slot_place layout k + 0 ≡ slot_place layout k = omega arith in
    get_or-take 64 (drop (slot_place layout k) bytes) 0 0 (omega arith) ∙ get_or-drop (slot_place layout k) bytes 0 0 ∙ ap (slice_index bytes) here

pub holds-gate : (layout : Layout) (bytes : List ℕ) (k : ℕ) (r : Record) → Holds (slot layout bytes k) r → gate_of layout bytes k ≡ gate
holds-gate layout bytes k r holds = sym (slot-gate layout bytes k) ∙ ap (λ (s : List ℕ). slice_index s 0) holds.bytes ∙ encoded-gate r

-- an element of a list is some record
pub element : {X : Type 0} (records : List X) (j : ℕ) → j < length records → (r : X) × (slice_get records j ≡ Some r)
element [] j lt = absurd (omega arith)
element (x ∷ records) j lt = (get_or (x ∷ records) j x, slice_get-get_or (x ∷ records) j x lt)

module _ (layout : Layout) (bytes : List ℕ) (k : ℕ) (records : List Record) (scanned : Scanned layout bytes k records) where
  within-more : slot_place layout k + 64 ≤ length bytes → (j : ℕ) → j < k + 1 → slot_place layout j + 64 ≤ length bytes
  within-more within j lt = ⊎_elim
      (λ here. subst (λ (i : ℕ). slot_place layout i + 64 ≤ length bytes) (sym here) within)
      (λ other. scanned.within j (omega (arith, other)))
      (cases_eq j k)

  pub scanned-none : slot_place layout k + 64 ≤ length bytes → gate_of layout bytes k ≢ gate → Scanned layout bytes (k + 1) records
  scanned-none within shut = record {
    within = within-more within;
    counted = omega (arith, scanned.counted);
    kept = scanned.kept;
    shut = λ j le lt. ⊎_elim
        (λ here is. shut (ap (gate_of layout bytes) (sym here) ∙ is))
        (λ other. scanned.shut j le (omega (arith, other)))
        (cases_eq j k);
  }

  pub scanned-some : (r : Record) → length records ≡ k → slot_place layout k + 64 ≤ length bytes → Holds (slot layout bytes k) r
      → Scanned layout bytes (k + 1) (records ++ r ∷ [])
  scanned-some r all within holds = record {
    within = within-more within;
    counted = omega (arith, length_push records r);
    kept = λ j next is. ⊎_elim
        (λ early. scanned.kept j next early)
        (λ last. subst (λ (i : ℕ). Holds (slot layout bytes i) next) (sym (last.0 ∙ all))
        (subst (λ (s : Record). Holds (slot layout bytes k) s) (sym last.1) holds))
        (pushed-cases records r next j is);
    shut = λ j le lt. absurd (omega (arith, length_push records r));
  }

  -- an open slot below k holds a record
  open-below : (j : ℕ) → j < k → gate_of layout bytes j ≡ gate → j < length records
  open-below j lt is_open = ⊎_elim (λ within. within) (λ past. absurd (scanned.shut j past lt is_open)) (cases_lt j (length records))

  pub sound-below : k ≤ layout.slots → (j : ℕ) → j < k → IsDamaged layout bytes j → ⊥
  sound-below le j lt (inl torn) = let a = torn.1 in absurd (omega (arith, a, scanned.within j lt))
  sound-below le j lt (inr (inl beyond)) = let a = beyond.0 in absurd (omega (arith, a))
  sound-below le j lt (inr (inr (inl unreadable))) =
      let e = element records j (open-below j lt unreadable.1) in
      unreadable.2 e.0 (scanned.kept j e.0 e.1)
  sound-below le j lt (inr (inr (inr behind))) =
      let within = open-below j lt behind.1 in
      let earlier : behind.2.0 < j = behind.2.1 in
      let e = element records behind.2.0 (omega arith) in
      behind.2.2 (holds-gate layout bytes behind.2.0 e.0 (scanned.kept behind.2.0 e.0 e.1))

  first-damaged : k ≤ layout.slots → IsDamaged layout bytes k → IsFirstDamaged layout bytes k
  first-damaged le damaged = record { damaged = damaged; first = λ j below. sound-below le j below }

  pub scanned-added : (closed : Bool) (new : List Record) → slot_place layout k + 64 ≤ length bytes → (closed ≡ false → k ≤ length records)
      → SlotAdded layout bytes k closed records new (Ok tt) → Scanned layout bytes (k + 1) new
  scanned-added closed new within all added = ⊎_elim
      (λ is. let its = added.1 is in subst (λ (rs : List Record). Scanned layout bytes (k + 1) rs) (sym its.3)
      (scanned-some its.1 (omega (arith, scanned.counted, all its.0)) within its.2))
      (λ isnt. subst (λ (rs : List Record). Scanned layout bytes (k + 1) rs) (sym (added.0 isnt)) (scanned-none within isnt))
      (cases_eq (gate_of layout bytes k) gate)

  pub torn-off : k < layout.slots → length bytes < slot_place layout k + 64 → IsFirstDamaged layout bytes k
  torn-off lt short = first-damaged (omega arith) (inl (lt, short))

  pub too-long : k ≡ layout.slots → layout.size < length bytes → IsFirstDamaged layout bytes k
  too-long last long = first-damaged (omega arith) (inr (inl (omega arith, long)))

  unreadable : k < layout.slots → gate_of layout bytes k ≡ gate → ((r : Record) → Holds (slot layout bytes k) r → ⊥) → IsFirstDamaged layout bytes k
  unreadable lt is_open none = first-damaged (omega arith) (inr (inr (inl (lt, is_open, none))))

  behind-closed : k < layout.slots → gate_of layout bytes k ≡ gate → length records < k → IsFirstDamaged layout bytes k
  behind-closed lt is_open fewer = first-damaged (omega arith)
      (inr (inr (inr (lt, is_open, (length records, fewer, scanned.shut (length records) (omega arith) fewer)))))

  pub fills : k ≡ layout.slots → length bytes ≡ layout.size → FillsSlots layout bytes records
  fills last whole = record {
    whole = whole;
    room = omega (arith, scanned.counted);
    kept = scanned.kept;
    shut = λ j le lt. scanned.shut j le (omega arith);
  }

  -- why a slot wasn't read is why the slots weren't
  pub slot-fault : (closed : Bool) (fault : OpenFault) → k < layout.slots → (closed ≡ true → length records < k) → IsSlotRefused layout bytes k closed fault
      → IsSlotFault layout bytes fault
  slot-fault closed DiskFault lt fewer read = tt
  slot-fault closed NoMemory lt fewer read = tt
  slot-fault closed (NotInitialised n) lt fewer read = read
  slot-fault closed (Changed kept found) lt fewer read = read
  slot-fault closed (Damaged s) lt fewer read =
      subst (λ (i : ℕ). IsFirstDamaged layout bytes i) (sym read.0) (⊎_elim
      (λ is_closed. behind-closed lt read.1 (fewer is_closed))
      (λ none. unreadable lt read.1 none)
      read.2)

  pub added-or-fault : (closed : Bool) (new : List Record) (result : Result ⊤ OpenFault) → k < layout.slots → slot_place layout k + 64 ≤ length bytes
      → (closed ≡ true → length records < k) → (closed ≡ false → k ≤ length records) → SlotAdded layout bytes k closed records new result
      → OnOk result (Scanned layout bytes (k + 1) new) × IfErr result (IsSlotFault layout bytes)
  added-or-fault closed new (Ok done) lt within fewer all added = (scanned-added closed new within all added, tt)
  added-or-fault closed new (Err fault) lt within fewer all added = (tt, slot-fault closed fault lt fewer added)

pub scanned-start : (layout : Layout) (bytes : List ℕ) → Scanned layout bytes 0 []
scanned-start layout bytes = record {
  within = λ j lt. absurd (omega arith);
  counted = omega arith;
  kept = λ j r is. absurd cc;
  shut = λ j le lt. absurd (omega arith);
}

-- a journal that stands has no damaged slot
pub sound : (layout : Layout) (bytes : List ℕ) (records : List Record) → FillsSlots layout bytes records → layout.begin + 64 * layout.slots ≤ length bytes
    → (k : ℕ) → IsDamaged layout bytes k → ⊥
sound layout bytes records filled long k (inl torn) = let a = torn.0 in let b = torn.1 in absurd (omega (arith, a, b, long))
sound layout bytes records filled long k (inr (inl beyond)) = let a = beyond.1 in absurd (omega (arith, a, filled.whole))
sound layout bytes records filled long k (inr (inr damaged)) =
    sound-below layout bytes layout.slots records
    (record { within = λ j below. omega (arith, long, below); counted = filled.room; kept = filled.kept; shut = λ j le below. filled.shut j le below })
    (omega arith) k (below damaged) (inr (inr damaged))
  where
    below : IsUnreadable layout bytes k ⊎ IsBehindClosed layout bytes k → k < layout.slots
    below (inl is) = is.0
    below (inr is) = is.0

-- a live area whose slots are wholly there is in the file
reaches : (form : Form) (capacity area : ℕ) (bytes : List ℕ) (records : List Record) → IsArea form capacity area → 128 ≤ length bytes
    → Scanned (area_in form capacity area (length bytes)) bytes (area_slots form capacity area) records
    → area_begin form capacity (suc area) ≤ length bytes
reaches form capacity area bytes records is long scanned = ⊎_elim
    (λ some. omega (arith, scanned.within (area_slots form capacity area - 1) (omega (arith, some)), some))
    (λ none. by-area area is none)
    (cases_lt 0 (area_slots form capacity area))
  where
    some-slots : (v : Form) (c a : ℕ) → area_slots v c a < c → area_slots v c (suc a) ≤ 0 → ⊥
    some-slots One c a fewer none = omega (arith, fewer)
    some-slots Many c a fewer none = omega (arith, fewer, none, pow_pos (suc a))

    by-area : (a : ℕ) → IsArea form capacity a → area_slots form capacity a ≤ 0 → area_begin form capacity (suc a) ≤ length bytes
    by-area zero there none = omega (arith, none, long)
    by-area (suc a) there none = absurd (some-slots form capacity a (there a (omega arith)) none)

pub area-read : (form : Form) (capacity area : ℕ) (bytes : List ℕ) (records : List Record) → IsArea form capacity area → 128 ≤ length bytes
    → length bytes ≤ (area_in form capacity area (length bytes)).size
    → Scanned (area_in form capacity area (length bytes)) bytes (area_slots form capacity area) records
    → FillsSlots (area_in form capacity area (length bytes)) bytes records
area-read form capacity area bytes records is long short scanned =
    fills (area_in form capacity area (length bytes)) bytes (area_slots form capacity area) records scanned refl
    (size-whole form (area_begin form capacity (suc area)) (length bytes) (reaches form capacity area bytes records is long scanned) short)

-- ---- where it is told

pub told-found : (header : Header) (records : List Record) (old new : Option Trace) → new ≡ noted Synced old
    → ((t : Trace) → old ≡ Some t → Stands header records (seen_of t)) → WhereTold (Found header records) old new
told-found header records None new synced stands = subst (λ (o : Option Trace). WhereTold (Found header records) None o) (sym synced) tt
told-found header records (Some t) new synced stands =
    subst (λ (o : Option Trace). WhereTold (Found header records) (Some t) o) (sym synced) (refl, record { stands = stands t refl; stable = λ c image. image })

pub told-marked : (header : Header) (records : List Record) (mark : Mark) (old new : Option Trace) → header.capacity ≡ mark.capacity → length records ≡ mark.used
    → new ≡ noted Synced old → ((t : Trace) → old ≡ Some t → (mark.form ≡ form_in (seen_of t)) × (mark.area ≡ live_area (seen_of t)))
    → IfSome new (IsMarked mark header records)
told-marked header records mark None new capacity used synced is = subst (λ (o : Option Trace). IfSome o (IsMarked mark header records)) (sym synced) tt
told-marked header records mark (Some t) new capacity used synced is =
    subst (λ (o : Option Trace). IfSome o (IsMarked mark header records)) (sym synced)
    (record { form = sym (is t refl).0; capacity = capacity; area = sym (is t refl).1; used = used })

-- ---- the header and then the slots

pub header-fault : (header : Header) (bytes : List ℕ) (fault : OpenFault) → IsHeaderFault header bytes fault → IsOpenFault header bytes fault
header-fault header bytes DiskFault is = tt
header-fault header bytes NoMemory is = tt
header-fault header bytes (NotInitialised n) is = is
header-fault header bytes (Changed kept found) is = is
header-fault header bytes (Damaged k) is = absurd is

slot-open-fault : (header : Header) (bytes : List ℕ) (fault : OpenFault) → 128 ≤ length bytes → HasHeader (as_found header bytes) bytes
    → IsSlotFault (slots_in header bytes) bytes fault → IsOpenFault header bytes fault
slot-open-fault header bytes DiskFault long head is = tt
slot-open-fault header bytes NoMemory long head is = tt
slot-open-fault header bytes (NotInitialised n) long head is = absurd is
slot-open-fault header bytes (Changed kept found) long head is = absurd is
slot-open-fault header bytes (Damaged k) long head is = (long, head, is)

module _ (header : Header) (bytes : List ℕ) (size : ℕ) (live : Area) (version : ℕ) (read : HeaderRead header bytes (Ok (size, live, version))) where
  -- what was read of the live area's slots, by the words of the definitions
  by-header : (P : Layout → Type 0) → P (area_in live.form live.capacity live.number size) → P (slots_in header bytes)
  by-header P holds = subst (λ (n : ℕ). P (area_in (form_in bytes) header.capacity (live_area bytes) n)) read.0
      (subst (λ (a : ℕ). P (area_in (form_in bytes) header.capacity a size)) read.5
      (subst (λ (c : ℕ). P (area_in (form_in bytes) c live.number size)) read.4
      (subst (λ (v : Form). P (area_in v live.capacity live.number size)) read.3 holds)))

  pub read-fault : (fault : OpenFault) → IsSlotFault (area_in live.form live.capacity live.number size) bytes fault → IsOpenFault header bytes fault
  read-fault fault is = slot-open-fault header bytes fault read.1 read.2 (by-header (λ layout. IsSlotFault layout bytes fault) is)

  pub read-records : (records : Vec Record Global) → FillsSlots (area_in live.form live.capacity live.number size) bytes records.items
      → Stands (record header { version = version }) records.items bytes × (live.form ≡ form_in bytes) × (live.number ≡ live_area bytes)
  read-records records filled = (
    record { head = subst (λ (v : ℕ). HasHeader (record header { version = v }) bytes) (sym read.6) read.2; fills = by-header (λ layout. FillsSlots layout bytes records.items) filled },
    read.3,
    read.5,
  )
