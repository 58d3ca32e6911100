-- What the slots of an area hold after a change of the file.
use Rattle.std.proofs.Common.{◌≡◌, ◌≢◌, ◌⊎◌, ℕ, zero, suc, ◌+◌, ◌*◌, ◌<◌, ◌≤◌, max, List, [], ◌∷◌, ◌++◌, length, take, drop, slice_index, slice_get, Some, refl, sym, ◌∙◌, ap, subst, arith, inl, inr, ⊎_elim, length-drop}
use Rattle.std.proofs.lemmas.Bool.{cases_eq}
use Rattle.std.proofs.lemmas.List.{length-take, get_or-take, get_or-drop, ext_get_or, length_push}
use Rattle.std.proofs.lemmas.Option.{slice_get_within}
use Rattle.outside_disks.specs.Disks.{Torn}
use Rattle.journal_records.specs.Encoding.{gate, encoded, IsValid}
use Rattle.journal_records.specs.declared.records.Record.{Record}
use Rattle.journal_records.specs.declared.records.Header.{Header}
use Rattle.journal_records.proofs.Shapes.{length-encoded, encoded-gate}
use Rattle.budget_journal.specs.declared.form.Form.{Form}
use Rattle.budget_journal.specs.declared.form.Form.TheVariants.{Many}
use Rattle.budget_journal.specs.Journals.{Layout, slot_place, slot, gate_of, Holds, FillsSlots, slots_in, Stands}
use Rattle.budget_journal.specs.Areas.{form_in, area_begin, area_in, live_area}
use Rattle.budget_journal.specs.Growth.{HasFront}
use Rattle.budget_journal.proofs.Geometry.{begin-low, end-within}
use Rattle.budget_journal.proofs.Gates.{piece-moved, live-same, form-same, header-same}

-- the last of a list that was pushed, or one of those before
pub pushed-cases : (records : List Record) (next r : Record) (j : ℕ) → slice_get (records ++ next ∷ []) j ≡ Some r
    → (slice_get records j ≡ Some r) ⊎ ((j ≡ length records) × (r ≡ next))
pushed-cases [] next r zero is = inr (refl, cc)
pushed-cases [] next r (suc j) is = absurd (cc)
pushed-cases (x ∷ records) next r zero is = inl is
pushed-cases (x ∷ records) next r (suc j) is = ⊎_elim (λ early. inl early) (λ last. inr (ap suc last.0, last.1)) (pushed-cases records next r j is)

-- ---- from one file and layout to another

module _ (l m : Layout) (d c : List ℕ) (records : List Record) (fills : FillsSlots l d records) (long : l.begin + 64 * l.slots ≤ length d)
    (whole : length c ≡ m.size) (reach : m.begin + 64 * m.slots ≤ length c)
    (same : (k i : ℕ) → k < length records → i < 64 → slice_index c (slot_place m k + i) ≡ slice_index d (slot_place l k + i)) where
  held : (k : ℕ) (r : Record) → length records ≤ m.slots → slice_get records k ≡ Some r → Holds (slot m c k) r
  held k r room is =
      let lt = slice_get_within records k r is in
      let before = fills.room in
      let holds = fills.kept k r is in
      record {
        valid = holds.valid;
        bytes = piece-moved c d (slot_place m k) (slot_place l k) 64 (omega arith) (omega arith) (λ i within. same k i lt within) ∙ holds.bytes;
      }

  -- the same records, where no slot behind them is open
  pub fills-moved : length records ≤ m.slots → ((k : ℕ) → length records ≤ k → k < m.slots → gate_of m c k ≢ gate) → FillsSlots m c records
  fills-moved room shut = record { whole = whole; room = room; kept = λ k r is. held k r room is; shut = shut }

  -- one more, where the next slot holds it
  pub fills-more : (next : Record) → length records < m.slots → Holds (slot m c (length records)) next
      → ((k : ℕ) → length records < k → k < m.slots → gate_of m c k ≢ gate) → FillsSlots m c (records ++ next ∷ [])
  fills-more next room holds shut = record {
    whole = whole;
    room = omega (arith, length_push records next);
    kept = λ k r is. ⊎_elim
        (λ early. held k r (omega arith) early)
        (λ last. subst (λ (j : ℕ). Holds (slot m c j) r) (sym last.0) (subst (λ (s : Record). Holds (slot m c (length records)) s) (sym last.1) holds))
        (pushed-cases records next r k is);
    shut = λ k le lt. shut k (omega (arith, length_push records next)) lt;
  }

-- ---- a file with the same bytes up to the live area's end

pub front-header : (size : ℕ) (d c : List ℕ) → 128 ≤ size → size ≤ length d → HasFront size d c → take 128 c ≡ take 128 d
front-header size d c low long front = piece-moved c d 0 0 128 (omega (arith, front.long)) (omega arith) (λ i lt. front.same (0 + i) (omega arith))

pub in-area : (header : Header) (records : List Record) (d : List ℕ) → Stands header records d
    → area_begin (form_in d) header.capacity (suc (live_area d)) ≤ length d
in-area header records d stands = end-within (form_in d) (area_begin (form_in d) header.capacity (suc (live_area d))) (length d) stands.fills.whole

pub in-two : (header : Header) (records : List Record) (d : List ℕ) → Stands header records d → form_in d ≡ Many
    → area_begin Many header.capacity (suc (live_area d)) ≤ length d
in-two header records d stands two =
    subst (λ (v : Form). area_begin v header.capacity (suc (live_area d)) ≤ length d) two (in-area header records d stands)

-- a journal is no shorter than its header
pub journal-long : (header : Header) (records : List Record) (d : List ℕ) → Stands header records d → 128 ≤ length d
journal-long header records d stands = omega (arith, in-area header records d stands, begin-low (form_in d) header.capacity (suc (live_area d)))

pub area-whole : (capacity area : ℕ) (c : List ℕ) → area_begin Many capacity (suc area) ≤ length c → length c ≡ max (length c) (area_begin Many capacity (suc area))
area-whole capacity area c le = omega (arith, le)

-- what is written behind the live area changes nothing in version 2
pub stands-front : (header : Header) (records : List Record) (d c : List ℕ) (size : ℕ) → Stands header records d → form_in d ≡ Many
    → area_begin Many header.capacity (suc (live_area d)) ≤ size → size ≤ length d → HasFront size d c
    → Stands header records c × (form_in c ≡ Many) × (live_area c ≡ live_area d)
stands-front header records d c size stands two below long front =
    let capacity = header.capacity in
    let area = live_area d in
    let low = begin-low Many capacity (suc area) in
    let first = begin-low Many capacity area in
    let head : take 128 c ≡ take 128 d = front-header size d c (omega arith) long front in
    let live : live_area c ≡ live_area d = live-same c d head in
    let form : form_in c ≡ Many = form-same c d head ∙ two in
    let old : FillsSlots (area_in Many capacity area (length d)) d records
    = subst (λ (v : Form). FillsSlots (area_in v capacity area (length d)) d records) two stands.fills in
    let room = old.room in
    let reach : area_begin Many capacity (suc area) ≤ length c = omega (arith, front.long) in
    let fills : FillsSlots (area_in Many capacity area (length c)) c records
    = fills-moved (area_in Many capacity area (length d)) (area_in Many capacity area (length c)) d c records old
    (omega arith) (area-whole capacity area c reach) reach
    (λ k i lt within. front.same (area_begin Many capacity area + 64 * k + i) (omega arith)) room
    (λ k le lt is. old.shut k le lt (sym (front.same (area_begin Many capacity area + 64 * k) (omega arith)) ∙ is)) in (
      record {
        head = header-same header c d head stands.head;
        fills = subst (λ (v : Form). FillsSlots (area_in v capacity (live_area c) (length c)) c records) (sym form)
            (subst (λ (n : ℕ). FillsSlots (area_in Many capacity n (length c)) c records) (sym live) fills);
      },
      form,
      live,
    )

-- ---- one slot

-- a file with other bytes in the slot at this place alone
pub record SameBut (place : ℕ) (d c : List ℕ) : Type 0 where
  pub long : length c ≡ length d
  pub before : (i : ℕ) → i < length d → i < place → slice_index c i ≡ slice_index d i
  pub behind : (i : ℕ) → i < length d → place + 64 ≤ i → slice_index c i ≡ slice_index d i

pub torn-but : (place at size : ℕ) (d c : List ℕ) → Torn at size d c → place ≤ at → at + size ≤ place + 64 → place + 64 ≤ length d → SameBut place d c
torn-but place at size d c torn low high within = record {
  long = omega (arith, torn.no_shorter, torn.no_longer);
  before = λ i lt front. torn.before i lt (omega arith);
  behind = λ i lt past. torn.behind i lt (omega arith);
}

-- an open gate, and behind it the rest of an encoding
pub slot-filled : (place : ℕ) (next : Record) (c : List ℕ) → IsValid next → place + 64 ≤ length c → slice_index c place ≡ gate
    → ((i : ℕ) → i < 63 → slice_index c (place + 1 + i) ≡ slice_index (encoded next) (1 + i)) → Holds (take 64 (drop place c)) next
slot-filled place next c valid long is_open behind = record {
  valid = valid;
  bytes = ext_get_or 0 (take 64 (drop place c)) (encoded next)
      (omega (arith, length-take 64 (drop place c), length-drop place c, length-encoded next valid)) each;
}
  where
    at : (i : ℕ) → i < 64 → slice_index c (place + i) ≡ slice_index (encoded next) i
    at zero lt = let here : place + 0 ≡ place = omega arith in ap (slice_index c) here ∙ is_open ∙ sym (encoded-gate next)
    at (suc i) lt =
        let here : place + suc i ≡ place + 1 + i = omega arith in
        let there : 1 + i ≡ suc i = omega arith in
        ap (slice_index c) here ∙ behind i (omega arith) ∙ ap (slice_index (encoded next)) there

    each : (i : ℕ) → i < length (take 64 (drop place c)) → slice_index (take 64 (drop place c)) i ≡ slice_index (encoded next) i
    each i lt =
        let within : i < 64 = omega (arith, lt, length-take 64 (drop place c)) in
        get_or-take 64 (drop place c) i 0 within ∙ get_or-drop place c i 0 ∙ at i within

-- A journal whose first closed slot is at this place.
pub record IsReady (place : ℕ) (header : Header) (records : List Record) (d : List ℕ) : Type 0 where
  pub stands : Stands header records d
  pub here : place ≡ slot_place (slots_in header d) (length records)
  pub room : length records < (slots_in header d).slots

pub ready-low : (place : ℕ) (header : Header) (records : List Record) (d : List ℕ) → IsReady place header records d → 128 ≤ place
ready-low place header records d ready = omega (arith, ready.here, begin-low (form_in d) header.capacity (live_area d))

pub ready-long : (place : ℕ) (header : Header) (records : List Record) (d : List ℕ) → IsReady place header records d → place + 64 ≤ length d
ready-long place header records d ready = let room = ready.room in omega (arith, ready.here, room, in-area header records d ready.stands)

-- two files with one header and one length have the same slots
pub same-slots : (header : Header) (c d : List ℕ) → take 128 c ≡ take 128 d → length c ≡ length d → slots_in header c ≡ slots_in header d
same-slots header c d head long = ap (λ (v : Form). area_in v header.capacity (live_area c) (length c)) (form-same c d head)
    ∙ ap (λ (n : ℕ). area_in (form_in d) header.capacity n (length c)) (live-same c d head)
    ∙ ap (area_in (form_in d) header.capacity (live_area d)) long

module _ (place : ℕ) (header : Header) (records : List Record) (d c : List ℕ) (ready : IsReady place header records d) (but : SameBut place d c) where
  pub header-kept : take 128 c ≡ take 128 d
  header-kept =
      let low = ready-low place header records d ready in
      let long = ready-long place header records d ready in
      piece-moved c d 0 0 128 (omega (arith, but.long)) (omega arith) (λ i lt. but.before (0 + i) (omega arith) (omega arith))

  abbrev l : Layout
  l = slots_in header d

  kept-slots : slots_in header c ≡ l
  kept-slots = same-slots header c d header-kept but.long

  reach : l.begin + 64 * l.slots ≤ length c
  reach = omega (arith, but.long, in-area header records d ready.stands)

  early : (k i : ℕ) → k < length records → i < 64 → slice_index c (slot_place l k + i) ≡ slice_index d (slot_place l k + i)
  early k i lt within =
      let here = ready.here in
      let long = ready-long place header records d ready in
      but.before (l.begin + 64 * k + i) (omega arith) (omega arith)

  late : (k : ℕ) → length records < k → k < l.slots → gate_of l c k ≢ gate
  late k past lt is =
      let here = ready.here in
      let inside = in-area header records d ready.stands in
      ready.stands.fills.shut k (omega arith) lt (sym (but.behind (l.begin + 64 * k) (omega arith) (omega arith)) ∙ is)

  standing : (all : List Record) → FillsSlots l c all → Stands header all c
  standing all fills = record {
    head = header-same header c d header-kept ready.stands.head;
    fills = subst (λ (m : Layout). FillsSlots m c all) (sym kept-slots) fills;
  }

  -- a slot that isn't open changes nothing
  pub ready-shut : slice_index c place ≢ gate → IsReady place header records c
  ready-shut shut =
      let here = ready.here in
      let room = ready.room in
      record {
        stands = standing records (fills-moved l l d c records ready.stands.fills
            (omega (arith, in-area header records d ready.stands)) (but.long ∙ ready.stands.fills.whole) reach early (omega arith)
            (λ k le lt is. ⊎_elim
            (λ same. shut (ap (slice_index c) (here ∙ ap (λ (n : ℕ). slot_place l n) (sym same)) ∙ is))
            (λ other. late k (omega (arith, other)) lt is)
            (cases_eq k (length records))));
        here = here ∙ ap (λ (m : Layout). slot_place m (length records)) (sym kept-slots);
        room = subst (λ (m : Layout). length records < m.slots) (sym kept-slots) room;
      }

  -- one that holds a record adds it
  pub ready-more : (next : Record) → Holds (take 64 (drop place c)) next → Stands header (records ++ next ∷ []) c
  ready-more next holds =
      standing (records ++ next ∷ []) (fills-more l l d c records ready.stands.fills
      (omega (arith, in-area header records d ready.stands)) (but.long ∙ ready.stands.fills.whole) reach early next ready.room
      (subst (λ (n : ℕ). Holds (take 64 (drop n c)) next) ready.here holds) late)
