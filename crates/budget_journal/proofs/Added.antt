-- An area more: what a stop leaves while its gate is written, and that it is live afterwards.
use Rattle.std.proofs.Common.{◌≡◌, ◌≢◌, ℕ, suc, ◌+◌, ◌*◌, ◌^◌, ◌<◌, ◌≤◌, List, [], ◌∷◌, length, take, slice_index, refl, sym, ◌∙◌, ap, subst, arith, ⊎_elim, Option}
use Rattle.std.proofs.lemmas.Bool.{cases_lt, cases_eq}
use Rattle.outside_disks.specs.Disks.{Trace, after, noted, seen_of, overlaid, Torn, Passes, WhereTold, MayHaveWritten}
use Rattle.outside_disks.specs.Disks.Step.{Wrote, Synced}
use Rattle.outside_disks.proofs.Told.{told-is, told-both, noted-twice, same-map}
use Rattle.outside_disks.proofs.Overlaid.{overlaid-at, overlaid-torn}
use Rattle.outside_disks.proofs.Images.{passes-step, passes-weaker}
use Rattle.journal_records.specs.Encoding.{gate, encoded_header}
use Rattle.journal_records.specs.declared.records.Record.{Record}
use Rattle.journal_records.specs.declared.records.Header.{Header}
use Rattle.budget_journal.specs.declared.form.Form.{Form}
use Rattle.budget_journal.specs.declared.form.Form.TheVariants.{Many}
use Rattle.budget_journal.specs.Journals.{FillsSlots, HasGrownHeader, HasHeaderOf, Stands, IsAtRest}
use Rattle.budget_journal.specs.Areas.{version_by, form_by, form_in, area_slots, area_begin, IsArea, area_in, area_gate, live_area, HasGates}
use Rattle.budget_journal.specs.Growth.{HasFront, HasCopy, AreaCopied, AreaCopyFailed, IsFull, AreaAdded, AreaAddFailed}
use Rattle.budget_journal.proofs.Geometry.{begin-low, few, next-area, slots-double}
use Rattle.budget_journal.proofs.Gates.{piece-moved, live-is, byte-nine, form-two, gate-shut, gate-opened}
use Rattle.budget_journal.proofs.Fills.{fills-moved, area-whole, in-two, stands-front}
use Rattle.budget_journal.proofs.Filled.{torn-leaves}
use Rattle.budget_journal.proofs.Copied.{front-seen, front-synced, told-weaker, told-then-tried}

-- ---- a journal in an area

-- a journal whose live area is this one
pub record LivesIn (capacity area : ℕ) (header : Header) (records : List Record) (d : List ℕ) : Type 0 where
  pub fields : take 97 d ≡ take 97 (encoded_header header)
  pub known : version_by header.version ≡ header.version
  pub many : form_by header.version ≡ Many
  pub gates : HasGates capacity area d
  pub fills : FillsSlots (area_in Many capacity area (length d)) d records

pub lives : (header : Header) (records : List Record) (d : List ℕ) → Stands header records d → form_in d ≡ Many
    → LivesIn header.capacity (live_area d) header records d
lives header records d stands two =
    let head : HasGrownHeader header d = subst (λ (v : Form). HasHeaderOf v header d) two stands.head in
    record {
      fields = head.fields;
      known = head.known;
      many = ap form_by (sym (byte-nine header d head.fields)) ∙ two;
      gates = head.gates;
      fills = subst (λ (v : Form). FillsSlots (area_in v header.capacity (live_area d) (length d)) d records) two stands.fills;
    }

pub lives-stands : (area : ℕ) (header : Header) (records : List Record) (d : List ℕ) → header.capacity < 2 ^ 32 → LivesIn header.capacity area header records d
    → Stands header records d × (form_in d ≡ Many) × (live_area d ≡ area)
lives-stands area header records d small in_it =
    let live : live_area d ≡ area = live-is header.capacity area d small in_it.gates in
    let two : form_in d ≡ Many = form-two header d in_it.fields in_it.many in
    let head : HasGrownHeader header d
    = record { fields = in_it.fields; known = in_it.known; gates = subst (λ (n : ℕ). HasGates header.capacity n d) (sym live) in_it.gates } in (
      record {
        head = subst (λ (v : Form). HasHeaderOf v header d) (sym two) head;
        fills = subst (λ (v : Form). FillsSlots (area_in v header.capacity (live_area d) (length d)) d records) (sym two)
            (subst (λ (n : ℕ). FillsSlots (area_in Many header.capacity n (length d)) d records) (sym live) in_it.fills);
      },
      two,
      live,
    )

-- ---- the gate of the next area is written

module _ (capacity area : ℕ) (header : Header) (records : List Record) (d : List ℕ) (small : capacity < 2 ^ 32) (in_it : LivesIn capacity area header records d)
    (fewer : area_slots Many capacity area < capacity) (next : FillsSlots (area_in Many capacity (suc area) (length d)) d records) where
  there : IsArea Many capacity (suc area)
  there = next-area Many capacity area in_it.gates.there fewer

  most : suc area ≤ 26
  most = few Many capacity (suc area) small there

  long : 128 ≤ length d
  long = let whole = in_it.fills.whole in omega (arith, whole, begin-low Many capacity (suc area))

  module _ (size : ℕ) (c : List ℕ) (le : size ≤ 1) (torn : Torn (96 + suc area) size d c) where
    same-long : length c ≡ length d
    same-long = omega (arith, torn.no_shorter, torn.no_longer, most, long)

    gates-but : (n : ℕ) → 1 ≤ n → n ≤ 31 → (n ≡ suc area → ⊥) → area_gate c n ≡ area_gate d n
    gates-but n low high other = ⊎_elim
        (λ before. torn.before (96 + n) (omega (arith, long)) (omega arith))
        (λ behind. torn.behind (96 + n) (omega (arith, long)) (omega (arith, other)))
        (cases_lt n (suc area))

    fields-kept : take 97 c ≡ take 97 d
    fields-kept = piece-moved c d 0 0 97 (omega (arith, same-long, long)) (omega (arith, long))
        (λ i lt. torn.before (0 + i) (omega (arith, long)) (omega arith))

    -- all from the first area on
    slots-kept : (i : ℕ) → 128 ≤ i → i < length d → slice_index c i ≡ slice_index d i
    slots-kept i low lt = torn.behind i lt (omega (arith, most))

    fills-kept : (n : ℕ) → FillsSlots (area_in Many capacity n (length d)) d records → FillsSlots (area_in Many capacity n (length c)) c records
    fills-kept n fills =
        let low = begin-low Many capacity n in
        let whole = fills.whole in
        let reach : area_begin Many capacity (suc n) ≤ length d = omega (arith, whole) in
        let reach_c : area_begin Many capacity (suc n) ≤ length c = omega (arith, same-long, reach) in
        let room = fills.room in
        fills-moved (area_in Many capacity n (length d)) (area_in Many capacity n (length c)) d c records fills reach
        (area-whole capacity n c reach_c) reach_c
        (λ k i lt within. slots-kept (area_begin Many capacity n + 64 * k + i) (omega arith) (omega arith)) room
        (λ k ge lt is. fills.shut k ge lt (sym (slots-kept (area_begin Many capacity n + 64 * k) (omega arith) (omega arith)) ∙ is))

    -- either area is live, and has the records
    pub still-in : area_gate c (suc area) ≢ gate → LivesIn capacity area header records c
    still-in shut = record {
      fields = fields-kept ∙ in_it.fields;
      known = in_it.known;
      many = in_it.many;
      gates = gate-shut capacity area c d in_it.gates gates-but (omega (arith, most)) shut;
      fills = fills-kept area in_it.fills;
    }

    pub in-next : area_gate c (suc area) ≡ gate → LivesIn capacity (suc area) header records c
    in-next is_open = record {
      fields = fields-kept ∙ in_it.fields;
      known = in_it.known;
      many = in_it.many;
      gates = gate-opened capacity area c d in_it.gates gates-but (omega (arith, most)) there is_open;
      fills = fills-kept (suc area) next;
    }

-- what holds of the header's capacity and the live area
by-numbers : (header : Header) (t : Trace) (capacity area : ℕ) (Q : ℕ → ℕ → Type 0) → header.capacity ≡ capacity → live_area (seen_of t) ≡ area
    → Q header.capacity (live_area (seen_of t)) → Q capacity area
by-numbers header t capacity area Q same live holds = subst (λ (c : ℕ). Q c area) same (subst (λ (a : ℕ). Q header.capacity a) live holds)

-- ---- the steps

-- the gate behind a copy that is stable
abbrev pub gated : (area : ℕ) → (bytes : List ℕ) → Trace → Trace
gated area bytes u = after (Wrote (96 + suc area) bytes) (after Synced u)

-- a full area, and what is written behind it
module _ (header : Header) (records : List Record) (t : Trace) (full : IsFull header.capacity (live_area (seen_of t)) header records t) where
  abbrev end : ℕ
  end = area_begin Many header.capacity (suc (live_area (seen_of t)))

  within : end ≤ length (seen_of t)
  within = in-two header records (seen_of t) full.rest.stands full.two

  front-is : (c : List ℕ) → HasFront end (seen_of t) c → Stands header records c
  front-is c front = (stands-front header records (seen_of t) c end full.rest.stands full.two (omega arith) within front).0

  pub passes-copy-failed : (u : Trace)
      → AreaCopyFailed (area_begin Many header.capacity (live_area (seen_of t))) (area_slots Many header.capacity (live_area (seen_of t))) t u
      → Passes (Stands header records) t u
  passes-copy-failed u failed = passes-weaker (HasFront end (seen_of t)) (Stands header records) t u front-is (failed within full.rest.stable)

module _ (header : Header) (records : List Record) (t u : Trace) (small : header.capacity < 2 ^ 32)
    (full : IsFull header.capacity (live_area (seen_of t)) header records t)
    (copied : AreaCopied (area_begin Many header.capacity (live_area (seen_of t))) (area_slots Many header.capacity (live_area (seen_of t)))
    (area_slots Many header.capacity (suc (live_area (seen_of t)))) t u) where
  abbrev capacity : ℕ
  capacity = header.capacity

  abbrev area : ℕ
  area = live_area (seen_of t)

  abbrev size : ℕ
  size = area_begin Many header.capacity (suc (live_area (seen_of t)))

  long-enough : size ≤ length (seen_of t)
  long-enough = within header records t full

  both : Passes (HasFront size (seen_of t)) t u
      × HasCopy (area_begin Many capacity area) (area_slots Many capacity area) (area_slots Many capacity (suc area)) (seen_of t) (seen_of u)
  both = copied long-enough full.rest.stable

  kept : (c : List ℕ) → HasFront size (seen_of t) c → Stands header records c
  kept = front-is header records t full

  pub passes-copied : Passes (Stands header records) t u
  passes-copied = passes-weaker (HasFront size (seen_of t)) (Stands header records) t u kept both.0

  pub passes-synced : Passes (Stands header records) t (after Synced u)
  passes-synced = passes-weaker (HasFront size (seen_of t)) (Stands header records) t (after Synced u) kept (front-synced size t u both.0)

  seen-stands : Stands header records (seen_of u) × (form_in (seen_of u) ≡ Many) × (live_area (seen_of u) ≡ area)
  seen-stands = stands-front header records (seen_of t) (seen_of u) size full.rest.stands full.two (omega arith) long-enough (front-seen size t u both.0)

  seen-lives : LivesIn capacity area header records (seen_of u)
  seen-lives = subst (λ (n : ℕ). LivesIn capacity n header records (seen_of u)) seen-stands.2 (lives header records (seen_of u) seen-stands.0 seen-stands.1)

  next-fills : FillsSlots (area_in Many capacity (suc area) (length (seen_of u))) (seen_of u) records
  next-fills =
      let copy = both.1 in
      let all = full.full in
      let more = full.more in
      let doubles = slots-double capacity area in
      let reach : area_begin Many capacity (suc (suc area)) ≤ length (seen_of u) = omega (arith, copy.long) in
      fills-moved (area_in Many capacity area (length (seen_of t))) (area_in Many capacity (suc area) (length (seen_of u))) (seen_of t) (seen_of u) records
      (lives header records (seen_of t) full.rest.stands full.two).fills long-enough (area-whole capacity (suc area) (seen_of u) reach) reach
      (λ k i lt small_i. copy.copied k i (omega arith) (omega (arith, doubles)) small_i) (omega (arith, doubles))
      (λ k ge lt is.
      let here : size + 64 * k + 0 ≡ size + 64 * k = omega arith in
      let none : slice_index (seen_of u) (size + 64 * k) ≡ 0 = ap (slice_index (seen_of u)) (sym here) ∙ copy.zeros k 0 (omega arith) lt (omega arith) in
      let h : 0 ≡ 165 = sym none ∙ is in omega (arith, h))

  gate-leaves : (n : ℕ) (c : List ℕ) → n ≤ 1 → Torn (96 + suc area) n (seen_of u) c → Stands header records c
  gate-leaves n c le torn = ⊎_elim
      (λ is_open. (lives-stands (suc area) header records c small
      (in-next capacity area header records (seen_of u) small seen-lives full.more next-fills n c le torn is_open)).0)
      (λ shut. (lives-stands area header records c small
      (still-in capacity area header records (seen_of u) small seen-lives full.more next-fills n c le torn shut)).0)
      (cases_eq (area_gate c (suc area)) gate)

  pub passes-gate : (bytes : List ℕ) → length bytes ≤ 1 → Passes (Stands header records) t (gated area bytes u)
  passes-gate bytes le = passes-step (Stands header records) t (after Synced u) (Wrote (96 + suc area) bytes) passes-synced
      (torn-leaves (after Synced u) (Stands header records) (96 + suc area) bytes (λ c image. image)
      (λ c torn. gate-leaves (length bytes) c le torn))

  abbrev now : List ℕ
  now = overlaid (seen_of u) (96 + suc area) (gate ∷ [])

  gate-open : area_gate now (suc area) ≡ gate
  gate-open = let here : 96 + suc area + 0 ≡ 96 + suc area = omega arith in
      ap (slice_index now) (sym here) ∙ overlaid-at (seen_of u) (96 + suc area) (gate ∷ []) 0 (omega arith)

  now-stands : Stands header records now × (form_in now ≡ Many) × (live_area now ≡ suc area)
  now-stands = lives-stands (suc area) header records now small
      (in-next capacity area header records (seen_of u) small seen-lives full.more next-fills 1 now (omega arith)
      (overlaid-torn (seen_of u) (96 + suc area) (gate ∷ [])) gate-open)

  pub added : IsAtRest header records (after Synced (gated area (gate ∷ []) u)) × (form_in now ≡ Many) × (live_area now ≡ suc area)
      × Passes (Stands header records) t (after Synced (gated area (gate ∷ []) u))
  added = (
    record { stands = now-stands.0; stable = λ c image. image },
    now-stands.1,
    now-stands.2,
    passes-step (Stands header records) t (gated area (gate ∷ []) u) Synced (passes-gate (gate ∷ []) (omega arith))
        (λ c image. subst (λ (d : List ℕ). Stands header records d) (sym image) now-stands.0),
  )

-- ---- told or not

module _ (capacity area : ℕ) (small : capacity < 2 ^ 32) where
  abbrev Copied : Trace → Trace → Type 0
  Copied = AreaCopied (area_begin Many capacity area) (area_slots Many capacity area) (area_slots Many capacity (suc area))

  copy-failed : (t u : Trace) → AreaCopyFailed (area_begin Many capacity area) (area_slots Many capacity area) t u → AreaAddFailed capacity area t u
  copy-failed t u failed header records full = by-numbers header t capacity area
      (λ c a. IsFull c a header records t → AreaCopyFailed (area_begin Many c a) (area_slots Many c a) t u → Passes (Stands header records) t u)
      full.capacity_is full.live (λ f. passes-copy-failed header records t f u) full failed

  -- what holds of a copy that is whole
  by-copy : (t u : Trace) (Q : Header → List Record → ℕ → Type 0)
      → ((header : Header) (records : List Record) → header.capacity < 2 ^ 32 → IsFull header.capacity (live_area (seen_of t)) header records t
      → AreaCopied (area_begin Many header.capacity (live_area (seen_of t))) (area_slots Many header.capacity (live_area (seen_of t)))
      (area_slots Many header.capacity (suc (live_area (seen_of t)))) t u → Q header records (live_area (seen_of t)))
      → Copied t u → (header : Header) (records : List Record) → IsFull capacity area header records t → Q header records area
  by-copy t u Q each copied header records full = by-numbers header t capacity area
      (λ c a. c < 2 ^ 32 → IsFull c a header records t → AreaCopied (area_begin Many c a) (area_slots Many c a) (area_slots Many c (suc a)) t u → Q header records a)
      full.capacity_is full.live (each header records) small full copied

  after-copy : (t u : Trace) → Copied t u → AreaAddFailed capacity area t u
  after-copy t u = by-copy t u (λ header records a. Passes (Stands header records) t u)
      (λ header records s full copied. passes-copied header records t u s full copied)

  after-sync : (t u : Trace) → Copied t u → AreaAddFailed capacity area t (after Synced u)
  after-sync t u = by-copy t u (λ header records a. Passes (Stands header records) t (after Synced u))
      (λ header records s full copied. passes-synced header records t u s full copied)

  after-gate : (t u : Trace) (bytes : List ℕ) → length bytes ≤ 1 → Copied t u → AreaAddFailed capacity area t (gated area bytes u)
  after-gate t u bytes le = by-copy t u (λ header records a. Passes (Stands header records) t (gated a bytes u))
      (λ header records s full copied. passes-gate header records t u s full copied bytes le)

  after-all : (t u : Trace) → Copied t u → AreaAdded capacity area t (after Synced (gated area (gate ∷ []) u))
  after-all t u = by-copy t u
      (λ header records a. IsAtRest header records (after Synced (gated a (gate ∷ []) u))
      × (form_in (overlaid (seen_of u) (96 + suc a) (gate ∷ [])) ≡ Many) × (live_area (overlaid (seen_of u) (96 + suc a) (gate ∷ [])) ≡ suc a) × Passes (Stands header records) t (after Synced (gated a (gate ∷ []) u)))
      (λ header records s full copied. added header records t u s full copied)

  module _ (old mid synced new : Option Trace) where
    pub told-copy-failed : WhereTold (AreaCopyFailed (area_begin Many capacity area) (area_slots Many capacity area)) old mid
        → WhereTold (AreaAddFailed capacity area) old mid
    told-copy-failed = told-weaker (AreaCopyFailed (area_begin Many capacity area) (area_slots Many capacity area)) (AreaAddFailed capacity area) copy-failed old mid

    pub told-not-synced : WhereTold Copied old mid → synced ≡ mid → WhereTold (AreaAddFailed capacity area) old synced
    told-not-synced told same =
        subst (λ (o : Option Trace). WhereTold (AreaAddFailed capacity area) old o) (sym same)
        (told-weaker Copied (AreaAddFailed capacity area) after-copy old mid told)

    -- a copy that is stable
    abbrev StableCopy : Trace → Trace → Type 0
    StableCopy t v = (u : Trace) × Copied t u × (v ≡ after Synced u)

    told-stable : WhereTold Copied old mid → synced ≡ noted Synced mid → WhereTold StableCopy old synced
    told-stable told is = told-both Copied (λ u v. v ≡ after Synced u) StableCopy (λ t u v copied same. (u, copied, same)) old mid synced told
        (told-is (λ u v. v ≡ after Synced u) (after Synced) mid synced is (λ t. refl))

    pub told-not-gated : WhereTold Copied old mid → synced ≡ noted Synced mid → MayHaveWritten (96 + suc area) 1 synced new
        → WhereTold (AreaAddFailed capacity area) old new
    told-not-gated told is may = told-then-tried StableCopy (AreaAddFailed capacity area) (96 + suc area) 1
        (λ t v stable. subst (λ (w : Trace). AreaAddFailed capacity area t w) (sym stable.2) (after-sync t stable.0 stable.1))
        (λ t v bytes le stable. subst (λ (w : Trace). AreaAddFailed capacity area t (after (Wrote (96 + suc area) bytes) w)) (sym stable.2)
        (after-gate t stable.0 bytes le stable.1))
        old synced new (told-stable told is) may

    pub told-added : WhereTold Copied old mid → synced ≡ noted Synced mid → new ≡ noted Synced (noted (Wrote (96 + suc area) (gate ∷ [])) synced)
        → WhereTold (AreaAdded capacity area) old new
    told-added told is put = told-both StableCopy (λ v w. w ≡ after Synced (after (Wrote (96 + suc area) (gate ∷ [])) v)) (AreaAdded capacity area)
        (λ t v w stable same. subst (λ (x : Trace). AreaAdded capacity area t x)
        (sym (same ∙ ap (λ (x : Trace). after Synced (after (Wrote (96 + suc area) (gate ∷ [])) x)) stable.2)) (after-all t stable.0 stable.1))
        old synced new (told-stable told is)
        (told-is (λ v w. w ≡ after Synced (after (Wrote (96 + suc area) (gate ∷ [])) v))
        (λ v. after Synced (after (Wrote (96 + suc area) (gate ∷ [])) v)) synced new
        (put ∙ ap (λ (o : Option Trace). noted Synced (noted (Wrote (96 + suc area) (gate ∷ [])) o)) (same-map synced)
        ∙ noted-twice (λ t. t) (Wrote (96 + suc area) (gate ∷ [])) Synced synced) (λ t. refl))
