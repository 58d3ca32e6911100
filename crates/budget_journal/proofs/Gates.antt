-- Which area is live, by the gates in a header.
use Rattle.std.proofs.Common.{◌≡◌, ◌≢◌, ℕ, zero, suc, ◌+◌, ◌-◌, ◌<◌, ◌≤◌, ◌^◌, List, [], ◌∷◌, ◌++◌, length, take, drop, slice_index, replicate, length-append, cond, if◌then◌else◌, ◌==◌, Bool, true, false, refl, sym, ◌∙◌, ap, subst, arith, inl, inr, ⊎_elim, length-drop}
use Rattle.std.proofs.lemmas.Bool.{cases_lt, cases_eq, eqb-true, eqb-false, eq-eqb, ne_eqb}
use Rattle.std.proofs.lemmas.List.{length-take, length-replicate, get_or-take, get_or-drop, get_or-append_right, get_or-replicate, get_or_past, ext_get_or, take-take, drop-take}
use Rattle.std.specs.Int.{w32, w64, to_be_bytes}
use Rattle.journal_records.specs.Encoding.{gate, newest_version, IsVersion, encoded_header}
use Rattle.journal_records.specs.declared.records.Header.{Header}
use Rattle.budget_journal.specs.declared.form.Form.{Form}
use Rattle.budget_journal.specs.declared.form.Form.TheVariants.{One, Many}
use Rattle.budget_journal.specs.Areas.{version_by, version_in, form_by, form_in, area_slots, IsArea, area_gate, open_gates, live_area, HasGates, IsStray}
use Rattle.budget_journal.specs.Journals.{HasGrownHeader, HasHeaderOf, HasHeader}
use Rattle.budget_journal.specs.Opening.{AreAlike}
use Rattle.budget_journal.proofs.Geometry.{few, earlier-area}

-- a piece of one file is a piece of another, byte by byte
pub piece-moved : (c d : List ℕ) (p q n : ℕ) → p + n ≤ length c → q + n ≤ length d
    → ((i : ℕ) → i < n → slice_index c (p + i) ≡ slice_index d (q + i)) → take n (drop p c) ≡ take n (drop q d)
piece-moved c d p q n long_c long_d each = ext_get_or 0 (take n (drop p c)) (take n (drop q d))
    (omega (arith, length-take n (drop p c), length-take n (drop q d), length-drop p c, length-drop q d))
    (λ i lt.
    let within : i < n = omega (arith, lt, length-take n (drop p c)) in
    get_or-take n (drop p c) i 0 within ∙ get_or-drop p c i 0 ∙ each i within ∙ sym (get_or-drop q d i 0) ∙ sym (get_or-take n (drop q d) i 0 within))

pub all-zero : (n i : ℕ) → slice_index (replicate n 0) i ≡ 0
all-zero n i = ⊎_elim (λ lt. get_or-replicate n i 0 0 lt) (λ le. get_or_past (replicate n 0) i 0 (omega (arith, length-replicate {A = ℕ} n 0))) (cases_lt i n)

-- ---- the live area

open-first : (l : List ℕ) (byte n : ℕ) → byte ≡ gate → open_gates l ≡ n → open_gates (byte ∷ l) ≡ suc n
open-first l byte n is rest = ap (λ b. cond b (suc (open_gates l)) 0) (eq-eqb byte gate is) ∙ ap suc rest

shut-first : (l : List ℕ) (byte : ℕ) → byte ≢ gate → open_gates (byte ∷ l) ≡ 0
shut-first l byte is = ap (λ b. cond b (suc (open_gates l)) 0) (ne_eqb byte gate is)

open-count : (l : List ℕ) (n : ℕ) → ((i : ℕ) → i < n → slice_index l i ≡ gate) → slice_index l n ≢ gate → open_gates l ≡ n
open-count [] zero opened shut = refl
open-count [] (suc n) opened shut = let h : 0 ≡ 165 = opened 0 (omega arith) in absurd (omega (arith, h))
open-count (byte ∷ l) zero opened shut = shut-first l byte shut
open-count (byte ∷ l) (suc n) opened shut = open-first l byte n (opened 0 (omega arith)) (open-count l n (λ i lt. opened (suc i) (omega arith)) shut)

open-few : (l : List ℕ) → open_gates l ≤ length l
open-few [] = omega arith
open-few (byte ∷ l) = ⊎_elim
    (λ is. omega (arith, open-first l byte (open_gates l) is refl, open-few l))
    (λ is. omega (arith, shut-first l byte is))
    (cases_eq byte gate)

pub live-few : (bytes : List ℕ) → live_area bytes ≤ 31
live-few bytes = omega (arith, open-few (take 31 (drop 97 bytes)), length-take 31 (drop 97 bytes))

gate-at : (bytes : List ℕ) (i : ℕ) → i < 31 → slice_index (take 31 (drop 97 bytes)) i ≡ area_gate bytes (1 + i)
gate-at bytes i lt = let here : 97 + i ≡ 96 + (1 + i) = omega arith in
    get_or-take 31 (drop 97 bytes) i 0 lt ∙ get_or-drop 97 bytes i 0 ∙ ap (slice_index bytes) here

-- gates in order tell the live area
pub live-is : (capacity area : ℕ) (bytes : List ℕ) → capacity < 2 ^ 32 → HasGates capacity area bytes → live_area bytes ≡ area
live-is capacity area bytes small gates =
    let most = few Many capacity area small gates.there in
    open-count (take 31 (drop 97 bytes)) area
    (λ i lt. gate-at bytes i (omega arith) ∙ gates.opened (1 + i) (omega arith) (omega arith))
    (λ is. gates.shut (1 + area) (omega arith) (omega arith) (sym (gate-at bytes area (omega arith)) ∙ is))

-- and none of them is stray
pub no-stray : (capacity area n : ℕ) (bytes : List ℕ) → HasGates capacity area bytes → IsStray capacity bytes n → ⊥
no-stray capacity area n bytes gates stray =
    let within : n ≤ area = ⊎_elim (λ past. absurd (gates.shut n past stray.1 stray.2)) (λ le. le) (cases_lt area n) in
    ⊎_elim
    (λ behind. let before : behind.0 < n = behind.2 in behind.3 (gates.opened behind.0 behind.1 (omega arith)))
    (λ none. none (earlier-area Many capacity area n within gates.there))
    stray.3

-- ---- headers alike

pub gate-front : (c d : List ℕ) (n : ℕ) → take 128 c ≡ take 128 d → n ≤ 31 → area_gate c n ≡ area_gate d n
gate-front c d n same le =
    sym (get_or-take 128 c (96 + n) 0 (omega arith)) ∙ ap (λ (l : List ℕ). slice_index l (96 + n)) same ∙ get_or-take 128 d (96 + n) 0 (omega arith)

pub gates-front : (capacity area : ℕ) (c d : List ℕ) → take 128 c ≡ take 128 d → area ≤ 31 → HasGates capacity area d → HasGates capacity area c
gates-front capacity area c d same le gates = record {
  there = gates.there;
  opened = λ n low high. gate-front c d n same (omega arith) ∙ gates.opened n low high;
  shut = λ n past high is. gates.shut n past high (sym (gate-front c d n same high) ∙ is);
}

live-front : (bytes : List ℕ) → live_area bytes ≡ open_gates (drop 97 (take 128 bytes))
live-front bytes = ap open_gates (sym (drop-take 97 31 bytes))

pub live-same : (c d : List ℕ) → take 128 c ≡ take 128 d → live_area c ≡ live_area d
live-same c d same = live-front c ∙ ap (λ (l : List ℕ). open_gates (drop 97 l)) same ∙ sym (live-front d)

pub fields-front : (c d : List ℕ) → take 128 c ≡ take 128 d → take 97 c ≡ take 97 d
fields-front c d same = sym (take-take 97 128 c (omega arith)) ∙ ap (take 97) same ∙ take-take 97 128 d (omega arith)

pub form-same : (c d : List ℕ) → take 128 c ≡ take 128 d → form_in c ≡ form_in d
form-same c d same = ap form_by
    (sym (get_or-take 128 c 9 0 (omega arith)) ∙ ap (λ (l : List ℕ). slice_index l 9) same ∙ get_or-take 128 d 9 0 (omega arith))

header-of-same : (form : Form) (header : Header) (c d : List ℕ) → take 128 c ≡ take 128 d → HasHeaderOf form header d → HasHeaderOf form header c
header-of-same One header c d same head = same ∙ head
header-of-same Many header c d same head = record {
  fields = fields-front c d same ∙ head.fields;
  known = head.known;
  gates = subst (λ (n : ℕ). HasGates header.capacity n c) (sym (live-same c d same))
      (gates-front header.capacity (live_area d) c d same (live-few d) head.gates);
}

-- a file with the same header
pub header-same : (header : Header) (c d : List ℕ) → take 128 c ≡ take 128 d → HasHeader header d → HasHeader header c
header-same header c d same head = subst (λ (v : Form). HasHeaderOf v header c) (sym (form-same c d same))
    (header-of-same (form_in d) header c d same head)

-- the version by a header's fields
pub byte-nine : (header : Header) (d : List ℕ) → take 97 d ≡ take 97 (encoded_header header) → slice_index d 9 ≡ header.version
byte-nine header d fields = sym (get_or-take 97 d 9 0 (omega arith)) ∙ ap (λ (l : List ℕ). slice_index l 9) fields

pub form-two : (header : Header) (d : List ℕ) → take 97 d ≡ take 97 (encoded_header header) → form_by header.version ≡ Many → form_in d ≡ Many
form-two header d fields many = ap form_by (byte-nine header d fields) ∙ many

one-byte : (byte : ℕ) → form_by byte ≡ One → byte ≡ 1
one-byte byte one = by (byte == 1) refl one
  where
    by : (b : Bool) → (byte == 1) ≡ b → (if b then One else Many) ≡ One → byte ≡ 1
    by true is same = eqb-true byte 1 is
    by false is same = absurd cc

version-of-head : (form : Form) (header : Header) (d : List ℕ) → form_in d ≡ form → HasHeaderOf form header d → version_in d ≡ header.version
version-of-head One header d one head =
    let byte : slice_index d 9 ≡ header.version = sym (get_or-take 128 d 9 0 (omega arith)) ∙ ap (λ (l : List ℕ). slice_index l 9) head in
    ap version_by (one-byte (slice_index d 9) one) ∙ sym (one-byte (slice_index d 9) one) ∙ byte
version-of-head Many header d many head = ap version_by (byte-nine header d head.fields) ∙ head.known

-- the version of a header that is found
pub head-version : (header : Header) (d : List ℕ) → HasHeader header d → version_in d ≡ header.version
head-version header d head = version-of-head (form_in d) header d refl head

pub version-known : (version : ℕ) → IsVersion version → version_by version ≡ version
version-known version (low, high) = by (version == 1) refl (version == 2) refl
  where
    by : (b : Bool) → (version == 1) ≡ b → (d : Bool) → (version == 2) ≡ d → (if b then 1 else if d then 2 else newest_version) ≡ version
    by true one d two = sym (eqb-true version 1 one)
    by false one true two = sym (eqb-true version 2 two)
    by false one false two = omega (arith, low, high, eqb-false version 1 one, eqb-false version 2 two)

pub version-again : (byte : ℕ) → version_by (version_by byte) ≡ version_by byte
version-again byte = by (byte == 1) (byte == 2)
  where
    by : (b d : Bool) → version_by (if b then 1 else if d then 2 else newest_version) ≡ (if b then 1 else if d then 2 else newest_version)
    by true d = refl
    by false true = refl
    by false false = refl

pub many-from : (version : ℕ) → 2 ≤ version → form_by version ≡ Many
many-from version from = by (version == 1) refl
  where
    by : (b : Bool) → (version == 1) ≡ b → (if b then One else Many) ≡ Many
    by true one = absurd (omega (arith, from, eqb-true version 1 one))
    by false one = refl

-- the gate of a header
gate-of-head : (form : Form) (header : Header) (d : List ℕ) → HasHeaderOf form header d → slice_index d 0 ≡ gate
gate-of-head One header d head = sym (get_or-take 128 d 0 0 (omega arith)) ∙ ap (λ (l : List ℕ). slice_index l 0) head
gate-of-head Many header d head = sym (get_or-take 97 d 0 0 (omega arith)) ∙ ap (λ (l : List ℕ). slice_index l 0) head.fields

pub head-open : (header : Header) (d : List ℕ) → HasHeader header d → slice_index d 0 ≡ gate
head-open header d head = gate-of-head (form_in d) header d head

-- ---- the gate of the next area

module _ (capacity area : ℕ) (c d : List ℕ) (gates : HasGates capacity area d)
    (same : (n : ℕ) → 1 ≤ n → n ≤ 31 → (n ≡ suc area → ⊥) → area_gate c n ≡ area_gate d n) (most : area ≤ 31) where
  pub gate-shut : area_gate c (suc area) ≢ gate → HasGates capacity area c
  gate-shut shut = record {
    there = gates.there;
    opened = λ n low high. same n low (omega arith) (omega arith) ∙ gates.opened n low high;
    shut = λ n past high is. ⊎_elim
        (λ here. shut (ap (area_gate c) (sym here) ∙ is))
        (λ other. gates.shut n past high (sym (same n (omega arith) high other) ∙ is))
        (cases_eq n (suc area));
  }

  pub gate-opened : IsArea Many capacity (suc area) → area_gate c (suc area) ≡ gate → HasGates capacity (suc area) c
  gate-opened there is_open = record {
    there = there;
    opened = λ n low high. ⊎_elim
        (λ here. ap (area_gate c) here ∙ is_open)
        (λ other. same n low (omega (arith, other)) other ∙ gates.opened n low (omega (arith, other)))
        (cases_eq n (suc area));
    shut = λ n past high is. gates.shut n (omega arith) high (sym (same n (omega arith) high (omega arith)) ∙ is);
  }

-- ---- one gate after another

-- The gates below this number were read, with this live area so far: all of them were open up to it, and none behind it.
pub record GatesRead (kept : List ℕ) (number area : ℕ) (shut : Bool) : Type 0 where
  pub opened : (n : ℕ) → 1 ≤ n → n ≤ area → area_gate kept n ≡ gate
  pub behind : (n : ℕ) → area < n → n < number → area_gate kept n ≢ gate
  pub low : area < number
  pub reached : shut ≡ false → number ≡ area + 1
  pub passed : shut ≡ true → area + 1 < number

pub gates-none : (kept : List ℕ) → GatesRead kept 1 0 false
gates-none kept = record {
  opened = λ n low high. absurd (omega arith);
  behind = λ n low high. absurd (omega arith);
  low = omega arith;
  reached = λ is. refl;
  passed = λ is. absurd cc;
}

module _ (kept : List ℕ) (number area : ℕ) (shut : Bool) (read : GatesRead kept number area shut) where
  pub read-shut : area_gate kept number ≢ gate → GatesRead kept (number + 1) area true
  read-shut is_shut = record {
    opened = read.opened;
    behind = λ n past high is. ⊎_elim
        (λ here. is_shut (ap (area_gate kept) (sym here) ∙ is))
        (λ other. read.behind n past (omega (arith, other)) is)
        (cases_eq n number);
    low = omega (arith, read.low);
    reached = λ is. absurd cc;
    passed = λ is. omega (arith, read.low);
  }

  pub read-open : shut ≡ false → area_gate kept number ≡ gate → GatesRead kept (number + 1) (area + 1) false
  read-open so_far is_open =
      let here = read.reached so_far in
      record {
        opened = λ n low high. ⊎_elim
            (λ last. ap (area_gate kept) last ∙ is_open)
            (λ other. read.opened n low (omega (arith, other)))
            (cases_eq n number);
        behind = λ n past high. absurd (omega arith);
        low = omega arith;
        reached = λ is. omega arith;
        passed = λ is. absurd cc;
      }

  module _ (capacity : ℕ) (low : 1 ≤ number) (high : number ≤ 31) (is_open : area_gate kept number ≡ gate) where
    pub stray-behind : shut ≡ true → IsStray capacity kept number
    stray-behind is = let past = read.passed is in
        (low, high, is_open, inl (area + 1, omega arith, past, read.behind (area + 1) (omega arith) past))

    pub stray-past : area_slots Many capacity area ≡ capacity → IsStray capacity kept number
    stray-past all = (low, high, is_open, inr (λ there. let fewer = there area read.low in absurd (omega (arith, fewer, all))))

pub read-all : (capacity : ℕ) (kept : List ℕ) (area : ℕ) (shut : Bool) → IsArea Many capacity area → GatesRead kept 32 area shut → HasGates capacity area kept
read-all capacity kept area shut there read = record {
  there = there;
  opened = read.opened;
  shut = λ n past high. read.behind n past (omega arith);
}

-- ---- the gates of a header

-- all but the last 32 bytes of a header
abbrev front : Header → List ℕ
front h = (gate ∷ 70 ∷ 85 ∷ 90 ∷ 90 ∷ 66 ∷ 85 ∷ 68 ∷ 71 ∷ h.version ∷ []) ++ to_be_bytes w32 h.owner ++ to_be_bytes w64 h.budget ++ to_be_bytes w32 h.capacity
    ++ replicate 38 0 ++ h.digest

length-front : (h : Header) → length h.digest ≡ 32 → length (front h) ≡ 96
length-front h long = omega (arith, long)

-- no gate is open in a new header
pub no-gate : (h : Header) → length h.digest ≡ 32 → (n : ℕ) → 1 ≤ n → slice_index (encoded_header h) (96 + n) ≡ 0
no-gate h long n low = get_or-append_right (front h) (replicate 32 0) 96 (96 + n) 0 (length-front h long) (omega arith) ∙ all-zero 32 (96 + n - 96)

-- so area 0 is live in version 1
pub live-one : (header : Header) (bytes : List ℕ) → length header.digest ≡ 32 → take 128 bytes ≡ encoded_header header → live_area bytes ≡ 0
live-one header bytes long head = open-count (take 31 (drop 97 bytes)) 0 (λ i lt. absurd (omega arith))
    (λ is. let h : 0 ≡ 165 = sym (no-gate header long 1 (omega arith)) ∙ ap (λ (l : List ℕ). slice_index l 97) (sym head)
    ∙ get_or-take 128 bytes 97 0 (omega arith) ∙ sym (gate-at bytes 0 (omega arith)) ∙ is in omega (arith, h))

digest-long : (header : Header) (bytes : List ℕ) → 128 ≤ length bytes → take 128 bytes ≡ encoded_header header → length header.digest ≡ 32
digest-long header bytes long head =
    let taken : length (take 128 bytes) ≡ 128 = omega (arith, length-take 128 bytes, long) in
    let whole : length (encoded_header header) ≡ 128 = ap length (sym head) ∙ taken in
    omega (arith, whole, length-append header.digest (replicate 32 0), length-replicate {A = ℕ} 32 0)

pub live-one-by : (header : Header) (bytes : List ℕ) → 128 ≤ length bytes → take 128 bytes ≡ encoded_header header → live_area bytes ≡ 0
live-one-by header bytes long head = live-one header bytes (digest-long header bytes long head) head

-- ---- a header that was read

kept-front : (kept bytes : List ℕ) → kept ≡ take 128 bytes → take 128 kept ≡ take 128 bytes
kept-front kept bytes is = ap (take 128) is ∙ take-take 128 128 bytes (omega arith)

pub kept-fields : (header : Header) (kept found bytes : List ℕ) → kept ≡ take 128 bytes → found ≡ encoded_header header → take 97 kept ≡ take 97 found
    → take 97 bytes ≡ take 97 (encoded_header header)
kept-fields header kept found bytes is found_is alike = sym (take-take 97 128 bytes (omega arith)) ∙ ap (take 97) (sym is) ∙ alike ∙ ap (take 97) found_is

pub kept-stray : (capacity n : ℕ) (kept bytes : List ℕ) → kept ≡ take 128 bytes → IsStray capacity kept n → IsStray capacity bytes n
kept-stray capacity n kept bytes is stray =
    let same = kept-front kept bytes is in
    let low = stray.0 in
    let high = stray.1 in (
      low,
      high,
      sym (gate-front kept bytes n same high) ∙ stray.2,
      ⊎_elim
          (λ behind. let before : behind.0 < n = behind.2 in
          inl (behind.0, behind.1, before, λ open_gate. behind.3 (gate-front kept bytes behind.0 same (omega arith) ∙ open_gate)))
          (λ none. inr none)
          stray.3,
    )

kept-grown : (header : Header) (area : ℕ) (kept found bytes : List ℕ) → version_by header.version ≡ header.version → header.capacity < 2 ^ 32 → kept ≡ take 128 bytes → found ≡ encoded_header header
    → take 97 kept ≡ take 97 found → HasGates header.capacity area kept → HasGrownHeader header bytes × (area ≡ live_area bytes)
kept-grown header area kept found bytes known small is found_is alike gates =
    let most = few Many header.capacity area small gates.there in
    let here : HasGates header.capacity area bytes = gates-front header.capacity area bytes kept (sym (kept-front kept bytes is)) (omega arith) gates in
    let live : live_area bytes ≡ area = live-is header.capacity area bytes small here in (
      record {
        fields = kept-fields header kept found bytes is found_is alike;
        known = known;
        gates = subst (λ (n : ℕ). HasGates header.capacity n bytes) (sym live) here;
      },
      sym live,
    )

kept-of : (form : Form) (header : Header) (area : ℕ) (kept found bytes : List ℕ) → version_by header.version ≡ header.version → header.capacity < 2 ^ 32 → 128 ≤ length bytes
    → kept ≡ take 128 bytes → found ≡ encoded_header header → AreAlike form header.capacity area kept found
    → HasHeaderOf form header bytes × (area ≡ live_area bytes)
kept-of One header area kept found bytes known small long is found_is (alike, none) =
    let head : take 128 bytes ≡ encoded_header header = sym is ∙ alike ∙ found_is in
    (head, none ∙ sym (live-one-by header bytes long head))
kept-of Many header area kept found bytes known small long is found_is (alike, gates) = kept-grown header area kept found bytes known small is found_is alike gates

-- the version that was read
pub kept-version : (kept bytes : List ℕ) → kept ≡ take 128 bytes → version_by (slice_index kept 9) ≡ version_in bytes
kept-version kept bytes is = ap (λ (l : List ℕ). version_by (slice_index l 9)) is ∙ ap version_by (get_or-take 128 bytes 9 0 (omega arith))

pub kept-form : (kept bytes : List ℕ) → kept ≡ take 128 bytes → form_by (slice_index kept 9) ≡ form_in bytes
kept-form kept bytes is = ap (λ (l : List ℕ). form_by (slice_index l 9)) is ∙ ap form_by (get_or-take 128 bytes 9 0 (omega arith))

pub kept-header : (form : Form) (header : Header) (area : ℕ) (kept found bytes : List ℕ) → version_by header.version ≡ header.version → header.capacity < 2 ^ 32 → 128 ≤ length bytes
    → kept ≡ take 128 bytes → form ≡ form_in bytes → found ≡ encoded_header header → AreAlike form header.capacity area kept found
    → HasHeader header bytes × (area ≡ live_area bytes)
kept-header form header area kept found bytes known small long is same found_is alike =
    let head = kept-of form header area kept found bytes known small long is found_is alike in
    (subst (λ (v : Form). HasHeaderOf v header bytes) same head.0, head.1)
