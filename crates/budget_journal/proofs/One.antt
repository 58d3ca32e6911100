-- Bytes stand for one list of records, and those that do aren't refused for what they are.
use Rattle.std.proofs.Common.{◌≡◌, ◌⊎◌, ℕ, suc, ◌+◌, ◌*◌, ◌≤◌, List, [], ◌∷◌, length, take, slice_index, slice_get, Some, refl, sym, ◌∙◌, ap, subst, arith, inl, inr, ⊎_elim}
use Rattle.std.proofs.lemmas.Bool.{cases_lt}
use Rattle.std.proofs.lemmas.List.{take-take}
use Rattle.journal_records.specs.declared.records.Record.{Record}
use Rattle.journal_records.specs.declared.records.Header.{Header}
use Rattle.journal_records.specs.Encoding.{encoded_header}
use Rattle.journal_records.proofs.One.{record-one}
use Rattle.budget_journal.specs.declared.opening.OpenFault.{OpenFault}
use Rattle.budget_journal.specs.declared.opening.OpenFault.TheVariants.{DiskFault, NoMemory, NotInitialised, Changed, Damaged}
use Rattle.budget_journal.specs.declared.form.Form.{Form}
use Rattle.budget_journal.specs.declared.form.Form.TheVariants.{One, Many}
use Rattle.budget_journal.specs.Areas.{form_in, area_in, live_area}
use Rattle.budget_journal.specs.Journals.{Layout, FillsSlots, as_found, HasHeaderOf, slots_in, Stands, Differ, IsDamaged, IsOpenFault}
use Rattle.budget_journal.proofs.Gates.{no-stray, head-open, head-version, kept-stray, live-one-by}
use Rattle.budget_journal.proofs.Fills.{in-area, journal-long}
use Rattle.budget_journal.proofs.Scans.{element, holds-gate, sound}

no_longer : (layout : Layout) (records others : List Record) (bytes : List ℕ) → FillsSlots layout bytes records → FillsSlots layout bytes others
    → length others ≤ length records
no_longer layout records others bytes a b = ⊎_elim
    (λ longer.
    let e = element others (length records) longer in
    absurd (a.shut (length records) (omega arith) (omega (arith, longer, b.room))
    (holds-gate layout bytes (length records) e.0 (b.kept (length records) e.0 e.1))))
    (λ le. le)
    (cases_lt (length records) (length others))

same-each : (xs ys : List Record) → length xs ≡ length ys → ((k : ℕ) (x y : Record) → slice_get xs k ≡ Some x → slice_get ys k ≡ Some y → x ≡ y) → xs ≡ ys
same-each [] [] long each = refl
same-each [] (y ∷ ys) long each = absurd (omega arith)
same-each (x ∷ xs) [] long each = absurd (omega arith)
same-each (x ∷ xs) (y ∷ ys) long each =
    let first : x ≡ y = each 0 x y refl refl in
    let others : xs ≡ ys = same-each xs ys (omega arith) (λ k a b p q. each (suc k) a b p q) in
    λ i. first i ∷ others i

fills-one : (layout : Layout) (records others : List Record) (bytes : List ℕ) → FillsSlots layout bytes records → FillsSlots layout bytes others
    → records ≡ others
fills-one layout records others bytes a b =
    let here = no_longer layout records others bytes a b in
    let there = no_longer layout others records bytes b a in
    same-each records others (omega arith)
    (λ k x y p q. let e = a.kept k x p in let f = b.kept k y q in record-one x y e.valid f.valid (sym e.bytes ∙ f.bytes))

pub stands-one : (header : Header) (records others : List Record) (bytes : List ℕ) → Stands header records bytes
    → Stands header others bytes → records ≡ others
stands-one header records others bytes a b = fills-one (slots_in header bytes) records others bytes a.fills b.fills

-- a header that is the one found doesn't differ
no-difference : (form : Form) (header : Header) (bytes kept found : List ℕ) → kept ≡ take 128 bytes → found ≡ encoded_header header
    → HasHeaderOf form header bytes → Differ form header.capacity kept found → ⊥
no-difference One header bytes kept found is found_is head differ = differ (is ∙ head ∙ sym found_is)
no-difference Many header bytes kept found is found_is head differ = ⊎_elim
    (λ other. other (ap (take 97) is ∙ take-take 97 128 bytes (omega arith) ∙ head.fields ∙ ap (take 97) (sym found_is)))
    (λ stray. no-stray header.capacity (live_area bytes) stray.0 bytes head.gates (kept-stray header.capacity stray.0 kept bytes is stray.1))
    differ

module _ (header : Header) (records : List Record) (bytes : List ℕ) (stands : Stands header records bytes) where
  pub none-damaged : (k : ℕ) → IsDamaged (slots_in header bytes) bytes k → ⊥
  none-damaged = sound (slots_in header bytes) bytes records stands.fills (in-area header records bytes stands)

  -- the header that is looked for is the one that stands there
  found-header : encoded_header (as_found header bytes) ≡ encoded_header header
  found-header = ap (λ (v : ℕ). encoded_header (record header { version = v })) (head-version header bytes stands.head)

  pub refused-for-others : (fault : OpenFault) → IsOpenFault header bytes fault → (fault ≡ DiskFault) ⊎ (fault ≡ NoMemory)
  refused-for-others DiskFault is = inl refl
  refused-for-others NoMemory is = inr refl
  refused-for-others (NotInitialised n) is = ⊎_elim
      (λ short. absurd (omega (arith, short, journal-long header records bytes stands)))
      (λ shut. absurd (shut (head-open header bytes stands.head)))
      is.1
  refused-for-others (Changed kept found) is =
      absurd (no-difference (form_in bytes) header bytes kept found is.2 (is.3 ∙ found-header) stands.head is.4)
  refused-for-others (Damaged k) is = absurd (none-damaged k is.2.damaged)

  -- all slots, in version 1
  pub one-whole : form_in bytes ≡ One → (live_area bytes ≡ 0) × (length bytes ≡ 128 + 64 * header.capacity)
  one-whole one =
      let head : take 128 bytes ≡ encoded_header header = subst (λ (v : Form). HasHeaderOf v header bytes) one stands.head in
      let live : live_area bytes ≡ 0 = live-one-by header bytes (journal-long header records bytes stands) head in
      let whole : length bytes ≡ (area_in One header.capacity 0 (length bytes)).size =
      subst (λ (n : ℕ). length bytes ≡ (area_in One header.capacity n (length bytes)).size) live
      (subst (λ (v : Form). length bytes ≡ (area_in v header.capacity (live_area bytes) (length bytes)).size) one stands.fills.whole) in
      (live, omega (arith, whole))
