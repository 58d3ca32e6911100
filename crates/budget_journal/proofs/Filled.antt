-- The steps in which a slot is filled, and what a stop at each moment leaves.
use Rattle.std.proofs.Common.{◌≡◌, ℕ, ◌+◌, ◌<◌, ◌≤◌, List, [], ◌∷◌, ◌++◌, length, take, drop, slice_index, refl, sym, ◌∙◌, ap, subst, arith, inl, inr, ⊎_elim, length-drop, Option, option_map}
use Rattle.std.proofs.lemmas.Bool.{cases_eq}
use Rattle.std.proofs.lemmas.List.{get_or-drop}
use Rattle.outside_disks.specs.Disks.{Trace, after, noted, seen_of, overlaid, Torn, Only, Leaves, Passes, WhereTold, MayHaveWritten}
use Rattle.outside_disks.proofs.Told.{told-is, told-tried, noted-twice, same-map}
use Rattle.outside_disks.specs.Disks.Step.{Wrote, Synced}
use Rattle.outside_disks.proofs.Overlaid.{overlaid-at, overlaid-torn}
use Rattle.outside_disks.proofs.Images.{passes-none, passes-step}
use Rattle.journal_records.specs.Encoding.{gate, encoded, IsValid}
use Rattle.journal_records.specs.declared.records.Record.{Record}
use Rattle.journal_records.specs.declared.records.Header.{Header}
use Rattle.journal_records.proofs.Shapes.{length-encoded}
use Rattle.budget_journal.specs.Journals.{Stands, IsBeforeOrAfter, IsAtRest}
use Rattle.budget_journal.specs.Growth.{IsNextPlace, SlotFilled, SlotFillFailed}
use Rattle.budget_journal.proofs.Fills.{SameBut, torn-but, slot-filled, IsReady, ready-long, ready-shut, ready-more, header-kept}

-- what a stop in a write leaves of a stable file
pub torn-leaves : (t : Trace) (P : List ℕ → Type 0) (place : ℕ) (bytes : List ℕ) → Only (seen_of t) t
    → ((c : List ℕ) → Torn place (length bytes) (seen_of t) c → P c) → Leaves P (after (Wrote place bytes) t)
torn-leaves t P place bytes stable each c image = each c (subst (λ (d : List ℕ). Torn place (length bytes) d c) (stable image.0 image.1) image.2)

-- ---- the files

module _ (place : ℕ) (next : Record) (valid : IsValid next) (header : Header) (records : List Record) (d : List ℕ)
    (ready : IsReady place header records d) where
  -- some bytes behind the gate
  behind-but : (at size : ℕ) (c : List ℕ) → at ≡ place + 1 → size ≤ 63 → Torn at size d c → SameBut place d c
  behind-but at size c is le torn =
      let long = ready-long place header records d ready in
      torn-but place at size d c torn (omega arith) (omega arith) (omega arith)

  behind-torn : (at size : ℕ) (c : List ℕ) → at ≡ place + 1 → size ≤ 63 → Torn at size d c → IsReady place header records c
  behind-torn at size c is le torn =
      let long = ready-long place header records d ready in
      let shut = ready.stands.fills.shut (length records) (omega arith) ready.room in
      ready-shut place header records d c ready (behind-but at size c is le torn)
      (λ is_open. shut (ap (slice_index d) (sym ready.here) ∙ sym (torn.before place (omega arith) (omega arith)) ∙ is_open))

  gate-but : (size : ℕ) (c : List ℕ) → size ≤ 1 → Torn place size d c → SameBut place d c
  gate-but size c le torn =
      let long = ready-long place header records d ready in
      torn-but place place size d c torn (omega arith) (omega arith) (omega arith)

  -- the gate is open, and the rest stood behind it
  gate-filled : (size : ℕ) (c : List ℕ) → ((i : ℕ) → i < 63 → slice_index d (place + 1 + i) ≡ slice_index (encoded next) (1 + i)) → size ≤ 1
      → Torn place size d c → slice_index c place ≡ gate → Stands header (records ++ next ∷ []) c
  gate-filled size c body le torn is_open =
      let long = ready-long place header records d ready in
      let but = gate-but size c le torn in
      ready-more place header records d c ready but next
      (slot-filled place next c valid (omega (arith, but.long)) is_open
      (λ i lt. torn.behind (place + 1 + i) (omega arith) (omega arith) ∙ body i lt))

  gate-torn : (size : ℕ) (c : List ℕ) → ((i : ℕ) → i < 63 → slice_index d (place + 1 + i) ≡ slice_index (encoded next) (1 + i)) → size ≤ 1
      → Torn place size d c → IsBeforeOrAfter header records next c
  gate-torn size c body le torn = ⊎_elim
      (λ is_open. inr (gate-filled size c body le torn is_open))
      (λ shut. inl (ready-shut place header records d c ready (gate-but size c le torn) shut).stands)
      (cases_eq (slice_index c place) gate)

-- ---- the steps

-- what is written behind a gate
abbrev pub behind : ℕ → List ℕ → Trace → Trace
behind place body t = after Synced (after (Wrote (place + 1) body) t)

abbrev pub opened : ℕ → Trace → Trace
opened place t = after Synced (after (Wrote place (gate ∷ [])) t)

module _ (place : ℕ) (next : Record) (valid : IsValid next) (body : List ℕ) (is : body ≡ drop 1 (encoded next)) (header : Header) (records : List Record)
    (t : Trace) (stable : Only (seen_of t) t) (ready : IsReady place header records (seen_of t)) where
  abbrev P : List ℕ → Type 0
  P = IsBeforeOrAfter header records next

  length-body : length body ≡ 63
  length-body = omega (arith, ap length is, length-drop 1 (encoded next), length-encoded next valid)

  pub passes-first : Passes P t t
  passes-first = passes-none P t (λ c image. inl (subst (λ (d : List ℕ). Stands header records d) (sym (stable c image)) ready.stands))

  -- some bytes behind the gate
  pub passes-tried-behind : (bytes : List ℕ) → length bytes ≤ 63 → Passes P t (after (Wrote (place + 1) bytes) t)
  passes-tried-behind bytes le = passes-step P t t (Wrote (place + 1) bytes) passes-first (torn-leaves t P (place + 1) bytes stable
      (λ c torn. inl (behind-torn place next valid header records (seen_of t) ready (place + 1) (length bytes) c refl le torn).stands))

  abbrev filled : List ℕ
  filled = overlaid (seen_of t) (place + 1) body

  filled-ready : IsReady place header records filled
  filled-ready = behind-torn place next valid header records (seen_of t) ready (place + 1) (length body) filled refl (omega (arith, length-body))
      (overlaid-torn (seen_of t) (place + 1) body)

  filled-head : take 128 filled ≡ take 128 (seen_of t)
  filled-head = header-kept place header records (seen_of t) filled ready
      (behind-but place next valid header records (seen_of t) ready (place + 1) (length body) filled refl (omega (arith, length-body))
      (overlaid-torn (seen_of t) (place + 1) body))

  body-at : (i : ℕ) → i < 63 → slice_index filled (place + 1 + i) ≡ slice_index (encoded next) (1 + i)
  body-at i lt = overlaid-at (seen_of t) (place + 1) body i (omega (arith, length-body)) ∙ ap (λ (b : List ℕ). slice_index b i) is
      ∙ get_or-drop 1 (encoded next) i 0

  pub passes-behind : Passes P t (behind place body t)
  passes-behind = passes-step P t (after (Wrote (place + 1) body) t) Synced (passes-tried-behind body (omega (arith, length-body)))
      (λ c image. inl (subst (λ (d : List ℕ). Stands header records d) (sym image) filled-ready.stands))

  -- something at the gate
  pub passes-tried-gate : (bytes : List ℕ) → length bytes ≤ 1 → Passes P t (after (Wrote place bytes) (behind place body t))
  passes-tried-gate bytes le = passes-step P t (behind place body t) (Wrote place bytes) passes-behind
      (torn-leaves (behind place body t) P place bytes (λ c image. image)
      (λ c torn. gate-torn place next valid header records filled filled-ready (length bytes) c body-at le torn))

  abbrev whole : List ℕ
  whole = overlaid filled place (gate ∷ [])

  gate-open : slice_index whole place ≡ gate
  gate-open = let here : place + 0 ≡ place = omega arith in ap (slice_index whole) (sym here) ∙ overlaid-at filled place (gate ∷ []) 0 (omega arith)

  whole-stands : Stands header (records ++ next ∷ []) whole
  whole-stands = gate-filled place next valid header records filled filled-ready 1 whole body-at (omega arith)
      (overlaid-torn filled place (gate ∷ [])) gate-open

  pub whole-head : take 128 whole ≡ take 128 (seen_of t)
  whole-head = header-kept place header records filled whole filled-ready
      (gate-but place next valid header records filled filled-ready 1 whole (omega arith) (overlaid-torn filled place (gate ∷ []))) ∙ filled-head

  pub opened-rest : IsAtRest header (records ++ next ∷ []) (opened place (behind place body t))
  opened-rest = record { stands = whole-stands; stable = λ c image. image }

  pub passes-opened : Passes P t (opened place (behind place body t))
  passes-opened = passes-step P t (after (Wrote place (gate ∷ [])) (behind place body t)) Synced (passes-tried-gate (gate ∷ []) (omega arith))
      (λ c image. inr (subst (λ (d : List ℕ). Stands header (records ++ next ∷ []) d) (sym image) whole-stands))

-- ---- told or not

pub ready-at : (place : ℕ) (header : Header) (records : List Record) (t : Trace) → IsAtRest header records t → IsNextPlace place header records t
    → IsReady place header records (seen_of t)
ready-at place header records t rest next = record { stands = rest.stands; here = next.0; room = next.1 }

module _ (place : ℕ) (next : Record) (valid : IsValid next) (body : List ℕ) (is : body ≡ drop 1 (encoded next)) (old mid new : Option Trace) where
  one-put : mid ≡ noted Synced (noted (Wrote (place + 1) body) old) → mid ≡ option_map (behind place body) old
  one-put put = put ∙ ap (λ (o : Option Trace). noted Synced (noted (Wrote (place + 1) body) o)) (same-map old)
      ∙ noted-twice (λ t. t) (Wrote (place + 1) body) Synced old

  pub told-refused-first : MayHaveWritten (place + 1) 63 old new → WhereTold (SlotFillFailed place next) old new
  told-refused-first may = told-tried (SlotFillFailed place next) (λ t. t) (place + 1) 63 old old new (same-map old) may
      (λ t header records rest here. passes-first place next valid body is header records t rest.stable (ready-at place header records t rest here))
      (λ t bytes le header records rest here. passes-tried-behind place next valid body is header records t rest.stable
      (ready-at place header records t rest here) bytes le)

  pub told-refused : mid ≡ noted Synced (noted (Wrote (place + 1) body) old) → MayHaveWritten place 1 mid new → WhereTold (SlotFillFailed place next) old new
  told-refused put may = told-tried (SlotFillFailed place next) (behind place body) place 1 old mid new (one-put put) may
      (λ t header records rest here. passes-behind place next valid body is header records t rest.stable (ready-at place header records t rest here))
      (λ t bytes le header records rest here. passes-tried-gate place next valid body is header records t rest.stable
      (ready-at place header records t rest here) bytes le)

  pub told-filled : mid ≡ noted Synced (noted (Wrote (place + 1) body) old) → new ≡ noted Synced (noted (Wrote place (gate ∷ [])) mid)
      → WhereTold (SlotFilled place next) old new
  told-filled put put-gate = told-is (SlotFilled place next) (λ t. opened place (behind place body t)) old new
      (put-gate ∙ ap (λ (o : Option Trace). noted Synced (noted (Wrote place (gate ∷ [])) o)) (one-put put)
      ∙ noted-twice (behind place body) (Wrote place (gate ∷ [])) Synced old)
      (λ t header records rest here. (
        opened-rest place next valid body is header records t rest.stable (ready-at place header records t rest here),
        whole-head place next valid body is header records t rest.stable (ready-at place header records t rest here),
        passes-opened place next valid body is header records t rest.stable (ready-at place header records t rest here),
      ))
