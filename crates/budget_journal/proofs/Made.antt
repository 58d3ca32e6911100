-- A header and area 0 over zeros, and the steps in which they are made.
use Rattle.std.proofs.Common.{◌≡◌, ◌≢◌, ℕ, zero, suc, ◌+◌, ◌-◌, ◌*◌, ◌<◌, ◌≤◌, List, [], ◌∷◌, ◌++◌, length, drop, take, slice_index, replicate, refl, sym, ◌∙◌, ap, subst, arith, inl, inr, ⊎_elim, append_assoc, length-drop, Option, None, Some, Result, Ok, Err, OnErr}
use Rattle.std.proofs.lemmas.Bool.{cases_lt}
use Rattle.std.proofs.lemmas.Option.{same_Some}
use Rattle.std.proofs.lemmas.List.{get_or-drop, get_or_past, length-replicate}
use Rattle.outside_disks.specs.Disks.{Step, Trace, after, noted, seen_of, overlaid, WhereTold, MayHaveWritten}
use Rattle.outside_disks.specs.Disks.Step.{Wrote, Synced}
use Rattle.outside_disks.proofs.Told.{told-is, told-none, told-both, same-map}
use Rattle.outside_disks.proofs.Overlaid.{length-overlaid, overlaid-before, overlaid-at, overlaid-behind}
use Rattle.journal_records.specs.Encoding.{gate, encoded_header, IsHeader}
use Rattle.journal_records.specs.declared.records.Header.{Header}
use Rattle.journal_records.proofs.Shapes.{length-encoded_header}
use Rattle.budget_journal.specs.declared.form.Form.TheVariants.{Many}
use Rattle.budget_journal.specs.Areas.{area_in, area_gate, HasGates}
use Rattle.budget_journal.specs.Journals.{FillsSlots, Stands, IsAtRest, TellsSome}
use Rattle.budget_journal.specs.Making.{AreZeros, first_bytes, AreBehindZeros, header_steps, MakesJournal, AreFirst, Begins, BeginsSome, AddsSteps}
use Rattle.budget_journal.proofs.Gates.{all-zero, piece-moved, no-gate, version-known, many-from}
use Rattle.budget_journal.proofs.Added.{lives-stands}

-- so many zeros are seen
pub record IsZeroed (n : ℕ) (t : Trace) : Type 0 where
  pub long : length (seen_of t) ≡ n
  pub zeros : (i : ℕ) → slice_index (seen_of t) i ≡ 0

-- some zeros more
zeroed-more : (place : ℕ) (t : Trace) (bytes : List ℕ) → bytes ≡ replicate (length bytes) 0 → IsZeroed place t
    → IsZeroed (place + length bytes) (after (Wrote place bytes) t)
zeroed-more place t bytes none zeroed = record {
  long = omega (arith, length-overlaid (seen_of t) place bytes, zeroed.long);
  zeros = λ i. ⊎_elim
      (λ before. overlaid-before (seen_of t) place bytes i before ∙ zeroed.zeros i)
      (λ from. ⊎_elim
      (λ within. let at : place + (i - place) ≡ i = omega arith in
      ap (slice_index (overlaid (seen_of t) place bytes)) (sym at) ∙ overlaid-at (seen_of t) place bytes (i - place) (omega arith)
      ∙ ap (λ (b : List ℕ). slice_index b (i - place)) none ∙ all-zero (length bytes) (i - place))
      (λ past. overlaid-behind (seen_of t) place bytes i (omega arith) ∙ zeroed.zeros i)
      (cases_lt i (place + length bytes)))
      (cases_lt i place);
}

-- what is seen after zeros on an empty disk
pub zeros-seen : (zeros : List Step) (n : ℕ) (t : Trace) → AreZeros zeros n → seen_of t ≡ []
    → IsZeroed n (record { start = t.start; steps = zeros ++ t.steps })
zeros-seen [] n t is empty = record {
  long = ap length empty ∙ sym is;
  zeros = λ i. ap (λ (l : List ℕ). slice_index l i) empty ∙ get_or_past [] i 0 (omega arith);
}
zeros-seen (Wrote place bytes ∷ earlier) n t is empty =
    subst (λ (m : ℕ). IsZeroed m (record { start = t.start; steps = Wrote place bytes ∷ earlier ++ t.steps })) (sym is.1)
    (zeroed-more place (record { start = t.start; steps = earlier ++ t.steps }) bytes is.0 (zeros-seen earlier place t is.2 empty))
zeros-seen (Synced ∷ earlier) n t is empty = absurd is

-- ---- beginnings

-- steps that were done whole are a beginning
pub first-begins : (steps begun : List Step) → AreFirst steps begun → Begins steps begun
first-begins steps [] are = tt
first-begins steps (Wrote place bytes ∷ earlier) are = (bytes, omega arith, are)
first-begins steps (Synced ∷ earlier) are = are

pub begins-later : (later steps begun : List Step) → Begins steps begun → Begins (later ++ steps) begun
begins-later later steps [] is = tt
begins-later later steps (Wrote place bytes ∷ earlier) is =
    (is.0, is.1, (later ++ is.2.0, ap (λ (s : List Step). later ++ s) is.2.1 ∙ sym (append_assoc later is.2.0 (Wrote place is.0 ∷ earlier))))
begins-later later steps (Synced ∷ earlier) is =
    (later ++ is.0, ap (λ (s : List Step). later ++ s) is.1 ∙ sym (append_assoc later is.0 (Synced ∷ earlier)))

-- zeros up to a place, and over the rest
module _ (place n : ℕ) (below : place < n) (zeros : List Step) (are : AreZeros zeros place) where
  abbrev rest : List ℕ
  rest = replicate (n - place) 0

  long : length rest ≡ n - place
  long = length-replicate {A = ℕ} (n - place) 0

  all : AreZeros (Wrote place rest ∷ zeros) n
  all = (ap (λ (k : ℕ). replicate k 0) (sym long), omega (arith, long), are)

  pub zeros-begun : BeginsSome (λ steps. AreZeros steps n) zeros
  zeros-begun = (Wrote place rest ∷ zeros, all, first-begins (Wrote place rest ∷ zeros) zeros (Wrote place rest ∷ [], refl))

  pub zeros-tried : (bytes : List ℕ) → place + length bytes ≤ n → BeginsSome (λ steps. AreZeros steps n) (Wrote place bytes ∷ zeros)
  zeros-tried bytes le = (Wrote place rest ∷ zeros, all, (rest, omega (arith, long), ([], refl)))

-- ---- where it is told

pub on_err : {T E P : Type 0} (r : Result T E) → P → OnErr r P
on_err (Ok value) holds = tt
on_err (Err error) holds = holds

pub adds-none : (P : List Step → Type 0) → P [] → (told : Option Trace) → WhereTold (AddsSteps P) told told
adds-none P none told = told-none (AddsSteps P) (λ t. ([], none, refl)) told

-- one step more
pub adds-step : (P Q : List Step → Type 0) (step : Step) → ((more : List Step) → P more → Q (step ∷ more)) → (old mid new : Option Trace)
    → WhereTold (AddsSteps P) old mid → new ≡ noted step mid → WhereTold (AddsSteps Q) old new
adds-step P Q step then old mid new adds is =
    told-both (AddsSteps P) (λ t u. u ≡ after step t) (AddsSteps Q) (λ t u v a same. (step ∷ a.0, then a.0 a.1, same ∙ ap (after step) a.2)) old mid new adds
    (told-is (λ t u. u ≡ after step t) (after step) mid new is (λ t. refl))

pub adds-kept : (P Q : List Step → Type 0) → ((more : List Step) → P more → Q more) → (old mid new : Option Trace) → WhereTold (AddsSteps P) old mid → new ≡ mid
    → WhereTold (AddsSteps Q) old new
adds-kept P Q then old mid new adds is =
    told-both (AddsSteps P) (λ t u. u ≡ t) (AddsSteps Q) (λ t u v a same. (a.0, then a.0 a.1, same ∙ a.2)) old mid new adds
    (told-is (λ t u. u ≡ t) (λ t. t) mid new (is ∙ same-map mid) (λ t. refl))

-- after a write that failed
pub adds-tried : (P Q : List Step → Type 0) (place size : ℕ) → ((more : List Step) → P more → Q more)
    → ((more : List Step) (bytes : List ℕ) → P more → length bytes ≤ size → Q (Wrote place bytes ∷ more)) → (old mid new : Option Trace)
    → WhereTold (AddsSteps P) old mid → MayHaveWritten place size mid new → WhereTold (AddsSteps Q) old new
adds-tried P Q place size kept tried old mid new adds (inl same) = adds-kept P Q kept old mid new adds same
adds-tried P Q place size kept tried old mid new adds (inr wrote) =
    adds-step P Q (Wrote place wrote.0) (λ more p. tried more wrote.0 p wrote.1) old mid new adds wrote.2

-- ---- the header

pub length-header : (header : Header) → IsHeader header → length (encoded_header header) ≡ 128
length-header header valid = length-encoded_header header valid

-- ---- the file

module _ (header : Header) (valid : IsHeader header) (grown : 2 ≤ header.version) (body : List ℕ) (is : body ≡ drop 1 (encoded_header header)) (t : Trace)
    (zeroed : IsZeroed (first_bytes header) t) where
  abbrev first : List ℕ
  first = overlaid (seen_of t) 1 body

  abbrev whole : List ℕ
  whole = overlaid first 0 (gate ∷ [])

  length-body : length body ≡ 127
  length-body = omega (arith, ap length is, length-drop 1 (encoded_header header), length-header header valid)

  length-first : length first ≡ first_bytes header
  length-first = omega (arith, length-overlaid (seen_of t) 1 body, zeroed.long, length-body)

  length-whole : length whole ≡ first_bytes header
  length-whole = omega (arith, length-overlaid first 0 (gate ∷ []), length-first)

  at : (i : ℕ) → i < 128 → slice_index whole i ≡ slice_index (encoded_header header) i
  at zero lt = overlaid-at first 0 (gate ∷ []) 0 (omega arith)
  at (suc i) lt =
      let here : 1 + i ≡ suc i = omega arith in
      overlaid-behind first 0 (gate ∷ []) (suc i) (omega arith) ∙ ap (slice_index first) (sym here)
      ∙ overlaid-at (seen_of t) 1 body i (omega (arith, length-body))
      ∙ ap (λ (b : List ℕ). slice_index b i) is ∙ get_or-drop 1 (encoded_header header) i 0 ∙ ap (slice_index (encoded_header header)) here

  past : (i : ℕ) → 128 ≤ i → slice_index whole i ≡ 0
  past i le = overlaid-behind first 0 (gate ∷ []) i (omega arith) ∙ overlaid-behind (seen_of t) 1 body i (omega (arith, length-body)) ∙ zeroed.zeros i

  fields : take 97 whole ≡ take 97 (encoded_header header)
  fields = piece-moved whole (encoded_header header) 0 0 97 (omega (arith, length-whole))
      (omega (arith, length-header header valid)) (λ i lt. at (0 + i) (omega arith))

  not-open : (byte : ℕ) → byte ≡ 0 → byte ≢ gate
  not-open byte none is_open = let h : 0 ≡ 165 = sym none ∙ is_open in omega (arith, h)

  gates : HasGates header.capacity 0 whole
  gates = record {
    there = λ earlier lt. absurd (omega arith);
    opened = λ n low high. absurd (omega arith);
    shut = λ n low high. not-open (area_gate whole n) (at (96 + n) (omega arith) ∙ no-gate header valid.digest.0 n low);
  }

  fills : FillsSlots (area_in Many header.capacity 0 (length whole)) whole []
  fills = record {
    whole = omega (arith, length-whole);
    room = omega arith;
    kept = λ k r some. absurd cc;
    shut = λ k le lt. not-open (slice_index whole (128 + 64 * k)) (past (128 + 64 * k) (omega arith));
  }

  pub made : Stands header [] whole
  made = (lives-stands 0 header [] whole valid.capacity (record {
    fields = fields;
    known = version-known header.version valid.version;
    many = many-from header.version grown;
    gates = gates;
    fills = fills;
  })).0

-- ---- the steps

module _ (header : Header) where
  abbrev behind_gate : List ℕ
  behind_gate = drop 1 (encoded_header header)

  abbrev in_header : List Step
  in_header = Synced ∷ Wrote 1 behind_gate ∷ Synced ∷ []

  -- a beginning of all steps, up to some that were done
  begun-by : (zeros done later : List Step) → AreZeros zeros (first_bytes header) → later ++ done ≡ header_steps header → (steps : List Step)
      → steps ≡ done ++ zeros
      → (all : List Step) × MakesJournal header all × AreFirst all steps
  begun-by zeros done later are same steps is = (
    header_steps header ++ zeros,
    (zeros, are, refl),
    (later, ap (λ (s : List Step). s ++ zeros) (sym same) ∙ append_assoc later done zeros ∙ ap (λ (s : List Step). later ++ s) (sym is)),
  )

  done-is : (done later : List Step) → later ++ done ≡ header_steps header → (steps : List Step)
      → AreBehindZeros header done steps → BeginsSome (MakesJournal header) steps
  done-is done later same steps made =
      let b = begun-by made.0 done later made.1 same steps made.2 in
      (b.0, b.1, first-begins b.0 steps b.2)

  after-step : (done : List Step) (step : Step) (steps : List Step) → AreBehindZeros header done steps → AreBehindZeros header (step ∷ done) (step ∷ steps)
  after-step done step steps made = (made.0, made.1, ap (λ (s : List Step). step ∷ s) made.2)

  zeros-first : (begun : List Step) → BeginsSome (λ zeros. AreZeros zeros (first_bytes header)) begun → BeginsSome (MakesJournal header) begun
  zeros-first begun some = (header_steps header ++ some.0, (some.0, some.1, refl), begins-later (header_steps header) some.0 begun some.2)

  zeros-done : (zeros : List Step) → AreZeros zeros (first_bytes header) → BeginsSome (MakesJournal header) zeros
  zeros-done zeros are = done-is [] (header_steps header) refl zeros (zeros, are, refl)

  synced-done : (steps : List Step) → AreBehindZeros header (Synced ∷ []) steps → BeginsSome (MakesJournal header) steps
  synced-done = done-is (Synced ∷ []) (Synced ∷ Wrote 0 (gate ∷ []) ∷ Synced ∷ Wrote 1 behind_gate ∷ []) refl

  header-done : (steps : List Step) → AreBehindZeros header in_header steps → BeginsSome (MakesJournal header) steps
  header-done = done-is in_header (Synced ∷ Wrote 0 (gate ∷ []) ∷ []) refl

  header-tried : (size : ℕ) → size ≤ length behind_gate → (steps : List Step) (bytes : List ℕ) → AreBehindZeros header (Synced ∷ []) steps → length bytes ≤ size
      → BeginsSome (MakesJournal header) (Wrote 1 bytes ∷ steps)
  header-tried size within steps bytes made le =
      let whole : List Step = Wrote 1 behind_gate ∷ steps in
      let b = begun-by made.0 (Wrote 1 behind_gate ∷ Synced ∷ []) (Synced ∷ Wrote 0 (gate ∷ []) ∷ Synced ∷ []) made.1 refl whole
      (ap (λ (s : List Step). Wrote 1 behind_gate ∷ s) made.2) in
      (b.0, b.1, (behind_gate, omega arith, b.2))

  gate-tried : (steps : List Step) (bytes : List ℕ) → AreBehindZeros header in_header steps → length bytes ≤ 1
      → BeginsSome (MakesJournal header) (Wrote 0 bytes ∷ steps)
  gate-tried steps bytes made le =
      let whole : List Step = Wrote 0 (gate ∷ []) ∷ steps in
      let b = begun-by made.0 (Wrote 0 (gate ∷ []) ∷ in_header) (Synced ∷ []) made.1 refl whole
      (ap (λ (s : List Step). Wrote 0 (gate ∷ []) ∷ s) made.2) in
      (b.0, b.1, (gate ∷ [], le, b.2))

-- ---- told or not

pub told-nothing : (header : Header) (old new : Option Trace) → new ≡ old → WhereTold (AddsSteps (BeginsSome (MakesJournal header))) old new
told-nothing header old new same = adds-kept (BeginsSome (MakesJournal header)) (BeginsSome (MakesJournal header)) (λ more some. some) old old new
    (adds-none (BeginsSome (MakesJournal header)) (zeros-first header [] (zeros-begun 0 (first_bytes header) (omega arith) [] refl)) old) same

module _ (header : Header) (n : ℕ) (whole : n ≡ first_bytes header) (body : List ℕ) (is : body ≡ drop 1 (encoded_header header))
    (old asked zeroed synced first new : Option Trace) (begun : asked ≡ old) where
  since-old : (P : List Step → Type 0) → WhereTold (AddsSteps P) asked zeroed → WhereTold (AddsSteps P) old zeroed
  since-old P = subst (λ (o : Option Trace). WhereTold (AddsSteps P) o zeroed) begun

  pub told-zeros-begun : WhereTold (AddsSteps (BeginsSome (λ zeros. AreZeros zeros n))) asked zeroed
      → WhereTold (AddsSteps (BeginsSome (MakesJournal header))) old zeroed
  told-zeros-begun adds = adds-kept (BeginsSome (λ zeros. AreZeros zeros n)) (BeginsSome (MakesJournal header))
      (λ steps some. zeros-first header steps
      (subst (λ (k : ℕ). BeginsSome (λ zeros. AreZeros zeros k) steps) whole some)) old zeroed zeroed
      (since-old (BeginsSome (λ zeros. AreZeros zeros n)) adds) refl

  pub told-zeros-done : WhereTold (AddsSteps (λ zeros. AreZeros zeros n)) asked zeroed → synced ≡ zeroed
      → WhereTold (AddsSteps (BeginsSome (MakesJournal header))) old synced
  told-zeros-done adds same = adds-kept (λ zeros. AreZeros zeros n) (BeginsSome (MakesJournal header))
      (λ zeros are. zeros-done header zeros (subst (AreZeros zeros) whole are)) old zeroed synced (since-old (λ zeros. AreZeros zeros n) adds) same

  told-synced : WhereTold (AddsSteps (λ zeros. AreZeros zeros n)) asked zeroed → synced ≡ noted Synced zeroed
      → WhereTold (AddsSteps (AreBehindZeros header (Synced ∷ []))) old synced
  told-synced adds = adds-step (λ zeros. AreZeros zeros n) (AreBehindZeros header (Synced ∷ [])) Synced
      (λ zeros are. (zeros, subst (AreZeros zeros) whole are, refl)) old zeroed synced (since-old (λ zeros. AreZeros zeros n) adds)

  pub told-header-tried : WhereTold (AddsSteps (λ zeros. AreZeros zeros n)) asked zeroed → synced ≡ noted Synced zeroed
      → MayHaveWritten 1 (length body) synced first → WhereTold (AddsSteps (BeginsSome (MakesJournal header))) old first
  told-header-tried adds s may = adds-tried (AreBehindZeros header (Synced ∷ [])) (BeginsSome (MakesJournal header)) 1 (length body)
      (synced-done header) (header-tried header (length body) (omega (arith, ap length is))) old synced first (told-synced adds s) may

  told-header : WhereTold (AddsSteps (λ zeros. AreZeros zeros n)) asked zeroed → synced ≡ noted Synced zeroed
      → first ≡ noted Synced (noted (Wrote 1 body) synced)
      → WhereTold (AddsSteps (AreBehindZeros header (in_header header))) old first
  told-header adds s f =
      let written : Option Trace = noted (Wrote 1 body) synced in
      let same : written ≡ noted (Wrote 1 (drop 1 (encoded_header header))) synced = ap (λ (b : List ℕ). noted (Wrote 1 b) synced) is in
      adds-step (AreBehindZeros header (Wrote 1 (drop 1 (encoded_header header)) ∷ Synced ∷ [])) (AreBehindZeros header (in_header header)) Synced
      (after-step header (Wrote 1 (drop 1 (encoded_header header)) ∷ Synced ∷ []) Synced) old written first
      (adds-step (AreBehindZeros header (Synced ∷ [])) (AreBehindZeros header (Wrote 1 (drop 1 (encoded_header header)) ∷ Synced ∷ []))
      (Wrote 1 (drop 1 (encoded_header header)))
      (after-step header (Synced ∷ []) (Wrote 1 (drop 1 (encoded_header header)))) old synced written (told-synced adds s) same) f

  pub told-gate-tried : WhereTold (AddsSteps (λ zeros. AreZeros zeros n)) asked zeroed → synced ≡ noted Synced zeroed
      → first ≡ noted Synced (noted (Wrote 1 body) synced) → MayHaveWritten 0 1 first new → WhereTold (AddsSteps (BeginsSome (MakesJournal header))) old new
  told-gate-tried adds s f may = adds-tried (AreBehindZeros header (in_header header)) (BeginsSome (MakesJournal header)) 0 1
      (header-done header) (gate-tried header) old first new (told-header adds s f) may

  pub told-in-turn : WhereTold (AddsSteps (λ zeros. AreZeros zeros n)) asked zeroed → synced ≡ noted Synced zeroed
      → first ≡ noted Synced (noted (Wrote 1 body) synced) → new ≡ noted Synced (noted (Wrote 0 (gate ∷ [])) first)
      → WhereTold (AddsSteps (MakesJournal header)) old new
  told-in-turn adds s f w =
      let opened : List Step = Wrote 0 (gate ∷ []) ∷ in_header header in
      adds-step (AreBehindZeros header opened) (MakesJournal header) Synced (after-step header opened Synced) old (noted (Wrote 0 (gate ∷ [])) first) new
      (adds-step (AreBehindZeros header (in_header header)) (AreBehindZeros header opened) (Wrote 0 (gate ∷ []))
      (after-step header (in_header header) (Wrote 0 (gate ∷ [])))
      old first (noted (Wrote 0 (gate ∷ [])) first) (told-header adds s f) refl) w

pub told-made : (header : Header) → IsHeader header → 2 ≤ header.version → (t : Trace) → seen_of t ≡ [] → (old new : Option Trace) → old ≡ Some t
    → WhereTold (AddsSteps (MakesJournal header)) old new → TellsSome (IsAtRest header []) new
told-made header valid grown t empty None new is adds = absurd cc
told-made header valid grown t empty (Some s) None is adds = absurd adds
told-made header valid grown t empty (Some s) (Some u) is adds =
    let zeros : List Step = adds.1.0 in
    let same : s ≡ t = same_Some s t is in
    let seen_none : seen_of s ≡ [] = ap seen_of same ∙ empty in
    subst (IsAtRest header []) (sym (adds.2 ∙ ap (λ (steps : List Step). record { start = s.start; steps = steps ++ s.steps }) adds.1.2))
    (record {
      stands = made header valid grown (drop 1 (encoded_header header)) refl (record { start = s.start; steps = zeros ++ s.steps })
          (zeros-seen zeros (first_bytes header) s adds.1.1 seen_none);
      stable = λ c image. image;
    })
