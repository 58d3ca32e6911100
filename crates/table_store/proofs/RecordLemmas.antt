-- Each record of a text takes at least a byte of it, so csv's `records` gives them all.
use Rattle.std.proofs.Common.{◌≡◌, ◌≤◌, ◌<◌, ◌+◌, ◌∙◌, ℕ, zero, suc, Bool, true, false, List, [], ◌∷◌, ◌++◌, length, Option, Some, None, refl, sym, ap, arith, add-one}
use Rattle.std.specs.Prelude.{if◌then◌else◌, ◌==◌, ◌&&◌}
use Rattle.csv.specs.Machine.{Read, after_end, ends_at_end, ends_with, field_after, fields_after, in_field, is_byte, is_end, line_feed, next_record, start_field, start_record, step}
use Rattle.csv.specs.Reading.{AreRecords, Reached, records_from, records_next}
use Rattle.csv.specs.declared.parser.Action.{Action}
use Rattle.csv.specs.declared.parser.Action.TheVariants as act
use Rattle.csv.specs.declared.parser.Config.{Config}
use Rattle.csv.specs.declared.parser.State.{State}
use Rattle.csv.specs.declared.parser.State.TheVariants as st
use Rattle.csv.specs.declared.parser.Terminator.{Terminator}
use Rattle.csv.specs.declared.parser.Terminator.TheVariants as term

-- what ends a record leaves a state in which the end of the text ends none
record EndsBetween (p : State × Action) : Type 0 where
  ends : is_end p.1 ≡ true → ends_at_end p.0 ≡ false

goes_on : (s : State) (a : Action) → is_end a ≡ false → EndsBetween (s, a)
goes_on s a e = record { ends = λ h. cc }

either_way : (b : Bool) {x y : State × Action} → EndsBetween x → EndsBetween y → EndsBetween (if b then x else y)
either_way true h k = h
either_way false h k = k

after_end-between : (t : Terminator) (c : ℕ) → ends_at_end (after_end t c) ≡ false
after_end-between term.CRLF c = by_cr (c == 13)
  where
    by_cr : (b : Bool) → ends_at_end (if b then st.AfterCr else st.StartRecord) ≡ false
    by_cr true = refl
    by_cr false = refl
after_end-between (term.Any t) c = refl

in_field-between : (cfg : Config) (c : ℕ) → EndsBetween (in_field cfg c)
in_field-between cfg c =
    either_way (c == cfg.delimiter) (goes_on st.StartField act.EndField refl)
    (either_way (ends_with cfg.terminator c) (record { ends = λ e. after_end-between cfg.terminator c }) (goes_on st.InField act.Copy refl))

start_field-between : (cfg : Config) (c : ℕ) → EndsBetween (start_field cfg c)
start_field-between cfg c =
    either_way (cfg.quoting && (c == cfg.quote)) (goes_on st.InQuoted act.Skip refl) (in_field-between cfg c)

start_record-between : (cfg : Config) (c : ℕ) → EndsBetween (start_record cfg c)
start_record-between cfg c =
    either_way (ends_with cfg.terminator c) (goes_on st.StartRecord act.Skip refl)
    (either_way (is_byte cfg.comment c) (goes_on st.InComment act.Skip refl) (start_field-between cfg c))

step-between : (cfg : Config) (s : State) (c : ℕ) → EndsBetween (step cfg s c)
step-between cfg st.StartRecord c = start_record-between cfg c
step-between cfg st.StartField c = start_field-between cfg c
step-between cfg st.InField c = in_field-between cfg c
step-between cfg st.InQuoted c =
    either_way (cfg.quoting && (c == cfg.quote)) (goes_on st.AfterQuote act.Skip refl)
    (either_way (cfg.quoting && is_byte cfg.escape c) (goes_on st.InEscape act.Skip refl) (goes_on st.InQuoted act.Copy refl))
step-between cfg st.InEscape c = goes_on st.InQuoted act.Copy refl
step-between cfg st.AfterQuote c =
    either_way (cfg.quoting && cfg.double_quote && (c == cfg.quote)) (goes_on st.InQuoted act.Copy refl) (in_field-between cfg c)
step-between cfg st.InComment c =
    either_way (c == line_feed) (goes_on st.StartRecord act.Skip refl) (goes_on st.InComment act.Skip refl)
step-between cfg st.AfterCr c =
    either_way (c == line_feed) (goes_on st.StartRecord act.Skip refl) (start_record-between cfg c)

-- what stands behind a record
pub record Behind (p : Read) (text : List ℕ) : Type 0 where
  pub between : ends_at_end p.1 ≡ false
  pub shorter : length p.2 ≤ length text
  pub less : 0 < length text → length p.2 < length text

pub next_record-behind : (cfg : Config) (s : State) (fields : List (List ℕ)) (field text : List ℕ) (p : Read)
    → next_record cfg s fields field text ≡ Some p → Behind p text
unfolding next_record
next_record-behind cfg s fields field [] p e = at_end (ends_at_end s) e
  where
    at_end : (b : Bool) → (if b then Some (fields ++ (field ∷ []), st.StartRecord, []) else None) ≡ Some p → Behind p []
    at_end true h = let is : p ≡ (fields ++ (field ∷ []), st.StartRecord, []) = cc in rw is
        (record { between = refl; shorter = omega arith; less = λ n. absurd (omega arith) })
    at_end false h = cc h
next_record-behind cfg s fields field (c ∷ rest) p e =
    at_byte (is_end (step cfg s c).1) refl e (next_record-behind cfg (step cfg s c).0 (fields_after (step cfg s c).1 fields field)
    (field_after (step cfg s c).1 c field) rest p)
  where
    more : Behind p rest → Behind p (c ∷ rest)
    more h = record { between = h.between; shorter = omega (arith, h.shorter); less = λ n. omega (arith, h.shorter) }

    at_byte : (b : Bool) → is_end (step cfg s c).1 ≡ b
        → (if b then Some (fields_after (step cfg s c).1 fields field, (step cfg s c).0, rest) else next_record cfg (step cfg s c).0
        (fields_after (step cfg s c).1 fields field) (field_after (step cfg s c).1 c field) rest) ≡ Some p
        → (next_record cfg (step cfg s c).0 (fields_after (step cfg s c).1 fields field) (field_after (step cfg s c).1 c field) rest ≡ Some p → Behind p rest)
        → Behind p (c ∷ rest)
    at_byte true is h next =
        let same : p ≡ (fields_after (step cfg s c).1 fields field, (step cfg s c).0, rest) = cc in
        rw same (record { between = (step-between cfg s c).ends is; shorter = omega arith; less = λ n. omega arith })
    at_byte false is h next = more (next h)

-- between two records no record comes of no bytes
pub next_record-shorter : (cfg : Config) (s : State) (text : List ℕ) (p : Read) → ends_at_end s ≡ false → next_record cfg s [] [] text ≡ Some p
    → length p.2 < length text
unfolding next_record
next_record-shorter cfg s [] p b e = cc (rw b at e)
next_record-shorter cfg s (c ∷ rest) p b e = (next_record-behind cfg s [] [] (c ∷ rest) p e).less (omega arith)

-- the records of a text are the same for every count of turns that is great enough
pub records_from-enough : (cfg : Config) (n m : ℕ) (s : State) (text : List ℕ) → ends_at_end s ≡ false → length text < n → length text < m
    → records_from cfg n s text ≡ records_from cfg m s text
unfolding records_from
records_from-enough cfg zero m s text b h k = absurd (omega arith)
records_from-enough cfg (suc n) zero s text b h k = absurd (omega arith)
records_from-enough cfg (suc n) (suc m) s text b h k = by_next (next_record cfg s [] [] text) refl (records_from-enough cfg n)
  where
    by_next : (o : Option Read) → next_record cfg s [] [] text ≡ o
        → ((m : ℕ) (s : State) (text : List ℕ) → ends_at_end s ≡ false → length text < n → length text < m
        → records_from cfg n s text ≡ records_from cfg m s text)
        → records_next (records_from cfg n) o ≡ records_next (records_from cfg m) o
    by_next None e next = refl
    by_next (Some p) e next =
        let l : length p.2 < length text = next_record-shorter cfg s text p b e in
        ap (λ (rest : List (List (List ℕ))). p.0 ∷ rest) (next m p.1 p.2 (next_record-behind cfg s [] [] text p e).between (omega arith) (omega arith))

-- the next record of a text, and then those behind it
pub records_from-more : (cfg : Config) (s : State) (text : List ℕ) (p : Read) → ends_at_end s ≡ false → next_record cfg s [] [] text ≡ Some p
    → records_from cfg (length text + 1) s text ≡ p.0 ∷ records_from cfg (length p.2 + 1) p.1 p.2
unfolding records_from
records_from-more cfg s text p b e =
    let l : length p.2 < length text = next_record-shorter cfg s text p b e in
    let between = (next_record-behind cfg s [] [] text p e).between in
    rw (add-one, e) (ap (λ (rest : List (List (List ℕ))). p.0 ∷ rest) (records_from-enough cfg (length text) (length p.2 + 1) p.1 p.2 between l (omega arith)))

pub records_from-none : (cfg : Config) (s : State) (text : List ℕ) → next_record cfg s [] [] text ≡ None → records_from cfg (length text + 1) s text ≡ []
unfolding records_from
records_from-none cfg s text e = rw (add-one, e) refl

-- csv's function and its relation say the same of the records of a text
pub records_from-are : (cfg : Config) (n : ℕ) (s : State) (text : List ℕ) → ends_at_end s ≡ false → length text < n
    → AreRecords cfg s text (records_from cfg n s text)
unfolding records_from Reached
records_from-are cfg zero s text b h = absurd (omega arith)
records_from-are cfg (suc n) s text b h = by_next (next_record cfg s [] [] text) refl (records_from-are cfg n)
  where
    by_next : (o : Option Read) → next_record cfg s [] [] text ≡ o
        → ((s : State) (text : List ℕ) → ends_at_end s ≡ false → length text < n → AreRecords cfg s text (records_from cfg n s text))
        → AreRecords cfg s text (records_next (records_from cfg n) o)
    by_next None e next = (s, text, (refl, refl), e)
    by_next (Some p) e next =
        let l : length p.2 < length text = next_record-shorter cfg s text p b e in
        let more = next p.1 p.2 (next_record-behind cfg s [] [] text p e).between (omega arith) in
        (more.0, more.1, (p, e, refl, more.2), more.3)

pub records_from-only : (cfg : Config) (s : State) (text : List ℕ) (rows : List (List (List ℕ))) → ends_at_end s ≡ false → AreRecords cfg s text rows
    → records_from cfg (length text + 1) s text ≡ rows
unfolding Reached
records_from-only cfg s text [] b h = records_from-none cfg s text (rw (← h.2.0, ← h.2.1) at h.3)
records_from-only cfg s text (row ∷ rows) b h =
    let first = h.2 in
    let p = first.0 in
    let between = (next_record-behind cfg s [] [] text p first.1).between in
    records_from-more cfg s text p b first.1
    ∙ ap (λ (rest : List (List (List ℕ))). p.0 ∷ rest) (records_from-only cfg p.1 p.2 rows between (h.0, h.1, first.3, h.3))
    ∙ ap (λ (f : List (List ℕ)). f ∷ rows) (sym first.2)
