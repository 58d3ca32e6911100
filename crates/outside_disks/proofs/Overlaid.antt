-- What stands where after a write.
use Rattle.std.proofs.Common.{◌≡◌, ℕ, ◌+◌, ◌-◌, ◌<◌, ◌≤◌, max, List, ◌++◌, length, take, drop, replicate, slice_index, refl, sym, ◌∙◌, ap, arith, ⊎_elim, length-append, length-drop}
use Rattle.std.proofs.lemmas.Bool.{cases_lt}
use Rattle.std.proofs.lemmas.List.{length-take, length-replicate, get_or_append_left, get_or-append_right, get_or-take, get_or-drop, get_or-replicate, get_or_past}
use Rattle.outside_disks.specs.Disks.{overlaid, Torn}

abbrev zeros : List ℕ → ℕ → List ℕ
zeros file place = file ++ replicate (place - length file) 0

length-zeros : (file : List ℕ) (place : ℕ) → length (zeros file place) ≡ max (length file) place
length-zeros file place = omega (arith, length-append file (replicate (place - length file) 0), length-replicate {A = ℕ} (place - length file) 0)

length-front : (file : List ℕ) (place : ℕ) → length (take place (zeros file place)) ≡ place
length-front file place = omega (arith, length-take place (zeros file place), length-zeros file place)

all_zero : (n k : ℕ) → slice_index (replicate n 0) k ≡ 0
all_zero n k = ⊎_elim (λ lt. get_or-replicate n k 0 0 lt) (λ le. get_or_past (replicate n 0) k 0 (omega (arith, length-replicate {A = ℕ} n 0))) (cases_lt k n)

-- zeros behind the end are what is read there
pub zeros-index : (file : List ℕ) (place i : ℕ) → slice_index (zeros file place) i ≡ slice_index file i
zeros-index file place i = ⊎_elim
    (λ within. get_or_append_left file (replicate (place - length file) 0) 0 i within)
    (λ past. get_or-append_right file (replicate (place - length file) 0) (length file) i 0 refl past ∙ all_zero (place - length file) (i - length file)
    ∙ sym (get_or_past file i 0 past))
    (cases_lt i (length file))

module _ (file : List ℕ) (place : ℕ) (bytes : List ℕ) where
  abbrev rest : List ℕ
  rest = drop (place + length bytes) file

  pub length-overlaid : length (overlaid file place bytes) ≡ max (length file) (place + length bytes)
  unfolding overlaid
  length-overlaid = omega (
    arith,
    length-append (take place (zeros file place) ++ bytes) rest,
    length-append (take place (zeros file place)) bytes,
    length-front file place,
    length-drop (place + length bytes) file,
  )

  pub overlaid-before : (i : ℕ) → i < place → slice_index (overlaid file place bytes) i ≡ slice_index file i
  unfolding overlaid
  overlaid-before i lt =
      get_or_append_left (take place (zeros file place) ++ bytes) rest 0 i
      (omega (arith, length-append (take place (zeros file place)) bytes, length-front file place))
      ∙ get_or_append_left (take place (zeros file place)) bytes 0 i (omega (arith, length-front file place))
      ∙ get_or-take place (zeros file place) i 0 lt ∙ zeros-index file place i

  pub overlaid-at : (i : ℕ) → i < length bytes → slice_index (overlaid file place bytes) (place + i) ≡ slice_index bytes i
  unfolding overlaid
  overlaid-at i lt =
      let offset : place + i - place ≡ i = omega arith in
      get_or_append_left (take place (zeros file place) ++ bytes) rest 0 (place + i)
      (omega (arith, length-append (take place (zeros file place)) bytes, length-front file place))
      ∙ get_or-append_right (take place (zeros file place)) bytes place (place + i) 0 (length-front file place) (omega arith)
      ∙ ap (slice_index bytes) offset

  pub overlaid-behind : (i : ℕ) → place + length bytes ≤ i → slice_index (overlaid file place bytes) i ≡ slice_index file i
  unfolding overlaid
  overlaid-behind i le =
      let size : length (take place (zeros file place) ++ bytes) ≡ place + length bytes = omega
      (arith, length-append (take place (zeros file place)) bytes, length-front file place) in
      let offset : place + length bytes + (i - (place + length bytes)) ≡ i = omega arith in
      get_or-append_right (take place (zeros file place) ++ bytes) rest (place + length bytes) i 0 size le
      ∙ get_or-drop (place + length bytes) file (i - (place + length bytes)) 0
      ∙ ap (slice_index file) offset

  -- a write that is done is one of those that a stop may cut short
  pub overlaid-torn : Torn place (length bytes) file (overlaid file place bytes)
  overlaid-torn = record {
    no_shorter = omega (arith, length-overlaid);
    no_longer = omega (arith, length-overlaid);
    before = λ i within lt. overlaid-before i lt;
    behind = λ i within le. overlaid-behind i le;
  }

pub torn-same : (place size : ℕ) (file : List ℕ) → Torn place size file file
torn-same place size file = record { no_shorter = omega arith; no_longer = omega arith; before = λ i within lt. refl; behind = λ i within le. refl }

-- a longer write may do what a shorter one may
pub torn-wider : (place size more : ℕ) (old new : List ℕ) → size ≤ more → Torn place size old new → Torn place more old new
torn-wider place size more old new le torn = record {
  no_shorter = torn.no_shorter;
  no_longer = omega (arith, torn.no_longer);
  before = torn.before;
  behind = λ i within past. torn.behind i within (omega arith);
}
