-- An epsilon is read as its grammar says.
use Rattle.std.proofs.Common.{◌≡◌, ◌≢◌, ℕ, ◌^◌, ◌<◌, ◌≤◌, ◌&&◌, Bool, true, false, cond, eqb, ltb, leb, List, [], ◌∷◌, ◌++◌, length, All, Option, Some, None, ◌⊎◌, inl, inr, refl, sym, ap, ◌∙◌, arith}
use Rattle.std.specs.List.{list_all, onto_first, slice_split}
use Rattle.std.specs.Char.{is_ascii_digit}
use Rattle.std.proofs.Math.Nat.{pow-le-pow_right}
use Rattle.std.proofs.lemmas.Bool.{ne_eqb, cases_Bool, ltb-true, leb-true, lt-ltb, le-leb, eqb-true, and_left, and_right, and_from, and_parts, cond-true, cond-false}
use Rattle.std.proofs.lemmas.Option.{cond_some, none-some}
use Rattle.std.proofs.lemmas.List.Splits.{slice_split_at, slice_split_none, slice_split-cons_yes, slice_split-cons_no}
use Rattle.wire_lines.proofs.Cuts.{cut_cases}
use Rattle.wire_lines.proofs.Numerals.{numeral_from, numeral_to, digits_apart}
use Rattle.wire_lines.specs.Number.{IsNumeral, is_numeral}
use Rattle.journal_records.specs.Encoding.{epsilon_limit}
use Rattle.wire_lines.specs.Epsilon.{point, IsEpsilonText, in_millionths, epsilon_in_range, epsilon_between, epsilon_of}

pub scale_small : (k : ℕ) → k ≤ 6 → 10 ^ k ≤ 1000000
scale_small k small = pow-le-pow_right {n = 10} (omega arith) small

abbrev is_point : ℕ → Bool
is_point b = eqb b point

-- the parts of a text at its points are the text alone, or there are two at least, and then it is no digits
split_cases : (text : List ℕ) → (slice_split is_point text ≡ text ∷ []) ⊎ ((x : List ℕ) × (y : List ℕ) × (parts : List (List ℕ)) × (slice_split is_point text ≡ x ∷ y ∷ parts) × (list_all is_ascii_digit text ≡ false))
split_cases [] = inl refl
split_cases (c ∷ cs) = elim (cases_Bool (is_point c)) [
  | inl here ↦
      let cut = slice_split-cons_yes is_point c cs here in
      let other : list_all is_ascii_digit (c ∷ cs) ≡ false = and_left (is_ascii_digit c) (list_all is_ascii_digit cs) (ap is_ascii_digit (eqb-true c point here)) in
      elim (split_cases cs) [
        | inl e ↦ inr ([], cs, [], cut ∙ ap (λ parts. [] ∷ parts) e, other)
        | inr (x, y, parts, e, _) ↦ inr ([], x, y ∷ parts, cut ∙ ap (λ ps. [] ∷ ps) e, other)
      ]
  | inr off ↦
      let grown = slice_split-cons_no is_point c cs off in
      elim (split_cases cs) [
        | inl e ↦ inl (grown ∙ ap (onto_first c) e)
        | inr (x, y, parts, e, other) ↦ inr (c ∷ x, y, parts, grown ∙ ap (onto_first c) e, and_right (is_ascii_digit c) (list_all is_ascii_digit cs) other)
      ]
]

apart_tests : (text : List ℕ) → All (λ b. b ≢ point) text → All (λ b. is_point b ≡ false) text
apart_tests text apart k d h = ne_eqb _ _ (apart k d h)

-- a text without a point
pub epsilon_whole : (text : List ℕ) → All (λ b. b ≢ point) text → epsilon_of text ≡ cond (is_numeral 4 text) (epsilon_in_range (in_millionths text [])) None
epsilon_whole text apart = rw (slice_split_none is_point text (apart_tests text apart)) refl

-- a text with a point, of which this is the first
pub epsilon_cut : (text whole fraction : List ℕ) → All (λ b. b ≢ point) whole → text ≡ whole ++ point ∷ fraction → epsilon_of text ≡ cond (is_numeral 4 whole && is_numeral 6 fraction) (epsilon_in_range (in_millionths whole fraction)) None
epsilon_cut text whole fraction apart cut =
    ap epsilon_of cut ∙ ap epsilon_between (slice_split_at is_point whole point fraction (apart_tests whole apart) refl)
    ∙ elim (split_cases fraction) [
      | inl e ↦ ap (λ parts. epsilon_between (whole ∷ parts)) e
      | inr (x, y, parts, e, other) ↦
          ap (λ ps. epsilon_between (whole ∷ ps)) e
          ∙ sym (cond-false (is_numeral 4 whole && is_numeral 6 fraction) _ _
          (and_right (is_numeral 4 whole) (is_numeral 6 fraction) (and_right (ltb 0 (length fraction) && leb (length fraction) 6) (list_all is_ascii_digit fraction) other)))
    ]

range_from : (m n : ℕ) → epsilon_in_range m ≡ Some n → (n ≡ m) × (0 < n) × (n ≤ epsilon_limit)
range_from m n h =
    let (inside, same) = cond_some (ltb 0 m && leb m epsilon_limit) m n h in
    let (some, small) = and_parts (ltb 0 m) (leb m epsilon_limit) inside in
    let low = ltb-true 0 m some in
    let high = leb-true m epsilon_limit small in
    ((sym same), omega arith, omega arith)

range_to : (m n : ℕ) → n ≡ m → 0 < n → n ≤ epsilon_limit → epsilon_in_range m ≡ Some n
range_to m n same low high = cond-true (ltb 0 m && leb m epsilon_limit) _ _ (and_from _ _ (lt-ltb 0 m (omega arith)) (le-leb m epsilon_limit (omega arith))) ∙ ap (λ k. Some k) (sym same)

no_point : (n : ℕ) (text : List ℕ) → IsNumeral n text → All (λ b. b ≢ point) text
no_point n text (some, short, digits) = digits_apart point refl text digits

chosen : (b : Bool) (o : Option ℕ) (n : ℕ) → cond b o None ≡ Some n → (b ≡ true) × (o ≡ Some n)
chosen true o n h = (refl, h)
chosen false o n h = absurd (none-some n h)

pub epsilon_from : (text : List ℕ) (n : ℕ) → epsilon_of text ≡ Some n → IsEpsilonText text n
epsilon_from text n h = elim (cut_cases point text) [
  | inl apart ↦
      let (numeral, found) = chosen (is_numeral 4 text) (epsilon_in_range (in_millionths text [])) n (sym (epsilon_whole text apart) ∙ h) in
      let (value, low, high) = range_from (in_millionths text []) n found in
      (text, [], numeral_from 4 text numeral, inl (refl, refl), value, low, high)
  | inr (whole, fraction, apart, cut) ↦
      let (numerals, found) = chosen (is_numeral 4 whole && is_numeral 6 fraction) (epsilon_in_range (in_millionths whole fraction)) n (sym (epsilon_cut text whole fraction apart cut) ∙ h) in
      let (first, second) = and_parts (is_numeral 4 whole) (is_numeral 6 fraction) numerals in
      let (value, low, high) = range_from (in_millionths whole fraction) n found in
      (whole, fraction, numeral_from 4 whole first, inr (cut, numeral_from 6 fraction second), value, low, high)
]

pub epsilon_to : (text : List ℕ) (n : ℕ) → IsEpsilonText text n → epsilon_of text ≡ Some n
epsilon_to text n (whole, fraction, numeral, inl (same, none), value, low, high) =
    ap epsilon_of same ∙ epsilon_whole whole (no_point 4 whole numeral)
    ∙ cond-true _ _ _ (numeral_to 4 whole numeral) ∙ range_to (in_millionths whole []) n (value ∙ ap (in_millionths whole) none) low high
epsilon_to text n (whole, fraction, numeral, inr (cut, digits), value, low, high) =
    epsilon_cut text whole fraction (no_point 4 whole numeral) cut
    ∙ cond-true _ _ _ (and_from _ _ (numeral_to 4 whole numeral) (numeral_to 6 fraction digits)) ∙ range_to (in_millionths whole fraction) n value low high
