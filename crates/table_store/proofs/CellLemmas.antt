-- What std's `parse` gives at the text of a cell.
use Rattle.std.proofs.Common.{◌≡◌, ◌≢◌, ◌<◌, ◌≤◌, ℕ, Bool, true, false, List, [], ◌∷◌, length, drop, get_or, Option, Some, None, Ok, Err, ℤ, pos, neg_ℤ, ◌⊎◌, inl, inr, w64, refl, arith}
use Rattle.std.specs.Prelude.{◌&&◌, ◌==◌, option_map, if◌then◌else◌, nat_lt, nat_le}
use Rattle.std.specs.Str.{IsAscii, IsUtf8, all_ascii_digits}
use Rattle.std.specs.Str.Parse.{ParsesSigned}
use Rattle.std.proofs.lemmas.Int.{ints}
use Rattle.std.proofs.lemmas.Fmt.{IsAscii-from_digits}
use Rattle.std.proofs.lemmas.Str.{IsUtf8-from_ascii}
use Rattle.std.proofs.lemmas.Str.Ascii.{IsAscii-cons}
use Rattle.std.proofs.lemmas.Str.Parse.{IsNumeralModel, numerals_by_weight, parse_signed_minus, parse_signed_plain, tells_all_ascii_digits}
use Rattle.fz_ast.specs.Limits.{IsNumber}
use Rattle.fz_ast.specs.Limits.{greatest_number}
use Rattle.table_store.specs.Cell.{decimal_value, magnitude_of, cell_number}

-- our words for digits and their value are std's
own : IsNumeralModel (λ digits. all_ascii_digits digits ≡ true) decimal_value
own = numerals_by_weight _ tells_all_ascii_digits decimal_value (record { empty = refl; more = λ c cs h. refl })

-- a magnitude has each of its conditions
record IsMagnitude (digits : List ℕ) (n : ℕ) : Type 0 where
  all : all_ascii_digits digits ≡ true
  some : 0 < length digits
  small : n ≤ greatest_number
  value : n ≡ decimal_value digits

magnitude_of-some : (digits : List ℕ) → all_ascii_digits digits ≡ true → 0 < length digits → decimal_value digits ≤ greatest_number
    → magnitude_of digits ≡ Some (decimal_value digits)
magnitude_of-some digits all some small =
    let l : nat_lt 0 (length digits) ≡ true = grind arith in
    let k : nat_le (decimal_value digits) greatest_number ≡ true = grind arith in
    rw (all, l, k) refl

has_magnitude : (digits : List ℕ) (n : ℕ) → magnitude_of digits ≡ Some n → IsMagnitude digits n
has_magnitude digits n e = by_tests (all_ascii_digits digits) (nat_lt 0 (length digits)) (nat_le (decimal_value digits) greatest_number) refl refl refl e
  where
    by_tests : (all some small : Bool) → all_ascii_digits digits ≡ all → nat_lt 0 (length digits) ≡ some → nat_le (decimal_value digits) greatest_number ≡ small
        → (if all && some && small then Some (decimal_value digits) else None) ≡ Some n → IsMagnitude digits n
    by_tests true true true a s k h = let v : n ≡ decimal_value digits = cc in record { all = a; some = grind arith; small = grind arith; value = v }
    by_tests true true false a s k h = cc h
    by_tests true false small a s k h = cc h
    by_tests false some small a s k h = cc h

-- the digits and the sign of a number
abbrev IsNumberText : List ℕ → ℤ → Type 0
IsNumberText cell z =
    ((rest : List ℕ) × (n : ℕ) × (cell ≡ 45 ∷ rest) × IsMagnitude rest n × (z ≡ neg_ℤ (pos n)))
    ⊎ ((n : ℕ) × (get_or cell 0 0 ≢ 45) × IsMagnitude cell n × (z ≡ pos n))

has_number : (cell : List ℕ) (z : ℤ) → cell_number cell ≡ Some z → IsNumberText cell z
unfolding cell_number
has_number [] z e = cc e
has_number (byte ∷ rest) z e = by_minus (byte == 45) refl e
  where
    behind_minus : (o : Option ℕ) → magnitude_of rest ≡ o → byte ≡ 45 → option_map (λ n. neg_ℤ (pos n)) o ≡ Some z → IsNumberText (byte ∷ rest) z
    behind_minus None m b h = cc h
    behind_minus (Some n) m b h = inl (rest, n, rw b refl, has_magnitude rest n m, (let v : z ≡ neg_ℤ (pos n) = cc in v))

    plain : (o : Option ℕ) → magnitude_of (byte ∷ rest) ≡ o → byte ≢ 45 → option_map pos o ≡ Some z → IsNumberText (byte ∷ rest) z
    plain None m b h = cc h
    plain (Some n) m b h = inr (n, b, has_magnitude (byte ∷ rest) n m, (let v : z ≡ pos n = cc in v))

    by_minus : (b : Bool) → (byte == 45) ≡ b
        → (if b then option_map (λ n. neg_ℤ (pos n)) (magnitude_of rest) else option_map pos (magnitude_of (byte ∷ rest))) ≡ Some z
        → IsNumberText (byte ∷ rest) z
    by_minus true b h = behind_minus (magnitude_of rest) refl (grind arith) h
    by_minus false b h = plain (magnitude_of (byte ∷ rest)) refl (grind arith) h

-- a cell with no number
no_number : (cell : List ℕ) → ((z : ℤ) → IsNumberText cell z → ⊥) → cell_number cell ≡ None
no_number cell none = by_answer (cell_number cell) refl
  where
    by_answer : (o : Option ℤ) → cell_number cell ≡ o → o ≡ None
    by_answer None e = refl
    by_answer (Some z) e = absurd (none z (has_number cell z e))

pub cell_number-plus : (cell : List ℕ) → get_or cell 0 0 ≡ 43 → cell_number cell ≡ None
unfolding cell_number
cell_number-plus [] h = refl
cell_number-plus (byte ∷ rest) h = rw h refl

-- the text of a number is UTF-8
pub cell_number-not_utf8 : (cell : List ℕ) → ¬ (IsUtf8 cell) → cell_number cell ≡ None
cell_number-not_utf8 cell bad = no_number cell (λ z h. bad (IsUtf8-from_ascii cell (ascii z h)))
  where
    ascii : (z : ℤ) → IsNumberText cell z → IsAscii cell
    ascii z (inl h) = rw h.2 (IsAscii-cons 45 h.0 (omega arith) (IsAscii-from_digits h.0 (own.to h.0 h.3.all)))
    ascii z (inr h) = IsAscii-from_digits cell (own.to cell h.2.all)

pub in_range_minus : (n : ℕ) → n ≤ greatest_number → IsNumber (neg_ℤ (pos n))
in_range_minus n h = (omega (arith, ints), omega (arith, ints))

pub in_range_plain : (n : ℕ) → n ≤ greatest_number → IsNumber (pos n)
in_range_plain n h = (omega (arith, ints), omega (arith, ints))

pub cell_number-in_range : (cell : List ℕ) (z : ℤ) → cell_number cell ≡ Some z → IsNumber z
cell_number-in_range cell z e = ranged (has_number cell z e)
  where
    ranged : IsNumberText cell z → IsNumber z
    ranged (inl h) = rw h.4 (in_range_minus h.1 h.3.small)
    ranged (inr h) = rw h.3 (in_range_plain h.0 h.2.small)

-- a cell whose text doesn't parse has no number
pub cell_number-unparsed : (cell : List ℕ) → get_or cell 0 0 ≢ 43 → ParsesSigned {E = ℕ} w64 10 cell (Err 0) → cell_number cell ≡ None
cell_number-unparsed cell plus h = no_number cell (λ z t. refused z t)
  where
    refused : (z : ℤ) → IsNumberText cell z → ⊥
    refused z (inl t) =
        let minus : get_or cell 0 0 ≡ 45 = rw t.2 refl in
        let f = parse_signed_minus own {E = ℕ} w64 cell (Err 0) h minus in
        let behind : drop 1 cell ≡ t.0 = rw t.2 refl in
        f (rw behind (t.3.all, t.3.some, omega (arith, t.3.small, t.3.value)))
    refused z (inr t) =
        parse_signed_plain own {E = ℕ} w64 cell (Err 0) h plus t.1 (t.2.all, t.2.some, omega (arith, t.2.small, t.2.value))

small_minus : (n : ℕ) → IsNumber (neg_ℤ (pos n)) → n ≤ greatest_number
small_minus n h = omega (arith, ints, h.0)

small_plain : (n : ℕ) → IsNumber (pos n) → n ≤ greatest_number
small_plain n h = omega (arith, ints, h.1)

-- the number that a cell's text parses to is the cell's, if it is in range
pub cell_number-parsed : (cell : List ℕ) (z : ℤ) → get_or cell 0 0 ≢ 43 → ParsesSigned {E = ℕ} w64 10 cell (Ok z) → IsNumber z → cell_number cell ≡ Some z
unfolding cell_number
cell_number-parsed [] z plus h range =
    let f = parse_signed_plain own {E = ℕ} w64 [] (Ok z) h plus (λ e. cc e) in
    absurd (omega (arith, f.0.1))
cell_number-parsed (byte ∷ rest) z plus h range = by_minus (byte == 45) refl
  where
    by_minus : (b : Bool) → (byte == 45) ≡ b
        → (if b then option_map (λ n. neg_ℤ (pos n)) (magnitude_of rest) else option_map pos (magnitude_of (byte ∷ rest))) ≡ Some z
    by_minus true b =
        let f = parse_signed_minus own {E = ℕ} w64 (byte ∷ rest) (Ok z) h (grind arith) in
        let small : decimal_value rest ≤ greatest_number = small_minus (decimal_value rest) (rw f.1 at range) in
        let m : magnitude_of rest ≡ Some (decimal_value rest) = magnitude_of-some rest f.0.0 f.0.1 small in
        rw (m, f.1) refl
    by_minus false b =
        let f = parse_signed_plain own {E = ℕ} w64 (byte ∷ rest) (Ok z) h plus (grind arith) in
        let small : decimal_value (byte ∷ rest) ≤ greatest_number = small_plain (decimal_value (byte ∷ rest)) (rw f.1 at range) in
        let m : magnitude_of (byte ∷ rest) ≡ Some (decimal_value (byte ∷ rest)) = magnitude_of-some (byte ∷ rest) f.0.0 f.0.1 small in
        rw (m, f.1) refl

-- and if it isn't, the cell has none
pub cell_number-too_great : (cell : List ℕ) (z : ℤ) → get_or cell 0 0 ≢ 43 → ParsesSigned {E = ℕ} w64 10 cell (Ok z) → ¬ (IsNumber z) → cell_number cell ≡ None
cell_number-too_great cell z plus h far = no_number cell refused
  where
    refused : (y : ℤ) → IsNumberText cell y → ⊥
    refused y (inl t) =
        let minus : get_or cell 0 0 ≡ 45 = rw t.2 refl in
        let f = parse_signed_minus own {E = ℕ} w64 cell (Ok z) h minus in
        let behind : drop 1 cell ≡ t.0 = rw t.2 refl in
        let value : t.1 ≡ decimal_value (drop 1 cell) = rw behind t.3.value in
        far (rw (f.1, ← value) (in_range_minus t.1 t.3.small))
    refused y (inr t) =
        let f = parse_signed_plain own {E = ℕ} w64 cell (Ok z) h plus t.1 in
        far (rw (f.1, ← t.2.value) (in_range_plain t.0 t.2.small))
