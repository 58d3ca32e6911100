-- Decimal digits are read back.
use Rattle.std.proofs.Common.{◌≡◌, ℕ, suc, ◌+◌, ◌-◌, ◌*◌, ◌<◌, ◌≤◌, ◌^◌, List, [], ◌∷◌, length, refl, arith, ap}
use Rattle.std.specs.Prelude.{true, pos, negsuc, decimal}
use Rattle.std.proofs.lemmas.Int.{ints}
use Rattle.std.proofs.lemmas.Bool.{and_parts, and_from, le-leb}
use Rattle.std.proofs.lemmas.Fmt.{decimal_nonempty, digits_decimal, digits_value-decimal}
use Rattle.std.proofs.lemmas.Str.Parse.{FoldsDigits, IsDigitsTest, IsNumeralModel, numerals_by_fold}
use Rattle.fz_lexer.specs.Bytes.{begins, every_byte, is_digit, value_from}
use Rattle.fz_lexer.proofs.Runs.{digit_range}
use Rattle.release_texts.specs.Fronts.{AreDigitsOf, below, plain}
use Rattle.release_texts.specs.Numbers.{NumbersAreSpelled}

digit_of : (c : ℕ) → (48 ≤ c) × (c ≤ 57) → is_digit c ≡ true
unfolding is_digit
digit_of c k = and_from _ _ (le-leb 48 c k.0) (le-leb c 57 k.1)

tells : IsDigitsTest (λ ds. every_byte is_digit ds ≡ true)
tells = record {
  empty = refl;
  parts = λ c cs d. let p = and_parts (is_digit c) (every_byte is_digit cs) d in (digit_range c p.0, p.1);
  more = λ c cs k d. and_from (is_digit c) (every_byte is_digit cs) (digit_of c k) d;
}

folds : FoldsDigits value_from
folds = record { empty = λ n. refl; more = λ n c cs k. let e : 10 * n + (c - 48) ≡ n * 10 + (c - 48) = omega arith in ap (λ m. value_from m cs) e }

numerals : IsNumeralModel (λ ds. every_byte is_digit ds ≡ true) (value_from 0)
numerals = numerals_by_fold _ tells value_from folds

first_digit : (ds : List ℕ) → 0 < length ds → every_byte is_digit ds ≡ true → begins is_digit ds ≡ true
first_digit [] l h = absurd (omega (arith, l))
first_digit (d ∷ ds) l h = (and_parts (is_digit d) (every_byte is_digit ds) h).0

digits : (n : ℕ) → n ≤ 2 ^ 50 → AreDigitsOf (decimal n) n
digits n l =
    let e = digits_decimal numerals n (omega (arith, l)) in
    record { some = first_digit (decimal n) (decimal_nonempty n (omega (arith, l))) e; every = e; value = digits_value-decimal numerals n (omega (arith, l)); small = l }

pub spelled : NumbersAreSpelled
spelled (pos n) h = plain (digits n (omega (arith, ints, h.1)))
spelled (negsuc n) h = below (digits (suc n) (omega (arith, ints, h.0)))
