-- An epsilon as an analyst writes it, in millionths.
use Rattle.std.specs.Prelude.{◌≡◌, ℕ, ◌+◌, ◌-◌, ◌*◌, ◌^◌, ◌<◌, ◌≤◌, ◌==◌, ◌&&◌, ◌⊎◌}
use Rattle.std.specs.Prelude.{nat_le, nat_lt, if◌then◌else◌, List, [], ◌∷◌, ◌++◌, length, Option, Some, None}
use Rattle.std.specs.List.{slice_split}
use Rattle.std.specs.Str.Parse.{digits_value}
use Rattle.journal_records.specs.Encoding.{epsilon_limit}
use Rattle.wire_lines.specs.Number.{IsNumeral, is_numeral}

-- 1 to 4 digits before the point, 1 to 6 after it
abbrev pub WHOLE_DIGITS : ℕ
WHOLE_DIGITS = 4

abbrev pub FRACTION_DIGITS : ℕ
FRACTION_DIGITS = 6

-- the number with these digits before the point and behind it, in millionths
abbrev pub in_millionths : List ℕ → List ℕ → ℕ
in_millionths whole fraction = digits_value 10 whole * 1000000 + digits_value 10 fraction * 10 ^ (FRACTION_DIGITS - length fraction)

abbrev pub point : ℕ
point = 46

-- a text is the whole digits alone, or also a point and the digits of a fraction
abbrev pub IsWritten : List ℕ → List ℕ → List ℕ → Type 0
IsWritten text whole fraction = ((text ≡ whole) × (fraction ≡ [])) ⊎ ((text ≡ whole ++ point ∷ fraction) × IsNumeral FRACTION_DIGITS fraction)

-- a decimal from 0.000001 to 1000, and its millionths
abbrev pub IsEpsilonText : List ℕ → ℕ → Type 0
IsEpsilonText text n =
    (whole fraction : List ℕ) × IsNumeral WHOLE_DIGITS whole × IsWritten text whole fraction × (n ≡ in_millionths whole fraction) × (0 < n)
    × (n ≤ epsilon_limit)

-- The same as a function: the millionths, or nothing where the text is no decimal in range.
abbrev pub epsilon_in_range : ℕ → Option ℕ
epsilon_in_range n = if nat_lt 0 n && nat_le n epsilon_limit then Some n else None

abbrev pub epsilon_between : List (List ℕ) → Option ℕ
epsilon_between [] = None
epsilon_between (whole ∷ []) = if is_numeral WHOLE_DIGITS whole then epsilon_in_range (in_millionths whole []) else None
epsilon_between (whole ∷ fraction ∷ []) =
    if is_numeral WHOLE_DIGITS whole && is_numeral FRACTION_DIGITS fraction then epsilon_in_range (in_millionths whole fraction) else None
epsilon_between (_ ∷ _ ∷ _ ∷ _) = None

abbrev pub epsilon_of : List ℕ → Option ℕ
epsilon_of text = epsilon_between (slice_split (λ b. b == point) text)
