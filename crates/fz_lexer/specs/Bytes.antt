-- Which bytes stand where.
use Rattle.std.specs.Prelude.{ℕ, ◌+◌, ◌-◌, ◌*◌, List, [], ◌∷◌, Bool, true, false, not, ◌&&◌, ◌||◌, ◌==◌, nat_le}
use Rattle.fz_lexer.specs.declared.bytes.Class.{Class}
use Rattle.fz_lexer.specs.declared.bytes.Class.TheVariants.{Blank, Name, Digit, Text}

-- space, tab, CR, LF
unfoldable pub is_blank : ℕ → Bool
is_blank b = (b == 32) || (b == 9) || (b == 13) || (b == 10)

unfoldable pub is_digit : ℕ → Bool
is_digit b = nat_le 48 b && nat_le b 57

-- a letter or `_`
unfoldable pub is_letter : ℕ → Bool
is_letter b = (nat_le 97 b && nat_le b 122) || (nat_le 65 b && nat_le b 90) || (b == 95)

unfoldable pub is_name_byte : ℕ → Bool
is_name_byte b = is_letter b || is_digit b

-- 0x20 to 0x7E without the quote, or 0x80 on
unfoldable pub is_text_byte : ℕ → Bool
is_text_byte b = (nat_le 32 b && nat_le b 126 && not (b == 34)) || nat_le 128 b

abbrev pub within : Class → ℕ → Bool
within Blank b = is_blank b
within Name b = is_name_byte b
within Digit b = is_digit b
within Text b = is_text_byte b

-- each byte passes
abbrev pub every_byte : (ℕ → Bool) → List ℕ → Bool
every_byte f [] = true
every_byte f (b ∷ w) = f b && every_byte f w

-- there is a first byte, and it passes
abbrev pub begins : (ℕ → Bool) → List ℕ → Bool
begins f [] = false
begins f (b ∷ w) = f b

-- the first byte, if there is one, doesn't pass
abbrev pub stops : (ℕ → Bool) → List ℕ → Bool
stops f [] = true
stops f (b ∷ w) = not (f b)

-- decimal digits after a number
abbrev pub value_from : ℕ → List ℕ → ℕ
value_from n [] = n
value_from n (b ∷ w) = value_from (10 * n + (b - 48)) w
