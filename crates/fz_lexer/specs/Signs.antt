-- The signs.
use Rattle.std.specs.Prelude.{◌≡◌, ◌≤◌, ℕ, List, ◌++◌, codes, Bool, true, length, take, drop}
use Rattle.fz_lexer.specs.declared.token.Sign.{Sign}
use Rattle.fz_lexer.specs.declared.token.Sign.TheVariants.{Yields, Arrow, Lollipop, AtMost, EqualTo, LeftParenthesis, RightParenthesis}
use Rattle.fz_lexer.specs.declared.token.Sign.TheVariants.{LeftAngle, RightAngle, LeftBracket, RightBracket, Comma, Colon, Is}
use Rattle.fz_lexer.specs.declared.token.Sign.TheVariants.{Bang, Bar, Plus, Minus, Star, Ampersand, Slash}
use Rattle.fz_lexer.specs.Bytes.{is_name_byte, stops}

unfoldable pub mark : Sign → List ℕ
mark Yields = codes "=>"
mark Arrow = codes "->"
mark Lollipop = codes "-o"
mark AtMost = codes "<="
mark EqualTo = codes "=="
mark LeftParenthesis = codes "("
mark RightParenthesis = codes ")"
mark LeftAngle = codes "<"
mark RightAngle = codes ">"
mark LeftBracket = codes "["
mark RightBracket = codes "]"
mark Comma = codes ","
mark Colon = codes ":"
mark Is = codes "="
mark Bang = codes "!"
mark Bar = codes "|"
mark Plus = codes "+"
mark Minus = codes "-"
mark Star = codes "*"
mark Ampersand = codes "&"
mark Slash = codes "/"

-- what may follow a sign: after `-o` no name byte
unfoldable pub may_follow : Sign → List ℕ → Bool
may_follow Lollipop after = stops is_name_byte after
may_follow _ after = true

-- the text is the sign, where these bytes follow it
abbrev pub SpellsSign : Sign → List ℕ → List ℕ → Type 0
SpellsSign sign text after = (text ≡ mark sign) × (may_follow sign after ≡ true)

-- and no longer sign begins there
abbrev pub IsLongest : Sign → List ℕ → List ℕ → Type 0
IsLongest sign text after =
    (other : Sign) (word rest : List ℕ) → text ++ after ≡ word ++ rest → SpellsSign other word rest → length word ≤ length text

-- the sign begins the bytes, and no longer one does
abbrev pub IsLongestSign : List ℕ → Sign → Type 0
IsLongestSign w sign = let n = length (mark sign) in SpellsSign sign (take n w) (drop n w) × IsLongest sign (take n w) (drop n w)

-- no sign begins the bytes
abbrev pub NoSign : List ℕ → Type 0
NoSign w = (sign : Sign) (text after : List ℕ) → w ≡ text ++ after → SpellsSign sign text after → ⊥
