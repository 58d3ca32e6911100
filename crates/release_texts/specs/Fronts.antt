-- The bytes of a release's text: one earlier answer more in front.
use Rattle.std.specs.Prelude.{ℕ, ℤ, pos, negsuc, suc, true, List, ◌∷◌, ◌++◌, ◌≤◌, ◌≡◌, ◌^◌, length, codes}
use Rattle.fz_lexer.specs.declared.token.Token.{Token}
use Rattle.fz_lexer.specs.declared.token.Word.{Word}
use Rattle.fz_lexer.specs.Bytes.{begins, every_byte, is_digit, is_letter, is_name_byte, value_from}
use Rattle.fz_lexer.specs.Tokens.{AreTokens}
use Rattle.fz_lexer.specs.Words.{spelling}
use Rattle.release_texts.specs.Bared.{bare_tokens}
use Rattle.release_texts.specs.Releases.{let_in}

-- a name, as the language has it
pub record IsName (x : List ℕ) : Type 0 where
  pub first : begins is_letter x ≡ true
  pub every : every_byte is_name_byte x ≡ true
  pub short : length x ≤ 32
  pub free : (word : Word) → x ≡ spelling word → ⊥

-- these digits are the number
pub record AreDigitsOf (digits : List ℕ) (n : ℕ) : Type 0 where
  pub some : begins is_digit digits ≡ true
  pub every : every_byte is_digit digits ≡ true
  pub value : value_from 0 digits ≡ n
  pub small : n ≤ 2 ^ 50

-- a number's text, with a minus where it is below 0
pub data Spells : ℤ → List ℕ → Type 0 where
  plain : {n : ℕ} {digits : List ℕ} → AreDigitsOf digits n → Spells (pos n) digits
  below : {n : ℕ} {digits : List ℕ} → AreDigitsOf digits (suc n) → Spells (negsuc n) (45 ∷ digits)

-- `let x = v in ` and then other bytes
abbrev pub let_text : (x number rest : List ℕ) → List ℕ
let_text x number rest = codes "let" ++ (32 ∷ (x ++ (32 ∷ (61 ∷ 32 ∷ (number ++ (32 ∷ (codes "in" ++ (32 ∷ rest))))))))

-- what these bytes are cut into: the tokens of `let x = v in`, and then those of the rest
abbrev pub OneAnswerInFront : Type 0
OneAnswerInFront =
    (x number rest : List ℕ) (v : ℤ) (us : List Token) → IsName x → Spells v number → AreTokens rest us
    → (ts : List Token) × AreTokens (let_text x number rest) ts × (bare_tokens ts ≡ let_in x v (bare_tokens us))
