-- The text of a release, and its widest text.
use Rattle.std.specs.Prelude.{ℕ, ℤ, List, [], ◌∷◌, ◌≤◌, ◌≡◌, codes, length, map, neg_ℤ}
use Rattle.fz_ast.specs.Limits.{limit}
use Rattle.std.specs.Fmt.{signed_decimal}
use Rattle.std.specs.List.{AllByRecursion}
use Rattle.metric_values.specs.Numbers.{clamp}
use Rattle.fz_lexer.specs.declared.token.Token.{Token}
use Rattle.fz_lexer.specs.Tokens.{AreTokens}
use Rattle.release_texts.specs.Bared.{bare_tokens}
use Rattle.release_texts.specs.Fronts.{IsName, let_text}
use Rattle.release_texts.specs.Releases.{let_in}

-- what an earlier release answered, under its name
pub record Earlier : Type 0 where
  pub name : List ℕ
  pub answer : ℤ

abbrev pub names_of : List Earlier → List (List ℕ)
names_of earlier = map (λ (a : Earlier). a.name) earlier

-- The text of a release: `let NAME = V in ` for each earlier one, V its answer clamped to what a number may be, and then the release's own bytes.
abbrev pub release_text : List Earlier → List ℕ → List ℕ
release_text [] own = own
release_text (a ∷ earlier) own = let_text a.name (signed_decimal (clamp a.answer)) (release_text earlier own)

-- of all numbers none is written wider
abbrev pub widest_number : List ℕ
widest_number = codes "-1125899906842624"

-- and the widest text has that for each
abbrev pub widest_text : List (List ℕ) → List ℕ → List ℕ
widest_text [] own = own
widest_text (x ∷ names) own = let_text x widest_number (widest_text names own)

-- `let NAME = V in` for each, as tokens before others
abbrev pub lets : List Earlier → List Token → List Token
lets [] k = k
lets (a ∷ earlier) k = let_in a.name (clamp a.answer) (lets earlier k)

abbrev pub AreNamed : List Earlier → Type 0
AreNamed earlier = AllByRecursion (λ (a : Earlier). IsName a.name) earlier

-- a text is cut into the tokens of its `let`s, and then those of the release
abbrev pub TextsHaveTheirTokens : Type 0
TextsHaveTheirTokens =
    (earlier : List Earlier) (own : List ℕ) (us : List Token) → AreNamed earlier → AreTokens own us
    → (ts : List Token) × AreTokens (release_text earlier own) ts × (bare_tokens ts ≡ lets earlier (bare_tokens us))

-- the least number for each
abbrev pub least_answers : List Earlier → List Earlier
least_answers earlier = map (λ (a : Earlier). record a { answer = neg_ℤ limit }) earlier

-- the widest text is that of the least answers
abbrev pub WidestTextsAreTexts : Type 0
WidestTextsAreTexts = (earlier : List Earlier) (own : List ℕ) → widest_text (names_of earlier) own ≡ release_text (least_answers earlier) own

-- no text is longer than the widest one, and none has more tokens
abbrev pub NoTextIsLonger : Type 0
NoTextIsLonger = (earlier : List Earlier) (own : List ℕ) → length (release_text earlier own) ≤ length (widest_text (names_of earlier) own)

abbrev pub NoTextHasMoreTokens : Type 0
NoTextHasMoreTokens =
    (earlier : List Earlier) (own : List ℕ) (us ts ws : List Token) → AreNamed earlier → AreTokens own us
    → AreTokens (release_text earlier own) ts → AreTokens (widest_text (names_of earlier) own) ws → length ts ≤ length ws
