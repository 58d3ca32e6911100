-- The text of a release and its widest text: the same names, other numbers.
use Rattle.std.specs.Prelude.{ℕ, List, ◌≡◌}
use Rattle.fz_frac.specs.Distance.{Distance}
use Rattle.fz_ast.specs.Depth.{depth}
use Rattle.fz_ast.specs.Signature.{Signature}
use Rattle.fz_ast.specs.Terms.{Term}
use Rattle.fz_lexer.specs.declared.token.Token.{Token}
use Rattle.fz_lexer.specs.Tokens.{AreTokens, IsLexed}
use Rattle.fz_parser.specs.Grammar.{IsTerm}
use Rattle.linear_types.specs.Program.{Accepted, sensitivity_of}
use Rattle.linear_types.specs.Sensitivities.{Sensitivities}
use Rattle.shape_law.specs.Shapes.{Shape}
use Rattle.shape_law.specs.Walk.{Shaped, Tally, TooManyWalks, shape}
use Rattle.release_texts.specs.Texts.{AreNamed, Earlier, names_of, release_text, widest_text}

-- what the judgement of the widest text's term says of the text's
pub record IsJudgedAs (tables : Signature) (text widest : Term) : Type 0 where
  pub nesting : depth text ≡ depth widest
  pub accepted : (D : Sensitivities) (r : Distance) → sensitivity_of tables widest ≡ Accepted D r → sensitivity_of tables text ≡ Accepted D r
  pub planned : (s : Shape) (k : Tally) → shape tables widest ≡ Shaped s k → (r : Shape) × (shape tables text ≡ Shaped r k)
  pub walks : shape tables widest ≡ TooManyWalks → shape tables text ≡ TooManyWalks

-- Whatever was answered before: where a release's own bytes are a term and its widest text is within the limits of a program's bytes and tokens, its text
-- is within them, both are terms, and what the widest text is accepted with, the text is.
abbrev pub TextsAreJudgedAsTheWidest : Type 0
TextsAreJudgedAsTheWidest =
    (tables : Signature) (earlier : List Earlier) (own : List ℕ) (us ws : List Token) (e : Term)
    → AreNamed earlier → AreTokens own us → IsTerm us e → IsLexed (widest_text (names_of earlier) own) ws
    → (ts : List Token) × IsLexed (release_text earlier own) ts × (text : Term) × (widest : Term) × IsTerm ts text × IsTerm ws widest × IsJudgedAs tables text widest
