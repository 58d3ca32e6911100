-- A program's bytes are a term, or there is a fault of tokens or of the term.
use Rattle.std.specs.Prelude.{ℕ, List, ◌⊎◌}
use Rattle.fz_ast.specs.Terms.{Term}
use Rattle.fz_lexer.specs.declared.token.Token.{Token}
use Rattle.fz_lexer.specs.declared.token.LexFault.TheVariants.{Bad, TooManyTokens}
use Rattle.fz_lexer.specs.Tokens.{IsLexed, ExplainsLex}
use Rattle.fz_parser.specs.declared.fault.ParseFault.TheVariants.{Stuck, TooNested}
use Rattle.fz_parser.specs.Reading.{IsParsed, ExplainsParse}

-- what the bytes of a program come to
pub data Reading : Type 0 where
  -- at this byte no token begins, or there are too many bytes or tokens
  unlexed : (place : ℕ) → Reading
  -- no term begins with the tokens up to this one
  stuck : (token : ℕ) → Reading
  -- the term is too deep
  nested : (depth : ℕ) → Reading
  read : Term → Reading

-- First the bytes are cut into tokens, and then the tokens are read as a term, within the limits.
unfoldable pub IsReading : List ℕ → Reading → Type 0
IsReading w (unlexed place) = ExplainsLex w (Bad place) ⊎ ExplainsLex w (TooManyTokens place)
IsReading w (stuck token) = (ts : List Token) × IsLexed w ts × ExplainsParse ts (Stuck token)
IsReading w (nested depth) = (ts : List Token) × IsLexed w ts × ExplainsParse ts (TooNested depth)
IsReading w (read e) = (ts : List Token) × IsLexed w ts × IsParsed ts e
