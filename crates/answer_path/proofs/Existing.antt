-- each program has a reading
use Rattle.std.specs.Prelude.{List, ℕ, ◌≡◌}
use Rattle.std.proofs.Common.{inl, inr, refl}
use Rattle.fz_lexer.specs.declared.token.Token.{Token}
use Rattle.fz_lexer.specs.declared.token.LexFault.{LexFault}
use Rattle.fz_lexer.specs.declared.token.LexFault.TheVariants.{Bad, TooManyTokens, NoMemory as NoRoom}
use Rattle.fz_lexer.specs.Tokens.{ExplainsLex, IsLexed, IsLexedOrFaulty}
use Rattle.fz_lexer.proofs.Lexing.{lexed_or_faulty}
use Rattle.fz_parser.specs.declared.fault.ParseFault.{ParseFault}
use Rattle.fz_parser.specs.declared.fault.ParseFault.TheVariants.{Stuck, TooNested, NoMemory}
use Rattle.fz_parser.specs.Reading.{ExplainsParse, IsParsedOrFaulty}
use Rattle.fz_parser.proofs.Parsing.{parsed_or_faulty}
use Rattle.answer_path.specs.Reading.{IsReading, Reading, nested, read, stuck, unlexed}
use Rattle.answer_path.specs.Laws.{EveryReading}

by_parse_fault : (w : List ℕ) (ts : List Token) → IsLexed w ts → (fault : ParseFault) → (fault ≡ NoMemory → ⊥) → ExplainsParse ts fault → (r : Reading) × IsReading w r
unfolding IsReading
by_parse_fault w ts l (Stuck token) other h = (stuck token, (ts, l, h))
by_parse_fault w ts l (TooNested depth) other h = (nested depth, (ts, l, h))
by_parse_fault w ts l NoMemory other h = absurd (other refl)

by_lex_fault : (w : List ℕ) (fault : LexFault) → (fault ≡ NoRoom → ⊥) → ExplainsLex w fault → (r : Reading) × IsReading w r
unfolding IsReading
by_lex_fault w (Bad place) other h = (unlexed place, inl h)
by_lex_fault w (TooManyTokens place) other h = (unlexed place, inr h)
by_lex_fault w NoRoom other h = absurd (other refl)

by_tokens : (w : List ℕ) (ts : List Token) → IsLexed w ts → IsParsedOrFaulty ts → (r : Reading) × IsReading w r
unfolding IsReading
by_tokens w ts l (inl h) = (read h.0, (ts, l, h.1))
by_tokens w ts l (inr h) = by_parse_fault w ts l h.0 h.1 h.2

pub every_reading : EveryReading
every_reading w = go (lexed_or_faulty w)
  where
    go : IsLexedOrFaulty w → (r : Reading) × IsReading w r
    go (inl h) = by_tokens w h.0 h.1 (parsed_or_faulty h.0)
    go (inr h) = by_lex_fault w h.0 h.1 h.2
