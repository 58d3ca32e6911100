-- The one rule that is factored over a whole phrase, as it is usually written: mul := - number [ * mul ] | number * mul | atom { atom } | app.
-- (In the table what begins with a number stands together, so that one token decides.)
use Rattle.std.specs.Prelude.{List, [], ◌∷◌, ◌⊎◌}
use Rattle.fz_lexer.specs.declared.token.Token.{Token}
use Rattle.fz_lexer.specs.declared.token.Sign.TheVariants.{Minus, Star}
use Rattle.fz_parser.specs.declared.grammar.Item.{Item}
use Rattle.fz_parser.specs.declared.grammar.Item.TheVariants.{Take, Read, Make}
use Rattle.fz_parser.specs.declared.grammar.Terminal.TheVariants.{Numeral, Symbol}
use Rattle.fz_parser.specs.declared.grammar.Phrase.TheVariants.{Multiplication, NegativeTail, Atom, Application, ApplicationTail}
use Rattle.fz_parser.specs.declared.grammar.Action.TheVariants.{Begin, TimesTerm}
use Rattle.fz_parser.specs.Parts.{State}
use Rattle.fz_parser.specs.Grammar.{Derives}

abbrev pub NEGATIVE : List Item
NEGATIVE = Take (Symbol Minus) ∷ Make Begin ∷ Take Numeral ∷ Read NegativeTail ∷ []

abbrev pub SCALED : List Item
SCALED = Take Numeral ∷ Take (Symbol Star) ∷ Read Multiplication ∷ Make TimesTerm ∷ []

abbrev pub ATOMS : List Item
ATOMS = Read Atom ∷ Read ApplicationTail ∷ []

abbrev pub IsProduct : List Token → State → State → Type 0
IsProduct w s r = Derives NEGATIVE w s r ⊎ (Derives SCALED w s r ⊎ (Derives ATOMS w s r ⊎ Derives (Read Application ∷ []) w s r))
