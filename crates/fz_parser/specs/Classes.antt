-- Numbers for what the tables are looked up by: phrases, terminals, and the classes of tokens. Class 0 is the end.
use Rattle.std.specs.Prelude.{ℕ, ◌+◌, List, [], ◌∷◌, Bool, cond, ◌&&◌, ◌||◌, nat_eq, nat_lt, nat_le, length}
use Rattle.fz_lexer.specs.declared.token.Token.{Token}
use Rattle.fz_lexer.specs.declared.token.Kind.{Kind}
use Rattle.fz_lexer.specs.declared.token.Kind.TheVariants.{Name, Number, Text, Reserved, Punctuation}
use Rattle.fz_lexer.specs.declared.token.Word.{Word}
use Rattle.fz_lexer.specs.declared.token.Sign.{Sign}
use Rattle.fz_lexer.specs.declared.token.Word.TheVariants.{Fun, Fn, Let, In, Case, Of, Inl, Inr, If, Then, Else}
use Rattle.fz_lexer.specs.declared.token.Word.TheVariants.{Fst, Snd, True, False, Num, Text as TextWord, Unit as UnitWord, Bool as BoolWord, Bag, Inf, Size}
use Rattle.fz_lexer.specs.declared.token.Word.TheVariants.{Sum, Clip, Least, Greatest, Map, Filter, Split, Union, Do, Release, At}
use Rattle.fz_lexer.specs.declared.token.Sign.TheVariants.{LeftParenthesis, RightParenthesis, LeftAngle, RightAngle, LeftBracket, RightBracket, Comma}
use Rattle.fz_lexer.specs.declared.token.Sign.TheVariants.{Colon, Is, Bang, Bar, Plus, Minus, Star}
use Rattle.fz_lexer.specs.declared.token.Sign.TheVariants.{Ampersand, Slash, Yields, Arrow, Lollipop, AtMost, EqualTo}
use Rattle.fz_parser.specs.declared.grammar.Terminal.{Terminal}
use Rattle.fz_parser.specs.declared.grammar.Terminal.TheVariants.{Named, Numeral, Positive, Quoted, Keyword, Symbol}
use Rattle.fz_parser.specs.declared.grammar.Phrase.{Phrase}
use Rattle.fz_parser.specs.declared.grammar.Phrase.TheVariants.{Expression, Binding, Comparison, ComparisonTail, Addition, AdditionTail, Multiplication}
use Rattle.fz_parser.specs.declared.grammar.Phrase.TheVariants.{NegativeTail, NumeralTail, Application, ApplicationTail, Atom, Simple, Inside}
use Rattle.fz_parser.specs.declared.grammar.Phrase.TheVariants.{InsideTail, Integer, Sensitivity, SensitivityTail, AnyType, AnyTypeTail, PlusType}
use Rattle.fz_parser.specs.declared.grammar.Phrase.TheVariants.{PlusTypeTail, ProductType, ProductTypeTail, PrefixType}

unfoldable pub word_number : Word → ℕ
word_number Fun = 0
word_number Fn = 1
word_number Let = 2
word_number In = 3
word_number Case = 4
word_number Of = 5
word_number Inl = 6
word_number Inr = 7
word_number If = 8
word_number Then = 9
word_number Else = 10
word_number Fst = 11
word_number Snd = 12
word_number True = 13
word_number False = 14
word_number Num = 15
word_number TextWord = 16
word_number UnitWord = 17
word_number BoolWord = 18
word_number Bag = 19
word_number Inf = 20
word_number Size = 21
word_number Sum = 22
word_number Clip = 23
word_number Least = 24
word_number Greatest = 25
word_number Map = 26
word_number Filter = 27
word_number Split = 28
word_number Union = 29
word_number Do = 30
word_number Release = 31
word_number At = 32

unfoldable pub sign_number : Sign → ℕ
sign_number LeftParenthesis = 0
sign_number RightParenthesis = 1
sign_number LeftAngle = 2
sign_number RightAngle = 3
sign_number LeftBracket = 4
sign_number RightBracket = 5
sign_number Comma = 6
sign_number Colon = 7
sign_number Is = 8
sign_number Bang = 9
sign_number Bar = 10
sign_number Plus = 11
sign_number Minus = 12
sign_number Star = 13
sign_number Ampersand = 14
sign_number Slash = 15
sign_number Yields = 16
sign_number Arrow = 17
sign_number Lollipop = 18
sign_number AtMost = 19
sign_number EqualTo = 20

unfoldable pub phrase_number : Phrase → ℕ
phrase_number Expression = 0
phrase_number Binding = 1
phrase_number Comparison = 2
phrase_number ComparisonTail = 3
phrase_number Addition = 4
phrase_number AdditionTail = 5
phrase_number Multiplication = 6
phrase_number NegativeTail = 7
phrase_number NumeralTail = 8
phrase_number Application = 9
phrase_number ApplicationTail = 10
phrase_number Atom = 11
phrase_number Simple = 12
phrase_number Inside = 13
phrase_number InsideTail = 14
phrase_number Integer = 15
phrase_number Sensitivity = 16
phrase_number SensitivityTail = 17
phrase_number AnyType = 18
phrase_number AnyTypeTail = 19
phrase_number PlusType = 20
phrase_number PlusTypeTail = 21
phrase_number ProductType = 22
phrase_number ProductTypeTail = 23
phrase_number PrefixType = 24

-- all of them, by their numbers
unfoldable pub phrases : List Phrase
phrases = Expression ∷ Binding ∷ Comparison ∷ ComparisonTail ∷ Addition ∷ AdditionTail ∷ Multiplication ∷ NegativeTail ∷ NumeralTail ∷ Application ∷
    ApplicationTail ∷ Atom ∷ Simple ∷ Inside ∷ InsideTail ∷ Integer ∷ Sensitivity ∷ SensitivityTail ∷ AnyType ∷ AnyTypeTail ∷ PlusType ∷ PlusTypeTail ∷
    ProductType ∷ ProductTypeTail ∷ PrefixType ∷ []

unfoldable pub terminal_number : Terminal → ℕ
terminal_number Named = 1
terminal_number Numeral = 2
terminal_number Positive = 3
terminal_number Quoted = 4
terminal_number (Symbol s) = 5 + sign_number s
terminal_number (Keyword w) = 26 + word_number w

-- a number has a class of its own where it is positive and below 2^32; 63 is what fits nowhere
unfoldable pub class_of : Kind → ℕ
class_of (Name x) = cond (nat_le (length x) 32) 1 63
class_of (Number n) = cond (nat_lt 0 n && nat_lt n 4294967296) 3 (cond (nat_le n 1125899906842624) 2 63)
class_of (Text x) = cond (nat_le (length x) 64) 4 63
class_of (Punctuation s) = 5 + sign_number s
class_of (Reserved w) = 26 + word_number w

abbrev pub class : Token → ℕ
class t = class_of t.kind

-- a token of class c may stand where the terminal of number k is wanted
unfoldable pub may_stand : ℕ → ℕ → Bool
may_stand k c = nat_eq c k || (nat_eq k 2 && nat_eq c 3)
