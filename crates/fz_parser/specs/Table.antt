-- The grammar, a rule a line: what is replaced, and the items that stand for it. `Take` is a token, `Read` another phrase, and `Make` makes a part of
-- those just read.
-- Written by tools/grammar.py; the lines above a rule have it in the usual form.
use Rattle.std.specs.Prelude.{ℕ, List, [], ◌∷◌}
use Rattle.fz_lexer.specs.declared.token.Word.TheVariants.{Fun, Fn, Let, In, Case, Of, Inl, Inr, If, Then, Else, Fst, Snd, True, False, Num, Text}
use Rattle.fz_lexer.specs.declared.token.Word.TheVariants.{Unit, Bool, Bag, Inf, Size, Sum, Clip, Least, Greatest, Map, Filter, Split, Union}
use Rattle.fz_lexer.specs.declared.token.Sign.TheVariants.{LeftParenthesis, RightParenthesis, LeftAngle, RightAngle, LeftBracket, RightBracket, Comma}
use Rattle.fz_lexer.specs.declared.token.Sign.TheVariants.{Colon, Is, Bang, Bar, Plus, Minus, Star, Ampersand, Slash, Yields, Arrow, Lollipop, AtMost}
use Rattle.fz_lexer.specs.declared.token.Sign.TheVariants.{EqualTo}
use Rattle.fz_parser.specs.declared.grammar.Item.{Item}
use Rattle.fz_parser.specs.declared.grammar.Item.TheVariants.{Take, Read, Make}
use Rattle.fz_parser.specs.declared.grammar.Terminal.TheVariants.{Named, Numeral, Positive, Quoted, Keyword, Symbol}
use Rattle.fz_parser.specs.declared.grammar.Phrase.{Phrase}
use Rattle.fz_parser.specs.declared.grammar.Phrase.TheVariants.{Expression, Binding, Comparison, ComparisonTail, Addition, AdditionTail}
use Rattle.fz_parser.specs.declared.grammar.Phrase.TheVariants.{Multiplication, NegativeTail, NumeralTail, Application, ApplicationTail, Atom, Simple}
use Rattle.fz_parser.specs.declared.grammar.Phrase.TheVariants.{Inside, InsideTail, Integer, Sensitivity, SensitivityTail, AnyType, AnyTypeTail}
use Rattle.fz_parser.specs.declared.grammar.Phrase.TheVariants.{PlusType, PlusTypeTail, ProductType, ProductTypeTail, PrefixType}
use Rattle.fz_parser.specs.declared.grammar.Action.TheVariants.{Begin, LambdaTerm, LetBangTerm, LetPairTerm, LetTerm, CaseTerm, IfTerm, InfixTerm}
use Rattle.fz_parser.specs.declared.grammar.Action.TheVariants.{NegativeTerm, NegativeTimesTerm, TimesTerm, NumberTerm, UnaryTerm, RangedTerm}
use Rattle.fz_parser.specs.declared.grammar.Action.TheVariants.{InjectTerm, BangTerm, PrefixTerm, NameTerm, TextTerm, TruthTerm, UnitTerm, GroupTerm}
use Rattle.fz_parser.specs.declared.grammar.Action.TheVariants.{PlainInteger, NegativeInteger, WholeFactor, FractionFactor, InfFactor, JoinType}
use Rattle.fz_parser.specs.declared.grammar.Action.TheVariants.{ArrowType, BangType, BagType, NumType, TextType, UnitType, BoolType, GroupType}
use Rattle.fz_parser.specs.declared.grammar.Joint.TheVariants.{Lollipop as LollipopJoint, Sum as SumJoint, Tensor as TensorJoint, With as WithJoint}
use Rattle.fz_ast.specs.declared.term.Arrow.TheVariants.{Fun as FunArrow, Fn as FnArrow}
use Rattle.fz_ast.specs.declared.term.Binary.TheVariants.{AtMost as AtMostBinary, Equal as EqualBinary, Plus as PlusBinary, Minus as MinusBinary}
use Rattle.fz_ast.specs.declared.term.Binary.TheVariants.{App as AppBinary, Map as MapBinary, Filter as FilterBinary, Split as SplitBinary}
use Rattle.fz_ast.specs.declared.term.Binary.TheVariants.{Union as UnionBinary, Pair as PairBinary, With as WithBinary}
use Rattle.fz_ast.specs.declared.term.Unary.TheVariants.{Fst as FstUnary, Snd as SndUnary, Size as SizeUnary, Least as LeastUnary}
use Rattle.fz_ast.specs.declared.term.Unary.TheVariants.{Greatest as GreatestUnary}
use Rattle.fz_ast.specs.declared.term.Ranged.TheVariants.{Sum as SumRanged, Clip as ClipRanged}
use Rattle.fz_ast.specs.declared.term.Side.TheVariants.{Inl as InlSide, Inr as InrSide}

pub record Rule : Type 0 where
  pub head : Phrase
  pub body : List Item

abbrev is_ : Phrase → List Item → Rule
is_ head body = record { head = head; body = body }

abbrev pub rule_count : ℕ
rule_count = 77

unfoldable pub rules : List Rule
rules =
    -- term := fun ( name : type ) => term
    is_ Expression (Take (Keyword Fun) ∷ Make Begin ∷ Take (Symbol LeftParenthesis) ∷ Take Named ∷ Take (Symbol Colon) ∷ Read AnyType ∷
    Take (Symbol RightParenthesis) ∷ Take (Symbol Yields) ∷ Read Expression ∷ Make (LambdaTerm FunArrow) ∷ []) ∷
    --       | fn ( name : type ) => term
    is_ Expression (Take (Keyword Fn) ∷ Make Begin ∷ Take (Symbol LeftParenthesis) ∷ Take Named ∷ Take (Symbol Colon) ∷ Read AnyType ∷
    Take (Symbol RightParenthesis) ∷ Take (Symbol Yields) ∷ Read Expression ∷ Make (LambdaTerm FnArrow) ∷ []) ∷
    --       | let ..
    is_ Expression (Take (Keyword Let) ∷ Make Begin ∷ Read Binding ∷ []) ∷
    --       .. ! name = term in term
    is_ Binding (Take (Symbol Bang) ∷ Take Named ∷ Take (Symbol Is) ∷ Read Expression ∷ Take (Keyword In) ∷ Read Expression ∷ Make LetBangTerm ∷ []) ∷
    --       .. ( name , name ) = term in term
    is_ Binding (Take (Symbol LeftParenthesis) ∷ Take Named ∷ Take (Symbol Comma) ∷ Take Named ∷ Take (Symbol RightParenthesis) ∷ Take (Symbol Is) ∷
    Read Expression ∷ Take (Keyword In) ∷ Read Expression ∷ Make LetPairTerm ∷ []) ∷
    --       .. name = term in term
    is_ Binding (Take Named ∷ Take (Symbol Is) ∷ Read Expression ∷ Take (Keyword In) ∷ Read Expression ∷ Make LetTerm ∷ []) ∷
    --       | case term of inl name => term | inr name => term
    is_ Expression (Take (Keyword Case) ∷ Make Begin ∷ Read Expression ∷ Take (Keyword Of) ∷ Take (Keyword Inl) ∷ Take Named ∷ Take (Symbol Yields) ∷
    Read Expression ∷ Take (Symbol Bar) ∷ Take (Keyword Inr) ∷ Take Named ∷ Take (Symbol Yields) ∷ Read Expression ∷ Make CaseTerm ∷ []) ∷
    --       | if term then term else term
    is_ Expression (Take (Keyword If) ∷ Make Begin ∷ Read Expression ∷ Take (Keyword Then) ∷ Read Expression ∷ Take (Keyword Else) ∷ Read Expression ∷
    Make IfTerm ∷ []) ∷
    --       | cmp
    is_ Expression (Read Comparison ∷ []) ∷
    -- cmp := add [ ( <= | == ) add ]
    is_ Comparison (Read Addition ∷ Read ComparisonTail ∷ []) ∷
    is_ ComparisonTail (Take (Symbol AtMost) ∷ Read Addition ∷ Make (InfixTerm AtMostBinary) ∷ []) ∷
    is_ ComparisonTail (Take (Symbol EqualTo) ∷ Read Addition ∷ Make (InfixTerm EqualBinary) ∷ []) ∷
    is_ ComparisonTail ([]) ∷
    -- add := mul { ( + | - ) mul }, grouped to the left: the part is made before the next sign is read
    is_ Addition (Read Multiplication ∷ Read AdditionTail ∷ []) ∷
    is_ AdditionTail (Take (Symbol Plus) ∷ Read Multiplication ∷ Make (InfixTerm PlusBinary) ∷ Read AdditionTail ∷ []) ∷
    is_ AdditionTail (Take (Symbol Minus) ∷ Read Multiplication ∷ Make (InfixTerm MinusBinary) ∷ Read AdditionTail ∷ []) ∷
    is_ AdditionTail ([]) ∷
    -- mul := - number [ * mul ]
    is_ Multiplication (Take (Symbol Minus) ∷ Make Begin ∷ Take Numeral ∷ Read NegativeTail ∷ []) ∷
    is_ NegativeTail (Take (Symbol Star) ∷ Read Multiplication ∷ Make NegativeTimesTerm ∷ []) ∷
    is_ NegativeTail (Make NegativeTerm ∷ []) ∷
    --      | number * mul, or an app that begins with a number
    is_ Multiplication (Take Numeral ∷ Read NumeralTail ∷ []) ∷
    is_ NumeralTail (Take (Symbol Star) ∷ Read Multiplication ∷ Make TimesTerm ∷ []) ∷
    is_ NumeralTail (Make NumberTerm ∷ Read ApplicationTail ∷ []) ∷
    --      | app
    is_ Multiplication (Read Application ∷ []) ∷
    -- app := op1 atom
    is_ Application (Take (Keyword Fst) ∷ Make Begin ∷ Read Atom ∷ Make (UnaryTerm FstUnary) ∷ []) ∷
    is_ Application (Take (Keyword Snd) ∷ Make Begin ∷ Read Atom ∷ Make (UnaryTerm SndUnary) ∷ []) ∷
    is_ Application (Take (Keyword Size) ∷ Make Begin ∷ Read Atom ∷ Make (UnaryTerm SizeUnary) ∷ []) ∷
    is_ Application (Take (Keyword Least) ∷ Make Begin ∷ Read Atom ∷ Make (UnaryTerm LeastUnary) ∷ []) ∷
    is_ Application (Take (Keyword Greatest) ∷ Make Begin ∷ Read Atom ∷ Make (UnaryTerm GreatestUnary) ∷ []) ∷
    is_ Application (Take (Keyword Sum) ∷ Make Begin ∷ Take (Symbol LeftBracket) ∷ Read Integer ∷ Take (Symbol Comma) ∷ Read Integer ∷
    Take (Symbol RightBracket) ∷ Read Atom ∷ Make (RangedTerm SumRanged) ∷ []) ∷
    is_ Application (Take (Keyword Clip) ∷ Make Begin ∷ Take (Symbol LeftBracket) ∷ Read Integer ∷ Take (Symbol Comma) ∷ Read Integer ∷
    Take (Symbol RightBracket) ∷ Read Atom ∷ Make (RangedTerm ClipRanged) ∷ []) ∷
    is_ Application (Take (Keyword Inl) ∷ Make Begin ∷ Take (Symbol LeftBracket) ∷ Read AnyType ∷ Take (Symbol RightBracket) ∷ Read Atom ∷
    Make (InjectTerm InlSide) ∷ []) ∷
    is_ Application (Take (Keyword Inr) ∷ Make Begin ∷ Take (Symbol LeftBracket) ∷ Read AnyType ∷ Take (Symbol RightBracket) ∷ Read Atom ∷
    Make (InjectTerm InrSide) ∷ []) ∷
    is_ Application (Take (Symbol Bang) ∷ Make Begin ∷ Take (Symbol LeftBracket) ∷ Read Sensitivity ∷ Take (Symbol RightBracket) ∷ Read Atom ∷
    Make BangTerm ∷ []) ∷
    --      | op2 atom atom
    is_ Application (Take (Keyword Map) ∷ Make Begin ∷ Read Atom ∷ Read Atom ∷ Make (PrefixTerm MapBinary) ∷ []) ∷
    is_ Application (Take (Keyword Filter) ∷ Make Begin ∷ Read Atom ∷ Read Atom ∷ Make (PrefixTerm FilterBinary) ∷ []) ∷
    is_ Application (Take (Keyword Split) ∷ Make Begin ∷ Read Atom ∷ Read Atom ∷ Make (PrefixTerm SplitBinary) ∷ []) ∷
    is_ Application (Take (Keyword Union) ∷ Make Begin ∷ Read Atom ∷ Read Atom ∷ Make (PrefixTerm UnionBinary) ∷ []) ∷
    --      | atom { atom }, grouped to the left
    is_ Application (Read Simple ∷ Read ApplicationTail ∷ []) ∷
    is_ ApplicationTail (Read Atom ∷ Make (InfixTerm AppBinary) ∷ Read ApplicationTail ∷ []) ∷
    is_ ApplicationTail ([]) ∷
    -- atom := number
    is_ Atom (Take Numeral ∷ Make NumberTerm ∷ []) ∷
    is_ Atom (Read Simple ∷ []) ∷
    --       | name | text | true | false
    is_ Simple (Take Named ∷ Make NameTerm ∷ []) ∷
    is_ Simple (Take Quoted ∷ Make TextTerm ∷ []) ∷
    is_ Simple (Take (Keyword True) ∷ Make (TruthTerm InlSide) ∷ []) ∷
    is_ Simple (Take (Keyword False) ∷ Make (TruthTerm InrSide) ∷ []) ∷
    --       | ( ) | ( term ) | ( term , term )
    is_ Simple (Take (Symbol LeftParenthesis) ∷ Make Begin ∷ Read Inside ∷ []) ∷
    --       | < term , term >
    is_ Simple (Take (Symbol LeftAngle) ∷ Make Begin ∷ Read Expression ∷ Take (Symbol Comma) ∷ Read Expression ∷ Take (Symbol RightAngle) ∷
    Make (PrefixTerm WithBinary) ∷ []) ∷
    is_ Inside (Take (Symbol RightParenthesis) ∷ Make UnitTerm ∷ []) ∷
    is_ Inside (Read Expression ∷ Read InsideTail ∷ []) ∷
    is_ InsideTail (Take (Symbol RightParenthesis) ∷ Make GroupTerm ∷ []) ∷
    is_ InsideTail (Take (Symbol Comma) ∷ Read Expression ∷ Take (Symbol RightParenthesis) ∷ Make (PrefixTerm PairBinary) ∷ []) ∷
    -- int := [ - ] number
    is_ Integer (Take (Symbol Minus) ∷ Take Numeral ∷ Make NegativeInteger ∷ []) ∷
    is_ Integer (Take Numeral ∷ Make PlainInteger ∷ []) ∷
    -- sens := number [ / number ] | inf, each from 1 to 2^32 - 1
    is_ Sensitivity (Take Positive ∷ Read SensitivityTail ∷ []) ∷
    is_ SensitivityTail (Take (Symbol Slash) ∷ Take Positive ∷ Make FractionFactor ∷ []) ∷
    is_ SensitivityTail (Make WholeFactor ∷ []) ∷
    is_ Sensitivity (Take (Keyword Inf) ∷ Make InfFactor ∷ []) ∷
    -- type := plus [ ( -o | -> ) type ], grouped to the right
    is_ AnyType (Read PlusType ∷ Read AnyTypeTail ∷ []) ∷
    is_ AnyTypeTail (Take (Symbol Lollipop) ∷ Read AnyType ∷ Make (JoinType LollipopJoint) ∷ []) ∷
    is_ AnyTypeTail (Take (Symbol Arrow) ∷ Read AnyType ∷ Make ArrowType ∷ []) ∷
    is_ AnyTypeTail ([]) ∷
    -- plus := prod [ + plus ]
    is_ PlusType (Read ProductType ∷ Read PlusTypeTail ∷ []) ∷
    is_ PlusTypeTail (Take (Symbol Plus) ∷ Read PlusType ∷ Make (JoinType SumJoint) ∷ []) ∷
    is_ PlusTypeTail ([]) ∷
    -- prod := pre [ ( * | & ) prod ]
    is_ ProductType (Read PrefixType ∷ Read ProductTypeTail ∷ []) ∷
    is_ ProductTypeTail (Take (Symbol Star) ∷ Read ProductType ∷ Make (JoinType TensorJoint) ∷ []) ∷
    is_ ProductTypeTail (Take (Symbol Ampersand) ∷ Read ProductType ∷ Make (JoinType WithJoint) ∷ []) ∷
    is_ ProductTypeTail ([]) ∷
    -- pre := ! [ sens ] pre
    is_ PrefixType (Take (Symbol Bang) ∷ Make Begin ∷ Take (Symbol LeftBracket) ∷ Read Sensitivity ∷ Take (Symbol RightBracket) ∷ Read PrefixType ∷
    Make BangType ∷ []) ∷
    --      | bag pre
    is_ PrefixType (Take (Keyword Bag) ∷ Make Begin ∷ Read PrefixType ∷ Make BagType ∷ []) ∷
    --      | num | text | unit | bool
    is_ PrefixType (Take (Keyword Num) ∷ Make NumType ∷ []) ∷
    is_ PrefixType (Take (Keyword Text) ∷ Make TextType ∷ []) ∷
    is_ PrefixType (Take (Keyword Unit) ∷ Make UnitType ∷ []) ∷
    is_ PrefixType (Take (Keyword Bool) ∷ Make BoolType ∷ []) ∷
    --      | ( type )
    is_ PrefixType (Take (Symbol LeftParenthesis) ∷ Make Begin ∷ Read AnyType ∷ Take (Symbol RightParenthesis) ∷ Make GroupType ∷ []) ∷
    []
