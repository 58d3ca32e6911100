-- The parts that a reading keeps, and what each action makes of those on top.
use Rattle.std.specs.Prelude.{ℕ, zero, suc, ◌/◌, List, [], ◌∷◌, ◌++◌, length, drop, get_or, ℤ, pos, neg_ℤ}
use Rattle.fz_frac.specs.Distance.{Distance, Fin, Inf}
use Rattle.fz_frac.specs.Lowest.{gcd}
use Rattle.fz_ast.specs.declared.span.Span.{Span}
use Rattle.fz_ast.specs.Types.{Ty, NumT, TextT, UnitT, TensorT, WithT, SumT, ArrowT, BangT, BagT, BoolT, UnlimitedT}
use Rattle.fz_ast.specs.Terms.{Term, TermForm, at, VarE, NumE, TextE, UnitE, LetPairE, InlE, InrE, CaseE}
use Rattle.fz_ast.specs.Terms.{IfE, FunE, FnE, BangE, LetBangE, LetE, TimesE, ClipE, SumE, TrueE, FalseE}
use Rattle.fz_ast.specs.Bare.{nowhere}
use Rattle.fz_lexer.specs.declared.token.Token.{Token}
use Rattle.fz_lexer.specs.declared.token.Kind.{Kind}
use Rattle.fz_lexer.specs.declared.token.Kind.TheVariants.{Name, Number, Text, Reserved, Punctuation}
use Rattle.fz_parser.specs.declared.grammar.Terminal.{Terminal}
use Rattle.fz_parser.specs.declared.grammar.Terminal.TheVariants.{Named, Numeral, Positive, Quoted, Keyword, Symbol}
use Rattle.fz_parser.specs.declared.grammar.Action.{Action}
use Rattle.fz_parser.specs.declared.grammar.Action.TheVariants.{Begin, LambdaTerm, LetBangTerm, LetPairTerm, LetTerm, CaseTerm}
use Rattle.fz_parser.specs.declared.grammar.Action.TheVariants.{IfTerm, InfixTerm, NegativeTerm, NegativeTimesTerm, TimesTerm, NumberTerm}
use Rattle.fz_parser.specs.declared.grammar.Action.TheVariants.{UnaryTerm, RangedTerm, InjectTerm, BangTerm, PrefixTerm, NameTerm}
use Rattle.fz_parser.specs.declared.grammar.Action.TheVariants.{TextTerm, TruthTerm, UnitTerm, GroupTerm, PlainInteger, NegativeInteger}
use Rattle.fz_parser.specs.declared.grammar.Action.TheVariants.{WholeFactor, FractionFactor, InfFactor, JoinType, ArrowType, BangType}
use Rattle.fz_parser.specs.declared.grammar.Action.TheVariants.{BagType, NumType, TextType, UnitType, BoolType, GroupType}
use Rattle.fz_parser.specs.declared.grammar.Joint.{Joint}
use Rattle.fz_parser.specs.declared.grammar.Joint.TheVariants.{Lollipop, Sum, Tensor, With}
use Rattle.fz_ast.specs.declared.term.Arrow.{Arrow}
use Rattle.fz_ast.specs.declared.term.Arrow.TheVariants.{Fun, Fn}
use Rattle.fz_ast.specs.declared.term.Ranged.{Ranged}
use Rattle.fz_ast.specs.declared.term.Ranged.TheVariants.{Sum as SumRanged, Clip as ClipRanged}
use Rattle.fz_ast.specs.declared.term.Side.{Side}
use Rattle.fz_ast.specs.declared.term.Side.TheVariants.{Inl, Inr}
use Rattle.fz_ast.specs.TermNodes.{unary, binary}

pub data What : Type 0 where
  -- a construct begins here
  BegunPart : What
  NamePart : (x : List ℕ) → What
  NumberPart : (n : ℕ) → What
  PositivePart : (n : ℕ) → What
  TextPart : (s : List ℕ) → What
  IntegerPart : (z : ℤ) → What
  FactorPart : (r : Distance) → What
  -- a written type, and its span
  TypePart : (u : Span) (t : Ty) → What
  TermPart : (e : Term) → What

-- a part, and where its text begins: at its parentheses, if it stands in some
pub record StackPart : Type 0 where
  pub from : ℕ
  pub what : What

-- the last token's span, and the parts so far, the last one first
pub record State : Type 0 where
  pub last : Span
  pub parts : List StackPart

-- sorts of parts
abbrev begun : ℕ
begun = 0

abbrev name : ℕ
name = 1

abbrev number : ℕ
number = 2

abbrev positive : ℕ
positive = 3

abbrev text : ℕ
text = 4

abbrev integer : ℕ
integer = 5

abbrev factor : ℕ
factor = 6

abbrev pub type_ : ℕ
type_ = 7

abbrev pub term : ℕ
term = 8

abbrev pub sort_of : What → ℕ
sort_of BegunPart = begun
sort_of (NamePart x) = name
sort_of (NumberPart n) = number
sort_of (PositivePart n) = positive
sort_of (TextPart s) = text
sort_of (IntegerPart z) = integer
sort_of (FactorPart r) = factor
sort_of (TypePart u t) = type_
sort_of (TermPart e) = term

-- the sorts that an action takes, the last part first: the grammar's rules come to it with these on top
unfoldable pub takes : Action → List ℕ
takes Begin = []
takes (LambdaTerm o) = term ∷ type_ ∷ name ∷ begun ∷ []
takes LetBangTerm = term ∷ term ∷ name ∷ begun ∷ []
takes LetPairTerm = term ∷ term ∷ name ∷ name ∷ begun ∷ []
takes LetTerm = term ∷ term ∷ name ∷ begun ∷ []
takes CaseTerm = term ∷ name ∷ term ∷ name ∷ term ∷ begun ∷ []
takes IfTerm = term ∷ term ∷ term ∷ begun ∷ []
takes (InfixTerm o) = term ∷ term ∷ []
takes NegativeTerm = number ∷ begun ∷ []
takes NegativeTimesTerm = term ∷ number ∷ begun ∷ []
takes TimesTerm = term ∷ number ∷ []
takes NumberTerm = number ∷ []
takes (UnaryTerm o) = term ∷ begun ∷ []
takes (RangedTerm o) = term ∷ integer ∷ integer ∷ begun ∷ []
takes (InjectTerm o) = term ∷ type_ ∷ begun ∷ []
takes BangTerm = term ∷ factor ∷ begun ∷ []
takes (PrefixTerm o) = term ∷ term ∷ begun ∷ []
takes NameTerm = name ∷ []
takes TextTerm = text ∷ []
takes (TruthTerm o) = []
takes UnitTerm = begun ∷ []
takes GroupTerm = term ∷ begun ∷ []
takes PlainInteger = number ∷ []
takes NegativeInteger = number ∷ []
takes WholeFactor = positive ∷ []
takes FractionFactor = positive ∷ positive ∷ []
takes InfFactor = []
takes (JoinType o) = type_ ∷ type_ ∷ []
takes ArrowType = type_ ∷ type_ ∷ []
takes BangType = type_ ∷ factor ∷ begun ∷ []
takes BagType = type_ ∷ begun ∷ []
takes NumType = []
takes TextType = []
takes UnitType = []
takes BoolType = []
takes GroupType = type_ ∷ begun ∷ []

-- the sort of the part that is made
unfoldable pub gives : Action → ℕ
gives Begin = begun
gives (LambdaTerm o) = term
gives LetBangTerm = term
gives LetPairTerm = term
gives LetTerm = term
gives CaseTerm = term
gives IfTerm = term
gives (InfixTerm o) = term
gives NegativeTerm = term
gives NegativeTimesTerm = term
gives TimesTerm = term
gives NumberTerm = term
gives (UnaryTerm o) = term
gives (RangedTerm o) = term
gives (InjectTerm o) = term
gives BangTerm = term
gives (PrefixTerm o) = term
gives NameTerm = term
gives TextTerm = term
gives (TruthTerm o) = term
gives UnitTerm = term
gives GroupTerm = term
gives PlainInteger = integer
gives NegativeInteger = integer
gives WholeFactor = factor
gives FractionFactor = factor
gives InfFactor = factor
gives (JoinType o) = type_
gives ArrowType = type_
gives BangType = type_
gives BagType = type_
gives NumType = type_
gives TextType = type_
gives UnitType = type_
gives BoolType = type_
gives GroupType = type_

-- What a token leaves, by what it has to be.
abbrev pub kind_name : Kind → List ℕ
kind_name (Name x) = x
kind_name (Number n) = []
kind_name (Text x) = []
kind_name (Reserved w) = []
kind_name (Punctuation s) = []

abbrev pub kind_number : Kind → ℕ
kind_number (Name x) = 0
kind_number (Number n) = n
kind_number (Text x) = 0
kind_number (Reserved w) = 0
kind_number (Punctuation s) = 0

abbrev pub kind_text : Kind → List ℕ
kind_text (Name x) = []
kind_text (Number n) = []
kind_text (Text x) = x
kind_text (Reserved w) = []
kind_text (Punctuation s) = []

abbrev pub token_parts : Terminal → Token → List StackPart
token_parts Named t = record { from = t.span.from; what = NamePart (kind_name t.kind) } ∷ []
token_parts Numeral t = record { from = t.span.from; what = NumberPart (kind_number t.kind) } ∷ []
token_parts Positive t = record { from = t.span.from; what = PositivePart (kind_number t.kind) } ∷ []
token_parts Quoted t = record { from = t.span.from; what = TextPart (kind_text t.kind) } ∷ []
token_parts (Keyword w) t = []
token_parts (Symbol s) t = []

unfoldable pub shift : Terminal → Token → State → State
shift k t s = record { last = t.span; parts = token_parts k t ++ s.parts }

-- What the parts hold, 0 being the last one. (Where a part is of another sort, which no rule comes to, these answer something.)
abbrev pub nothing : StackPart
nothing = record { from = 0; what = BegunPart }

abbrev pub part : ℕ → State → StackPart
part i s = get_or s.parts i nothing

abbrev pub in_name : What → List ℕ
in_name BegunPart = []
in_name (NamePart x) = x
in_name (NumberPart n) = []
in_name (PositivePart n) = []
in_name (TextPart s) = []
in_name (IntegerPart z) = []
in_name (FactorPart r) = []
in_name (TypePart u t) = []
in_name (TermPart e) = []

abbrev pub in_number : What → ℕ
in_number BegunPart = 0
in_number (NamePart x) = 0
in_number (NumberPart n) = n
in_number (PositivePart n) = 0
in_number (TextPart s) = 0
in_number (IntegerPart z) = 0
in_number (FactorPart r) = 0
in_number (TypePart u t) = 0
in_number (TermPart e) = 0

abbrev pub in_positive : What → ℕ
in_positive BegunPart = 1
in_positive (NamePart x) = 1
in_positive (NumberPart n) = 1
in_positive (PositivePart n) = n
in_positive (TextPart s) = 1
in_positive (IntegerPart z) = 1
in_positive (FactorPart r) = 1
in_positive (TypePart u t) = 1
in_positive (TermPart e) = 1

abbrev pub in_text : What → List ℕ
in_text BegunPart = []
in_text (NamePart x) = []
in_text (NumberPart n) = []
in_text (PositivePart n) = []
in_text (TextPart s) = s
in_text (IntegerPart z) = []
in_text (FactorPart r) = []
in_text (TypePart u t) = []
in_text (TermPart e) = []

abbrev pub in_integer : What → ℤ
in_integer BegunPart = pos 0
in_integer (NamePart x) = pos 0
in_integer (NumberPart n) = pos 0
in_integer (PositivePart n) = pos 0
in_integer (TextPart s) = pos 0
in_integer (IntegerPart z) = z
in_integer (FactorPart r) = pos 0
in_integer (TypePart u t) = pos 0
in_integer (TermPart e) = pos 0

abbrev pub in_factor : What → Distance
in_factor BegunPart = Inf
in_factor (NamePart x) = Inf
in_factor (NumberPart n) = Inf
in_factor (PositivePart n) = Inf
in_factor (TextPart s) = Inf
in_factor (IntegerPart z) = Inf
in_factor (FactorPart r) = r
in_factor (TypePart u t) = Inf
in_factor (TermPart e) = Inf

abbrev pub in_span : What → Span
in_span BegunPart = nowhere
in_span (NamePart x) = nowhere
in_span (NumberPart n) = nowhere
in_span (PositivePart n) = nowhere
in_span (TextPart s) = nowhere
in_span (IntegerPart z) = nowhere
in_span (FactorPart r) = nowhere
in_span (TypePart u t) = u
in_span (TermPart e) = nowhere

abbrev pub in_type : What → Ty
in_type BegunPart = UnitT
in_type (NamePart x) = UnitT
in_type (NumberPart n) = UnitT
in_type (PositivePart n) = UnitT
in_type (TextPart s) = UnitT
in_type (IntegerPart z) = UnitT
in_type (FactorPart r) = UnitT
in_type (TypePart u t) = t
in_type (TermPart e) = UnitT

abbrev pub in_term : What → Term
in_term BegunPart = at nowhere UnitE
in_term (NamePart x) = at nowhere UnitE
in_term (NumberPart n) = at nowhere UnitE
in_term (PositivePart n) = at nowhere UnitE
in_term (TextPart s) = at nowhere UnitE
in_term (IntegerPart z) = at nowhere UnitE
in_term (FactorPart r) = at nowhere UnitE
in_term (TypePart u t) = at nowhere UnitE
in_term (TermPart e) = e

abbrev x_ : ℕ → State → List ℕ
x_ i s = in_name (part i s).what

abbrev n_ : ℕ → State → ℕ
n_ i s = in_number (part i s).what

abbrev p_ : ℕ → State → ℕ
p_ i s = in_positive (part i s).what

abbrev s_ : ℕ → State → List ℕ
s_ i s = in_text (part i s).what

abbrev z_ : ℕ → State → ℤ
z_ i s = in_integer (part i s).what

abbrev r_ : ℕ → State → Distance
r_ i s = in_factor (part i s).what

abbrev u_ : ℕ → State → Span
u_ i s = in_span (part i s).what

abbrev t_ : ℕ → State → Ty
t_ i s = in_type (part i s).what

abbrev e_ : ℕ → State → Term
e_ i s = in_term (part i s).what

-- a fraction in lowest terms
unfoldable pub in_lowest_terms : ℕ → ℕ → Distance
in_lowest_terms p q = Fin (p / gcd p q) (q / gcd p q)

-- where what the top parts make begins
abbrev pub start_at : ℕ → State → ℕ
start_at zero s = s.last.from
start_at (suc n) s = (part n s).from

unfoldable pub arity : Action → ℕ
arity a = length (takes a)

-- and its span
abbrev pub whole : Action → State → Span
whole a s = record { from = start_at (arity a) s; to = s.last.to }

-- fun, fn
abbrev pub lambda : Arrow → List ℕ → Span → Ty → Term → TermForm
lambda Fun x u t e = FunE x u t e
lambda Fn x u t e = FnE x u t e

abbrev pub inject : Side → Span → Ty → Term → TermForm
inject Inl u t e = InlE u t e
inject Inr u t e = InrE u t e

abbrev pub ranged : Ranged → ℤ → ℤ → Term → TermForm
ranged SumRanged lo hi e = SumE lo hi e
ranged ClipRanged lo hi e = ClipE lo hi e

-- `true` is inl[unit] (), `false` is inr[unit] (), each with the token's span
abbrev pub truth_term : Side → Span → Term
truth_term Inl w = TrueE w
truth_term Inr w = FalseE w

abbrev pub joint : Joint → Ty → Ty → Ty
joint Lollipop a b = ArrowT a b
joint Sum a b = SumT a b
joint Tensor a b = TensorT a b
joint With a b = WithT a b

-- What each action makes, of a whole span w.
abbrev pub made : Action → Span → State → What
made Begin w s = BegunPart
-- fun (x : t) => e, fn (x : t) => e
made (LambdaTerm o) w s = TermPart (at w (lambda o (x_ 2 s) (u_ 1 s) (t_ 1 s) (e_ 0 s)))
made LetBangTerm w s = TermPart (at w (LetBangE (x_ 2 s) (e_ 1 s) (e_ 0 s)))
made LetPairTerm w s = TermPart (at w (LetPairE (x_ 3 s) (x_ 2 s) (e_ 1 s) (e_ 0 s)))
made LetTerm w s = TermPart (at w (LetE (x_ 2 s) (e_ 1 s) (e_ 0 s)))
made CaseTerm w s = TermPart (at w (CaseE (e_ 4 s) (x_ 3 s) (e_ 2 s) (x_ 1 s) (e_ 0 s)))
made IfTerm w s = TermPart (at w (IfE (e_ 2 s) (e_ 1 s) (e_ 0 s)))
-- a <= b, a == b, a + b, a - b, f a
made (InfixTerm o) w s = TermPart (at w (binary o (e_ 1 s) (e_ 0 s)))
-- a negative number is one leaf
made NegativeTerm w s = TermPart (at w (NumE (neg_ℤ (pos (n_ 0 s)))))
made NegativeTimesTerm w s = TermPart (at w (TimesE (neg_ℤ (pos (n_ 1 s))) (e_ 0 s)))
made TimesTerm w s = TermPart (at w (TimesE (pos (n_ 1 s)) (e_ 0 s)))
made NumberTerm w s = TermPart (at w (NumE (pos (n_ 0 s))))
made (UnaryTerm o) w s = TermPart (at w (unary o (e_ 0 s)))
made (RangedTerm o) w s = TermPart (at w (ranged o (z_ 2 s) (z_ 1 s) (e_ 0 s)))
made (InjectTerm o) w s = TermPart (at w (inject o (u_ 1 s) (t_ 1 s) (e_ 0 s)))
made BangTerm w s = TermPart (at w (BangE (r_ 1 s) (e_ 0 s)))
-- (a, b), <a, b>, map, filter, split, union
made (PrefixTerm o) w s = TermPart (at w (binary o (e_ 1 s) (e_ 0 s)))
made NameTerm w s = TermPart (at w (VarE (x_ 0 s)))
made TextTerm w s = TermPart (at w (TextE (s_ 0 s)))
made (TruthTerm o) w s = TermPart (truth_term o w)
made UnitTerm w s = TermPart (at w UnitE)
-- parentheses round a term are outside its span
made GroupTerm w s = TermPart (e_ 0 s)
made PlainInteger w s = IntegerPart (pos (n_ 0 s))
made NegativeInteger w s = IntegerPart (neg_ℤ (pos (n_ 0 s)))
made WholeFactor w s = FactorPart (Fin (p_ 0 s) 1)
made FractionFactor w s = FactorPart (in_lowest_terms (p_ 1 s) (p_ 0 s))
made InfFactor w s = FactorPart Inf
made (JoinType o) w s = TypePart w (joint o (t_ 1 s) (t_ 0 s))
-- S -> T stands for ![inf] S -o T
made ArrowType w s = TypePart w (UnlimitedT (t_ 1 s) (t_ 0 s))
made BangType w s = TypePart w (BangT (r_ 1 s) (t_ 0 s))
made BagType w s = TypePart w (BagT (t_ 0 s))
made NumType w s = TypePart w NumT
made TextType w s = TypePart w TextT
made UnitType w s = TypePart w UnitT
made BoolType w s = TypePart w BoolT
made GroupType w s = TypePart (u_ 0 s) (t_ 0 s)

-- the parts that are taken give way to the one that is made
unfoldable pub build : Action → State → State
build a s = record { last = s.last; parts = record { from = start_at (arity a) s; what = made a (whole a s) s } ∷ drop (arity a) s.parts }
