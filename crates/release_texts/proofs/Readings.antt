-- Reading keeps what tokens are, wherever they stand and whatever lies below on the stack.
use Rattle.std.proofs.Common.{◌≡◌, ℕ, zero, suc, ◌<◌, ◌≤◌, List, [], ◌∷◌, ◌++◌, true, get_or, refl, arith, sym, ap, ◌∙◌, subst, drop, length}
use Rattle.std.specs.Prelude.{map, ℤ}
use Rattle.std.proofs.lemmas.Bool.{and_parts}
use Rattle.fz_frac.specs.Distance.{Distance}
use Rattle.fz_ast.specs.declared.span.Span.{Span}
use Rattle.fz_ast.specs.Types.{Ty}
use Rattle.fz_ast.specs.Terms.{Term}
use Rattle.fz_ast.specs.Bare.{bare, nowhere}
use Rattle.fz_lexer.specs.declared.token.Token.{Token}
use Rattle.fz_parser.specs.declared.grammar.Item.{Item}
use Rattle.fz_parser.specs.declared.grammar.Item.TheVariants.{Take, Read, Make}
use Rattle.fz_parser.specs.declared.grammar.Terminal.{Terminal}
use Rattle.fz_parser.specs.declared.grammar.Terminal.TheVariants.{Named, Numeral, Positive, Quoted, Keyword, Symbol}
use Rattle.fz_parser.specs.declared.grammar.Phrase.{Phrase}
use Rattle.fz_parser.specs.declared.grammar.Action.{Action}
use Rattle.fz_parser.specs.declared.grammar.Action.TheVariants.{Begin, LambdaTerm, LetBangTerm, LetPairTerm, LetTerm, CaseTerm}
use Rattle.fz_parser.specs.declared.grammar.Action.TheVariants.{IfTerm, InfixTerm, NegativeTerm, NegativeTimesTerm, TimesTerm, NumberTerm}
use Rattle.fz_parser.specs.declared.grammar.Action.TheVariants.{UnaryTerm, RangedTerm, InjectTerm, BangTerm, PrefixTerm, NameTerm}
use Rattle.fz_parser.specs.declared.grammar.Action.TheVariants.{TextTerm, TruthTerm, UnitTerm, GroupTerm, PlainInteger, NegativeInteger}
use Rattle.fz_parser.specs.declared.grammar.Action.TheVariants.{WholeFactor, FractionFactor, InfFactor, JoinType, ArrowType, BangType}
use Rattle.fz_parser.specs.declared.grammar.Action.TheVariants.{BagType, NumType, TextType, UnitType, BoolType, GroupType}
use Rattle.fz_parser.specs.declared.grammar.Joint.TheVariants.{Lollipop, Sum as SumJoint, Tensor, With as WithJoint}
use Rattle.fz_ast.specs.declared.term.Arrow.TheVariants.{Fun, Fn}
use Rattle.fz_ast.specs.declared.term.Ranged.TheVariants.{Sum as SumRanged, Clip as ClipRanged}
use Rattle.fz_ast.specs.declared.term.Side.TheVariants.{Inl, Inr}
use Rattle.fz_ast.specs.declared.term.Unary.TheVariants.{Fst, Snd, Least, Greatest, Size}
use Rattle.fz_ast.specs.declared.term.Binary.TheVariants.{Pair, With, App, Plus, Minus, AtMost, Equal, Union, Map, Filter, Split}
use Rattle.fz_parser.specs.Parts.{StackPart, What, State, BegunPart, NamePart, NumberPart, PositivePart, TextPart, IntegerPart, FactorPart, TypePart, TermPart, takes, arity, shift, build, nothing, part, in_name, in_number, in_positive, in_text, in_integer, in_factor, in_span, in_type, in_term, start_at, whole, made}
use Rattle.fz_parser.specs.Grammar.{body}
use Rattle.fz_parser.specs.Reads.{ReadsIn}
use Rattle.fz_parser.specs.Tests.{begins_with}
use Rattle.fz_parser.specs.Steps.{sorts_of, sorts, Sound}
use Rattle.fz_parser.proofs.Machine.{sound_act, sound_rule, sound_token}
use Rattle.release_texts.specs.Bared.{bare_part, bare_token, bare_tokens, bare_what}

abbrev x_ : ℕ → State → List ℕ
x_ i s = in_name (part i s).what

abbrev n_ : ℕ → State → ℕ
n_ i s = in_number (part i s).what

abbrev p_ : ℕ → State → ℕ
p_ i s = in_positive (part i s).what

abbrev s_ : ℕ → State → List ℕ
s_ i s = in_text (part i s).what

abbrev z_ : ℕ → State → ℤ
z_ i s = in_integer (part i s).what

abbrev r_ : ℕ → State → Distance
r_ i s = in_factor (part i s).what

abbrev u_ : ℕ → State → Span
u_ i s = in_span (part i s).what

abbrev t_ : ℕ → State → Ty
t_ i s = in_type (part i s).what

abbrev e_ : ℕ → State → Term
e_ i s = in_term (part i s).what

-- the parts of s without spans, and ps below them
abbrev pub onto : List StackPart → State → State
onto ps s = record { last = nowhere; parts = map bare_part s.parts ++ ps }

name_bare : (w : What) → in_name (bare_what w) ≡ in_name w
name_bare BegunPart = refl
name_bare (NamePart x) = refl
name_bare (NumberPart n) = refl
name_bare (PositivePart n) = refl
name_bare (TextPart s) = refl
name_bare (IntegerPart z) = refl
name_bare (FactorPart r) = refl
name_bare (TypePart u t) = refl
name_bare (TermPart e) = refl

number_bare : (w : What) → in_number (bare_what w) ≡ in_number w
number_bare BegunPart = refl
number_bare (NamePart x) = refl
number_bare (NumberPart n) = refl
number_bare (PositivePart n) = refl
number_bare (TextPart s) = refl
number_bare (IntegerPart z) = refl
number_bare (FactorPart r) = refl
number_bare (TypePart u t) = refl
number_bare (TermPart e) = refl

positive_bare : (w : What) → in_positive (bare_what w) ≡ in_positive w
positive_bare BegunPart = refl
positive_bare (NamePart x) = refl
positive_bare (NumberPart n) = refl
positive_bare (PositivePart n) = refl
positive_bare (TextPart s) = refl
positive_bare (IntegerPart z) = refl
positive_bare (FactorPart r) = refl
positive_bare (TypePart u t) = refl
positive_bare (TermPart e) = refl

text_bare : (w : What) → in_text (bare_what w) ≡ in_text w
text_bare BegunPart = refl
text_bare (NamePart x) = refl
text_bare (NumberPart n) = refl
text_bare (PositivePart n) = refl
text_bare (TextPart s) = refl
text_bare (IntegerPart z) = refl
text_bare (FactorPart r) = refl
text_bare (TypePart u t) = refl
text_bare (TermPart e) = refl

integer_bare : (w : What) → in_integer (bare_what w) ≡ in_integer w
integer_bare BegunPart = refl
integer_bare (NamePart x) = refl
integer_bare (NumberPart n) = refl
integer_bare (PositivePart n) = refl
integer_bare (TextPart s) = refl
integer_bare (IntegerPart z) = refl
integer_bare (FactorPart r) = refl
integer_bare (TypePart u t) = refl
integer_bare (TermPart e) = refl

factor_bare : (w : What) → in_factor (bare_what w) ≡ in_factor w
factor_bare BegunPart = refl
factor_bare (NamePart x) = refl
factor_bare (NumberPart n) = refl
factor_bare (PositivePart n) = refl
factor_bare (TextPart s) = refl
factor_bare (IntegerPart z) = refl
factor_bare (FactorPart r) = refl
factor_bare (TypePart u t) = refl
factor_bare (TermPart e) = refl

type_bare : (w : What) → in_type (bare_what w) ≡ in_type w
type_bare BegunPart = refl
type_bare (NamePart x) = refl
type_bare (NumberPart n) = refl
type_bare (PositivePart n) = refl
type_bare (TextPart s) = refl
type_bare (IntegerPart z) = refl
type_bare (FactorPart r) = refl
type_bare (TypePart u t) = refl
type_bare (TermPart e) = refl

span_bare : (w : What) → in_span (bare_what w) ≡ nowhere
span_bare BegunPart = refl
span_bare (NamePart x) = refl
span_bare (NumberPart n) = refl
span_bare (PositivePart n) = refl
span_bare (TextPart s) = refl
span_bare (IntegerPart z) = refl
span_bare (FactorPart r) = refl
span_bare (TypePart u t) = refl
span_bare (TermPart e) = refl

term_bare : (w : What) → in_term (bare_what w) ≡ bare (in_term w)
term_bare BegunPart = refl
term_bare (NamePart x) = refl
term_bare (NumberPart n) = refl
term_bare (PositivePart n) = refl
term_bare (TextPart s) = refl
term_bare (IntegerPart z) = refl
term_bare (FactorPart r) = refl
term_bare (TypePart u t) = refl
term_bare (TermPart e) = refl

get_onto : (i : ℕ) (xs ps : List StackPart) → i < length xs → get_or (map bare_part xs ++ ps) i nothing ≡ bare_part (get_or xs i nothing)
get_onto i [] ps l = absurd (omega arith)
get_onto zero (x ∷ xs) ps l = refl
get_onto (suc i) (x ∷ xs) ps l = get_onto i xs ps (omega arith)

drop_onto : (n : ℕ) (xs ps : List StackPart) → n ≤ length xs → drop n (map bare_part xs ++ ps) ≡ map bare_part (drop n xs) ++ ps
drop_onto zero xs ps l = refl
drop_onto (suc n) [] ps l = absurd (omega arith)
drop_onto (suc n) (x ∷ xs) ps l = drop_onto n xs ps (omega arith)

part_onto : (i : ℕ) (s : State) (ps : List StackPart) → i < length s.parts → part i (onto ps s) ≡ bare_part (part i s)
part_onto i s ps l = get_onto i s.parts ps l

x_onto : (i : ℕ) (s : State) (ps : List StackPart) → i < length s.parts → x_ i (onto ps s) ≡ x_ i s
x_onto i s ps l = ap (λ p. in_name p.what) (part_onto i s ps l) ∙ name_bare (part i s).what

n_onto : (i : ℕ) (s : State) (ps : List StackPart) → i < length s.parts → n_ i (onto ps s) ≡ n_ i s
n_onto i s ps l = ap (λ p. in_number p.what) (part_onto i s ps l) ∙ number_bare (part i s).what

p_onto : (i : ℕ) (s : State) (ps : List StackPart) → i < length s.parts → p_ i (onto ps s) ≡ p_ i s
p_onto i s ps l = ap (λ p. in_positive p.what) (part_onto i s ps l) ∙ positive_bare (part i s).what

s_onto : (i : ℕ) (s : State) (ps : List StackPart) → i < length s.parts → s_ i (onto ps s) ≡ s_ i s
s_onto i s ps l = ap (λ p. in_text p.what) (part_onto i s ps l) ∙ text_bare (part i s).what

z_onto : (i : ℕ) (s : State) (ps : List StackPart) → i < length s.parts → z_ i (onto ps s) ≡ z_ i s
z_onto i s ps l = ap (λ p. in_integer p.what) (part_onto i s ps l) ∙ integer_bare (part i s).what

r_onto : (i : ℕ) (s : State) (ps : List StackPart) → i < length s.parts → r_ i (onto ps s) ≡ r_ i s
r_onto i s ps l = ap (λ p. in_factor p.what) (part_onto i s ps l) ∙ factor_bare (part i s).what

t_onto : (i : ℕ) (s : State) (ps : List StackPart) → i < length s.parts → t_ i (onto ps s) ≡ t_ i s
t_onto i s ps l = ap (λ p. in_type p.what) (part_onto i s ps l) ∙ type_bare (part i s).what

u_onto : (i : ℕ) (s : State) (ps : List StackPart) → i < length s.parts → u_ i (onto ps s) ≡ nowhere
u_onto i s ps l = ap (λ p. in_span p.what) (part_onto i s ps l) ∙ span_bare (part i s).what

e_onto : (i : ℕ) (s : State) (ps : List StackPart) → i < length s.parts → e_ i (onto ps s) ≡ bare (e_ i s)
e_onto i s ps l = ap (λ p. in_term p.what) (part_onto i s ps l) ∙ term_bare (part i s).what

long_enough : (xs : List ℕ) (ps : List StackPart) → begins_with xs (sorts_of ps) ≡ true → length xs ≤ length ps
long_enough [] ps h = omega arith
long_enough (x ∷ xs) [] h = cc h
long_enough (x ∷ xs) (p ∷ ps) h = let k = long_enough xs ps (and_parts _ _ h).1 in omega (arith, k)

made_onto : (a : Action) (w : Span) (s : State) (ps : List StackPart) → arity a ≤ length s.parts → bare_what (made a w s) ≡ made a nowhere (onto ps s)
unfolding takes arity
made_onto Begin w s ps l = refl
made_onto (LambdaTerm Fun) w s ps l = rw (x_onto 2 s ps (omega (arith, l)), u_onto 1 s ps (omega (arith, l)), t_onto 1 s ps (omega (arith, l)), e_onto 0 s ps (omega (arith, l))) refl
made_onto (LambdaTerm Fn) w s ps l = rw (x_onto 2 s ps (omega (arith, l)), u_onto 1 s ps (omega (arith, l)), t_onto 1 s ps (omega (arith, l)), e_onto 0 s ps (omega (arith, l))) refl
made_onto LetBangTerm w s ps l = rw (x_onto 2 s ps (omega (arith, l)), e_onto 1 s ps (omega (arith, l)), e_onto 0 s ps (omega (arith, l))) refl
made_onto LetPairTerm w s ps l = rw (x_onto 3 s ps (omega (arith, l)), x_onto 2 s ps (omega (arith, l)), e_onto 1 s ps (omega (arith, l)), e_onto 0 s ps (omega (arith, l))) refl
made_onto LetTerm w s ps l = rw (x_onto 2 s ps (omega (arith, l)), e_onto 1 s ps (omega (arith, l)), e_onto 0 s ps (omega (arith, l))) refl
made_onto CaseTerm w s ps l = rw (e_onto 4 s ps (omega (arith, l)), x_onto 3 s ps (omega (arith, l)), e_onto 2 s ps (omega (arith, l)), x_onto 1 s ps (omega (arith, l)), e_onto 0 s ps (omega (arith, l))) refl
made_onto IfTerm w s ps l = rw (e_onto 2 s ps (omega (arith, l)), e_onto 1 s ps (omega (arith, l)), e_onto 0 s ps (omega (arith, l))) refl
made_onto (InfixTerm Pair) w s ps l = rw (e_onto 1 s ps (omega (arith, l)), e_onto 0 s ps (omega (arith, l))) refl
made_onto (InfixTerm With) w s ps l = rw (e_onto 1 s ps (omega (arith, l)), e_onto 0 s ps (omega (arith, l))) refl
made_onto (InfixTerm App) w s ps l = rw (e_onto 1 s ps (omega (arith, l)), e_onto 0 s ps (omega (arith, l))) refl
made_onto (InfixTerm Plus) w s ps l = rw (e_onto 1 s ps (omega (arith, l)), e_onto 0 s ps (omega (arith, l))) refl
made_onto (InfixTerm Minus) w s ps l = rw (e_onto 1 s ps (omega (arith, l)), e_onto 0 s ps (omega (arith, l))) refl
made_onto (InfixTerm AtMost) w s ps l = rw (e_onto 1 s ps (omega (arith, l)), e_onto 0 s ps (omega (arith, l))) refl
made_onto (InfixTerm Equal) w s ps l = rw (e_onto 1 s ps (omega (arith, l)), e_onto 0 s ps (omega (arith, l))) refl
made_onto (InfixTerm Union) w s ps l = rw (e_onto 1 s ps (omega (arith, l)), e_onto 0 s ps (omega (arith, l))) refl
made_onto (InfixTerm Map) w s ps l = rw (e_onto 1 s ps (omega (arith, l)), e_onto 0 s ps (omega (arith, l))) refl
made_onto (InfixTerm Filter) w s ps l = rw (e_onto 1 s ps (omega (arith, l)), e_onto 0 s ps (omega (arith, l))) refl
made_onto (InfixTerm Split) w s ps l = rw (e_onto 1 s ps (omega (arith, l)), e_onto 0 s ps (omega (arith, l))) refl
made_onto NegativeTerm w s ps l = rw (n_onto 0 s ps (omega (arith, l))) refl
made_onto NegativeTimesTerm w s ps l = rw (n_onto 1 s ps (omega (arith, l)), e_onto 0 s ps (omega (arith, l))) refl
made_onto TimesTerm w s ps l = rw (n_onto 1 s ps (omega (arith, l)), e_onto 0 s ps (omega (arith, l))) refl
made_onto NumberTerm w s ps l = rw (n_onto 0 s ps (omega (arith, l))) refl
made_onto (UnaryTerm Fst) w s ps l = rw (e_onto 0 s ps (omega (arith, l))) refl
made_onto (UnaryTerm Snd) w s ps l = rw (e_onto 0 s ps (omega (arith, l))) refl
made_onto (UnaryTerm Least) w s ps l = rw (e_onto 0 s ps (omega (arith, l))) refl
made_onto (UnaryTerm Greatest) w s ps l = rw (e_onto 0 s ps (omega (arith, l))) refl
made_onto (UnaryTerm Size) w s ps l = rw (e_onto 0 s ps (omega (arith, l))) refl
made_onto (RangedTerm SumRanged) w s ps l = rw (z_onto 2 s ps (omega (arith, l)), z_onto 1 s ps (omega (arith, l)), e_onto 0 s ps (omega (arith, l))) refl
made_onto (RangedTerm ClipRanged) w s ps l = rw (z_onto 2 s ps (omega (arith, l)), z_onto 1 s ps (omega (arith, l)), e_onto 0 s ps (omega (arith, l))) refl
made_onto (InjectTerm Inl) w s ps l = rw (u_onto 1 s ps (omega (arith, l)), t_onto 1 s ps (omega (arith, l)), e_onto 0 s ps (omega (arith, l))) refl
made_onto (InjectTerm Inr) w s ps l = rw (u_onto 1 s ps (omega (arith, l)), t_onto 1 s ps (omega (arith, l)), e_onto 0 s ps (omega (arith, l))) refl
made_onto BangTerm w s ps l = rw (r_onto 1 s ps (omega (arith, l)), e_onto 0 s ps (omega (arith, l))) refl
made_onto (PrefixTerm Pair) w s ps l = rw (e_onto 1 s ps (omega (arith, l)), e_onto 0 s ps (omega (arith, l))) refl
made_onto (PrefixTerm With) w s ps l = rw (e_onto 1 s ps (omega (arith, l)), e_onto 0 s ps (omega (arith, l))) refl
made_onto (PrefixTerm App) w s ps l = rw (e_onto 1 s ps (omega (arith, l)), e_onto 0 s ps (omega (arith, l))) refl
made_onto (PrefixTerm Plus) w s ps l = rw (e_onto 1 s ps (omega (arith, l)), e_onto 0 s ps (omega (arith, l))) refl
made_onto (PrefixTerm Minus) w s ps l = rw (e_onto 1 s ps (omega (arith, l)), e_onto 0 s ps (omega (arith, l))) refl
made_onto (PrefixTerm AtMost) w s ps l = rw (e_onto 1 s ps (omega (arith, l)), e_onto 0 s ps (omega (arith, l))) refl
made_onto (PrefixTerm Equal) w s ps l = rw (e_onto 1 s ps (omega (arith, l)), e_onto 0 s ps (omega (arith, l))) refl
made_onto (PrefixTerm Union) w s ps l = rw (e_onto 1 s ps (omega (arith, l)), e_onto 0 s ps (omega (arith, l))) refl
made_onto (PrefixTerm Map) w s ps l = rw (e_onto 1 s ps (omega (arith, l)), e_onto 0 s ps (omega (arith, l))) refl
made_onto (PrefixTerm Filter) w s ps l = rw (e_onto 1 s ps (omega (arith, l)), e_onto 0 s ps (omega (arith, l))) refl
made_onto (PrefixTerm Split) w s ps l = rw (e_onto 1 s ps (omega (arith, l)), e_onto 0 s ps (omega (arith, l))) refl
made_onto NameTerm w s ps l = rw (x_onto 0 s ps (omega (arith, l))) refl
made_onto TextTerm w s ps l = rw (s_onto 0 s ps (omega (arith, l))) refl
made_onto (TruthTerm Inl) w s ps l = refl
made_onto (TruthTerm Inr) w s ps l = refl
made_onto UnitTerm w s ps l = refl
made_onto GroupTerm w s ps l = rw (e_onto 0 s ps (omega (arith, l))) refl
made_onto PlainInteger w s ps l = rw (n_onto 0 s ps (omega (arith, l))) refl
made_onto NegativeInteger w s ps l = rw (n_onto 0 s ps (omega (arith, l))) refl
made_onto WholeFactor w s ps l = rw (p_onto 0 s ps (omega (arith, l))) refl
made_onto FractionFactor w s ps l = rw (p_onto 1 s ps (omega (arith, l)), p_onto 0 s ps (omega (arith, l))) refl
made_onto InfFactor w s ps l = refl
made_onto (JoinType Lollipop) w s ps l = rw (t_onto 1 s ps (omega (arith, l)), t_onto 0 s ps (omega (arith, l))) refl
made_onto (JoinType SumJoint) w s ps l = rw (t_onto 1 s ps (omega (arith, l)), t_onto 0 s ps (omega (arith, l))) refl
made_onto (JoinType Tensor) w s ps l = rw (t_onto 1 s ps (omega (arith, l)), t_onto 0 s ps (omega (arith, l))) refl
made_onto (JoinType WithJoint) w s ps l = rw (t_onto 1 s ps (omega (arith, l)), t_onto 0 s ps (omega (arith, l))) refl
made_onto ArrowType w s ps l = rw (t_onto 1 s ps (omega (arith, l)), t_onto 0 s ps (omega (arith, l))) refl
made_onto BangType w s ps l = rw (r_onto 1 s ps (omega (arith, l)), t_onto 0 s ps (omega (arith, l))) refl
made_onto BagType w s ps l = rw (t_onto 0 s ps (omega (arith, l))) refl
made_onto NumType w s ps l = refl
made_onto TextType w s ps l = refl
made_onto UnitType w s ps l = refl
made_onto BoolType w s ps l = refl
made_onto GroupType w s ps l = rw (u_onto 0 s ps (omega (arith, l)), t_onto 0 s ps (omega (arith, l))) refl

start_onto : (n : ℕ) (s : State) (ps : List StackPart) → n ≤ length s.parts → start_at n (onto ps s) ≡ 0
start_onto zero s ps l = refl
start_onto (suc n) s ps l = ap (λ p. p.from) (part_onto n s ps (omega (arith, l)))

whole_onto : (a : Action) (s : State) (ps : List StackPart) → arity a ≤ length s.parts → whole a (onto ps s) ≡ nowhere
whole_onto a s ps l = ap (λ n. let w : Span = record { from = n; to = 0 } in w) (start_onto (arity a) s ps l)

same_part : (m n : ℕ) (v w : What) → m ≡ n → v ≡ w → (let p : StackPart = record { from = m; what = v } in p) ≡ (let p : StackPart = record { from = n; what = w } in p)
same_part m n v w e f = cc

build_onto : (a : Action) (s : State) (ps : List StackPart) → arity a ≤ length s.parts → build a (onto ps s) ≡ onto ps (build a s)
unfolding build
build_onto a s ps l =
    let w = made_onto a (whole a s) s ps l in
    let v : made a (whole a (onto ps s)) (onto ps s) ≡ bare_what (made a (whole a s) s) = ap (λ w. made a w (onto ps s)) (whole_onto a s ps l) ∙ sym w in
    let f = start_onto (arity a) s ps l in
    let d = drop_onto (arity a) s.parts ps l in
    let p = same_part (start_at (arity a) (onto ps s)) 0 _ _ f v in
    cc (p, d)

shift_onto : (k : Terminal) (t : Token) (s : State) (ps : List StackPart) → shift k (bare_token t) (onto ps s) ≡ onto ps (shift k t s)
unfolding shift
shift_onto Named t s ps = refl
shift_onto Numeral t s ps = refl
shift_onto Positive t s ps = refl
shift_onto Quoted t s ps = refl
shift_onto (Keyword w) t s ps = refl
shift_onto (Symbol x) t s ps = refl

ready : {goal : Phrase} (a : Action) (σ : List Item) (s : State) → Sound goal (Make a ∷ σ) s → arity a ≤ length s.parts
unfolding arity
ready a σ s h = long_enough (takes a) s.parts (and_parts (begins_with (takes a) (sorts s)) _ h.level.enough).0

-- tokens that are read are read without spans too, over any parts
pub reads_onto : {goal : Phrase} (n : ℕ) (σ : List Item) (w : List Token) (s r : State) → Sound goal σ s → ReadsIn n σ w s r → (ps : List StackPart) → ReadsIn n σ (bare_tokens w) (onto ps s) (onto ps r)
reads_onto zero [] [] s r g h ps = ap (onto ps) h
reads_onto zero [] (t ∷ w) s r g h ps = absurd h
reads_onto zero (i ∷ σ) w s r g h ps = absurd h
reads_onto (suc n) [] w s r g h ps = absurd h
reads_onto (suc n) (Take k ∷ σ) [] s r g h ps = absurd h
reads_onto (suc n) (Take k ∷ σ) (t ∷ w) s r g h ps =
    (h.0, subst (λ z. ReadsIn n σ (bare_tokens w) z (onto ps r)) (sym (shift_onto k t s ps)) (reads_onto n σ w (shift k t s) r (sound_token k σ s t g) h.1 ps))
reads_onto (suc n) (Make a ∷ σ) w s r g h ps =
    subst (λ z. ReadsIn n σ (bare_tokens w) z (onto ps r)) (sym (build_onto a s ps (ready a σ s g))) (reads_onto n σ w (build a s) r (sound_act a σ s g) h ps)
reads_onto (suc n) (Read a ∷ σ) w s r g h ps = (h.0, h.1, h.2, reads_onto n (body h.0 ++ σ) w s r (sound_rule h.0 a σ s h.1 h.2 g) h.3 ps)

-- and what is read without spans is read with them
pub reads_back : {goal : Phrase} (n : ℕ) (σ : List Item) (w : List Token) (s q : State) → Sound goal σ s → ReadsIn n σ (bare_tokens w) (onto [] s) q → (r : State) × ReadsIn n σ w s r × (onto [] r ≡ q)
reads_back zero [] [] s q g h = (s, refl, h)
reads_back zero [] (t ∷ w) s q g h = absurd h
reads_back zero (i ∷ σ) w s q g h = absurd h
reads_back (suc n) [] w s q g h = absurd h
reads_back (suc n) (Take k ∷ σ) [] s q g h = absurd h
reads_back (suc n) (Take k ∷ σ) (t ∷ w) s q g h =
    let y = reads_back n σ w (shift k t s) q (sound_token k σ s t g) (subst (λ z. ReadsIn n σ (bare_tokens w) z q) (shift_onto k t s []) h.1) in
    (y.0, (h.0, y.1), y.2)
reads_back (suc n) (Make a ∷ σ) w s q g h =
    let y = reads_back n σ w (build a s) q (sound_act a σ s g) (subst (λ z. ReadsIn n σ (bare_tokens w) z q) (build_onto a s [] (ready a σ s g)) h) in
    (y.0, y.1, y.2)
reads_back (suc n) (Read a ∷ σ) w s q g h =
    let y = reads_back n (body h.0 ++ σ) w s q (sound_rule h.0 a σ s h.1 h.2 g) h.3 in
    (y.0, (h.0, h.1, h.2, y.1), y.2)
