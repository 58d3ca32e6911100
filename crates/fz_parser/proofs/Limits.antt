-- A term keeps the limits: the tokens that may stand somewhere do, and each action's part does where its own parts do.
use Rattle.std.proofs.Common.{◌≡◌, ℕ, zero, suc, ◌*◌, ◌/◌, ◌^◌, ◌<◌, ◌≤◌, List, [], ◌∷◌, ◌++◌, true, refl, arith, subst, get_or, drop}
use Rattle.std.specs.Prelude.{pos, neg_ℤ, ⊤}
use Rattle.std.proofs.lemmas.Bool.{and_parts}
use Rattle.std.proofs.lemmas.Int.{ints}
use Rattle.fz_frac.specs.Distance.{Distance, Fin}
use Rattle.fz_frac.specs.Lowest.{gcd, widest}
use Rattle.fz_frac.proofs.Lowest.{gcd_is, gcd_one, coprime, lowest as lowest_parts}
use Rattle.fz_ast.specs.Types.{Ty}
use Rattle.fz_ast.specs.Terms.{Term, at}
use Rattle.fz_ast.specs.Limits.{IsNumber, IsName, IsText, IsBang, TypeLimits, TermLimits}
use Rattle.fz_ast.specs.declared.term.Arrow.TheVariants.{Fun, Fn}
use Rattle.fz_ast.specs.declared.term.Ranged.TheVariants.{Sum as SumRanged, Clip as ClipRanged}
use Rattle.fz_ast.specs.declared.term.Side.TheVariants.{Inl, Inr}
use Rattle.fz_ast.specs.declared.term.Unary.{Unary}
use Rattle.fz_ast.specs.declared.term.Unary.TheVariants.{Fst, Snd, Least, Greatest, Size}
use Rattle.fz_ast.specs.declared.term.Binary.{Binary}
use Rattle.fz_ast.specs.declared.term.Binary.TheVariants.{Pair, With, App, Plus, Minus, AtMost, Equal, Union, Map, Filter, Split}
use Rattle.fz_ast.specs.TermNodes.{unary, binary}
use Rattle.fz_ast.specs.declared.span.Span.{Span}
use Rattle.fz_lexer.specs.declared.token.Token.{Token}
use Rattle.fz_lexer.specs.declared.token.Kind.{Kind}
use Rattle.fz_lexer.specs.declared.token.Kind.TheVariants.{Name, Number, Text, Reserved, Punctuation}
use Rattle.fz_parser.specs.declared.grammar.Item.{Item}
use Rattle.fz_parser.specs.declared.grammar.Item.TheVariants.{Take, Read, Make}
use Rattle.fz_parser.specs.declared.grammar.Terminal.{Terminal}
use Rattle.fz_parser.specs.declared.grammar.Terminal.TheVariants.{Named, Numeral, Positive, Quoted, Keyword, Symbol}
use Rattle.fz_parser.specs.declared.grammar.Joint.TheVariants.{Lollipop, Sum, Tensor, With as Both}
use Rattle.fz_parser.specs.declared.grammar.Action.{Action}
use Rattle.fz_parser.specs.declared.grammar.Action.TheVariants.{Begin, LambdaTerm, LetBangTerm, LetPairTerm, LetTerm, CaseTerm, IfTerm, InfixTerm, NegativeTerm, NegativeTimesTerm, TimesTerm, NumberTerm, UnaryTerm, RangedTerm, InjectTerm, BangTerm, PrefixTerm, NameTerm, TextTerm, TruthTerm, UnitTerm, GroupTerm, PlainInteger, NegativeInteger, WholeFactor, FractionFactor, InfFactor, JoinType, ArrowType, BangType, BagType, NumType, TextType, UnitType, BoolType, GroupType}
use Rattle.fz_parser.specs.Parts.{What, BegunPart, NamePart, NumberPart, PositivePart, TextPart, IntegerPart, FactorPart, TypePart, TermPart, StackPart, State, sort_of, takes, made, build, shift, token_parts, nothing, part, in_name, in_number, in_positive, in_text, in_integer, in_factor, in_type, in_term, in_lowest_terms, arity, whole}
use Rattle.fz_parser.specs.declared.grammar.Phrase.{Phrase}
use Rattle.fz_parser.specs.Grammar.{Fits, body, empty, alone, IsPhrase, IsTerm, IsTypeOf, IsSensitivityOf}
use Rattle.fz_parser.specs.Reads.{ReadsIn}
use Rattle.fz_parser.specs.Tests.{begins_with}
use Rattle.fz_parser.specs.Steps.{sorts, Level, IsGoal, START}
use Rattle.fz_parser.specs.Kept.{sort_at}
use Rattle.fz_parser.proofs.Making.{ready_at}
use Rattle.fz_parser.proofs.Words.{level_rule, level_act, level_token}
use Rattle.fz_parser.proofs.Machine.{sound_start, reads_of, term_goal, type_goal, sensitivity_goal}

-- what is kept of a part
abbrev IsLimited : What → Type 0
IsLimited BegunPart = ⊤
IsLimited (NamePart x) = IsName x
IsLimited (NumberPart n) = n ≤ 2 ^ 50
IsLimited (PositivePart n) = (0 < n) × (n < 2 ^ 32)
IsLimited (TextPart s) = IsText s
IsLimited (IntegerPart z) = IsNumber z
IsLimited (FactorPart r) = IsBang r
IsLimited (TypePart u t) = TypeLimits t
IsLimited (TermPart e) = TermLimits e

abbrev AllLimited : List StackPart → Type 0
AllLimited [] = ⊤
AllLimited (p ∷ ps) = IsLimited p.what × AllLimited ps

part_limited : (ps : List StackPart) (i : ℕ) → AllLimited ps → IsLimited (get_or ps i nothing).what
part_limited [] i h = tt
part_limited (p ∷ ps) zero h = h.0
part_limited (p ∷ ps) (suc i) h = part_limited ps i h.1

rest_limited : (ps : List StackPart) (n : ℕ) → AllLimited ps → AllLimited (drop n ps)
rest_limited ps zero h = h
rest_limited [] (suc n) h = h
rest_limited (p ∷ ps) (suc n) h = rest_limited ps n h.1

-- a whole number up to the limit, and its negative
plain_number : (n : ℕ) → n ≤ 2 ^ 50 → IsNumber (pos n)
plain_number n h = omega (arith, ints)

negative_number : (n : ℕ) → n ≤ 2 ^ 50 → IsNumber (neg_ℤ (pos n))
negative_number n h = omega (arith, ints)

name_in : (w : What) → IsLimited w → IsName (in_name w)
name_in BegunPart h = omega arith
name_in (NamePart x) h = h
name_in (NumberPart n) h = omega arith
name_in (PositivePart n) h = omega arith
name_in (TextPart s) h = omega arith
name_in (IntegerPart z) h = omega arith
name_in (FactorPart r) h = omega arith
name_in (TypePart u t) h = omega arith
name_in (TermPart e) h = omega arith

number_in : (w : What) → IsLimited w → in_number w ≤ 2 ^ 50
number_in BegunPart h = omega arith
number_in (NamePart x) h = omega arith
number_in (NumberPart n) h = h
number_in (PositivePart n) h = omega arith
number_in (TextPart s) h = omega arith
number_in (IntegerPart z) h = omega arith
number_in (FactorPart r) h = omega arith
number_in (TypePart u t) h = omega arith
number_in (TermPart e) h = omega arith

positive_in : (w : What) → sort_of w ≡ 3 → IsLimited w → (0 < in_positive w) × (in_positive w < 2 ^ 32)
positive_in BegunPart s h = absurd (omega (arith, s))
positive_in (NamePart x) s h = absurd (omega (arith, s))
positive_in (NumberPart n) s h = absurd (omega (arith, s))
positive_in (PositivePart n) s h = h
positive_in (TextPart x) s h = absurd (omega (arith, s))
positive_in (IntegerPart z) s h = absurd (omega (arith, s))
positive_in (FactorPart r) s h = absurd (omega (arith, s))
positive_in (TypePart u t) s h = absurd (omega (arith, s))
positive_in (TermPart e) s h = absurd (omega (arith, s))

text_in : (w : What) → IsLimited w → IsText (in_text w)
text_in BegunPart h = omega arith
text_in (NamePart x) h = omega arith
text_in (NumberPart n) h = omega arith
text_in (PositivePart n) h = omega arith
text_in (TextPart s) h = h
text_in (IntegerPart z) h = omega arith
text_in (FactorPart r) h = omega arith
text_in (TypePart u t) h = omega arith
text_in (TermPart e) h = omega arith

integer_in : (w : What) → IsLimited w → IsNumber (in_integer w)
integer_in BegunPart h = plain_number 0 (omega arith)
integer_in (NamePart x) h = plain_number 0 (omega arith)
integer_in (NumberPart n) h = plain_number 0 (omega arith)
integer_in (PositivePart n) h = plain_number 0 (omega arith)
integer_in (TextPart s) h = plain_number 0 (omega arith)
integer_in (IntegerPart z) h = h
integer_in (FactorPart r) h = plain_number 0 (omega arith)
integer_in (TypePart u t) h = plain_number 0 (omega arith)
integer_in (TermPart e) h = plain_number 0 (omega arith)

factor_in : (w : What) → IsLimited w → IsBang (in_factor w)
factor_in BegunPart h = tt
factor_in (NamePart x) h = tt
factor_in (NumberPart n) h = tt
factor_in (PositivePart n) h = tt
factor_in (TextPart s) h = tt
factor_in (IntegerPart z) h = tt
factor_in (FactorPart r) h = h
factor_in (TypePart u t) h = tt
factor_in (TermPart e) h = tt

type_in : (w : What) → IsLimited w → TypeLimits (in_type w)
type_in BegunPart h = tt
type_in (NamePart x) h = tt
type_in (NumberPart n) h = tt
type_in (PositivePart n) h = tt
type_in (TextPart s) h = tt
type_in (IntegerPart z) h = tt
type_in (FactorPart r) h = tt
type_in (TypePart u t) h = h
type_in (TermPart e) h = tt

term_in : (w : What) → IsLimited w → TermLimits (in_term w)
term_in BegunPart h = tt
term_in (NamePart x) h = tt
term_in (NumberPart n) h = tt
term_in (PositivePart n) h = tt
term_in (TextPart s) h = tt
term_in (IntegerPart z) h = tt
term_in (FactorPart r) h = tt
term_in (TypePart u t) h = tt
term_in (TermPart e) h = h

unary_limited : (o : Unary) (w : Span) (e : Term) → TermLimits e → TermLimits (at w (unary o e))
unary_limited Fst w e h = h
unary_limited Snd w e h = h
unary_limited Least w e h = h
unary_limited Greatest w e h = h
unary_limited Size w e h = h

binary_limited : (o : Binary) (w : Span) (a b : Term) → TermLimits a → TermLimits b → TermLimits (at w (binary o a b))
binary_limited Pair w a b h k = (h, k)
binary_limited With w a b h k = (h, k)
binary_limited App w a b h k = (h, k)
binary_limited Plus w a b h k = (h, k)
binary_limited Minus w a b h k = (h, k)
binary_limited AtMost w a b h k = (h, k)
binary_limited Equal w a b h k = (h, k)
binary_limited Union w a b h k = (h, k)
binary_limited Map w a b h k = (h, k)
binary_limited Filter w a b h k = (h, k)
binary_limited Split w a b h k = (h, k)

-- a fraction in lowest terms
lowest_bang : (p q : ℕ) → 0 < p → p < 2 ^ 32 → 0 < q → q < 2 ^ 32 → IsBang (in_lowest_terms p q)
unfolding in_lowest_terms
lowest_bang p q a b c d =
    let l = lowest_parts p q c in
    let g = gcd p q in
    let i = p / g in
    let j = q / g in
    (positive_factor g i p l.top a, at_most_product g i p l.top l.pos b, l.pos_d, at_most_product g j q l.low l.pos d, coprime p q g l.pos (gcd_is p q))
  where
    positive_factor : (g i p : ℕ) → p ≡ g * i → 0 < p → 1 ≤ i
    positive_factor g zero p e h = absurd (omega (arith, e, h))
    positive_factor g (suc i) p e h = omega arith

    at_most_product : (g i p : ℕ) → p ≡ g * i → 0 < g → p < 2 ^ 32 → i ≤ widest
    at_most_product zero i p e l h = absurd (omega (arith, l))
    at_most_product (suc g) i p e l h = omega (arith, e, h)

made_limited : (a : Action) (w : Span) (s : State) → begins_with (takes a) (sorts s) ≡ true → AllLimited s.parts → IsLimited (made a w s)
unfolding takes
made_limited a w s b h = go a refl
  where
    part_is : (i : ℕ) → IsLimited (part i s).what
    part_is i = part_limited s.parts i h

    x : (i : ℕ) → IsName (in_name (part i s).what)
    x i = name_in (part i s).what (part_is i)

    n : (i : ℕ) → in_number (part i s).what ≤ 2 ^ 50
    n i = number_in (part i s).what (part_is i)

    z : (i : ℕ) → IsNumber (in_integer (part i s).what)
    z i = integer_in (part i s).what (part_is i)

    t : (i : ℕ) → TypeLimits (in_type (part i s).what)
    t i = type_in (part i s).what (part_is i)

    e : (i : ℕ) → TermLimits (in_term (part i s).what)
    e i = term_in (part i s).what (part_is i)

    r : (i : ℕ) → IsBang (in_factor (part i s).what)
    r i = factor_in (part i s).what (part_is i)

    p : (i : ℕ) → sort_at i s ≡ 3 → (0 < in_positive (part i s).what) × (in_positive (part i s).what < 2 ^ 32)
    p i k = positive_in (part i s).what k (part_is i)

    whole_bang : (k : ℕ) → (0 < k) × (k < 2 ^ 32) → IsBang (Fin k 1)
    whole_bang k l = (omega (arith, l.0), omega (arith, l.1), omega arith, omega arith, gcd_one k)

    go : (c : Action) → a ≡ c → IsLimited (made c w s)
    go Begin q = tt
    go (LambdaTerm Fun) q = (x 2, t 1, e 0)
    go (LambdaTerm Fn) q = (x 2, t 1, e 0)
    go LetBangTerm q = (x 2, e 1, e 0)
    go LetPairTerm q = (x 3, x 2, e 1, e 0)
    go LetTerm q = (x 2, e 1, e 0)
    go CaseTerm q = (e 4, x 3, e 2, x 1, e 0)
    go IfTerm q = (e 2, e 1, e 0)
    go (InfixTerm o) q = binary_limited o w _ _ (e 1) (e 0)
    go NegativeTerm q = negative_number _ (n 0)
    go NegativeTimesTerm q = (negative_number _ (n 1), e 0)
    go TimesTerm q = (plain_number _ (n 1), e 0)
    go NumberTerm q = plain_number _ (n 0)
    go (UnaryTerm o) q = unary_limited o w _ (e 0)
    go (RangedTerm SumRanged) q = (z 2, z 1, e 0)
    go (RangedTerm ClipRanged) q = (z 2, z 1, e 0)
    go (InjectTerm Inl) q = (t 1, e 0)
    go (InjectTerm Inr) q = (t 1, e 0)
    go BangTerm q = (r 1, e 0)
    go (PrefixTerm o) q = binary_limited o w _ _ (e 1) (e 0)
    go NameTerm q = x 0
    go TextTerm q = text_in (part 0 s).what (part_is 0)
    go (TruthTerm Inl) q = (tt, tt)
    go (TruthTerm Inr) q = (tt, tt)
    go UnitTerm q = tt
    go GroupTerm q = e 0
    go PlainInteger q = plain_number _ (n 0)
    go NegativeInteger q = negative_number _ (n 0)
    go WholeFactor q = whole_bang _ (p 0 (ready_at a WholeFactor s 0 3 q b refl (omega arith)))
    go FractionFactor q =
        let p1 = p 1 (ready_at a FractionFactor s 1 3 q b refl (omega arith)) in
        let p0 = p 0 (ready_at a FractionFactor s 0 3 q b refl (omega arith)) in
        lowest_bang _ _ p1.0 p1.1 p0.0 p0.1
    go InfFactor q = tt
    go (JoinType Lollipop) q = (t 1, t 0)
    go (JoinType Sum) q = (t 1, t 0)
    go (JoinType Tensor) q = (t 1, t 0)
    go (JoinType Both) q = (t 1, t 0)
    go ArrowType q = ((tt, t 1), t 0)
    go BangType q = (r 1, t 0)
    go BagType q = t 0
    go NumType q = tt
    go TextType q = tt
    go UnitType q = tt
    go BoolType q = (tt, tt)
    go GroupType q = t 0

build_limited : (a : Action) (s : State) → begins_with (takes a) (sorts s) ≡ true → AllLimited s.parts → AllLimited (build a s).parts
unfolding build
build_limited a s b h = (made_limited a (whole a s) s b h, rest_limited s.parts (arity a) h)

shift_limited : (k : Terminal) (t : Token) (s : State) → Fits k t.kind → AllLimited s.parts → AllLimited (shift k t s).parts
unfolding shift
shift_limited k t s f h = go k t.kind f
  where
    go : (k : Terminal) (kind : Kind) → Fits k kind → AllLimited (token_parts k (record { kind = kind; span = t.span }) ++ s.parts)
    go Named (Name x) f = (f, h)
    go Named (Number n) f = elim f [ ]
    go Named (Text x) f = elim f [ ]
    go Named (Reserved v) f = elim f [ ]
    go Named (Punctuation c) f = elim f [ ]
    go Numeral (Name x) f = elim f [ ]
    go Numeral (Number n) f = (f, h)
    go Numeral (Text x) f = elim f [ ]
    go Numeral (Reserved v) f = elim f [ ]
    go Numeral (Punctuation c) f = elim f [ ]
    go Positive (Name x) f = elim f [ ]
    go Positive (Number n) f = (f, h)
    go Positive (Text x) f = elim f [ ]
    go Positive (Reserved v) f = elim f [ ]
    go Positive (Punctuation c) f = elim f [ ]
    go Quoted (Name x) f = elim f [ ]
    go Quoted (Number n) f = elim f [ ]
    go Quoted (Text x) f = (f, h)
    go Quoted (Reserved v) f = elim f [ ]
    go Quoted (Punctuation c) f = elim f [ ]
    go (Keyword v) kind f = h
    go (Symbol c) kind f = h

limited : {goal : Phrase} (n : ℕ) (σ : List Item) (w : List Token) (s r : State) → ReadsIn n σ w s r → Level goal σ (sorts s) → AllLimited s.parts → AllLimited r.parts
limited zero [] [] s r h v l = subst (λ x. AllLimited x.parts) h l
limited zero [] (t ∷ w) s r h v l = absurd h
limited zero (i ∷ σ) w s r h v l = absurd h
limited (suc n) [] w s r h v l = absurd h
limited (suc n) (Take k ∷ σ) [] s r h v l = absurd h
limited (suc n) (Take k ∷ σ) (t ∷ w) s r h v l = limited n σ w (shift k t s) r h.1 (level_token k σ t s v) (shift_limited k t s h.0 l)
limited (suc n) (Make a ∷ σ) w s r h v l =
    limited n σ w (build a s) r h (level_act a σ s v) (build_limited a s (and_parts (begins_with (takes a) (sorts s)) _ v.enough).0 l)
limited (suc n) (Read a ∷ σ) w s r h v l = limited n (body h.0 ++ σ) w s r h.3 (level_rule h.0 a σ (sorts s) h.1 h.2 v) l

-- so is what is read by itself
part_limits : {goal : Phrase} → IsGoal goal → (ts : List Token) (x : What) → IsPhrase goal ts x → IsLimited x
part_limits {goal} g ts x h =
    let d = reads_of ts x h in
    (limited d.2.0 (START goal) ts empty (alone d.0 d.1 x) d.2.1 (sound_start g).level tt).0

-- names, numbers, texts and bang numbers of a term are within the limits
pub term_limits : (ts : List Token) (e : Term) → IsTerm ts e → TermLimits e
unfolding IsTerm
term_limits ts e h = part_limits term_goal ts (TermPart e) h

pub type_limits : (ts : List Token) (T : Ty) → IsTypeOf ts T → TypeLimits T
unfolding IsTypeOf
type_limits ts T h = part_limits type_goal ts (TypePart h.0 T) h.1

pub sensitivity_limits : (ts : List Token) (d : Distance) → IsSensitivityOf ts d → IsBang d
unfolding IsSensitivityOf
sensitivity_limits ts d h = part_limits sensitivity_goal ts (FactorPart d) h
