-- The numbers of words, signs and phrases stand for one each, and a token fits exactly where its class may stand.
use Rattle.std.proofs.Common.{◌≡◌, ℕ, ◌+◌, ◌<◌, ◌≤◌, List, [], ◌∷◌, true, get_or, refl, arith, sym, ap, ◌∙◌, length, inl, inr}
use Rattle.std.specs.Prelude.{◌&&◌, ◌⊎◌, nat_eq, nat_lt, nat_le}
use Rattle.std.proofs.lemmas.Bool.{cases_Bool, and_parts, and_from, or_cases, ltb-true, leb-true, lt-ltb, le-leb, eqb-true, eq-eqb}
use Rattle.fz_lexer.specs.declared.token.Token.{Token}
use Rattle.fz_lexer.specs.declared.token.Kind.{Kind}
use Rattle.fz_lexer.specs.declared.token.Kind.TheVariants.{Name, Number, Text, Reserved, Punctuation}
use Rattle.fz_lexer.specs.declared.token.Word.{Word}
use Rattle.fz_lexer.specs.declared.token.Sign.{Sign}
use Rattle.fz_lexer.specs.declared.token.Word.TheVariants.{Fun, Fn, Let, In, Case, Of, Inl, Inr, If, Then, Else, Fst, Snd, True, False, Num, Text as TextWord, Unit as UnitWord, Bool as BoolWord, Bag, Inf, Size, Sum, Clip, Least, Greatest, Map, Filter, Split, Union, Do, Release, At}
use Rattle.fz_lexer.specs.declared.token.Sign.TheVariants.{LeftParenthesis, RightParenthesis, LeftAngle, RightAngle, LeftBracket, RightBracket, Comma, Colon, Is, Bang, Bar, Plus, Minus, Star, Ampersand, Slash, Yields, Arrow, Lollipop, AtMost, EqualTo}
use Rattle.fz_parser.specs.declared.grammar.Terminal.{Terminal}
use Rattle.fz_parser.specs.declared.grammar.Terminal.TheVariants.{Named, Numeral, Positive, Quoted, Keyword, Symbol}
use Rattle.fz_parser.specs.declared.grammar.Phrase.{Phrase}
use Rattle.fz_parser.specs.declared.grammar.Phrase.TheVariants.{Expression, Binding, Comparison, ComparisonTail, Addition, AdditionTail, Multiplication, NegativeTail, NumeralTail, Application, ApplicationTail, Atom, Simple, Inside, InsideTail, Integer, Sensitivity, SensitivityTail, AnyType, AnyTypeTail, PlusType, PlusTypeTail, ProductType, ProductTypeTail, PrefixType}
use Rattle.fz_parser.specs.Grammar.{Fits}
use Rattle.fz_parser.specs.Classes.{word_number, sign_number, phrase_number, phrases, terminal_number, class_of, class, may_stand}
use Rattle.fz_parser.specs.Tests.{phrase_at}

words : List Word
words = Fun ∷ Fn ∷ Let ∷ In ∷ Case ∷ Of ∷ Inl ∷ Inr ∷ If ∷ Then ∷ Else ∷ Fst ∷ Snd ∷ True ∷ False ∷ Num ∷ TextWord ∷ UnitWord ∷ BoolWord ∷ Bag ∷ Inf ∷ Size ∷ Sum ∷ Clip ∷ Least ∷ Greatest ∷ Map ∷ Filter ∷ Split ∷ Union ∷ Do ∷ Release ∷ At ∷ []

word_back : (x : Word) → get_or words (word_number x) Fun ≡ x
unfolding word_number words
word_back Fun = refl
word_back Fn = refl
word_back Let = refl
word_back In = refl
word_back Case = refl
word_back Of = refl
word_back Inl = refl
word_back Inr = refl
word_back If = refl
word_back Then = refl
word_back Else = refl
word_back Fst = refl
word_back Snd = refl
word_back True = refl
word_back False = refl
word_back Num = refl
word_back TextWord = refl
word_back UnitWord = refl
word_back BoolWord = refl
word_back Bag = refl
word_back Inf = refl
word_back Size = refl
word_back Sum = refl
word_back Clip = refl
word_back Least = refl
word_back Greatest = refl
word_back Map = refl
word_back Filter = refl
word_back Split = refl
word_back Union = refl
word_back Do = refl
word_back Release = refl
word_back At = refl

pub word_below : (x : Word) → word_number x < 33
unfolding word_number
word_below Fun = omega arith
word_below Fn = omega arith
word_below Let = omega arith
word_below In = omega arith
word_below Case = omega arith
word_below Of = omega arith
word_below Inl = omega arith
word_below Inr = omega arith
word_below If = omega arith
word_below Then = omega arith
word_below Else = omega arith
word_below Fst = omega arith
word_below Snd = omega arith
word_below True = omega arith
word_below False = omega arith
word_below Num = omega arith
word_below TextWord = omega arith
word_below UnitWord = omega arith
word_below BoolWord = omega arith
word_below Bag = omega arith
word_below Inf = omega arith
word_below Size = omega arith
word_below Sum = omega arith
word_below Clip = omega arith
word_below Least = omega arith
word_below Greatest = omega arith
word_below Map = omega arith
word_below Filter = omega arith
word_below Split = omega arith
word_below Union = omega arith
word_below Do = omega arith
word_below Release = omega arith
word_below At = omega arith

pub word_same : (x y : Word) → word_number x ≡ word_number y → x ≡ y
word_same x y e = sym (word_back x) ∙ ap (λ n. get_or words n Fun) e ∙ word_back y

signs : List Sign
signs = LeftParenthesis ∷ RightParenthesis ∷ LeftAngle ∷ RightAngle ∷ LeftBracket ∷ RightBracket ∷ Comma ∷ Colon ∷ Is ∷ Bang ∷ Bar ∷ Plus ∷ Minus ∷ Star ∷ Ampersand ∷ Slash ∷ Yields ∷ Arrow ∷ Lollipop ∷ AtMost ∷ EqualTo ∷ []

sign_back : (x : Sign) → get_or signs (sign_number x) Comma ≡ x
unfolding sign_number signs
sign_back LeftParenthesis = refl
sign_back RightParenthesis = refl
sign_back LeftAngle = refl
sign_back RightAngle = refl
sign_back LeftBracket = refl
sign_back RightBracket = refl
sign_back Comma = refl
sign_back Colon = refl
sign_back Is = refl
sign_back Bang = refl
sign_back Bar = refl
sign_back Plus = refl
sign_back Minus = refl
sign_back Star = refl
sign_back Ampersand = refl
sign_back Slash = refl
sign_back Yields = refl
sign_back Arrow = refl
sign_back Lollipop = refl
sign_back AtMost = refl
sign_back EqualTo = refl

pub sign_below : (x : Sign) → sign_number x < 21
unfolding sign_number
sign_below LeftParenthesis = omega arith
sign_below RightParenthesis = omega arith
sign_below LeftAngle = omega arith
sign_below RightAngle = omega arith
sign_below LeftBracket = omega arith
sign_below RightBracket = omega arith
sign_below Comma = omega arith
sign_below Colon = omega arith
sign_below Is = omega arith
sign_below Bang = omega arith
sign_below Bar = omega arith
sign_below Plus = omega arith
sign_below Minus = omega arith
sign_below Star = omega arith
sign_below Ampersand = omega arith
sign_below Slash = omega arith
sign_below Yields = omega arith
sign_below Arrow = omega arith
sign_below Lollipop = omega arith
sign_below AtMost = omega arith
sign_below EqualTo = omega arith

pub sign_same : (x y : Sign) → sign_number x ≡ sign_number y → x ≡ y
sign_same x y e = sym (sign_back x) ∙ ap (λ n. get_or signs n Comma) e ∙ sign_back y

phrase_back : (x : Phrase) → get_or phrases (phrase_number x) Expression ≡ x
unfolding phrase_number phrases
phrase_back Expression = refl
phrase_back Binding = refl
phrase_back Comparison = refl
phrase_back ComparisonTail = refl
phrase_back Addition = refl
phrase_back AdditionTail = refl
phrase_back Multiplication = refl
phrase_back NegativeTail = refl
phrase_back NumeralTail = refl
phrase_back Application = refl
phrase_back ApplicationTail = refl
phrase_back Atom = refl
phrase_back Simple = refl
phrase_back Inside = refl
phrase_back InsideTail = refl
phrase_back Integer = refl
phrase_back Sensitivity = refl
phrase_back SensitivityTail = refl
phrase_back AnyType = refl
phrase_back AnyTypeTail = refl
phrase_back PlusType = refl
phrase_back PlusTypeTail = refl
phrase_back ProductType = refl
phrase_back ProductTypeTail = refl
phrase_back PrefixType = refl

pub phrase_below : (x : Phrase) → phrase_number x < 25
unfolding phrase_number
phrase_below Expression = omega arith
phrase_below Binding = omega arith
phrase_below Comparison = omega arith
phrase_below ComparisonTail = omega arith
phrase_below Addition = omega arith
phrase_below AdditionTail = omega arith
phrase_below Multiplication = omega arith
phrase_below NegativeTail = omega arith
phrase_below NumeralTail = omega arith
phrase_below Application = omega arith
phrase_below ApplicationTail = omega arith
phrase_below Atom = omega arith
phrase_below Simple = omega arith
phrase_below Inside = omega arith
phrase_below InsideTail = omega arith
phrase_below Integer = omega arith
phrase_below Sensitivity = omega arith
phrase_below SensitivityTail = omega arith
phrase_below AnyType = omega arith
phrase_below AnyTypeTail = omega arith
phrase_below PlusType = omega arith
phrase_below PlusTypeTail = omega arith
phrase_below ProductType = omega arith
phrase_below ProductTypeTail = omega arith
phrase_below PrefixType = omega arith

pub phrase_same : (x y : Phrase) → phrase_number x ≡ phrase_number y → x ≡ y
phrase_same x y e = sym (phrase_back x) ∙ ap (λ n. get_or phrases n Expression) e ∙ phrase_back y

class_range : (k : Kind) → (0 < class_of k) × (class_of k < 64)
unfolding class_of
class_range (Name x) = elim (cases_Bool (nat_le (length x) 32)) [ inl e ↦ rw e (omega arith, omega arith) | inr e ↦ rw e (omega arith, omega arith) ]
class_range (Number n) = elim (cases_Bool (nat_lt 0 n && nat_lt n 4294967296)) [
  | inl e ↦ rw e (omega arith, omega arith)
  | inr e ↦ rw e (elim (cases_Bool (nat_le n 1125899906842624)) [ inl d ↦ rw d (omega arith, omega arith) | inr d ↦ rw d (omega arith, omega arith) ])
]
class_range (Text x) = elim (cases_Bool (nat_le (length x) 64)) [ inl e ↦ rw e (omega arith, omega arith) | inr e ↦ rw e (omega arith, omega arith) ]
class_range (Reserved w) = let b = word_below w in (omega arith, omega arith)
class_range (Punctuation s) = let b = sign_below s in (omega arith, omega arith)

pub class_positive : (t : Token) → 0 < class t
class_positive t = (class_range t.kind).0

pub class_bound : (t : Token) → class t < 64
class_bound t = (class_range t.kind).1

-- a token that fits has a class that may stand
pub may_from : (k : Terminal) (kind : Kind) → Fits k kind → may_stand (terminal_number k) (class_of kind) ≡ true
unfolding may_stand terminal_number class_of
may_from Named (Name x) h = rw (le-leb _ _ h) refl
may_from Named (Number n) h = absurd h
may_from Named (Text x) h = absurd h
may_from Named (Reserved w) h = absurd h
may_from Named (Punctuation s) h = absurd h
may_from Numeral (Name x) h = absurd h
may_from Numeral (Number n) h = elim (cases_Bool (nat_lt 0 n && nat_lt n 4294967296)) [
  | inl e ↦ rw e refl
  | inr e ↦ let b : n ≤ 1125899906842624 = omega (arith, h) in rw (e, le-leb n 1125899906842624 b) refl
]
may_from Numeral (Text x) h = absurd h
may_from Numeral (Reserved w) h = absurd h
may_from Numeral (Punctuation s) h = absurd h
may_from Positive (Name x) h = absurd h
may_from Positive (Number n) h = let b : n < 4294967296 = omega (arith, h.1) in rw (and_from (nat_lt 0 n) (nat_lt n 4294967296) (lt-ltb 0 n h.0) (lt-ltb n 4294967296 b)) refl
may_from Positive (Text x) h = absurd h
may_from Positive (Reserved w) h = absurd h
may_from Positive (Punctuation s) h = absurd h
may_from Quoted (Name x) h = absurd h
may_from Quoted (Number n) h = absurd h
may_from Quoted (Text x) h = rw (le-leb _ _ h) refl
may_from Quoted (Reserved w) h = absurd h
may_from Quoted (Punctuation s) h = absurd h
may_from (Keyword v) (Name x) h = absurd h
may_from (Keyword v) (Number n) h = absurd h
may_from (Keyword v) (Text x) h = absurd h
may_from (Keyword v) (Reserved w) h = let e : nat_eq (26 + word_number w) (26 + word_number v) ≡ true = eq-eqb _ _ (ap (λ x. 26 + word_number x) (sym h)) in rw e refl
may_from (Keyword v) (Punctuation s) h = absurd h
may_from (Symbol v) (Name x) h = absurd h
may_from (Symbol v) (Number n) h = absurd h
may_from (Symbol v) (Text x) h = absurd h
may_from (Symbol v) (Reserved w) h = absurd h
may_from (Symbol v) (Punctuation s) h = let e : nat_eq (5 + sign_number s) (5 + sign_number v) ≡ true = eq-eqb _ _ (ap (λ x. 5 + sign_number x) (sym h)) in rw e refl

-- what the test says
stands_means : (k c : ℕ) → may_stand k c ≡ true → (c ≡ k) ⊎ ((k ≡ 2) × (c ≡ 3))
unfolding may_stand
stands_means k c h = elim (or_cases (nat_eq c k) (nat_eq k 2 && nat_eq c 3) h) [
  | inl e ↦ inl (eqb-true c k e)
  | inr e ↦ let p = and_parts (nat_eq k 2) (nat_eq c 3) e in inr (eqb-true k 2 p.0, eqb-true c 3 p.1)
]

abbrev Number_class : ℕ → ℕ → Type 0
Number_class n c = ((c ≡ 3) × (0 < n) × (n < 4294967296)) ⊎ (((c ≡ 2) × (n ≤ 1125899906842624)) ⊎ (c ≡ 63))

number_class : (n : ℕ) → Number_class n (class_of (Number n))
unfolding class_of
number_class n = elim (cases_Bool (nat_lt 0 n && nat_lt n 4294967296)) [
  | inl e ↦ let p = and_parts (nat_lt 0 n) (nat_lt n 4294967296) e in rw e (inl (refl, ltb-true _ _ p.0, ltb-true _ _ p.1))
  | inr e ↦ rw e (elim (cases_Bool (nat_le n 1125899906842624)) [ inl d ↦ rw d (inr (inl (refl, leb-true _ _ d))) | inr d ↦ rw d (inr (inr refl)) ])
]

name_class : (x : List ℕ) → ((class_of (Name x) ≡ 1) × (length x ≤ 32)) ⊎ (class_of (Name x) ≡ 63)
unfolding class_of
name_class x = elim (cases_Bool (nat_le (length x) 32)) [ inl e ↦ rw e (inl (refl, leb-true _ _ e)) | inr e ↦ rw e (inr refl) ]

text_class : (x : List ℕ) → ((class_of (Text x) ≡ 4) × (length x ≤ 64)) ⊎ (class_of (Text x) ≡ 63)
unfolding class_of
text_class x = elim (cases_Bool (nat_le (length x) 64)) [ inl e ↦ rw e (inl (refl, leb-true _ _ e)) | inr e ↦ rw e (inr refl) ]

word_class : (w : Word) → class_of (Reserved w) ≡ 26 + word_number w
unfolding class_of
word_class w = refl

sign_class : (s : Sign) → class_of (Punctuation s) ≡ 5 + sign_number s
unfolding class_of
sign_class s = refl

-- the terminals' numbers
abbrev Is_number : Terminal → ℕ → Type 0
Is_number Named n = n ≡ 1
Is_number Numeral n = n ≡ 2
Is_number Positive n = n ≡ 3
Is_number Quoted n = n ≡ 4
Is_number (Symbol s) n = n ≡ 5 + sign_number s
Is_number (Keyword w) n = n ≡ 26 + word_number w

is_number : (k : Terminal) → Is_number k (terminal_number k)
unfolding terminal_number
is_number Named = refl
is_number Numeral = refl
is_number Positive = refl
is_number Quoted = refl
is_number (Symbol s) = refl
is_number (Keyword w) = refl

over : (k c : ℕ) → (k < 59) → (4 < c) → (c ≡ k → ⊥) → may_stand k c ≡ true → ⊥
over k c l m n h = elim (stands_means k c h) [ inl e ↦ n e | inr e ↦ omega (arith, e.1) ]

-- a class that may stand is that of a token that fits
pub may_means : (k : Terminal) (kind : Kind) → may_stand (terminal_number k) (class_of kind) ≡ true → Fits k kind
may_means Named (Name x) h = let e = stands_means _ _ h in let i = is_number Named in elim e [ inl e ↦ elim (name_class x) [ inl f ↦ f.1 | inr f ↦ absurd (omega (arith, e, i, f)) ] | inr e ↦ elim (name_class x) [ inl f ↦ absurd (omega (arith, e.0, e.1, i, f.0)) | inr f ↦ absurd (omega (arith, e.0, e.1, i, f)) ] ]
may_means Named (Number n) h = let e = stands_means _ _ h in let i = is_number Named in elim e [ inl e ↦ elim (number_class n) [ inl f ↦ absurd (omega (arith, e, i, f.0)) | inr f ↦ elim f [ inl f ↦ absurd (omega (arith, e, i, f.0)) | inr f ↦ absurd (omega (arith, e, i, f)) ] ] | inr e ↦ elim (number_class n) [ inl f ↦ absurd (omega (arith, e.0, e.1, i, f.0)) | inr f ↦ elim f [ inl f ↦ absurd (omega (arith, e.0, e.1, i, f.0)) | inr f ↦ absurd (omega (arith, e.0, e.1, i, f)) ] ] ]
may_means Named (Text x) h = let e = stands_means _ _ h in let i = is_number Named in elim e [ inl e ↦ elim (text_class x) [ inl f ↦ absurd (omega (arith, e, i, f.0)) | inr f ↦ absurd (omega (arith, e, i, f)) ] | inr e ↦ elim (text_class x) [ inl f ↦ absurd (omega (arith, e.0, e.1, i, f.0)) | inr f ↦ absurd (omega (arith, e.0, e.1, i, f)) ] ]
may_means Named (Reserved w) h = let bw = word_below w in let e = stands_means _ _ h in let i = is_number Named in elim e [ inl e ↦ let f = word_class w in absurd (omega (arith, e, i, f)) | inr e ↦ let f = word_class w in absurd (omega (arith, e.0, e.1, i, f)) ]
may_means Named (Punctuation s) h = let bs = sign_below s in let e = stands_means _ _ h in let i = is_number Named in elim e [ inl e ↦ let f = sign_class s in absurd (omega (arith, e, i, f)) | inr e ↦ let f = sign_class s in absurd (omega (arith, e.0, e.1, i, f)) ]
may_means Numeral (Name x) h = let e = stands_means _ _ h in let i = is_number Numeral in elim e [ inl e ↦ elim (name_class x) [ inl f ↦ absurd (omega (arith, e, i, f.0)) | inr f ↦ absurd (omega (arith, e, i, f)) ] | inr e ↦ elim (name_class x) [ inl f ↦ absurd (omega (arith, e.0, e.1, i, f.0)) | inr f ↦ absurd (omega (arith, e.0, e.1, i, f)) ] ]
may_means Numeral (Number n) h = let e = stands_means _ _ h in let i = is_number Numeral in elim e [ inl e ↦ elim (number_class n) [ inl f ↦ absurd (omega (arith, e, i, f.0)) | inr f ↦ elim f [ inl f ↦ omega (arith, f.1) | inr f ↦ absurd (omega (arith, e, i, f)) ] ] | inr e ↦ elim (number_class n) [ inl f ↦ omega (arith, f.2) | inr f ↦ elim f [ inl f ↦ absurd (omega (arith, e.0, e.1, i, f.0)) | inr f ↦ absurd (omega (arith, e.0, e.1, i, f)) ] ] ]
may_means Numeral (Text x) h = let e = stands_means _ _ h in let i = is_number Numeral in elim e [ inl e ↦ elim (text_class x) [ inl f ↦ absurd (omega (arith, e, i, f.0)) | inr f ↦ absurd (omega (arith, e, i, f)) ] | inr e ↦ elim (text_class x) [ inl f ↦ absurd (omega (arith, e.0, e.1, i, f.0)) | inr f ↦ absurd (omega (arith, e.0, e.1, i, f)) ] ]
may_means Numeral (Reserved w) h = let bw = word_below w in let e = stands_means _ _ h in let i = is_number Numeral in elim e [ inl e ↦ let f = word_class w in absurd (omega (arith, e, i, f)) | inr e ↦ let f = word_class w in absurd (omega (arith, e.0, e.1, i, f)) ]
may_means Numeral (Punctuation s) h = let bs = sign_below s in let e = stands_means _ _ h in let i = is_number Numeral in elim e [ inl e ↦ let f = sign_class s in absurd (omega (arith, e, i, f)) | inr e ↦ let f = sign_class s in absurd (omega (arith, e.0, e.1, i, f)) ]
may_means Positive (Name x) h = let e = stands_means _ _ h in let i = is_number Positive in elim e [ inl e ↦ elim (name_class x) [ inl f ↦ absurd (omega (arith, e, i, f.0)) | inr f ↦ absurd (omega (arith, e, i, f)) ] | inr e ↦ elim (name_class x) [ inl f ↦ absurd (omega (arith, e.0, e.1, i, f.0)) | inr f ↦ absurd (omega (arith, e.0, e.1, i, f)) ] ]
may_means Positive (Number n) h = let e = stands_means _ _ h in let i = is_number Positive in elim e [ inl e ↦ elim (number_class n) [ inl f ↦ (f.1, omega (arith, f.2)) | inr f ↦ elim f [ inl f ↦ absurd (omega (arith, e, i, f.0)) | inr f ↦ absurd (omega (arith, e, i, f)) ] ] | inr e ↦ elim (number_class n) [ inl f ↦ absurd (omega (arith, e.0, e.1, i, f.0)) | inr f ↦ elim f [ inl f ↦ absurd (omega (arith, e.0, e.1, i, f.0)) | inr f ↦ absurd (omega (arith, e.0, e.1, i, f)) ] ] ]
may_means Positive (Text x) h = let e = stands_means _ _ h in let i = is_number Positive in elim e [ inl e ↦ elim (text_class x) [ inl f ↦ absurd (omega (arith, e, i, f.0)) | inr f ↦ absurd (omega (arith, e, i, f)) ] | inr e ↦ elim (text_class x) [ inl f ↦ absurd (omega (arith, e.0, e.1, i, f.0)) | inr f ↦ absurd (omega (arith, e.0, e.1, i, f)) ] ]
may_means Positive (Reserved w) h = let bw = word_below w in let e = stands_means _ _ h in let i = is_number Positive in elim e [ inl e ↦ let f = word_class w in absurd (omega (arith, e, i, f)) | inr e ↦ let f = word_class w in absurd (omega (arith, e.0, e.1, i, f)) ]
may_means Positive (Punctuation s) h = let bs = sign_below s in let e = stands_means _ _ h in let i = is_number Positive in elim e [ inl e ↦ let f = sign_class s in absurd (omega (arith, e, i, f)) | inr e ↦ let f = sign_class s in absurd (omega (arith, e.0, e.1, i, f)) ]
may_means Quoted (Name x) h = let e = stands_means _ _ h in let i = is_number Quoted in elim e [ inl e ↦ elim (name_class x) [ inl f ↦ absurd (omega (arith, e, i, f.0)) | inr f ↦ absurd (omega (arith, e, i, f)) ] | inr e ↦ elim (name_class x) [ inl f ↦ absurd (omega (arith, e.0, e.1, i, f.0)) | inr f ↦ absurd (omega (arith, e.0, e.1, i, f)) ] ]
may_means Quoted (Number n) h = let e = stands_means _ _ h in let i = is_number Quoted in elim e [ inl e ↦ elim (number_class n) [ inl f ↦ absurd (omega (arith, e, i, f.0)) | inr f ↦ elim f [ inl f ↦ absurd (omega (arith, e, i, f.0)) | inr f ↦ absurd (omega (arith, e, i, f)) ] ] | inr e ↦ elim (number_class n) [ inl f ↦ absurd (omega (arith, e.0, e.1, i, f.0)) | inr f ↦ elim f [ inl f ↦ absurd (omega (arith, e.0, e.1, i, f.0)) | inr f ↦ absurd (omega (arith, e.0, e.1, i, f)) ] ] ]
may_means Quoted (Text x) h = let e = stands_means _ _ h in let i = is_number Quoted in elim e [ inl e ↦ elim (text_class x) [ inl f ↦ f.1 | inr f ↦ absurd (omega (arith, e, i, f)) ] | inr e ↦ elim (text_class x) [ inl f ↦ absurd (omega (arith, e.0, e.1, i, f.0)) | inr f ↦ absurd (omega (arith, e.0, e.1, i, f)) ] ]
may_means Quoted (Reserved w) h = let bw = word_below w in let e = stands_means _ _ h in let i = is_number Quoted in elim e [ inl e ↦ let f = word_class w in absurd (omega (arith, e, i, f)) | inr e ↦ let f = word_class w in absurd (omega (arith, e.0, e.1, i, f)) ]
may_means Quoted (Punctuation s) h = let bs = sign_below s in let e = stands_means _ _ h in let i = is_number Quoted in elim e [ inl e ↦ let f = sign_class s in absurd (omega (arith, e, i, f)) | inr e ↦ let f = sign_class s in absurd (omega (arith, e.0, e.1, i, f)) ]
may_means (Keyword v) (Name x) h = let bv = word_below v in let e = stands_means _ _ h in let i = is_number (Keyword v) in elim e [ inl e ↦ elim (name_class x) [ inl f ↦ absurd (omega (arith, e, i, f.0)) | inr f ↦ absurd (omega (arith, e, i, f)) ] | inr e ↦ elim (name_class x) [ inl f ↦ absurd (omega (arith, e.0, e.1, i, f.0)) | inr f ↦ absurd (omega (arith, e.0, e.1, i, f)) ] ]
may_means (Keyword v) (Number n) h = let bv = word_below v in let e = stands_means _ _ h in let i = is_number (Keyword v) in elim e [ inl e ↦ elim (number_class n) [ inl f ↦ absurd (omega (arith, e, i, f.0)) | inr f ↦ elim f [ inl f ↦ absurd (omega (arith, e, i, f.0)) | inr f ↦ absurd (omega (arith, e, i, f)) ] ] | inr e ↦ elim (number_class n) [ inl f ↦ absurd (omega (arith, e.0, e.1, i, f.0)) | inr f ↦ elim f [ inl f ↦ absurd (omega (arith, e.0, e.1, i, f.0)) | inr f ↦ absurd (omega (arith, e.0, e.1, i, f)) ] ] ]
may_means (Keyword v) (Text x) h = let bv = word_below v in let e = stands_means _ _ h in let i = is_number (Keyword v) in elim e [ inl e ↦ elim (text_class x) [ inl f ↦ absurd (omega (arith, e, i, f.0)) | inr f ↦ absurd (omega (arith, e, i, f)) ] | inr e ↦ elim (text_class x) [ inl f ↦ absurd (omega (arith, e.0, e.1, i, f.0)) | inr f ↦ absurd (omega (arith, e.0, e.1, i, f)) ] ]
may_means (Keyword v) (Reserved w) h = let bv = word_below v in let bw = word_below w in let e = stands_means _ _ h in let i = is_number (Keyword v) in elim e [ inl e ↦ let f = word_class w in sym (word_same w v (omega (arith, e, i, f))) | inr e ↦ let f = word_class w in absurd (omega (arith, e.0, e.1, i, f)) ]
may_means (Keyword v) (Punctuation s) h = let bv = word_below v in let bs = sign_below s in let e = stands_means _ _ h in let i = is_number (Keyword v) in elim e [ inl e ↦ let f = sign_class s in absurd (omega (arith, e, i, f)) | inr e ↦ let f = sign_class s in absurd (omega (arith, e.0, e.1, i, f)) ]
may_means (Symbol v) (Name x) h = let bv = sign_below v in let e = stands_means _ _ h in let i = is_number (Symbol v) in elim e [ inl e ↦ elim (name_class x) [ inl f ↦ absurd (omega (arith, e, i, f.0)) | inr f ↦ absurd (omega (arith, e, i, f)) ] | inr e ↦ elim (name_class x) [ inl f ↦ absurd (omega (arith, e.0, e.1, i, f.0)) | inr f ↦ absurd (omega (arith, e.0, e.1, i, f)) ] ]
may_means (Symbol v) (Number n) h = let bv = sign_below v in let e = stands_means _ _ h in let i = is_number (Symbol v) in elim e [ inl e ↦ elim (number_class n) [ inl f ↦ absurd (omega (arith, e, i, f.0)) | inr f ↦ elim f [ inl f ↦ absurd (omega (arith, e, i, f.0)) | inr f ↦ absurd (omega (arith, e, i, f)) ] ] | inr e ↦ elim (number_class n) [ inl f ↦ absurd (omega (arith, e.0, e.1, i, f.0)) | inr f ↦ elim f [ inl f ↦ absurd (omega (arith, e.0, e.1, i, f.0)) | inr f ↦ absurd (omega (arith, e.0, e.1, i, f)) ] ] ]
may_means (Symbol v) (Text x) h = let bv = sign_below v in let e = stands_means _ _ h in let i = is_number (Symbol v) in elim e [ inl e ↦ elim (text_class x) [ inl f ↦ absurd (omega (arith, e, i, f.0)) | inr f ↦ absurd (omega (arith, e, i, f)) ] | inr e ↦ elim (text_class x) [ inl f ↦ absurd (omega (arith, e.0, e.1, i, f.0)) | inr f ↦ absurd (omega (arith, e.0, e.1, i, f)) ] ]
may_means (Symbol v) (Reserved w) h = let bv = sign_below v in let bw = word_below w in let e = stands_means _ _ h in let i = is_number (Symbol v) in elim e [ inl e ↦ let f = word_class w in absurd (omega (arith, e, i, f)) | inr e ↦ let f = word_class w in absurd (omega (arith, e.0, e.1, i, f)) ]
may_means (Symbol v) (Punctuation s) h = let bv = sign_below v in let bs = sign_below s in let e = stands_means _ _ h in let i = is_number (Symbol v) in elim e [ inl e ↦ let f = sign_class s in sym (sign_same s v (omega (arith, e, i, f))) | inr e ↦ let f = sign_class s in absurd (omega (arith, e.0, e.1, i, f)) ]

-- some token fits each terminal
pub sample : Terminal → Token
sample Named = record { kind = Name (97 ∷ []); span = record { from = 0; to = 0 } }
sample Numeral = record { kind = Number 0; span = record { from = 0; to = 0 } }
sample Positive = record { kind = Number 1; span = record { from = 0; to = 0 } }
sample Quoted = record { kind = Text []; span = record { from = 0; to = 0 } }
sample (Keyword w) = record { kind = Reserved w; span = record { from = 0; to = 0 } }
sample (Symbol s) = record { kind = Punctuation s; span = record { from = 0; to = 0 } }

pub sampled : (k : Terminal) → Fits k (sample k).kind
unfolding sample
sampled Named = omega arith
sampled Numeral = omega arith
sampled Positive = (omega arith, omega arith)
sampled Quoted = omega arith
sampled (Keyword w) = refl
sampled (Symbol s) = refl

pub phrase_is : (a : Phrase) → phrase_at (phrase_number a) ≡ a
phrase_is a = phrase_back a
