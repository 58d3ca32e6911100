-- How a term is written: its tokens, before those of what follows. What is no name, text or pair stands in parentheses, and so does each infix type.
use Rattle.std.specs.Prelude.{ℕ, suc, List, [], ◌∷◌, ℤ, pos, negsuc, cond, nat_eq}
use Rattle.fz_frac.specs.Distance.{Distance, Fin, Inf}
use Rattle.fz_ast.specs.Types.{Ty, NumT, TextT, UnitT, TensorT, WithT, SumT, ArrowT, BangT, BagT}
use Rattle.fz_ast.specs.Terms.{Term, at, VarE, NumE, TextE, UnitE, PairE, WithE, FstE, SndE, LetPairE, InlE, InrE, CaseE, IfE, FunE, FnE, AppE}
use Rattle.fz_ast.specs.Terms.{BangE, LetBangE, LetE, PlusE, MinusE, TimesE, LeE, EqE, ClipE, LeastE, GreatestE, SizeE, SumE, UnionE, MapE, FilterE, SplitE}
use Rattle.fz_ast.specs.Bare.{nowhere}
use Rattle.fz_lexer.specs.declared.token.Token.{Token}
use Rattle.fz_lexer.specs.declared.token.Kind.{Kind}
use Rattle.fz_lexer.specs.declared.token.Kind.TheVariants.{Name, Number, Text, Reserved, Punctuation}
use Rattle.fz_lexer.specs.declared.token.Word.{Word}
use Rattle.fz_lexer.specs.declared.token.Sign.{Sign}
use Rattle.fz_lexer.specs.declared.token.Word.TheVariants.{Fun, Fn, Let, In, Case, Of, Inl, Inr, If}
use Rattle.fz_lexer.specs.declared.token.Word.TheVariants.{Then, Else, Fst, Snd, Num, Text as TextWord, Unit as UnitWord, Bag, Inf as InfWord}
use Rattle.fz_lexer.specs.declared.token.Word.TheVariants.{Size, Sum, Clip, Least, Greatest, Map, Filter, Split, Union}
use Rattle.fz_lexer.specs.declared.token.Sign.TheVariants.{LeftParenthesis, RightParenthesis, LeftAngle, RightAngle, LeftBracket, RightBracket, Comma}
use Rattle.fz_lexer.specs.declared.token.Sign.TheVariants.{Colon, Is, Bang, Bar, Plus, Minus, Star}
use Rattle.fz_lexer.specs.declared.token.Sign.TheVariants.{Ampersand, Slash, Yields, Lollipop, AtMost, EqualTo}

-- some tokens, before others
abbrev pub Tokens : Type 0
Tokens = List Token → List Token

-- a token that stands nowhere
abbrev token : Kind → Token
token kind = record { kind = kind; span = nowhere }

abbrev pub word : Word → Token
word w = token (Reserved w)

abbrev pub sign : Sign → Token
sign s = token (Punctuation s)

abbrev pub name_token : List ℕ → Token
name_token x = token (Name x)

abbrev pub number_token : ℕ → Token
number_token n = token (Number n)

abbrev pub text_token : List ℕ → Token
text_token t = token (Text t)

abbrev pub in_parentheses : Tokens → Tokens
in_parentheses w k = sign LeftParenthesis ∷ w (sign RightParenthesis ∷ k)

abbrev pub in_brackets : Tokens → Tokens
in_brackets w k = sign LeftBracket ∷ w (sign RightBracket ∷ k)

-- `12`, `-12`
abbrev pub written_integer : ℤ → Tokens
written_integer (pos n) k = number_token n ∷ k
written_integer (negsuc n) k = sign Minus ∷ number_token (suc n) ∷ k

abbrev pub written_bounds : ℤ → ℤ → Tokens
written_bounds lo hi = in_brackets (λ k. written_integer lo (sign Comma ∷ written_integer hi k))

-- `2/3`, `2`, `inf`
abbrev pub written_factor : Distance → Tokens
written_factor (Fin p q) k = number_token p ∷ cond (nat_eq q 1) k (sign Slash ∷ number_token q ∷ k)
written_factor Inf k = word InfWord ∷ k

abbrev pub written_type : Ty → Tokens
written_type NumT k = word Num ∷ k
written_type TextT k = word TextWord ∷ k
written_type UnitT k = word UnitWord ∷ k
written_type (TensorT A B) k = in_parentheses (λ k. written_type A (sign Star ∷ written_type B k)) k
written_type (WithT A B) k = in_parentheses (λ k. written_type A (sign Ampersand ∷ written_type B k)) k
written_type (SumT A B) k = in_parentheses (λ k. written_type A (sign Plus ∷ written_type B k)) k
written_type (ArrowT A B) k = in_parentheses (λ k. written_type A (sign Lollipop ∷ written_type B k)) k
written_type (BangT r A) k = sign Bang ∷ in_brackets (written_factor r) (written_type A k)
written_type (BagT A) k = word Bag ∷ written_type A k

abbrev pub written : Term → Tokens
written (at s (VarE x)) k = name_token x ∷ k
written (at s (NumE z)) k = in_parentheses (written_integer z) k
written (at s (TextE t)) k = text_token t ∷ k
written (at s UnitE) k = sign LeftParenthesis ∷ sign RightParenthesis ∷ k
written (at s (PairE a b)) k = in_parentheses (λ k. written a (sign Comma ∷ written b k)) k
written (at s (WithE a b)) k = sign LeftAngle ∷ written a (sign Comma ∷ written b (sign RightAngle ∷ k))
written (at s (FstE e)) k = in_parentheses (λ k. word Fst ∷ written e k) k
written (at s (SndE e)) k = in_parentheses (λ k. word Snd ∷ written e k) k
written (at s (LetPairE x y e b)) k =
    in_parentheses (λ k. word Let ∷ in_parentheses (λ k. name_token x ∷ sign Comma ∷ name_token y ∷ k) (sign Is ∷ written e (word In ∷ written b k))) k
written (at s (InlE u t e)) k = in_parentheses (λ k. word Inl ∷ in_brackets (written_type t) (written e k)) k
written (at s (InrE u t e)) k = in_parentheses (λ k. word Inr ∷ in_brackets (written_type t) (written e k)) k
written (at s (CaseE e x a y b)) k =
    in_parentheses (λ k.
    word Case ∷ written e (word Of ∷ word Inl ∷ name_token x ∷ sign Yields ∷ written a (sign Bar ∷ word Inr ∷ name_token y ∷ sign Yields ∷ written b k))) k
written (at s (IfE e a b)) k = in_parentheses (λ k. word If ∷ written e (word Then ∷ written a (word Else ∷ written b k))) k
written (at s (FunE x u t e)) k =
    in_parentheses (λ k. word Fun ∷ in_parentheses (λ k. name_token x ∷ sign Colon ∷ written_type t k) (sign Yields ∷ written e k)) k
written (at s (FnE x u t e)) k =
    in_parentheses (λ k. word Fn ∷ in_parentheses (λ k. name_token x ∷ sign Colon ∷ written_type t k) (sign Yields ∷ written e k)) k
written (at s (AppE f a)) k = in_parentheses (λ k. written f (written a k)) k
written (at s (BangE r e)) k = in_parentheses (λ k. sign Bang ∷ in_brackets (written_factor r) (written e k)) k
written (at s (LetBangE x e b)) k = in_parentheses (λ k. word Let ∷ sign Bang ∷ name_token x ∷ sign Is ∷ written e (word In ∷ written b k)) k
written (at s (LetE x e b)) k = in_parentheses (λ k. word Let ∷ name_token x ∷ sign Is ∷ written e (word In ∷ written b k)) k
written (at s (PlusE a b)) k = in_parentheses (λ k. written a (sign Plus ∷ written b k)) k
written (at s (MinusE a b)) k = in_parentheses (λ k. written a (sign Minus ∷ written b k)) k
written (at s (TimesE z e)) k = in_parentheses (λ k. written_integer z (sign Star ∷ written e k)) k
written (at s (LeE a b)) k = in_parentheses (λ k. written a (sign AtMost ∷ written b k)) k
written (at s (EqE a b)) k = in_parentheses (λ k. written a (sign EqualTo ∷ written b k)) k
written (at s (ClipE lo hi e)) k = in_parentheses (λ k. word Clip ∷ written_bounds lo hi (written e k)) k
written (at s (LeastE e)) k = in_parentheses (λ k. word Least ∷ written e k) k
written (at s (GreatestE e)) k = in_parentheses (λ k. word Greatest ∷ written e k) k
written (at s (SizeE e)) k = in_parentheses (λ k. word Size ∷ written e k) k
written (at s (SumE lo hi e)) k = in_parentheses (λ k. word Sum ∷ written_bounds lo hi (written e k)) k
written (at s (UnionE a b)) k = in_parentheses (λ k. word Union ∷ written a (written b k)) k
written (at s (MapE f b)) k = in_parentheses (λ k. word Map ∷ written f (written b k)) k
written (at s (FilterE f b)) k = in_parentheses (λ k. word Filter ∷ written f (written b k)) k
written (at s (SplitE f b)) k = in_parentheses (λ k. word Split ∷ written f (written b k)) k

-- what tokens are, wherever they stand
abbrev pub kinds_of : List Token → List Kind
kinds_of [] = []
kinds_of (t ∷ ts) = t.kind ∷ kinds_of ts

abbrev pub type_kinds : Ty → List Kind
type_kinds T = kinds_of (written_type T [])

abbrev pub factor_kinds : Distance → List Kind
factor_kinds d = kinds_of (written_factor d [])
