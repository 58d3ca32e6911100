-- Which names stand in a term.
use Rattle.std.specs.Prelude.{◌≡◌, ℕ, List, [], ◌∷◌, ◌⊎◌, ⊤}
use Rattle.fz_ast.specs.Terms.{Name, Term, at, VarE, NumE, TextE, UnitE, PairE, WithE, FstE, SndE, LetPairE}
use Rattle.fz_ast.specs.Terms.{InlE, InrE, CaseE, IfE, FunE, FnE, AppE, BangE, LetBangE, LetE, PlusE, MinusE}
use Rattle.fz_ast.specs.Terms.{TimesE, LeE, EqE, ClipE, LeastE, GreatestE, SizeE, SumE, UnionE, MapE, FilterE, SplitE}
use Rattle.fz_lexer.specs.Tokens.{AreTokens}
use Rattle.fz_lexer.specs.declared.token.Token.{Token}
use Rattle.fz_lexer.specs.declared.token.Kind.TheVariants.{Name as NameKind}
use Rattle.fz_parser.specs.Grammar.{IsTerm}
use Rattle.derivation_lines.specs.Readable.{IsWord}

-- each variable of the term, and each name that it binds, has the property
abbrev pub EveryName : (Name → Type 0) → Term → Type 0
EveryName P (at s (VarE x)) = P x
EveryName P (at s (NumE z)) = ⊤
EveryName P (at s (TextE t)) = ⊤
EveryName P (at s UnitE) = ⊤
EveryName P (at s (PairE a b)) = EveryName P a × EveryName P b
EveryName P (at s (WithE a b)) = EveryName P a × EveryName P b
EveryName P (at s (FstE e)) = EveryName P e
EveryName P (at s (SndE e)) = EveryName P e
EveryName P (at s (LetPairE x y e b)) = P x × P y × EveryName P e × EveryName P b
EveryName P (at s (InlE u t e)) = EveryName P e
EveryName P (at s (InrE u t e)) = EveryName P e
EveryName P (at s (CaseE e x a y b)) = EveryName P e × P x × EveryName P a × P y × EveryName P b
EveryName P (at s (IfE e a b)) = EveryName P e × EveryName P a × EveryName P b
EveryName P (at s (FunE x u t e)) = P x × EveryName P e
EveryName P (at s (FnE x u t e)) = P x × EveryName P e
EveryName P (at s (AppE f a)) = EveryName P f × EveryName P a
EveryName P (at s (BangE r e)) = EveryName P e
EveryName P (at s (LetBangE x e b)) = P x × EveryName P e × EveryName P b
EveryName P (at s (LetE x e b)) = P x × EveryName P e × EveryName P b
EveryName P (at s (PlusE a b)) = EveryName P a × EveryName P b
EveryName P (at s (MinusE a b)) = EveryName P a × EveryName P b
EveryName P (at s (TimesE k e)) = EveryName P e
EveryName P (at s (LeE a b)) = EveryName P a × EveryName P b
EveryName P (at s (EqE a b)) = EveryName P a × EveryName P b
EveryName P (at s (ClipE lo hi e)) = EveryName P e
EveryName P (at s (LeastE e)) = EveryName P e
EveryName P (at s (GreatestE e)) = EveryName P e
EveryName P (at s (SizeE e)) = EveryName P e
EveryName P (at s (SumE lo hi e)) = EveryName P e
EveryName P (at s (UnionE a b)) = EveryName P a × EveryName P b
EveryName P (at s (MapE f b)) = EveryName P f × EveryName P b
EveryName P (at s (FilterE f b)) = EveryName P f × EveryName P b
EveryName P (at s (SplitE f b)) = EveryName P f × EveryName P b

-- one of the tokens is this name
abbrev pub HasName : List Token → Name → Type 0
HasName [] x = ⊥
HasName (t ∷ ts) x = (t.kind ≡ NameKind x) ⊎ HasName ts x

-- the names of a term are those of its tokens
abbrev pub NamesAreOfTokens : Type 0
NamesAreOfTokens = (ts : List Token) (e : Term) → IsTerm ts e → EveryName (HasName ts) e

-- the names of a term that is read from bytes are names of the language
abbrev pub WordsAreRead : Type 0
WordsAreRead = (text : List ℕ) (ts : List Token) (e : Term) → AreTokens text ts → IsTerm ts e → EveryName IsWord e
