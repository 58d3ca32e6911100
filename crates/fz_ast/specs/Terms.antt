-- Terms. Meaning, typing and law go by a term's form and never look at its spans, which the faults tell.
-- `fn`, `if` and `let x` are forms of their own; `true` is `inl[unit] ()`, `false` is `inr[unit] ()`.
use Rattle.std.specs.Prelude.{ℕ, List, ℤ}
use Rattle.fz_frac.specs.Distance.{Distance}
use Rattle.fz_ast.specs.Types.{Ty, UnitT}
use Rattle.fz_ast.specs.declared.span.Span.{Span}

-- a name or a text is its bytes
abbrev pub Name : Type 0
Name = List ℕ

mutual
  -- a term is a form that stands somewhere
  pub data Term : Type 0 where
    at : (s : Span) (f : TermForm) → Term

  -- u is the span of the written type t
  pub data TermForm : Type 0 where
    VarE : (x : Name) → TermForm
    NumE : (z : ℤ) → TermForm
    TextE : (t : List ℕ) → TermForm
    -- ()
    UnitE : TermForm
    -- (a, b)
    PairE : (a b : Term) → TermForm
    -- <a, b>
    WithE : (a b : Term) → TermForm
    FstE : (e : Term) → TermForm
    SndE : (e : Term) → TermForm
    -- let (x, y) = e in b
    LetPairE : (x y : Name) (e b : Term) → TermForm
    -- inl[t] e
    InlE : (u : Span) (t : Ty) (e : Term) → TermForm
    InrE : (u : Span) (t : Ty) (e : Term) → TermForm
    -- case e of inl x => a | inr y => b
    CaseE : (e : Term) (x : Name) (a : Term) (y : Name) (b : Term) → TermForm
    -- if e then a else b
    IfE : (e a b : Term) → TermForm
    -- fun (x : t) => e
    FunE : (x : Name) (u : Span) (t : Ty) (e : Term) → TermForm
    -- fn (x : t) => e
    FnE : (x : Name) (u : Span) (t : Ty) (e : Term) → TermForm
    -- f a
    AppE : (f a : Term) → TermForm
    -- ![r] e
    BangE : (r : Distance) (e : Term) → TermForm
    -- let !x = e in b
    LetBangE : (x : Name) (e b : Term) → TermForm
    -- let x = e in b
    LetE : (x : Name) (e b : Term) → TermForm
    PlusE : (a b : Term) → TermForm
    MinusE : (a b : Term) → TermForm
    -- k * e
    TimesE : (k : ℤ) (e : Term) → TermForm
    -- a <= b
    LeE : (a b : Term) → TermForm
    -- a == b
    EqE : (a b : Term) → TermForm
    -- clip[lo,hi] e
    ClipE : (lo hi : ℤ) (e : Term) → TermForm
    LeastE : (e : Term) → TermForm
    GreatestE : (e : Term) → TermForm
    SizeE : (e : Term) → TermForm
    -- sum[lo,hi] e
    SumE : (lo hi : ℤ) (e : Term) → TermForm
    UnionE : (a b : Term) → TermForm
    MapE : (f b : Term) → TermForm
    FilterE : (f b : Term) → TermForm
    SplitE : (f b : Term) → TermForm

abbrev pub span_of : Term → Span
span_of (at s f) = s

-- `true` is two nodes with the token's span
abbrev pub TrueE : Span → Term
TrueE s = at s (InlE s UnitT (at s UnitE))

abbrev pub FalseE : Span → Term
FalseE s = at s (InrE s UnitT (at s UnitE))
