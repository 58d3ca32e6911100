-- What every type and term keeps, as what is parsed does: the limits on names, numbers, texts and bang numbers.
use Rattle.std.specs.Prelude.{◌≡◌, ℕ, ◌≤◌, ◌^◌, List, length, ℤ, pos, neg_ℤ, ◌≤ℤ◌, ⊤}
use Rattle.fz_frac.specs.Distance.{Distance, Fin, Inf}
use Rattle.fz_frac.specs.Lowest.{gcd, widest}
use Rattle.fz_ast.specs.Types.{Ty, NumT, TextT, UnitT, TensorT, WithT, SumT, ArrowT, BangT, BagT}
use Rattle.fz_ast.specs.Terms.{Name, Term, at, VarE, NumE, TextE, UnitE, PairE, WithE, FstE, SndE, LetPairE}
use Rattle.fz_ast.specs.Terms.{InlE, InrE, CaseE, IfE, FunE, FnE, AppE, BangE, LetBangE, LetE, PlusE, MinusE}
use Rattle.fz_ast.specs.Terms.{TimesE, LeE, EqE, ClipE, LeastE, GreatestE, SizeE, SumE, UnionE, MapE, FilterE, SplitE}

-- how great a number may be, in absolute value
abbrev pub greatest_number : ℕ
greatest_number = 2 ^ 50

abbrev pub limit : ℤ
limit = pos greatest_number

abbrev pub IsNumber : ℤ → Type 0
IsNumber z = (neg_ℤ limit ≤ℤ z) × (z ≤ℤ limit)

abbrev pub IsName : Name → Type 0
IsName x = length x ≤ 32

abbrev pub IsText : List ℕ → Type 0
IsText s = length s ≤ 64

-- a finite bang number has numerator and denominator from 1 to 2^32-1, and is in lowest terms
abbrev pub IsBang : Distance → Type 0
IsBang (Fin p q) = (1 ≤ p) × (p ≤ widest) × (1 ≤ q) × (q ≤ widest) × (gcd p q ≡ 1)
IsBang Inf = ⊤

abbrev pub TypeLimits : Ty → Type 0
TypeLimits NumT = ⊤
TypeLimits TextT = ⊤
TypeLimits UnitT = ⊤
TypeLimits (TensorT A B) = TypeLimits A × TypeLimits B
TypeLimits (WithT A B) = TypeLimits A × TypeLimits B
TypeLimits (SumT A B) = TypeLimits A × TypeLimits B
TypeLimits (ArrowT A B) = TypeLimits A × TypeLimits B
TypeLimits (BangT r A) = IsBang r × TypeLimits A
TypeLimits (BagT A) = TypeLimits A

abbrev pub TermLimits : Term → Type 0
TermLimits (at s (VarE x)) = IsName x
TermLimits (at s (NumE z)) = IsNumber z
TermLimits (at s (TextE t)) = IsText t
TermLimits (at s UnitE) = ⊤
TermLimits (at s (PairE a b)) = TermLimits a × TermLimits b
TermLimits (at s (WithE a b)) = TermLimits a × TermLimits b
TermLimits (at s (FstE e)) = TermLimits e
TermLimits (at s (SndE e)) = TermLimits e
TermLimits (at s (LetPairE x y e b)) = IsName x × IsName y × TermLimits e × TermLimits b
TermLimits (at s (InlE u t e)) = TypeLimits t × TermLimits e
TermLimits (at s (InrE u t e)) = TypeLimits t × TermLimits e
TermLimits (at s (CaseE e x a y b)) = TermLimits e × IsName x × TermLimits a × IsName y × TermLimits b
TermLimits (at s (IfE e a b)) = TermLimits e × TermLimits a × TermLimits b
TermLimits (at s (FunE x u t e)) = IsName x × TypeLimits t × TermLimits e
TermLimits (at s (FnE x u t e)) = IsName x × TypeLimits t × TermLimits e
TermLimits (at s (AppE f a)) = TermLimits f × TermLimits a
TermLimits (at s (BangE r e)) = IsBang r × TermLimits e
TermLimits (at s (LetBangE x e b)) = IsName x × TermLimits e × TermLimits b
TermLimits (at s (LetE x e b)) = IsName x × TermLimits e × TermLimits b
TermLimits (at s (PlusE a b)) = TermLimits a × TermLimits b
TermLimits (at s (MinusE a b)) = TermLimits a × TermLimits b
TermLimits (at s (TimesE k e)) = IsNumber k × TermLimits e
TermLimits (at s (LeE a b)) = TermLimits a × TermLimits b
TermLimits (at s (EqE a b)) = TermLimits a × TermLimits b
TermLimits (at s (ClipE lo hi e)) = IsNumber lo × IsNumber hi × TermLimits e
TermLimits (at s (LeastE e)) = TermLimits e
TermLimits (at s (GreatestE e)) = TermLimits e
TermLimits (at s (SizeE e)) = TermLimits e
TermLimits (at s (SumE lo hi e)) = IsNumber lo × IsNumber hi × TermLimits e
TermLimits (at s (UnionE a b)) = TermLimits a × TermLimits b
TermLimits (at s (MapE f b)) = TermLimits f × TermLimits b
TermLimits (at s (FilterE f b)) = TermLimits f × TermLimits b
TermLimits (at s (SplitE f b)) = TermLimits f × TermLimits b
