-- How many nodes a term has: each has a line.
use Rattle.std.specs.Prelude.{ℕ, suc, ◌+◌}
use Rattle.fz_ast.specs.Terms.{Term, at, VarE, NumE, TextE, UnitE, PairE, WithE, FstE, SndE, LetPairE, InlE, InrE, CaseE, IfE, FunE, FnE, AppE}
use Rattle.fz_ast.specs.Terms.{BangE, LetBangE, LetE, PlusE, MinusE, TimesE, LeE, EqE, ClipE, LeastE, GreatestE, SizeE, SumE, UnionE, MapE, FilterE, SplitE}

abbrev pub nodes_of : Term → ℕ
nodes_of (at s (VarE x)) = 1
nodes_of (at s (NumE z)) = 1
nodes_of (at s (TextE t)) = 1
nodes_of (at s UnitE) = 1
nodes_of (at s (PairE a b)) = suc (nodes_of a + nodes_of b)
nodes_of (at s (WithE a b)) = suc (nodes_of a + nodes_of b)
nodes_of (at s (FstE e)) = suc (nodes_of e)
nodes_of (at s (SndE e)) = suc (nodes_of e)
nodes_of (at s (LetPairE x y e b)) = suc (nodes_of e + nodes_of b)
nodes_of (at s (InlE u t e)) = suc (nodes_of e)
nodes_of (at s (InrE u t e)) = suc (nodes_of e)
nodes_of (at s (CaseE e x a y b)) = suc (nodes_of e + (nodes_of a + nodes_of b))
nodes_of (at s (IfE e a b)) = suc (nodes_of e + (nodes_of a + nodes_of b))
nodes_of (at s (FunE x u t e)) = suc (nodes_of e)
nodes_of (at s (FnE x u t e)) = suc (nodes_of e)
nodes_of (at s (AppE f a)) = suc (nodes_of f + nodes_of a)
nodes_of (at s (BangE r e)) = suc (nodes_of e)
nodes_of (at s (LetBangE x e b)) = suc (nodes_of e + nodes_of b)
nodes_of (at s (LetE x e b)) = suc (nodes_of e + nodes_of b)
nodes_of (at s (PlusE a b)) = suc (nodes_of a + nodes_of b)
nodes_of (at s (MinusE a b)) = suc (nodes_of a + nodes_of b)
nodes_of (at s (TimesE k e)) = suc (nodes_of e)
nodes_of (at s (LeE a b)) = suc (nodes_of a + nodes_of b)
nodes_of (at s (EqE a b)) = suc (nodes_of a + nodes_of b)
nodes_of (at s (ClipE lo hi e)) = suc (nodes_of e)
nodes_of (at s (LeastE e)) = suc (nodes_of e)
nodes_of (at s (GreatestE e)) = suc (nodes_of e)
nodes_of (at s (SizeE e)) = suc (nodes_of e)
nodes_of (at s (SumE lo hi e)) = suc (nodes_of e)
nodes_of (at s (UnionE a b)) = suc (nodes_of a + nodes_of b)
nodes_of (at s (MapE f b)) = suc (nodes_of f + nodes_of b)
nodes_of (at s (FilterE f b)) = suc (nodes_of f + nodes_of b)
nodes_of (at s (SplitE f b)) = suc (nodes_of f + nodes_of b)
