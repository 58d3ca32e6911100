-- How deep a type or a term is: a leaf has depth 1, and the types inside are part of the tree.
-- Numbers of `*`, bounds of `sum` and `clip`, and bang numbers are no nodes.
use Rattle.std.specs.Prelude.{ℕ, suc, max}
use Rattle.fz_ast.specs.Types.{Ty, NumT, TextT, UnitT, TensorT, WithT, SumT, ArrowT, BangT, BagT}
use Rattle.fz_ast.specs.Terms.{Term, at, VarE, NumE, TextE, UnitE, PairE, WithE, FstE, SndE, LetPairE, InlE, InrE, CaseE, IfE, FunE, FnE, AppE}
use Rattle.fz_ast.specs.Terms.{BangE, LetBangE, LetE, PlusE, MinusE, TimesE, LeE, EqE, ClipE, LeastE, GreatestE, SizeE, SumE, UnionE, MapE, FilterE, SplitE}

abbrev pub type_depth : Ty → ℕ
type_depth NumT = 1
type_depth TextT = 1
type_depth UnitT = 1
type_depth (TensorT A B) = suc (max (type_depth A) (type_depth B))
type_depth (WithT A B) = suc (max (type_depth A) (type_depth B))
type_depth (SumT A B) = suc (max (type_depth A) (type_depth B))
type_depth (ArrowT A B) = suc (max (type_depth A) (type_depth B))
type_depth (BangT r A) = suc (type_depth A)
type_depth (BagT A) = suc (type_depth A)

abbrev pub depth : Term → ℕ
depth (at s (VarE x)) = 1
depth (at s (NumE z)) = 1
depth (at s (TextE t)) = 1
depth (at s UnitE) = 1
depth (at s (PairE a b)) = suc (max (depth a) (depth b))
depth (at s (WithE a b)) = suc (max (depth a) (depth b))
depth (at s (FstE e)) = suc (depth e)
depth (at s (SndE e)) = suc (depth e)
depth (at s (LetPairE x y e b)) = suc (max (depth e) (depth b))
depth (at s (InlE u t e)) = suc (max (type_depth t) (depth e))
depth (at s (InrE u t e)) = suc (max (type_depth t) (depth e))
depth (at s (CaseE e x a y b)) = suc (max (depth e) (max (depth a) (depth b)))
depth (at s (IfE e a b)) = suc (max (depth e) (max (depth a) (depth b)))
depth (at s (FunE x u t e)) = suc (max (type_depth t) (depth e))
depth (at s (FnE x u t e)) = suc (max (type_depth t) (depth e))
depth (at s (AppE f a)) = suc (max (depth f) (depth a))
depth (at s (BangE r e)) = suc (depth e)
depth (at s (LetBangE x e b)) = suc (max (depth e) (depth b))
depth (at s (LetE x e b)) = suc (max (depth e) (depth b))
depth (at s (PlusE a b)) = suc (max (depth a) (depth b))
depth (at s (MinusE a b)) = suc (max (depth a) (depth b))
depth (at s (TimesE k e)) = suc (depth e)
depth (at s (LeE a b)) = suc (max (depth a) (depth b))
depth (at s (EqE a b)) = suc (max (depth a) (depth b))
depth (at s (ClipE lo hi e)) = suc (depth e)
depth (at s (LeastE e)) = suc (depth e)
depth (at s (GreatestE e)) = suc (depth e)
depth (at s (SizeE e)) = suc (depth e)
depth (at s (SumE lo hi e)) = suc (depth e)
depth (at s (UnionE a b)) = suc (max (depth a) (depth b))
depth (at s (MapE f b)) = suc (max (depth f) (depth b))
depth (at s (FilterE f b)) = suc (max (depth f) (depth b))
depth (at s (SplitE f b)) = suc (max (depth f) (depth b))
