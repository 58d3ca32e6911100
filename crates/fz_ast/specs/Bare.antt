-- A term without its spans: two terms that differ in blanks alone have one bare term.
use Rattle.fz_ast.specs.Terms.{Term, at, VarE, NumE, TextE, UnitE, PairE, WithE, FstE, SndE, LetPairE, InlE, InrE, CaseE, IfE, FunE, FnE, AppE}
use Rattle.fz_ast.specs.Terms.{BangE, LetBangE, LetE, PlusE, MinusE, TimesE, LeE, EqE, ClipE, LeastE, GreatestE, SizeE, SumE, UnionE, MapE, FilterE, SplitE}
use Rattle.fz_ast.specs.declared.span.Span.{Span}

-- the span that says nothing
abbrev pub nowhere : Span
nowhere = record { from = 0; to = 0 }

abbrev pub bare : Term → Term
bare (at s (VarE x)) = at nowhere (VarE x)
bare (at s (NumE z)) = at nowhere (NumE z)
bare (at s (TextE t)) = at nowhere (TextE t)
bare (at s UnitE) = at nowhere UnitE
bare (at s (PairE a b)) = at nowhere (PairE (bare a) (bare b))
bare (at s (WithE a b)) = at nowhere (WithE (bare a) (bare b))
bare (at s (FstE e)) = at nowhere (FstE (bare e))
bare (at s (SndE e)) = at nowhere (SndE (bare e))
bare (at s (LetPairE x y e b)) = at nowhere (LetPairE x y (bare e) (bare b))
bare (at s (InlE u t e)) = at nowhere (InlE nowhere t (bare e))
bare (at s (InrE u t e)) = at nowhere (InrE nowhere t (bare e))
bare (at s (CaseE e x a y b)) = at nowhere (CaseE (bare e) x (bare a) y (bare b))
bare (at s (IfE e a b)) = at nowhere (IfE (bare e) (bare a) (bare b))
bare (at s (FunE x u t e)) = at nowhere (FunE x nowhere t (bare e))
bare (at s (FnE x u t e)) = at nowhere (FnE x nowhere t (bare e))
bare (at s (AppE f a)) = at nowhere (AppE (bare f) (bare a))
bare (at s (BangE r e)) = at nowhere (BangE r (bare e))
bare (at s (LetBangE x e b)) = at nowhere (LetBangE x (bare e) (bare b))
bare (at s (LetE x e b)) = at nowhere (LetE x (bare e) (bare b))
bare (at s (PlusE a b)) = at nowhere (PlusE (bare a) (bare b))
bare (at s (MinusE a b)) = at nowhere (MinusE (bare a) (bare b))
bare (at s (TimesE k e)) = at nowhere (TimesE k (bare e))
bare (at s (LeE a b)) = at nowhere (LeE (bare a) (bare b))
bare (at s (EqE a b)) = at nowhere (EqE (bare a) (bare b))
bare (at s (ClipE lo hi e)) = at nowhere (ClipE lo hi (bare e))
bare (at s (LeastE e)) = at nowhere (LeastE (bare e))
bare (at s (GreatestE e)) = at nowhere (GreatestE (bare e))
bare (at s (SizeE e)) = at nowhere (SizeE (bare e))
bare (at s (SumE lo hi e)) = at nowhere (SumE lo hi (bare e))
bare (at s (UnionE a b)) = at nowhere (UnionE (bare a) (bare b))
bare (at s (MapE f b)) = at nowhere (MapE (bare f) (bare b))
bare (at s (FilterE f b)) = at nowhere (FilterE (bare f) (bare b))
bare (at s (SplitE f b)) = at nowhere (SplitE (bare f) (bare b))
