-- A bare term is as deep as the term, and has nothing more to forget.
use Rattle.std.proofs.Common.{refl, ◌≡◌}
use Rattle.fz_ast.specs.Bare.{bare}
use Rattle.fz_ast.specs.Depth.{depth}
use Rattle.fz_ast.specs.Terms.{AppE, BangE, CaseE, ClipE, EqE, FilterE, FnE, FstE, FunE, GreatestE, IfE, InlE, InrE, LeE, LeastE, LetBangE, LetE, LetPairE, MapE, MinusE, NumE, PairE, PlusE, SizeE, SndE, SplitE, SumE, TextE, TimesE, UnionE, UnitE, VarE, WithE, Term, at}

pub depth_of_bare : (t : Term) → depth (bare t) ≡ depth t
depth_of_bare (at s (VarE x)) = refl
depth_of_bare (at s (NumE z)) = refl
depth_of_bare (at s (TextE t)) = refl
depth_of_bare (at s UnitE) = refl
depth_of_bare (at s (PairE a b)) = rw (depth_of_bare a, depth_of_bare b) refl
depth_of_bare (at s (WithE a b)) = rw (depth_of_bare a, depth_of_bare b) refl
depth_of_bare (at s (FstE e)) = rw (depth_of_bare e) refl
depth_of_bare (at s (SndE e)) = rw (depth_of_bare e) refl
depth_of_bare (at s (LetPairE x y e b)) = rw (depth_of_bare e, depth_of_bare b) refl
depth_of_bare (at s (InlE u t e)) = rw (depth_of_bare e) refl
depth_of_bare (at s (InrE u t e)) = rw (depth_of_bare e) refl
depth_of_bare (at s (CaseE e x a y b)) = rw (depth_of_bare e, depth_of_bare a, depth_of_bare b) refl
depth_of_bare (at s (IfE e a b)) = rw (depth_of_bare e, depth_of_bare a, depth_of_bare b) refl
depth_of_bare (at s (FunE x u t e)) = rw (depth_of_bare e) refl
depth_of_bare (at s (FnE x u t e)) = rw (depth_of_bare e) refl
depth_of_bare (at s (AppE f a)) = rw (depth_of_bare f, depth_of_bare a) refl
depth_of_bare (at s (BangE r e)) = rw (depth_of_bare e) refl
depth_of_bare (at s (LetBangE x e b)) = rw (depth_of_bare e, depth_of_bare b) refl
depth_of_bare (at s (LetE x e b)) = rw (depth_of_bare e, depth_of_bare b) refl
depth_of_bare (at s (PlusE a b)) = rw (depth_of_bare a, depth_of_bare b) refl
depth_of_bare (at s (MinusE a b)) = rw (depth_of_bare a, depth_of_bare b) refl
depth_of_bare (at s (TimesE k e)) = rw (depth_of_bare e) refl
depth_of_bare (at s (LeE a b)) = rw (depth_of_bare a, depth_of_bare b) refl
depth_of_bare (at s (EqE a b)) = rw (depth_of_bare a, depth_of_bare b) refl
depth_of_bare (at s (ClipE lo hi e)) = rw (depth_of_bare e) refl
depth_of_bare (at s (LeastE e)) = rw (depth_of_bare e) refl
depth_of_bare (at s (GreatestE e)) = rw (depth_of_bare e) refl
depth_of_bare (at s (SizeE e)) = rw (depth_of_bare e) refl
depth_of_bare (at s (SumE lo hi e)) = rw (depth_of_bare e) refl
depth_of_bare (at s (UnionE a b)) = rw (depth_of_bare a, depth_of_bare b) refl
depth_of_bare (at s (MapE f b)) = rw (depth_of_bare f, depth_of_bare b) refl
depth_of_bare (at s (FilterE f b)) = rw (depth_of_bare f, depth_of_bare b) refl
depth_of_bare (at s (SplitE f b)) = rw (depth_of_bare f, depth_of_bare b) refl

pub bare_twice : (t : Term) → bare (bare t) ≡ bare t
bare_twice (at s (VarE x)) = refl
bare_twice (at s (NumE z)) = refl
bare_twice (at s (TextE t)) = refl
bare_twice (at s UnitE) = refl
bare_twice (at s (PairE a b)) = rw (bare_twice a, bare_twice b) refl
bare_twice (at s (WithE a b)) = rw (bare_twice a, bare_twice b) refl
bare_twice (at s (FstE e)) = rw (bare_twice e) refl
bare_twice (at s (SndE e)) = rw (bare_twice e) refl
bare_twice (at s (LetPairE x y e b)) = rw (bare_twice e, bare_twice b) refl
bare_twice (at s (InlE u t e)) = rw (bare_twice e) refl
bare_twice (at s (InrE u t e)) = rw (bare_twice e) refl
bare_twice (at s (CaseE e x a y b)) = rw (bare_twice e, bare_twice a, bare_twice b) refl
bare_twice (at s (IfE e a b)) = rw (bare_twice e, bare_twice a, bare_twice b) refl
bare_twice (at s (FunE x u t e)) = rw (bare_twice e) refl
bare_twice (at s (FnE x u t e)) = rw (bare_twice e) refl
bare_twice (at s (AppE f a)) = rw (bare_twice f, bare_twice a) refl
bare_twice (at s (BangE r e)) = rw (bare_twice e) refl
bare_twice (at s (LetBangE x e b)) = rw (bare_twice e, bare_twice b) refl
bare_twice (at s (LetE x e b)) = rw (bare_twice e, bare_twice b) refl
bare_twice (at s (PlusE a b)) = rw (bare_twice a, bare_twice b) refl
bare_twice (at s (MinusE a b)) = rw (bare_twice a, bare_twice b) refl
bare_twice (at s (TimesE k e)) = rw (bare_twice e) refl
bare_twice (at s (LeE a b)) = rw (bare_twice a, bare_twice b) refl
bare_twice (at s (EqE a b)) = rw (bare_twice a, bare_twice b) refl
bare_twice (at s (ClipE lo hi e)) = rw (bare_twice e) refl
bare_twice (at s (LeastE e)) = rw (bare_twice e) refl
bare_twice (at s (GreatestE e)) = rw (bare_twice e) refl
bare_twice (at s (SizeE e)) = rw (bare_twice e) refl
bare_twice (at s (SumE lo hi e)) = rw (bare_twice e) refl
bare_twice (at s (UnionE a b)) = rw (bare_twice a, bare_twice b) refl
bare_twice (at s (MapE f b)) = rw (bare_twice f, bare_twice b) refl
bare_twice (at s (FilterE f b)) = rw (bare_twice f, bare_twice b) refl
bare_twice (at s (SplitE f b)) = rw (bare_twice f, bare_twice b) refl
