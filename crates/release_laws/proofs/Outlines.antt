-- An outline has neither spans nor another depth.
use Rattle.std.proofs.Common.{◌≡◌, refl}
use Rattle.fz_ast.specs.Bare.{bare}
use Rattle.fz_ast.specs.Depth.{depth}
use Rattle.fz_ast.specs.Terms.{AppE, BangE, CaseE, ClipE, EqE, FilterE, FnE, FstE, FunE, GreatestE, IfE, InlE, InrE, LeE, LeastE, LetBangE, LetE, LetPairE, MapE, MinusE, NumE, PairE, PlusE, SizeE, SndE, SplitE, SumE, Term, TextE, TimesE, UnionE, UnitE, VarE, WithE, at}
use Rattle.release_laws.specs.Outline.{outline}

pub of_bare : (t : Term) → outline (bare t) ≡ outline t
of_bare (at s (VarE x)) = refl
of_bare (at s (NumE z)) = refl
of_bare (at s (TextE t)) = refl
of_bare (at s UnitE) = refl
of_bare (at s (PairE a b)) = rw (of_bare a, of_bare b) refl
of_bare (at s (WithE a b)) = rw (of_bare a, of_bare b) refl
of_bare (at s (FstE e)) = rw (of_bare e) refl
of_bare (at s (SndE e)) = rw (of_bare e) refl
of_bare (at s (LetPairE x y e b)) = rw (of_bare e, of_bare b) refl
of_bare (at s (InlE u t e)) = rw (of_bare e) refl
of_bare (at s (InrE u t e)) = rw (of_bare e) refl
of_bare (at s (CaseE e x a y b)) = rw (of_bare e, of_bare a, of_bare b) refl
of_bare (at s (IfE e a b)) = rw (of_bare e, of_bare a, of_bare b) refl
of_bare (at s (FunE x u t e)) = rw (of_bare e) refl
of_bare (at s (FnE x u t e)) = rw (of_bare e) refl
of_bare (at s (AppE f a)) = rw (of_bare f, of_bare a) refl
of_bare (at s (BangE r e)) = rw (of_bare e) refl
of_bare (at s (LetBangE x e b)) = rw (of_bare e, of_bare b) refl
of_bare (at s (LetE x e b)) = rw (of_bare e, of_bare b) refl
of_bare (at s (PlusE a b)) = rw (of_bare a, of_bare b) refl
of_bare (at s (MinusE a b)) = rw (of_bare a, of_bare b) refl
of_bare (at s (TimesE k e)) = rw (of_bare e) refl
of_bare (at s (LeE a b)) = rw (of_bare a, of_bare b) refl
of_bare (at s (EqE a b)) = rw (of_bare a, of_bare b) refl
of_bare (at s (ClipE lo hi e)) = rw (of_bare e) refl
of_bare (at s (LeastE e)) = rw (of_bare e) refl
of_bare (at s (GreatestE e)) = rw (of_bare e) refl
of_bare (at s (SizeE e)) = rw (of_bare e) refl
of_bare (at s (SumE lo hi e)) = rw (of_bare e) refl
of_bare (at s (UnionE a b)) = rw (of_bare a, of_bare b) refl
of_bare (at s (MapE f b)) = rw (of_bare f, of_bare b) refl
of_bare (at s (FilterE f b)) = rw (of_bare f, of_bare b) refl
of_bare (at s (SplitE f b)) = rw (of_bare f, of_bare b) refl

pub depth_kept : (t : Term) → depth (outline t) ≡ depth t
depth_kept (at s (VarE x)) = refl
depth_kept (at s (NumE z)) = refl
depth_kept (at s (TextE t)) = refl
depth_kept (at s UnitE) = refl
depth_kept (at s (PairE a b)) = rw (depth_kept a, depth_kept b) refl
depth_kept (at s (WithE a b)) = rw (depth_kept a, depth_kept b) refl
depth_kept (at s (FstE e)) = rw (depth_kept e) refl
depth_kept (at s (SndE e)) = rw (depth_kept e) refl
depth_kept (at s (LetPairE x y e b)) = rw (depth_kept e, depth_kept b) refl
depth_kept (at s (InlE u t e)) = rw (depth_kept e) refl
depth_kept (at s (InrE u t e)) = rw (depth_kept e) refl
depth_kept (at s (CaseE e x a y b)) = rw (depth_kept e, depth_kept a, depth_kept b) refl
depth_kept (at s (IfE e a b)) = rw (depth_kept e, depth_kept a, depth_kept b) refl
depth_kept (at s (FunE x u t e)) = rw (depth_kept e) refl
depth_kept (at s (FnE x u t e)) = rw (depth_kept e) refl
depth_kept (at s (AppE f a)) = rw (depth_kept f, depth_kept a) refl
depth_kept (at s (BangE r e)) = rw (depth_kept e) refl
depth_kept (at s (LetBangE x e b)) = rw (depth_kept e, depth_kept b) refl
depth_kept (at s (LetE x e b)) = rw (depth_kept e, depth_kept b) refl
depth_kept (at s (PlusE a b)) = rw (depth_kept a, depth_kept b) refl
depth_kept (at s (MinusE a b)) = rw (depth_kept a, depth_kept b) refl
depth_kept (at s (TimesE k e)) = rw (depth_kept e) refl
depth_kept (at s (LeE a b)) = rw (depth_kept a, depth_kept b) refl
depth_kept (at s (EqE a b)) = rw (depth_kept a, depth_kept b) refl
depth_kept (at s (ClipE lo hi e)) = rw (depth_kept e) refl
depth_kept (at s (LeastE e)) = rw (depth_kept e) refl
depth_kept (at s (GreatestE e)) = rw (depth_kept e) refl
depth_kept (at s (SizeE e)) = rw (depth_kept e) refl
depth_kept (at s (SumE lo hi e)) = rw (depth_kept e) refl
depth_kept (at s (UnionE a b)) = rw (depth_kept a, depth_kept b) refl
depth_kept (at s (MapE f b)) = rw (depth_kept f, depth_kept b) refl
depth_kept (at s (FilterE f b)) = rw (depth_kept f, depth_kept b) refl
depth_kept (at s (SplitE f b)) = rw (depth_kept f, depth_kept b) refl
