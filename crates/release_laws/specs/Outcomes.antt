-- Shapes whose functions' terms are outlines, and what a walk comes to without spans.
use Rattle.shape_law.specs.Shapes.{Shape, Wide, PairS, BangS, FunS, FnS, Shapes, Nothing, Also}
use Rattle.shape_law.specs.Walk.{ShapeFault, TooDeep, TooLong, TooWide, WalkOutcome, Shaped, Stops, TooManyWalks}
use Rattle.fz_ast.specs.Bare.{nowhere}
use Rattle.release_laws.specs.Outline.{outline}

abbrev mutual
  pub outline_shape : Shape → Shape
  outline_shape (Wide w i h) = Wide w i h
  outline_shape (PairS a b) = PairS (outline_shape a) (outline_shape b)
  outline_shape (BangS a) = BangS (outline_shape a)
  outline_shape (FunS x e σ) = FunS x (outline e) (outline_shapes σ)
  outline_shape (FnS x e σ) = FnS x (outline e) (outline_shapes σ)

  pub outline_shapes : Shapes → Shapes
  outline_shapes Nothing = Nothing
  outline_shapes (Also x s σ) = Also x (outline_shape s) (outline_shapes σ)

abbrev pub outline_fault : ShapeFault → ShapeFault
outline_fault (TooDeep s) = TooDeep nowhere
outline_fault (TooLong s) = TooLong nowhere
outline_fault (TooWide s w) = TooWide nowhere w

abbrev pub outline_outcome : WalkOutcome → WalkOutcome
outline_outcome (Shaped r k) = Shaped (outline_shape r) k
outline_outcome (Stops f) = Stops (outline_fault f)
outline_outcome TooManyWalks = TooManyWalks
