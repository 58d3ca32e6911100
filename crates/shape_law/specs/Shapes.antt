-- What the run without data computes with: shapes in the place of values.
use Rattle.std.specs.Prelude.{ℕ, [], ◌∷◌, max, bytes_eq, cond}
use Rattle.fz_ast.specs.Signature.{Signature}
use Rattle.fz_ast.specs.Terms.{Name, Term}

mutual
  pub data Shape : Type 0 where
    -- of a ground value: each bag in it is at most w tables wide, and its functions take at most i walks of bags where each table has one row, and are
    -- evaluated at most h deep, the walks in them too
    Wide : (w i h : ℕ) → Shape
    PairS : (a b : Shape) → Shape
    BangS : (a : Shape) → Shape
    -- `fun (x : T) => e` with the shapes of its names
    FunS : (x : Name) (e : Term) (σ : Shapes) → Shape
    -- `fn (x : T) => e` alike
    FnS : (x : Name) (e : Term) (σ : Shapes) → Shape

  -- names with their shapes, the innermost first
  pub data Shapes : Type 0 where
    Nothing : Shapes
    Also : (x : Name) (s : Shape) (σ : Shapes) → Shapes

-- Where a shape isn't of the form that an accepted term's has, these give `Wide 0 0 0`. It never comes to that.

-- the shape of the innermost x
abbrev pub shape_of : Shapes → Name → Shape
shape_of Nothing x = Wide 0 0 0
shape_of (Also y s σ) x = cond (bytes_eq y x) s (shape_of σ x)

abbrev pub width_of : Shape → ℕ
width_of (Wide w i h) = w
width_of s = 0

abbrev pub walks_of : Shape → ℕ
walks_of (Wide w i h) = i
walks_of s = 0

abbrev pub height_of : Shape → ℕ
height_of (Wide w i h) = h
height_of s = 0

-- the greater width, the greater number of walks, and the greater height
abbrev pub wider : Shape → Shape → Shape
wider a b = Wide (max (width_of a) (width_of b)) (max (walks_of a) (walks_of b)) (max (height_of a) (height_of b))

-- a sum is as wide as its side, and takes its walks as deep
abbrev pub side_shape : Shape → Shape
side_shape a = Wide (width_of a) (walks_of a) (height_of a)

-- a pair of ground values is ground
abbrev pub pair_shape : Shape → Shape → Shape
pair_shape (Wide a i h) (Wide b j g) = Wide (max a b) (max i j) (max h g)
pair_shape a b = PairS a b

abbrev pub first_half : Shape → Shape
first_half (Wide w i h) = Wide w i h
first_half (PairS a b) = a
first_half s = Wide 0 0 0

abbrev pub second_half : Shape → Shape
second_half (Wide w i h) = Wide w i h
second_half (PairS a b) = b
second_half s = Wide 0 0 0

-- a bang of a ground value is ground
abbrev pub bang_shape : Shape → Shape
bang_shape (Wide w i h) = Wide w i h
bang_shape s = BangS s

-- what a bang holds
abbrev pub in_bang : Shape → Shape
in_bang (Wide w i h) = Wide w i h
in_bang (BangS s) = s
in_bang s = Wide 0 0 0

-- each table is as wide as itself, and has no functions
abbrev pub table_shapes : Signature → Shapes
table_shapes [] = Nothing
table_shapes (t ∷ ts) = Also t.name (Wide 1 0 0) (table_shapes ts)
