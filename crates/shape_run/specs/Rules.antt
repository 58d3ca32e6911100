-- The rules of the run without data by the forms of nodes.
use Rattle.std.specs.Prelude.{ℕ, ◌<◌, length, List, None, Option, Some, ⊤}
use Rattle.fz_ast.specs.Names.{name_of}
use Rattle.fz_ast.specs.Terms.{Term}
use Rattle.fz_ast.specs.TermNodes.{term_at}
use Rattle.fz_ast.specs.declared.span.Span.{Span}
use Rattle.fz_ast.specs.declared.term.Arrow.{Arrow}
use Rattle.fz_ast.specs.declared.term.Arrow.TheVariants.{Fn, Fun}
use Rattle.fz_ast.specs.declared.term.Binary.{Binary}
use Rattle.fz_ast.specs.declared.term.Binary.TheVariants.{Pair, With, App, Plus, Minus, AtMost, Equal, Union, Map, Filter, Split}
use Rattle.fz_ast.specs.declared.term.Form.{Form}
use Rattle.fz_ast.specs.declared.term.Form.TheVariants.{Bang as Banged, Inject, Lambda, Ranged as Bounded, Times, Unary as Op, Var}
use Rattle.fz_ast.specs.declared.term.Ranged.TheVariants.{Sum}
use Rattle.fz_ast.specs.declared.term.Unary.{Unary}
use Rattle.fz_ast.specs.declared.term.Unary.TheVariants.{Fst, Greatest, Least, Size, Snd}
use Rattle.shape_law.specs.Shapes.{Also, FnS, FunS, Shape, Shapes, Wide, bang_shape, first_half, pair_shape, second_half, shape_of, side_shape, wider}
use Rattle.shape_law.specs.Walk.{WalkOutcome, Tally, Walk, enters, yields, next, over, union, walks_at}
use Rattle.shape_run.specs.Cells.{IsScope, IsShape}
use Rattle.shape_run.specs.declared.store.Cell.{Cell}

-- what the word or sign at s makes of the shapes of its two parts, at depth d
abbrev pub combined : (d : ℕ) → Walk → Span → Binary → Shape → Shape → Tally → WalkOutcome
combined d W s Pair p q = yields (pair_shape p q)
combined d W s With p q = yields (pair_shape p q)
combined d W s App p q = enters W p q
combined d W s Plus p q = yields (Wide 0 0 0)
combined d W s Minus p q = yields (Wide 0 0 0)
combined d W s AtMost p q = yields (Wide 0 0 0)
combined d W s Equal p q = yields (Wide 0 0 0)
combined d W s Union p q = union s p q
combined d W s Map p q = over d W p q
combined d W s Filter p q = over d W p q
combined d W s Split p q = over d W p q

-- a name as wide as a condition
abbrev pub beside : List ℕ → Shape → Shapes → Shapes
beside x p σ = Also x (side_shape p) σ

-- a branch under σ, and then one under τ
abbrev pub branches : Walk → Shapes → Term → Shapes → Term → Tally → WalkOutcome
branches W σ a τ b k = next (W σ a k) (λ p k. next (W τ b k) (λ q. yields (wider p q)))

-- over the terms of the nodes
abbrev pub StandsForShape : List Term → List Cell → ℕ → Type 0
StandsForShape N cs k = (p : Shape) × IsShape N cs k p

abbrev pub Scopes : List Term → List Cell → ℕ → Type 0
Scopes N cs k = (σ : Shapes) × IsScope N cs k σ

-- the shape of a function with this arrow, name, body and names
abbrev pub function_shape : Arrow → List ℕ → Term → Shapes → Shape
function_shape Fun x e σ = FunS x e σ
function_shape Fn x e σ = FnS x e σ

-- the shape of a form that visits nothing: a name, a function, or a constant
abbrev pub leaf_shape : List Term → Shapes → Form → Shape
leaf_shape N σ (Var x) = shape_of σ (name_of x)
leaf_shape N σ (Lambda o x u t e) = function_shape o (name_of x) (term_at N e) σ
leaf_shape N σ f = Wide 0 0 0

-- a function's body is one of so many terms
abbrev pub HasBody : ℕ → Form → Type 0
HasBody n (Lambda o x u t e) = e < n
HasBody n f = ⊤

-- this scope stands for names over terms with the body
abbrev pub HasLeaf : List Cell → ℕ → Form → Type 0
HasLeaf cs k f = (N : List Term) × (σ : Shapes) × IsScope N cs k σ × HasBody (length N) f

-- the part of a form of one part, in which no name is bound
abbrev pub part_in : Form → Option ℕ
part_in (Op o e) = Some e
part_in (Times k e) = Some e
part_in (Bounded o lo hi e) = Some e
part_in (Inject o u t e) = Some e
part_in (Banged r e) = Some e
part_in f = None

abbrev pub unary_shape : Unary → Shape → Shape
unary_shape Fst p = first_half p
unary_shape Snd p = second_half p
unary_shape Least p = Wide 0 0 0
unary_shape Greatest p = Wide 0 0 0
unary_shape Size p = Wide 0 0 0

-- what it makes of the part's shape
abbrev pub part_shape : Form → Shape → Shape
part_shape (Op o e) p = unary_shape o p
part_shape (Inject o u t e) p = side_shape p
part_shape (Banged r e) p = bang_shape p
part_shape f p = Wide 0 0 0

-- what a form of one part gives, its part at depth d: a bag's size and its sum are walks
abbrev pub part_gives : (d : ℕ) → Form → Shape → Tally → WalkOutcome
part_gives d (Op Size e) p k = walks_at d p k
part_gives d (Bounded Sum lo hi e) p k = walks_at d p k
part_gives d f p k = yields (part_shape f p) k
