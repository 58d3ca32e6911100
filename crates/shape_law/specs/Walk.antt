-- The run without data, with its limits: from left to right, each visit of a node being one turn.
use Rattle.std.specs.Prelude.{Bool, ℕ, false, true, zero, suc, ◌+◌, ◌-◌, ◌*◌, max, cond, nat_le}
use Rattle.fz_ast.specs.declared.span.Span.{Span}
use Rattle.fz_ast.specs.Signature.{Signature}
use Rattle.fz_ast.specs.Terms.{AppE, BangE, CaseE, ClipE, EqE, FilterE, FnE, FstE, FunE, GreatestE, IfE, InlE, InrE, LeE, LeastE, LetBangE, LetE, LetPairE}
use Rattle.fz_ast.specs.Terms.{MapE, MinusE, NumE, PairE, PlusE, SizeE, SndE, SplitE, SumE, Term, TextE, TimesE, UnionE, UnitE, VarE, WithE, at, span_of}
unfoldable pub use Rattle.row_functions.specs.RowFunctions.{depth_limit}
use Rattle.shape_law.specs.Shapes.{Shape, Wide, FunS, FnS, Shapes, Also, shape_of, width_of, wider, pair_shape, first_half, second_half, bang_shape, in_bang}
use Rattle.shape_law.specs.Shapes.{Nothing, height_of, side_shape, table_shapes, walks_of}

abbrev pub turn_limit : ℕ
turn_limit = 20000

abbrev pub width_limit : ℕ
width_limit = 64

-- a walk of a bag takes at most so many walks, with itself
abbrev pub walk_limit : ℕ
walk_limit = 64

-- terms are evaluated at most so deep within one another, those of the functions that a walk calls at the walk
abbrev pub reach_limit : ℕ
reach_limit = 400

-- what came so far: how many turns, the deepest visit, the widest shape, the walks of bags where each table has one row, how deep terms are evaluated,
-- and whether some bag takes more walks than one may, or is evaluated deeper
pub record Tally : Type 0 where
  pub turns : ℕ
  pub depth : ℕ
  pub width : ℕ
  pub walks : ℕ
  pub reach : ℕ
  pub too_many : Bool

-- the first limit that is passed, with the term at which it is
pub data ShapeFault : Type 0 where
  TooDeep : (s : Span) → ShapeFault
  TooLong : (s : Span) → ShapeFault
  TooWide : (s : Span) (width : ℕ) → ShapeFault

pub data WalkOutcome : Type 0 where
  Shaped : (r : Shape) (k : Tally) → WalkOutcome
  Stops : (f : ShapeFault) → WalkOutcome
  -- of a whole program: no limit of depths, turns and widths is passed, but its bags take too many walks
  TooManyWalks : WalkOutcome

-- a way to visit a term under names with shapes, after what came so far
abbrev pub Walk : Type 0
Walk = Shapes → Term → Tally → WalkOutcome

-- and then, with the shape and what came so far
abbrev pub next : WalkOutcome → (Shape → Tally → WalkOutcome) → WalkOutcome
next (Shaped r k) f = f r k
next (Stops x) f = Stops x
next TooManyWalks f = TooManyWalks

-- a term's own shape, whose width counts
abbrev pub yields : Shape → Tally → WalkOutcome
yields r k = Shaped r (record k { width = max k.width (width_of r) })

-- what follows a part alone, and two parts
abbrev pub after_part : Walk → Shapes → Term → Tally → (Shape → Tally → WalkOutcome) → WalkOutcome
after_part W σ e k f = next (W σ e k) f

abbrev pub after_parts : Walk → Shapes → Term → Term → Tally → (Shape → Shape → Tally → WalkOutcome) → WalkOutcome
after_parts W σ a b k f = next (W σ a k) (λ p k. next (W σ b k) (f p))

-- the body of c under the argument u; an `fn` takes what the argument's bang holds
abbrev pub enters : Walk → Shape → Shape → Tally → WalkOutcome
enters W (FunS x e σ) u k = W (Also x u σ) e k
enters W (FnS x e σ) u k = W (Also x (in_bang u) σ) e k
enters W c u k = yields (Wide 0 0 0) k

-- a walk of a bag from depth d on, and those that its functions take
abbrev pub walked : (d : ℕ) → Shape → Tally → Tally
walked d p k = record k { walks = k.walks + walks_of p + 1; reach = max k.reach (d + height_of p) }

-- it is kept in mind that a bag takes too many walks: the run goes on, since a limit may be passed later
abbrev pub noted : Tally → Tally
noted k = record k { too_many = true }

-- a bag's size or sum, whose part has depth d; where the bag's functions are evaluated too deep, that is noted, and the walk isn't counted
abbrev pub walks_at : (d : ℕ) → Shape → Tally → WalkOutcome
walks_at d p k = yields (Wide 0 0 0) (cond (nat_le (d + height_of p) reach_limit) (walked d p k) (noted k))

-- no walks yet, and none deeper than d
abbrev pub counted_from : (d : ℕ) → Tally → Tally
counted_from d k = record k { walks = 0; reach = d }

-- with the walks that were before
abbrev pub as_before : Tally → Tally → Tally
as_before b k = record k { walks = b.walks; reach = b.reach }

-- a bag w tables wide, whose functions take i walks and are evaluated h deep; where those are too many, that is noted, and none count
abbrev pub weighed : (w i h : ℕ) → Tally → WalkOutcome
weighed w i h k = cond (nat_le walk_limit i) (yields (Wide w 0 0) (noted k)) (yields (Wide w i h) k)

-- The bag's functions take what those of the bag q took, and for each of its tables what the visit of the body counted,
-- and are as deep as they, or as that visit was from depth d on.
abbrev pub bag : (d : ℕ) → Shape → (before : Tally) → Tally → WalkOutcome
bag d q before k = weighed (width_of q) (width_of q * k.walks + walks_of q) (max (height_of q) (k.reach - d)) (as_before before k)

-- the body of c once at depth d, whose walks are counted apart
abbrev pub over : (d : ℕ) → Walk → Shape → Shape → Tally → WalkOutcome
over d W c q k = next (enters W c (Wide 0 0 0) (counted_from d k)) (λ r. bag d q k)

-- the function, the bag, and the function's body once
abbrev pub over_bag : (d : ℕ) → Walk → Shapes → Term → Term → Tally → WalkOutcome
over_bag d W σ f b k = after_parts W σ f b k (over d W)

-- The union at s has the rows of both bags: their widths add up, and what their functions walk, as deep as the deeper of both.
abbrev pub union : Span → Shape → Shape → Tally → WalkOutcome
union s p q k =
    cond (nat_le (width_of p + width_of q) width_limit)
    (weighed (width_of p + width_of q) (walks_of p + walks_of q) (max (height_of p) (height_of q)) k)
    (Stops (TooWide s (width_of p + width_of q)))

-- what a term does after its own turn, W being the way to visit one deeper, at depth d
abbrev pub walk_rules : (d : ℕ) → Walk → Walk
walk_rules d W σ (at s (VarE x)) k = yields (shape_of σ x) k
walk_rules d W σ (at s (NumE z)) k = yields (Wide 0 0 0) k
walk_rules d W σ (at s (TextE t)) k = yields (Wide 0 0 0) k
walk_rules d W σ (at s UnitE) k = yields (Wide 0 0 0) k
walk_rules d W σ (at s (PairE a b)) k = after_parts W σ a b k (λ p q. yields (pair_shape p q))
walk_rules d W σ (at s (WithE a b)) k = after_parts W σ a b k (λ p q. yields (pair_shape p q))
walk_rules d W σ (at s (FstE e)) k = after_part W σ e k (λ p. yields (first_half p))
walk_rules d W σ (at s (SndE e)) k = after_part W σ e k (λ p. yields (second_half p))
walk_rules d W σ (at s (LetPairE x y e b)) k = after_part W σ e k (λ p. W (Also y (second_half p) (Also x (first_half p) σ)) b)
walk_rules d W σ (at s (InlE u t e)) k = after_part W σ e k (λ p. yields (side_shape p))
walk_rules d W σ (at s (InrE u t e)) k = after_part W σ e k (λ p. yields (side_shape p))
-- both branches, with names as wide as the condition
walk_rules d W σ (at s (CaseE e x a y b)) k =
    after_part W σ e k (λ c k. next (W (Also x (side_shape c) σ) a k) (λ p k. next (W (Also y (side_shape c) σ) b k) (λ q. yields (wider p q))))
walk_rules d W σ (at s (IfE e a b)) k = after_part W σ e k (λ c k. after_parts W σ a b k (λ p q. yields (wider p q)))
walk_rules d W σ (at s (FunE x u t e)) k = yields (FunS x e σ) k
walk_rules d W σ (at s (FnE x u t e)) k = yields (FnS x e σ) k
walk_rules d W σ (at s (AppE f a)) k = after_parts W σ f a k (enters W)
walk_rules d W σ (at s (BangE r e)) k = after_part W σ e k (λ p. yields (bang_shape p))
walk_rules d W σ (at s (LetBangE x e b)) k = after_part W σ e k (λ p. W (Also x (in_bang p) σ) b)
walk_rules d W σ (at s (LetE x e b)) k = after_part W σ e k (λ p. W (Also x p σ) b)
walk_rules d W σ (at s (PlusE a b)) k = after_parts W σ a b k (λ p q. yields (Wide 0 0 0))
walk_rules d W σ (at s (MinusE a b)) k = after_parts W σ a b k (λ p q. yields (Wide 0 0 0))
walk_rules d W σ (at s (TimesE n e)) k = after_part W σ e k (λ p. yields (Wide 0 0 0))
walk_rules d W σ (at s (LeE a b)) k = after_parts W σ a b k (λ p q. yields (Wide 0 0 0))
walk_rules d W σ (at s (EqE a b)) k = after_parts W σ a b k (λ p q. yields (Wide 0 0 0))
walk_rules d W σ (at s (ClipE lo hi e)) k = after_part W σ e k (λ p. yields (Wide 0 0 0))
walk_rules d W σ (at s (LeastE e)) k = after_part W σ e k (λ p. yields (Wide 0 0 0))
walk_rules d W σ (at s (GreatestE e)) k = after_part W σ e k (λ p. yields (Wide 0 0 0))
walk_rules d W σ (at s (SizeE e)) k = after_part W σ e k (walks_at d)
walk_rules d W σ (at s (SumE lo hi e)) k = after_part W σ e k (walks_at d)
walk_rules d W σ (at s (UnionE a b)) k = after_parts W σ a b k (union s)
walk_rules d W σ (at s (MapE f b)) k = over_bag d W σ f b k
walk_rules d W σ (at s (FilterE f b)) k = over_bag d W σ f b k
walk_rules d W σ (at s (SplitE f b)) k = over_bag d W σ f b k

-- one turn more, at depth d
abbrev pub turn : (d : ℕ) → Tally → Tally
turn d k = record k { turns = suc k.turns; depth = max k.depth d; reach = max k.reach d }

-- the visit of a term at depth here, from which on so many depths are left
abbrev pub walk : (left here : ℕ) → Walk
walk zero here σ t k = Stops (TooDeep (span_of t))
walk (suc left) here σ t k = cond (nat_le turn_limit k.turns) (Stops (TooLong (span_of t))) (walk_rules (suc here) (walk left (suc here)) σ t (turn here k))

abbrev pub start : Tally
start = record { turns = 0; depth = 0; width = 0; walks = 0; reach = 0; too_many = false }

-- the first limit that is passed comes before too many walks
abbrev pub told : WalkOutcome → WalkOutcome
told (Shaped r k) = cond k.too_many TooManyWalks (Shaped r k)
told o = o

-- a whole program over the tables of a signature: the program's node has depth 1
abbrev pub shape : Signature → Term → WalkOutcome
shape ts t = told (walk depth_limit 1 (table_shapes ts) t start)

-- A function of rows, applied to a row, which is ground and holds no bag: its term has depth 1, and then the body of the function that it gives has depth 2.
-- The application is no node, and takes no turn.
abbrev pub applied_shape : Term → WalkOutcome
applied_shape t = told (next (walk depth_limit 1 Nothing t start) (λ c. enters (walk (depth_limit - 1) 2) c (Wide 0 0 0)))
