-- The shape of a term, by a walk of at most some height: a leaf has height 1,
-- and a part, or a body that is entered, is one deeper.
use Rattle.std.specs.Prelude.{ℕ, zero, suc, ◌+◌, ◌≡◌}
use Rattle.fz_ast.specs.Terms.{AppE, BangE, CaseE, ClipE, EqE, FilterE, FnE, FstE, FunE, GreatestE, IfE, InlE, InrE, LeE, LeastE, LetBangE, LetE, LetPairE}
use Rattle.fz_ast.specs.Terms.{MapE, MinusE, NumE, PairE, PlusE, SizeE, SndE, SplitE, SumE, Term, TextE, TimesE, UnionE, UnitE, VarE, WithE, at}
use Rattle.shape_law.specs.Shapes.{Shape, Wide, FunS, FnS, Shapes, Also, shape_of, width_of, wider, pair_shape, first_half, second_half, bang_shape, in_bang}
use Rattle.shape_law.specs.Shapes.{side_shape}

-- a relation between shapes of names, terms and shapes
abbrev pub Shaping : Type 1
Shaping = Shapes → Term → Shape → Type 0

-- the body of c under the argument u has shape r; an `fn` takes what the argument's bang holds
abbrev pub Enters : Shaping → Shape → Shape → Shape → Type 0
Enters R (FunS x e σ) u r = R (Also x u σ) e r
Enters R (FnS x e σ) u r = R (Also x (in_bang u) σ) e r
Enters R c u r = r ≡ Wide 0 0 0

-- a bag primitive enters its function once, whatever the bag
abbrev pub Visits : Shaping → Shape → Type 0
Visits R c = (r : Shape) × Enters R c (Wide 0 0 0) r

-- a part alone, and two parts
abbrev pub One : Shaping → Shapes → Term → (Shape → Shape) → Shape → Type 0
One R σ e f r = (p : Shape) × R σ e p × (r ≡ f p)

abbrev pub Two : Shaping → Shapes → Term → Term → (Shape → Shape → Shape) → Shape → Type 0
Two R σ a b f r = (p q : Shape) × R σ a p × R σ b q × (r ≡ f p q)

-- a function, a bag and the function's body; the whole is as wide as the bag, and how many walks it takes for a row, and how deep, isn't said
abbrev pub OverBag : Shaping → Shapes → Term → Term → Shape → Type 0
OverBag R σ f b r = (c q : Shape) × R σ f c × R σ b q × Visits R c × (i h : ℕ) × (r ≡ Wide (width_of q) i h)

-- two bags, whose widths add up
abbrev pub OverBoth : Shaping → Shapes → Term → Term → Shape → Type 0
OverBoth R σ a b r = (p q : Shape) × R σ a p × R σ b q × (i h : ℕ) × (r ≡ Wide (width_of p + width_of q) i h)

-- one rule per form of term, over the shapes of its parts
abbrev pub ShapeRules : Shaping → Shaping
ShapeRules R σ (at s (VarE x)) r = r ≡ shape_of σ x
ShapeRules R σ (at s (NumE z)) r = r ≡ Wide 0 0 0
ShapeRules R σ (at s (TextE t)) r = r ≡ Wide 0 0 0
ShapeRules R σ (at s UnitE) r = r ≡ Wide 0 0 0
ShapeRules R σ (at s (PairE a b)) r = Two R σ a b pair_shape r
ShapeRules R σ (at s (WithE a b)) r = Two R σ a b pair_shape r
ShapeRules R σ (at s (FstE e)) r = One R σ e first_half r
ShapeRules R σ (at s (SndE e)) r = One R σ e second_half r
ShapeRules R σ (at s (LetPairE x y e b)) r = (p : Shape) × R σ e p × R (Also y (second_half p) (Also x (first_half p) σ)) b r
ShapeRules R σ (at s (InlE u t e)) r = One R σ e side_shape r
ShapeRules R σ (at s (InrE u t e)) r = One R σ e side_shape r
-- both branches, with names as wide as the condition
ShapeRules R σ (at s (CaseE e x a y b)) r =
    (c p q : Shape) × R σ e c × R (Also x (side_shape c) σ) a p × R (Also y (side_shape c) σ) b q × (r ≡ wider p q)
ShapeRules R σ (at s (IfE e a b)) r = (c p q : Shape) × R σ e c × R σ a p × R σ b q × (r ≡ wider p q)
ShapeRules R σ (at s (FunE x u t e)) r = r ≡ FunS x e σ
ShapeRules R σ (at s (FnE x u t e)) r = r ≡ FnS x e σ
ShapeRules R σ (at s (AppE f a)) r = (c u : Shape) × R σ f c × R σ a u × Enters R c u r
ShapeRules R σ (at s (BangE k e)) r = One R σ e bang_shape r
ShapeRules R σ (at s (LetBangE x e b)) r = (p : Shape) × R σ e p × R (Also x (in_bang p) σ) b r
ShapeRules R σ (at s (LetE x e b)) r = (p : Shape) × R σ e p × R (Also x p σ) b r
ShapeRules R σ (at s (PlusE a b)) r = Two R σ a b (λ p q. Wide 0 0 0) r
ShapeRules R σ (at s (MinusE a b)) r = Two R σ a b (λ p q. Wide 0 0 0) r
ShapeRules R σ (at s (TimesE k e)) r = One R σ e (λ p. Wide 0 0 0) r
ShapeRules R σ (at s (LeE a b)) r = Two R σ a b (λ p q. Wide 0 0 0) r
ShapeRules R σ (at s (EqE a b)) r = Two R σ a b (λ p q. Wide 0 0 0) r
ShapeRules R σ (at s (ClipE lo hi e)) r = One R σ e (λ p. Wide 0 0 0) r
ShapeRules R σ (at s (LeastE e)) r = One R σ e (λ p. Wide 0 0 0) r
ShapeRules R σ (at s (GreatestE e)) r = One R σ e (λ p. Wide 0 0 0) r
ShapeRules R σ (at s (SizeE e)) r = One R σ e (λ p. Wide 0 0 0) r
ShapeRules R σ (at s (SumE lo hi e)) r = One R σ e (λ p. Wide 0 0 0) r
ShapeRules R σ (at s (UnionE a b)) r = OverBoth R σ a b r
ShapeRules R σ (at s (MapE f b)) r = OverBag R σ f b r
ShapeRules R σ (at s (FilterE f b)) r = OverBag R σ f b r
ShapeRules R σ (at s (SplitE f b)) r = OverBag R σ f b r

-- by a walk of at most this height
abbrev pub ShapeIn : ℕ → Shaping
ShapeIn zero σ e r = ⊥
ShapeIn (suc n) σ e r = ShapeRules (ShapeIn n) σ e r
