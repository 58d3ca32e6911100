-- The shapes, and the names with shapes, that numbered cells stand for: what is once stored stands for the same from then on.
use Rattle.std.specs.Prelude.{Bool, true, false, ℕ, suc, ◌≡◌, ◌≤◌, ◌++◌, ◌<◌, length, List, Result, Some, IfOk, slice_get}
use Rattle.fz_ast.specs.Names.{name_of}
use Rattle.fz_ast.specs.Terms.{Term}
use Rattle.fz_ast.specs.TermNodes.{term_at}
use Rattle.fz_ast.specs.declared.name.Name.{Name}
use Rattle.shape_law.specs.Shapes.{Also, BangS, FnS, FunS, Nothing, PairS, Shape, Shapes, Wide}
use Rattle.shape_run.specs.declared.store.Cell.{Cell}
use Rattle.fz_ast.specs.declared.memory.NoMemory.{NoMemory}
use Rattle.shape_run.specs.declared.store.Cell.TheVariants.{Ground, Pair, Bang, Fun, Fn, Frame}

mutual
  -- cell k stands for this shape; bodies are terms of N
  pub data IsShape (N : List Term) (cs : List Cell) : ℕ → Shape → Type 0 where
    is_ground : {k w i h : ℕ} → slice_get cs k ≡ Some (Ground w i h) → IsShape N cs k (Wide w i h)
    is_pair : {k a b : ℕ} {p q : Shape} → slice_get cs k ≡ Some (Pair a b) → IsShape N cs a p → IsShape N cs b q → IsShape N cs k (PairS p q)
    is_bang : {k a : ℕ} {p : Shape} → slice_get cs k ≡ Some (Bang a) → IsShape N cs a p → IsShape N cs k (BangS p)
    is_fun : {k e r : ℕ} {x : Name} {σ : Shapes} → slice_get cs k ≡ Some (Fun x e r) → e < length N → IsScope N cs r σ
        → IsShape N cs k (FunS (name_of x) (term_at N e) σ)
    is_fn : {k e r : ℕ} {x : Name} {σ : Shapes} → slice_get cs k ≡ Some (Fn x e r) → e < length N → IsScope N cs r σ
        → IsShape N cs k (FnS (name_of x) (term_at N e) σ)

  -- 0 stands for no names, and n + 1 for those of the frame in cell n
  pub data IsScope (N : List Term) (cs : List Cell) : ℕ → Shapes → Type 0 where
    no_names : IsScope N cs 0 Nothing
    more_names : {k s r : ℕ} {x : Name} {p : Shape} {σ : Shapes} → slice_get cs k ≡ Some (Frame x s r) → r ≤ k → IsShape N cs s p → IsScope N cs r σ
        → IsScope N cs (suc k) (Also (name_of x) p σ)

abbrev pub Grown : List Cell → List Cell → Type 0
Grown cs ds = (more : List Cell) × (ds ≡ cs ++ more)

-- cell k stands for a shape, and scope k for names with shapes
abbrev pub HasShape : List Cell → ℕ → Type 0
HasShape cs k = (N : List Term) × (p : Shape) × IsShape N cs k p

abbrev pub HaveShapes : List Cell → ℕ → ℕ → Type 0
HaveShapes cs a b = (N : List Term) × (p q : Shape) × IsShape N cs a p × IsShape N cs b q

abbrev pub HasScope : List Cell → ℕ → Type 0
HasScope cs k = (N : List Term) × (σ : Shapes) × IsScope N cs k σ

-- a cell that stands for this shape was added, whatever the terms are
abbrev pub Adds : List Cell → Result ℕ NoMemory → (List Term → Shape → Type 0) → Type 0
Adds cs r P = IfOk r (λ n. (N : List Term) (p : Shape) → P N p → IsShape N cs n p)

-- of a ground value
abbrev pub is_wide : Shape → Bool
is_wide (Wide w i h) = true
is_wide s = false
