-- A function of rows and its body, as they are visited.
use Rattle.std.proofs.Common.{ap, refl, ◌∙◌}
use Rattle.std.specs.Prelude.{ℕ, ◌-◌, ◌≡◌}
use Rattle.fz_ast.specs.Terms.{Term}
use Rattle.shape_law.specs.Shapes.{Nothing, Shape, Wide}
use Rattle.shape_law.specs.Walk.{Shaped, Tally, WalkOutcome, applied_shape, depth_limit, enters, next, start, told, walk}
use Rattle.shape_run.proofs.Steps.{stopped, to, told_stops}
use Rattle.shape_run.specs.Tells.{StopsAt}
use Rattle.shape_run.specs.declared.plan.ShapeFault.{ShapeFault}

-- with so many depths, of the term u
abbrev pub applied_in : ℕ → Term → WalkOutcome
applied_in n u = told (next (walk n 1 Nothing u start) (λ c. enters (walk (n - 1) 2) c (Wide 0 0 0)))

pub whole_function : (n : ℕ) (t u : Term) → n ≡ depth_limit → u ≡ t → applied_shape t ≡ applied_in n u
whole_function n t u e f = rw (e, f) refl

module _ (n : ℕ) (u : Term) where
  -- the term stops
  pub term_stops : (x : ShapeFault) → StopsAt x (walk n 1 Nothing u start) → StopsAt x (applied_in n u)
  term_stops x h =
      told_stops x (next (walk n 1 Nothing u start) (λ c. enters (walk (n - 1) 2) c (Wide 0 0 0))) (stopped x (walk n 1 Nothing u start) (λ c. enters (walk (n - 1) 2) c (Wide 0 0 0)) h)

  -- it doesn't, and so it is as with its body
  pub body_then : (c : Shape) (j : Tally) → walk n 1 Nothing u start ≡ Shaped c j → applied_in n u ≡ told (enters (walk (n - 1) 2) c (Wide 0 0 0) j)
  body_then c j h = ap (λ o. told (next o (λ c. enters (walk (n - 1) 2) c (Wide 0 0 0)))) h

  pub body_stops : (c : Shape) (j : Tally) (x : ShapeFault) → walk n 1 Nothing u start ≡ Shaped c j → StopsAt x (enters (walk (n - 1) 2) c (Wide 0 0 0) j) → StopsAt x (applied_in n u)
  body_stops c j x h s = to (StopsAt x) _ _ (body_then c j h) (told_stops x (enters (walk (n - 1) 2) c (Wide 0 0 0) j) s)
