-- Names in scope with their types, and types that can be written.
use Rattle.std.specs.Prelude.{◌≡◌, true, false, [], ◌∷◌, ℤ, unsigned_abs, max, bytes_eq, ⊤}
use Rattle.fz_frac.specs.Distance.{Distance, Fin, none, one}
use Rattle.fz_ast.specs.Types.{Ty, WellFormed, formed}
use Rattle.fz_ast.specs.Terms.{Name}
use Rattle.fz_ast.specs.Limits.{TypeLimits}
use Rattle.term_meanings.specs.Sensitivities.{Sensitivities}

-- names with their types, the innermost first
pub data Context : Type 0 where
  Closed : Context
  Under : (x : Name) (A : Ty) (Γ : Context) → Context

-- the innermost x of the context has type A; its sensitivity is 1 at its place
pub data IsBound : Context → Name → Ty → Sensitivities → Type 0 where
  here : {x y : Name} {A : Ty} {Γ : Context} → bytes_eq y x ≡ true → IsBound (Under y A Γ) x A (one ∷ [])
  there : {x y : Name} {A B : Ty} {Γ : Context} {D : Sensitivities} → bytes_eq y x ≡ false → IsBound Γ x A D → IsBound (Under y B Γ) x A (none ∷ D)

-- a type that can be written: well formed, with bang numbers above 0
pub record IsType (A : Ty) : Type 0 where
  pub well_formed : formed A ≡ WellFormed
  pub limits : TypeLimits A

-- the size of a factor
abbrev pub size_of : ℤ → Distance
size_of k = Fin (unsigned_abs k) 1

-- the greater size of two bounds
abbrev pub widest_of : ℤ → ℤ → Distance
widest_of lo hi = Fin (max (unsigned_abs lo) (unsigned_abs hi)) 1

-- each name has a type that can be written
abbrev pub AllTypes : Context → Type 0
AllTypes Closed = ⊤
AllTypes (Under x A Γ) = IsType A × AllTypes Γ
