-- The names in scope, the innermost first, their types being numbers in an arena.
use Rattle.std.specs.Prelude.{◌≡◌, ℕ, zero, suc, ◌<◌, true, false, List, [], ◌∷◌, length, bytes_eq, ⊤}
use Rattle.fz_ast.specs.Names.{name_of}
use Rattle.fz_ast.specs.Terms.{Name}
use Rattle.fz_ast.specs.Types.{Ty}
use Rattle.fz_ast.specs.TypeNodes.{type_at}
use Rattle.linear_types.specs.Typing.{Context, Closed, Under}
use Rattle.sensitivity_check.specs.declared.scope.Bound.{Bound}

abbrev pub context_in : List Ty → List Bound → Context
context_in T [] = Closed
context_in T (b ∷ bs) = Under (name_of b.name) (type_at T b.ty) (context_in T bs)

abbrev pub AllInScope : List Ty → List Bound → Type 0
AllInScope T [] = ⊤
AllInScope T (b ∷ bs) = (b.ty < length T) × AllInScope T bs

-- each name's type is in T
pub record HasKnownTypes (T : List Ty) (scope : List Bound) : Type 0 where
  pub all : AllInScope T scope

-- no name in scope is x
abbrev pub IsUnbound : Name → List Bound → Type 0
IsUnbound x [] = ⊤
IsUnbound x (b ∷ bs) = (bytes_eq (name_of b.name) x ≡ false) × IsUnbound x bs

-- the innermost x has i names inside it
abbrev pub IsInnermost : Name → List Bound → ℕ → Type 0
IsInnermost x [] i = ⊥
IsInnermost x (b ∷ bs) zero = bytes_eq (name_of b.name) x ≡ true
IsInnermost x (b ∷ bs) (suc i) = (bytes_eq (name_of b.name) x ≡ false) × IsInnermost x bs i
