-- The names in scope as the code has them, the innermost first: their types are numbers in an arena, T being its types.
use Rattle.std.specs.Prelude.{◌≡◌, ℕ, ◌<◌, List, [], ◌∷◌, length, Option, Some, None, ⊤}
use Rattle.fz_ast.specs.Names.{name_of}
use Rattle.fz_ast.specs.Types.{Ty}
use Rattle.fz_ast.specs.TypeNodes.{type_at}
use Rattle.term_meanings.specs.Scopes.{Context, Closed, Under}
use Rattle.derivation_rows.specs.declared.scope.Bound.{Bound}

abbrev pub context_in : List Ty → List Bound → Context
context_in T [] = Closed
context_in T (b ∷ bs) = Under (name_of b.name) (type_at T b.ty) (context_in T bs)

abbrev pub AllInScope : List Ty → List Bound → Type 0
AllInScope T [] = ⊤
AllInScope T (b ∷ bs) = (b.ty < length T) × AllInScope T bs

-- each name's type is in the arena
pub record HasKnownTypes (T : List Ty) (scope : List Bound) : Type 0 where
  pub all : AllInScope T scope

-- the number of this type, or none where there is none
abbrev pub IsTypeNumber : List Ty → Option ℕ → Option Ty → Type 0
IsTypeNumber T (Some n) (Some A) = type_at T n ≡ A
IsTypeNumber T (Some n) None = ⊥
IsTypeNumber T None (Some A) = ⊥
IsTypeNumber T None None = ⊤
