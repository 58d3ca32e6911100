-- What is found of a type by its number.
use Rattle.std.specs.Prelude.{◌≡◌, ℕ, ◌<◌, List, length, Option, Some, None}
use Rattle.fz_frac.specs.Distance.{Inf}
use Rattle.fz_ast.specs.Types.{Ty, ArrowT, BangT, UnlimitedT}
use Rattle.fz_ast.specs.TypeNodes.{type_at}

-- the type number t is A
abbrev pub IsTyped : List Ty → ℕ → Ty → Type 0
IsTyped T t A = (t < length T) × (type_at T t ≡ A)

-- what an unlimited function takes and gives
abbrev pub taken_and_given : Ty → Option (Ty × Ty)
taken_and_given (ArrowT (BangT Inf A) B) = Some (A, B)
taken_and_given A = None

-- the numbers of these
abbrev pub AreParts : List Ty → Option (ℕ × ℕ) → Ty → Type 0
AreParts T (Some x) A = (x.0 < length T) × (x.1 < length T) × (A ≡ UnlimitedT (type_at T x.0) (type_at T x.1))
AreParts T None A = taken_and_given A ≡ None
