-- The numbers in an arena of types that stand in another list.
use Rattle.std.specs.Prelude.{◌≡◌, ℕ, ◌<◌, List, length, slice_index}
use Rattle.fz_ast.specs.Types.{Ty}
use Rattle.fz_ast.specs.TypeNodes.{type_at}

-- the number n of U is the type A
pub record IsNumberOf (U : List Ty) (n : ℕ) (A : Ty) : Type 0 where
  pub known : n < length U
  pub is : type_at U n ≡ A

-- the numbers m, in U, are those of the first types of T
pub record AreNumbers (T U : List Ty) (m : List ℕ) : Type 0 where
  pub each : (i : ℕ) → i < length m → IsNumberOf U (slice_index m i) (type_at T i)

-- each type of T has its number in U
pub record AreWritten (T U : List Ty) (m : List ℕ) : Type 0 where
  pub all : length m ≡ length T
  pub numbers : AreNumbers T U m
