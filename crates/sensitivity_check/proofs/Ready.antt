-- What the walk needs stays so when the arena grows, and inside one more name.
use Rattle.std.proofs.Common.{◌≡◌, ℕ, ◌+◌, ◌*◌, ◌<◌, arith, List, ◌∷◌, length}
use Rattle.std.specs.Prelude.{max, slice_index}
use Rattle.fz_ast.specs.Arena.{Grows}
use Rattle.fz_ast.specs.Parts.{Parts}
use Rattle.fz_ast.specs.TypeNodes.{type_at}
use Rattle.fz_ast.specs.Types.{Ty}
use Rattle.sensitivity_check.specs.Judging.{IsReady}
use Rattle.sensitivity_check.specs.Written.{AreWritten}
use Rattle.sensitivity_check.specs.declared.scope.Bound.{Bound}
use Rattle.sensitivity_check.proofs.Numbers.{written_at, written_grows}
use Rattle.sensitivity_check.proofs.Scopes.{scope_grows, scope_under}

pub ready_grows : (N : Parts) (T U : List Ty) (m : List ℕ) (bs : List Bound) → Grows T U → IsReady N T m bs → IsReady N U m bs
ready_grows N T U m bs g h = record { written = written_grows N.types T U m g h.written; scope = scope_grows T U bs g h.scope }

pub ready_under : (N : Parts) (T : List Ty) (m : List ℕ) (bs cs : List Bound) (b : Bound) → cs ≡ b ∷ bs → b.ty < length T → IsReady N T m bs → IsReady N T m cs
ready_under N T m bs cs b e k h = record { written = h.written; scope = scope_under T bs cs b e k h.scope }

-- a written type has its number, which is in the arena
pub written_bound : (T U : List Ty) (m : List ℕ) (i : ℕ) → AreWritten T U m → i < length T → i < length m
written_bound T U m i h l = let e = h.all in omega arith

pub number_known : (T U : List Ty) (m : List ℕ) (i n : ℕ) → n ≡ slice_index m i → AreWritten T U m → i < length T → n < length U
number_known T U m i n e h l = rw e (h.numbers.each i (written_bound T U m i h l)).known

pub number_at : (T U : List Ty) (m : List ℕ) (i n : ℕ) → n ≡ slice_index m i → AreWritten T U m → i < length T → type_at U n ≡ type_at T i
number_at T U m i n e h l = rw e (written_at T U m i h l)

-- a part's number is below its node's, and so a step down the term is a smaller measure
pub part_known : (a i n : ℕ) → a < i → i < n → a < n
part_known a i n k l = omega arith

pub below_1 : (a i : ℕ) → a < i → 4 * a + 2 < 4 * i
below_1 a i k = omega arith

pub below_2 : (a b i : ℕ) → a < i → b < i → 4 * max a b + 2 < 4 * i
below_2 a b i k l = omega arith

pub below_3 : (a b c i : ℕ) → a < i → b < i → c < i → 4 * max a (max b c) + 2 < 4 * i
below_3 a b c i k l m = omega arith
