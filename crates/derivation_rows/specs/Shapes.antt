-- The types that the code's shapes stand for, and what it finds of a type: numbers are those of types in an arena, T being its types.
use Rattle.std.specs.Prelude.{Bool, true, false, ℕ, ◌<◌, ◌≡◌, List, length, Option, Some, None, ⊤}
use Rattle.fz_frac.specs.Distance.{Inf}
use Rattle.fz_frac.specs.Sens.{distance_of}
use Rattle.fz_frac.specs.declared.sens.Sens.{Sens}
use Rattle.fz_ast.specs.Limits.{IsBang}
use Rattle.fz_ast.specs.Types.{Ty, TensorT, SumT, ArrowT, BangT, BoolT, UnlimitedT}
use Rattle.fz_ast.specs.TypeNodes.{HasBang, IsKnownType, type_at, type_of}
use Rattle.derivation_rows.specs.Rows.{is_tensor, is_sum}
use Rattle.derivation_rows.specs.declared.shape.Shape.{Shape}
use Rattle.derivation_rows.specs.declared.shape.Shape.TheVariants.{Known, Of, Truth, Unlimited}

-- T is the arena's types
abbrev pub shape_type : List Ty → Shape → Ty
shape_type T (Known n) = type_at T n
shape_type T (Of form) = type_of (type_at T) form
shape_type T Truth = BoolT
shape_type T (Unlimited a b) = UnlimitedT (type_at T a) (type_at T b)

abbrev pub is_bang : Ty → Bool
is_bang (BangT r A) = true
is_bang T = false

abbrev pub is_unlimited : Ty → Bool
is_unlimited (ArrowT (BangT Inf A) B) = true
is_unlimited T = false

-- its parts are below n
abbrev pub IsKnownShape : ℕ → Shape → Type 0
IsKnownShape n (Known a) = a < n
IsKnownShape n (Of form) = IsKnownType n form × HasBang form
IsKnownShape n Truth = ⊤
IsKnownShape n (Unlimited a b) = (a < n) × (b < n)

-- the numbers of the sides of A * B, and that any other type is no such
abbrev pub AreTensorParts : List Ty → Option (ℕ × ℕ) → Ty → Type 0
AreTensorParts T (Some x) A = (x.0 < length T) × (x.1 < length T) × (A ≡ TensorT (type_at T x.0) (type_at T x.1))
AreTensorParts T None A = is_tensor A ≡ false

-- the numbers of the sides of A + B, and that any other type is no such
abbrev pub AreSumParts : List Ty → Option (ℕ × ℕ) → Ty → Type 0
AreSumParts T (Some x) A = (x.0 < length T) × (x.1 < length T) × (A ≡ SumT (type_at T x.0) (type_at T x.1))
AreSumParts T None A = is_sum A ≡ false

-- the number of ![r] A and that of A, and that any other type is no such
abbrev pub AreBangParts : List Ty → Option (Sens × ℕ) → Ty → Type 0
AreBangParts T (Some x) A = IsBang (distance_of x.0) × (x.1 < length T) × (A ≡ BangT (distance_of x.0) (type_at T x.1))
AreBangParts T None A = is_bang A ≡ false

-- the numbers of what an unlimited function takes and gives, and that any other type is none
abbrev pub AreUnlimitedParts : List Ty → Option (ℕ × ℕ) → Ty → Type 0
AreUnlimitedParts T (Some x) A = (x.0 < length T) × (x.1 < length T) × (A ≡ UnlimitedT (type_at T x.0) (type_at T x.1))
AreUnlimitedParts T None A = is_unlimited A ≡ false
