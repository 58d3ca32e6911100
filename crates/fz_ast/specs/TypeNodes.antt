-- The types that numbered nodes stand for: each node's parts are nodes before it.
use Rattle.std.specs.Prelude.{◌≡◌, ℕ, ◌+◌, ◌<◌, ◌≤◌, List, [], ◌∷◌, ◌++◌, length, ⊤}
use Rattle.std.proofs.Common.{get_or}
use Rattle.fz_frac.specs.Sens.{distance_of}
use Rattle.fz_ast.specs.Types.{Ty, NumT, TextT, UnitT, TensorT, WithT, SumT, ArrowT, BangT}
use Rattle.fz_ast.specs.Types.{BagT, is_ground, is_flat, Formed as IsFormed, WellFormed, UngroundSum, UnflatBag, formed}
use Rattle.fz_ast.specs.Limits.{IsBang, TypeLimits}
use Rattle.fz_ast.specs.Depth.{type_depth}
use Rattle.fz_ast.specs.declared.types.Formed.{Formed}
use Rattle.fz_ast.specs.declared.types.Formed.TheVariants.{WellFormed as Well, UngroundSum as HasSum, UnflatBag as HasBag}
use Rattle.fz_ast.specs.declared.types.TypeForm.{TypeForm}
use Rattle.fz_ast.specs.declared.types.TypeForm.TheVariants.{Num, Text, Unit as One, Tensor, With, Sum, Arrow, Bang, Bag}
use Rattle.fz_ast.specs.declared.types.TypeNode.{TypeNode}

-- type number i of a list
unfoldable pub type_at : List Ty → ℕ → Ty
type_at T i = get_or T i NumT

-- the type of this form, at(i) being the type number i
abbrev pub type_of : (ℕ → Ty) → TypeForm → Ty
type_of at Num = NumT
type_of at Text = TextT
type_of at One = UnitT
type_of at (Tensor a b) = TensorT (at a) (at b)
type_of at (With a b) = WithT (at a) (at b)
type_of at (Sum a b) = SumT (at a) (at b)
type_of at (Arrow a b) = ArrowT (at a) (at b)
type_of at (Bang r a) = BangT (distance_of r) (at a)
type_of at (Bag a) = BagT (at a)

-- its parts' numbers are below n
abbrev pub IsKnownType : ℕ → TypeForm → Type 0
IsKnownType n Num = ⊤
IsKnownType n Text = ⊤
IsKnownType n One = ⊤
IsKnownType n (Tensor a b) = (a < n) × (b < n)
IsKnownType n (With a b) = (a < n) × (b < n)
IsKnownType n (Sum a b) = (a < n) × (b < n)
IsKnownType n (Arrow a b) = (a < n) × (b < n)
IsKnownType n (Bang r a) = a < n
IsKnownType n (Bag a) = a < n

-- a bang number is above 0
abbrev pub HasBang : TypeForm → Type 0
HasBang (Bang r a) = IsBang (distance_of r)
HasBang form = ⊤

abbrev pub formed_of : Formed → IsFormed
formed_of Well = WellFormed
formed_of HasSum = UngroundSum
formed_of HasBag = UnflatBag

-- the types of nodes that come after those of T
abbrev pub types_after : List Ty → List TypeNode → List Ty
types_after T [] = T
types_after T (n ∷ ns) = types_after (T ++ type_of (type_at T) n.form ∷ []) ns

-- what node k keeps of its type A
pub record Notes (A : Ty) (k : ℕ) (n : TypeNode) : Type 0 where
  pub limits : TypeLimits A
  pub ground : n.ground ≡ is_ground A
  pub flat : n.flat ≡ is_flat A
  pub formed : formed_of n.formed ≡ formed A
  pub depth : n.depth ≡ type_depth A
  pub shallow : n.depth ≤ k + 1

-- node k stands for type number k of T
pub record Describes (T : List Ty) (k : ℕ) (n : TypeNode) : Type 0 where
  pub form : type_at T k ≡ type_of (type_at T) n.form
  pub known : IsKnownType k n.form
  pub notes : Notes (type_at T k) k n

pub record AreTypes (T : List Ty) (ns : List TypeNode) : Type 0 where
  pub size : length T ≡ length ns
  pub each : (k : ℕ) (n : TypeNode) → k < length ns → Describes T k (get_or ns k n)
