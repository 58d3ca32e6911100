-- Types: which are ground, flat and well formed, and when two are the same.
use Rattle.std.specs.Prelude.{Bool, true, false, nat_eq, ◌&&◌}
use Rattle.fz_frac.specs.Distance.{Distance, Fin, Inf}

pub data Ty : Type 0 where
  NumT : Ty
  TextT : Ty
  UnitT : Ty
  -- A * B
  TensorT : (a b : Ty) → Ty
  -- A & B
  WithT : (a b : Ty) → Ty
  -- A + B
  SumT : (a b : Ty) → Ty
  -- A -o B
  ArrowT : (a b : Ty) → Ty
  -- ![r] A
  BangT : (r : Distance) (a : Ty) → Ty
  -- bag A
  BagT : (a : Ty) → Ty

-- bool
abbrev pub BoolT : Ty
BoolT = SumT UnitT UnitT

-- A -> B
abbrev pub UnlimitedT : Ty → Ty → Ty
UnlimitedT A B = ArrowT (BangT Inf A) B

-- no function inside
abbrev pub is_ground : Ty → Bool
is_ground NumT = true
is_ground TextT = true
is_ground UnitT = true
is_ground (TensorT A B) = is_ground A && is_ground B
is_ground (WithT A B) = is_ground A && is_ground B
is_ground (SumT A B) = is_ground A && is_ground B
is_ground (ArrowT A B) = false
is_ground (BangT r A) = is_ground A
is_ground (BagT A) = is_ground A

-- ground, and no bag inside
abbrev pub is_flat : Ty → Bool
is_flat NumT = true
is_flat TextT = true
is_flat UnitT = true
is_flat (TensorT A B) = is_flat A && is_flat B
is_flat (WithT A B) = is_flat A && is_flat B
is_flat (SumT A B) = is_flat A && is_flat B
is_flat (ArrowT A B) = false
is_flat (BangT r A) = is_flat A
is_flat (BagT A) = false

-- what is wrong with a type: a sum's side isn't ground, or a bag's element isn't flat
pub data Formed : Type 0 where
  WellFormed : Formed
  UngroundSum : Formed
  UnflatBag : Formed

-- the first fault of two parts
abbrev pub both : Formed → Formed → Formed
both WellFormed g = g
both UngroundSum g = UngroundSum
both UnflatBag g = UnflatBag

abbrev pub unless : Bool → Formed → Formed → Formed
unless true f g = g
unless false f g = f

-- the first fault of a type, the outermost first, in written order
abbrev pub formed : Ty → Formed
formed NumT = WellFormed
formed TextT = WellFormed
formed UnitT = WellFormed
formed (TensorT A B) = both (formed A) (formed B)
formed (WithT A B) = both (formed A) (formed B)
formed (SumT A B) = unless (is_ground A && is_ground B) UngroundSum (both (formed A) (formed B))
formed (ArrowT A B) = both (formed A) (formed B)
formed (BangT r A) = formed A
formed (BagT A) = unless (is_flat A) UnflatBag (formed A)

-- the same numerator and denominator: bang numbers are kept in lowest terms
abbrev pub same_bang : Distance → Distance → Bool
same_bang (Fin p q) (Fin r s) = nat_eq p r && nat_eq q s
same_bang Inf Inf = true
same_bang a b = false

-- the same tree
abbrev pub same_type : Ty → Ty → Bool
same_type NumT NumT = true
same_type TextT TextT = true
same_type UnitT UnitT = true
same_type (TensorT A B) (TensorT A' B') = same_type A A' && same_type B B'
same_type (WithT A B) (WithT A' B') = same_type A A' && same_type B B'
same_type (SumT A B) (SumT A' B') = same_type A A' && same_type B B'
same_type (ArrowT A B) (ArrowT A' B') = same_type A A' && same_type B B'
same_type (BangT r A) (BangT s B) = same_bang r s && same_type A B
same_type (BagT A) (BagT B) = same_type A B
same_type A B = false
