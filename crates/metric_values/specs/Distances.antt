-- The distance of two values of a ground type.
use Rattle.std.specs.Prelude.{◌≡◌, ℕ, suc, List, [], ◌∷◌, length, Option, Some, None, cond, Bool, true, false, ◌&&◌, ℤ, ◌-ℤ◌, unsigned_abs, int_le, bytes_eq, ⊤}
use Rattle.std.specs.List.Sorted.{IsPermutation}
use Rattle.fz_frac.specs.Distance.{Distance, Fin, Inf, none, add, mul, greater}
use Rattle.fz_ast.specs.Types.{Ty, NumT, TextT, UnitT, TensorT, WithT, SumT, BangT, BagT}
use Rattle.metric_values.specs.Values.{Flat, NumF, TextF, UnitF, PairF, InlF, InrF, BangF, Value, NumV, TextV, UnitV, PairV, InlV, InrV, BangV, BagV}

-- |x - y|
abbrev pub gap : ℤ → ℤ → ℕ
gap x y = unsigned_abs (x -ℤ y)

abbrev pub same_number : ℤ → ℤ → Bool
same_number y z = int_le y z && int_le z y

-- whole elements are compared for equality
abbrev pub same_element : Flat → Flat → Bool
same_element (NumF y) (NumF z) = same_number y z
same_element (TextF s) (TextF t) = bytes_eq s t
same_element UnitF UnitF = true
same_element (PairF a b) (PairF c d) = same_element a c && same_element b d
same_element (InlF a) (InlF b) = same_element a b
same_element (InrF a) (InrF b) = same_element a b
same_element (BangF a) (BangF b) = same_element a b
same_element a b = false

-- the list without the first element that equals x, if there is one
abbrev pub without : Flat → List Flat → Option (List Flat)
without x [] = None
without x (y ∷ ys) = cond (same_element x y) (Some ys) (elim (without x ys) [ None ↦ None | Some zs ↦ Some (y ∷ zs) ])

-- each element of the first list is removed from the second, one for one, and what is left on both sides is counted
abbrev pub bag_distance : List Flat → List Flat → ℕ
bag_distance [] ys = length ys
bag_distance (x ∷ xs) ys = elim (without x ys) [ None ↦ suc (bag_distance xs ys) | Some zs ↦ bag_distance xs zs ]

-- values that aren't both of the type are at inf
abbrev pub distance_between : Ty → Value → Value → Distance
distance_between NumT (NumV y) (NumV z) = Fin (gap y z) 1
distance_between TextT (TextV s) (TextV t) = cond (bytes_eq s t) none Inf
distance_between UnitT UnitV UnitV = none
distance_between (TensorT A B) (PairV a b) (PairV c d) = add (distance_between A a c) (distance_between B b d)
distance_between (WithT A B) (PairV a b) (PairV c d) = greater (distance_between A a c) (distance_between B b d)
distance_between (SumT A B) (InlV a) (InlV b) = distance_between A a b
distance_between (SumT A B) (InrV a) (InrV b) = distance_between B a b
distance_between (SumT A B) (InlV a) (InrV b) = Inf
distance_between (SumT A B) (InrV a) (InlV b) = Inf
distance_between (BangT r A) (BangV a) (BangV b) = mul r (distance_between A a b)
distance_between (BagT A) (BagV xs) (BagV ys) = Fin (bag_distance xs ys) 1
distance_between A v w = Inf

-- values of a ground type that are equal up to the order of their bags
abbrev pub SameUpToOrder : Ty → Value → Value → Type 0
SameUpToOrder NumT (NumV y) (NumV z) = y ≡ z
SameUpToOrder TextT (TextV s) (TextV t) = s ≡ t
SameUpToOrder UnitT UnitV UnitV = ⊤
SameUpToOrder (TensorT A B) (PairV a b) (PairV c d) = SameUpToOrder A a c × SameUpToOrder B b d
SameUpToOrder (WithT A B) (PairV a b) (PairV c d) = SameUpToOrder A a c × SameUpToOrder B b d
SameUpToOrder (SumT A B) (InlV a) (InlV b) = SameUpToOrder A a b
SameUpToOrder (SumT A B) (InrV a) (InrV b) = SameUpToOrder B a b
SameUpToOrder (BangT r A) (BangV a) (BangV b) = SameUpToOrder A a b
SameUpToOrder (BagT A) (BagV xs) (BagV ys) = IsPermutation xs ys
SameUpToOrder A v w = ⊥
