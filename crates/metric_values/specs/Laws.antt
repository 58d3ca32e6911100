-- What is proved of distances of values.
use Rattle.std.specs.List.Sorted.{IsPermutation}
use Rattle.std.specs.Prelude.{List, length, ℕ, ◌+◌, ◌↔◌, ◌≡◌, ◌≤◌}
use Rattle.fz_frac.specs.Distance.{add, none, ◌⊑◌}
use Rattle.fz_ast.specs.Limits.{TypeLimits}
use Rattle.fz_ast.specs.Types.{Ty}
use Rattle.metric_values.specs.Distances.{SameUpToOrder, bag_distance, distance_between}
use Rattle.metric_values.specs.Pairing.{Differ}
use Rattle.metric_values.specs.Tables.{Dataset, SameRows, apart}
use Rattle.metric_values.specs.Values.{Flat, Value}

-- distance 0 is equality up to the order of bags
abbrev pub ZeroIsSame : Type 0
ZeroIsSame = (A : Ty) (v w : Value) → TypeLimits A → (distance_between A v w ⊑ none) ↔ SameUpToOrder A v w

abbrev pub Symmetric : Type 0
Symmetric = (A : Ty) (v w : Value) → distance_between A v w ⊑ distance_between A w v

abbrev pub Triangle : Type 0
Triangle = (A : Ty) (u v w : Value) → distance_between A u w ⊑ add (distance_between A u v) (distance_between A v w)

-- what removal leaves can be paired off so, and no pairing leaves fewer
abbrev pub RemovalLeavesLeast : Type 0
RemovalLeavesLeast = (xs ys : List Flat) → Differ xs ys (bag_distance xs ys) × ((n : ℕ) → Differ xs ys n → bag_distance xs ys ≤ n)

abbrev pub BagZeroIsPermutation : Type 0
BagZeroIsPermutation = (xs ys : List Flat) → (bag_distance xs ys ≡ 0) ↔ IsPermutation xs ys

abbrev pub BagSymmetric : Type 0
BagSymmetric = (xs ys : List Flat) → bag_distance xs ys ≡ bag_distance ys xs

abbrev pub BagTriangle : Type 0
BagTriangle = (xs ys zs : List Flat) → bag_distance xs zs ≤ bag_distance xs ys + bag_distance ys zs

abbrev pub ApartSymmetric : Type 0
ApartSymmetric = (X Y : Dataset) → apart X Y ≡ apart Y X

abbrev pub ApartTriangle : Type 0
ApartTriangle = (X Y Z : Dataset) → length X ≡ length Y → length Y ≡ length Z → apart X Z ≤ apart X Y + apart Y Z

abbrev pub ApartZeroIsSameRows : Type 0
ApartZeroIsSameRows = (X Y : Dataset) → length X ≡ length Y → (apart X Y ≡ 0) ↔ SameRows X Y
