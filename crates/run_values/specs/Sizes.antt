-- How deep values are. No function stands in them.
use Rattle.std.specs.Prelude.{ℕ, suc, max, List, [], ◌∷◌}
use Rattle.metric_values.specs.Values.{Flat, NumF, TextF, UnitF, PairF, InlF, InrF, BangF, Value, PairV, InlV, InrV, BangV, BagV}

abbrev pub flat_size : Flat → ℕ
flat_size (NumF z) = 0
flat_size (TextF s) = 0
flat_size UnitF = 0
flat_size (PairF a b) = suc (max (flat_size a) (flat_size b))
flat_size (InlF a) = suc (flat_size a)
flat_size (InrF a) = suc (flat_size a)
flat_size (BangF a) = suc (flat_size a)

abbrev pub flats_size : List Flat → ℕ
flats_size [] = 0
flats_size (x ∷ xs) = max (flat_size x) (flats_size xs)

abbrev pub value_size : Value → ℕ
value_size (PairV a b) = suc (max (value_size a) (value_size b))
value_size (InlV a) = suc (value_size a)
value_size (InrV a) = suc (value_size a)
value_size (BangV a) = suc (value_size a)
value_size (BagV xs) = suc (flats_size xs)
value_size v = 0
