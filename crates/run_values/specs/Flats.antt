-- The elements of bags as values.
use Rattle.std.specs.Prelude.{◌≡◌, List, [], ◌∷◌, ⊤}
use Rattle.metric_values.specs.Values.{Flat, NumF, TextF, UnitF, PairF, InlF, InrF, BangF, Value, NumV, TextV, UnitV, PairV, InlV, InrV, BangV}
use Rattle.metric_values.specs.Values.{value_of}

-- the element that a value is, where it is one
abbrev pub flat_of : Value → Flat
flat_of (NumV z) = NumF z
flat_of (TextV s) = TextF s
flat_of UnitV = UnitF
flat_of (PairV a b) = PairF (flat_of a) (flat_of b)
flat_of (InlV a) = InlF (flat_of a)
flat_of (InrV a) = InrF (flat_of a)
flat_of (BangV a) = BangF (flat_of a)
flat_of v = UnitF

abbrev pub flats_of : List Value → List Flat
flats_of [] = []
flats_of (v ∷ vs) = flat_of v ∷ flats_of vs

-- neither functions nor bags inside
abbrev pub IsFlat : Value → Type 0
IsFlat v = value_of (flat_of v) ≡ v

abbrev pub AllFlat : List Value → Type 0
AllFlat [] = ⊤
AllFlat (v ∷ vs) = IsFlat v × AllFlat vs
