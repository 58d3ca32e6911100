-- The elements of bags, by their places and as values.
use Rattle.std.proofs.Common.{◌≡◌, ℕ, zero, suc, ◌<◌, List, [], ◌∷◌, length, get_or, refl, ap, arith, ◌∙◌, sym}
use Rattle.metric_values.specs.Values.{BangF, Flat, InlF, InrF, NumF, PairF, TextF, UnitF, Value, value_of}
use Rattle.run_values.specs.Flats.{AllFlat, flat_of, flats_of}
use Rattle.run_values.specs.Parts.{elements}

pub length_flats : (vs : List Value) → length (flats_of vs) ≡ length vs
length_flats [] = refl
length_flats (v ∷ vs) = ap suc (length_flats vs)

pub flat_at : (d : Value) (vs : List Value) (i : ℕ) → AllFlat vs → i < length vs → value_of (get_or (flats_of vs) i UnitF) ≡ get_or vs i d
flat_at d [] i f h = absurd (omega arith)
flat_at d (v ∷ vs) zero f h = f.0
flat_at d (v ∷ vs) (suc i) f h = flat_at d vs i f.1 (omega arith)

pub list_size : (v : Value) (vs : List Value) → elements v ≡ flats_of vs → length (elements v) ≡ length vs
list_size v vs h = ap length h ∙ length_flats vs

pub list_item : (v : Value) (vs : List Value) → elements v ≡ flats_of vs → AllFlat vs → (d : Value) (i : ℕ) → i < length vs → get_or vs i d ≡ value_of (get_or (elements v) i UnitF)
list_item v vs h f d i l = sym (ap (λ xs. value_of (get_or xs i UnitF)) h ∙ flat_at d vs i f l)

-- an element as a value is that element
pub flat_of_value : (x : Flat) → flat_of (value_of x) ≡ x
flat_of_value (NumF z) = refl
flat_of_value (TextF s) = refl
flat_of_value UnitF = refl
flat_of_value (PairF a b) = rw (flat_of_value a, flat_of_value b) refl
flat_of_value (InlF a) = ap InlF (flat_of_value a)
flat_of_value (InrF a) = ap InrF (flat_of_value a)
flat_of_value (BangF a) = ap BangF (flat_of_value a)
