-- Elements gathered one by one.
use Rattle.std.proofs.Common.{◌≡◌, ◌<◌, ◌+◌, refl, ap, sym, ◌∙◌, arith, List, [], ◌∷◌, ◌++◌, ℕ, zero, suc, length, map, take, get_or}
use Rattle.metric_values.specs.Values.{Flat, UnitF, Value, value_of}
use Rattle.run_values.specs.Flats.{AllFlat, IsFlat, flat_of, flats_of}
use Rattle.run_values.proofs.Bags.{flat_of_value}

pub one_flat_more : (vs : List Value) (i : ℕ) (d : Value) → i < length vs → flats_of (take (i + 1) vs) ≡ flats_of (take i vs) ++ flat_of (get_or vs i d) ∷ []
one_flat_more [] i d h = absurd (omega arith)
one_flat_more (v ∷ vs) zero d h = refl
one_flat_more (v ∷ vs) (suc i) d h = let e : suc i + 1 ≡ suc (i + 1) = omega arith in rw e (ap (λ xs. flat_of v ∷ xs) (one_flat_more vs i d (omega arith)))

flats_pushed : (vs : List Value) (v : Value) → flats_of (vs ++ v ∷ []) ≡ flats_of vs ++ flat_of v ∷ []
flats_pushed [] v = refl
flats_pushed (u ∷ vs) v = ap (λ xs. flat_of u ∷ xs) (flats_pushed vs v)

all_flat_pushed : (vs : List Value) (v : Value) → AllFlat vs → IsFlat v → AllFlat (vs ++ v ∷ [])
all_flat_pushed [] v a h = (h, tt)
all_flat_pushed (u ∷ vs) v a h = (a.0, all_flat_pushed vs v a.1 h)

pub one_element_more : (xs : List Flat) (i : ℕ) → i < length xs → take (i + 1) xs ≡ take i xs ++ get_or xs i UnitF ∷ []
one_element_more [] i h = absurd (omega arith)
one_element_more (x ∷ xs) zero h = refl
one_element_more (x ∷ xs) (suc i) h = let e : suc i + 1 ≡ suc (i + 1) = omega arith in rw e (ap (λ ys. x ∷ ys) (one_element_more xs i (omega arith)))

pub gathered : (vs : List Value) (v : Value) (xs : List Flat) (i : ℕ) → i < length xs → v ≡ value_of (get_or xs i UnitF) → flats_of vs ≡ take i xs → AllFlat vs → (flats_of (vs ++ v ∷ []) ≡ take (i + 1) xs) × AllFlat (vs ++ v ∷ [])
gathered vs v xs i l e f a =
    let x = get_or xs i UnitF in
    let b : flat_of v ≡ x = ap flat_of e ∙ flat_of_value x in
    let c : IsFlat v = ap value_of b ∙ sym e in
    (flats_pushed vs v ∙ (λ k. f k ++ b k ∷ []) ∙ sym (one_element_more xs i l), all_flat_pushed vs v a c)

pub mapped_pushed : {H : Type 0} (f : H → Flat) (hs : List H) (h : H) → map f (hs ++ h ∷ []) ≡ map f hs ++ f h ∷ []
mapped_pushed f [] h = refl
mapped_pushed f (g ∷ hs) h = ap (λ xs. f g ∷ xs) (mapped_pushed f hs h)

pub one_longer : {H : Type 0} (hs : List H) (h : H) (i : ℕ) → length hs ≡ i → length (hs ++ h ∷ []) ≡ i + 1
one_longer [] h i e = omega (arith, e)
one_longer (g ∷ hs) h i e = let f = one_longer hs h (length hs) refl in omega (arith, e, f)

pub held_more : {H : Type 0} (f : H → Flat) (hs : List H) (h : H) (vs : List Value) (i : ℕ) (v : Value) → i < length vs → v ≡ get_or vs i v → f h ≡ flat_of v → map f hs ≡ flats_of (take i vs) → map f (hs ++ h ∷ []) ≡ flats_of (take (i + 1) vs)
held_more f hs h vs i v l e g m = mapped_pushed f hs h ∙ (λ k. m k ++ (g ∙ ap flat_of e) k ∷ []) ∙ sym (one_flat_more vs i v l)
