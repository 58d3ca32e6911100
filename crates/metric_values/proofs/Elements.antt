-- Tests on numbers, texts and elements decide equality.
use Rattle.std.proofs.Common.{ap, arith, refl}
use Rattle.std.proofs.lemmas.Int.{ints}
use Rattle.std.proofs.lemmas.Slice.Eq.{bytes_eq-Decides}
use Rattle.std.specs.Prelude.{Bool, List, bytes_eq, false, int_le, true, ℕ, ℤ, ◌&&◌, ◌≡◌}
use Rattle.metric_values.specs.Distances.{same_element, same_number}
use Rattle.metric_values.specs.Values.{BangF, Flat, InlF, InrF, NumF, PairF, TextF, UnitF}

pub and_is : (a b : Bool) → (a && b) ≡ true → (a ≡ true) × (b ≡ true)
and_is true b h = (refl, h)
and_is false b h = cc

pub text_is : (s t : List ℕ) → bytes_eq s t ≡ true → s ≡ t
text_is s t h = (bytes_eq-Decides s t).0 h

pub text_refl : (s : List ℕ) → bytes_eq s s ≡ true
text_refl s = (bytes_eq-Decides s s).1 refl

pub number_is : (y z : ℤ) → same_number y z ≡ true → y ≡ z
number_is y z h = let k = and_is (int_le y z) (int_le z y) h in grind (arith, ints, k.0, k.1)

pub number_refl : (z : ℤ) → same_number z z ≡ true
number_refl z = grind (arith, ints)

pub same_element_is : (x y : Flat) → same_element x y ≡ true → x ≡ y
same_element_is (NumF y) (NumF z) h = ap NumF (number_is y z h)
same_element_is (TextF s) (TextF t) h = ap TextF (text_is s t h)
same_element_is UnitF UnitF h = refl
same_element_is (PairF a b) (PairF c d) h = let k = and_is (same_element a c) (same_element b d) h in let e = same_element_is a c k.0 in let f = same_element_is b d k.1 in cc
same_element_is (InlF a) (InlF b) h = ap InlF (same_element_is a b h)
same_element_is (InrF a) (InrF b) h = ap InrF (same_element_is a b h)
same_element_is (BangF a) (BangF b) h = ap BangF (same_element_is a b h)
same_element_is x y h = cc

pub same_element_refl : (x : Flat) → same_element x x ≡ true
same_element_refl (NumF z) = number_refl z
same_element_refl (TextF s) = text_refl s
same_element_refl UnitF = refl
same_element_refl (PairF a b) = rw (same_element_refl a, same_element_refl b)
same_element_refl (InlF a) = same_element_refl a
same_element_refl (InrF a) = same_element_refl a
same_element_refl (BangF a) = same_element_refl a
