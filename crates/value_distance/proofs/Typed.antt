-- What a typed value is, and what is answered for it, by the form of its type.
use Rattle.std.proofs.Common.{◌≡◌, ◌≤◌, refl, ap, arith, sym, ◌∙◌, subst, Bool, true, false, Option, Some, None, cond, ℕ, inl, inr}
use Rattle.std.specs.Prelude.{◌&&◌, ◌||◌, ◌↔◌, Err, IfSome, IsNone, IsTrue, Ok, Result, bytes_eq, nat_le, not}
use Rattle.std.specs.Bool.{beq}
use Rattle.std.specs.Option.{ok_or}
use Rattle.std.proofs.lemmas.Bool.Decides.{nat_tests}
use Rattle.fz_ast.specs.Types.{BagT, BangT, NumT, SumT, TensorT, TextT, Ty, UnitT, WithT}
use Rattle.fz_frac.specs.Distance.{Distance, Fin, Inf, add, greater, mul, none}
use Rattle.fz_frac.specs.Lowest.{lowest}
use Rattle.metric_values.specs.Distances.{bag_distance, distance_between, gap}
use Rattle.metric_values.specs.Typed.{TypedGround}
use Rattle.metric_values.specs.Values.{BagV, BangV, InlV, InrV, NumV, PairV, TextV, UnitV, Value}
use Rattle.run_values.specs.Parts.{IsBag, IsBangValue, IsNum, IsPair, IsSum, IsTextValue, banged_in, elements, first_in, number_in, second_in, side_in, text_in}
use Rattle.value_distance.specs.declared.dist.Dist.{Dist}
use Rattle.value_distance.specs.declared.dist.Dist.TheVariants.{Finite, Inf as Endless}
use Rattle.value_distance.specs.declared.dist.DistFault.{DistFault}
use Rattle.value_distance.specs.declared.dist.DistFault.TheVariants.{Range, NoMemory as OutOfMemory}
use Rattle.value_distance.specs.Answers.{AreHalves, IsDistanceAnswer, answered}
use Rattle.value_distance.specs.Widths.{greatest_of_63_bits, fits_63_bits, is_too_wide, some_wide}
use Rattle.value_distance.proofs.Halved.{lowest_greater, lowest_product, lowest_sum}

pub number_of : (v : Value) → TypedGround NumT v → IsNum v
number_of (NumV z) h = refl
number_of v h = absurd h

pub text_value_of : (v : Value) → TypedGround TextT v → IsTextValue v
text_value_of (TextV s) h = refl
text_value_of v h = absurd h

pub unit_of : (v : Value) → TypedGround UnitT v → v ≡ UnitV
unit_of UnitV h = refl
unit_of v h = absurd h

pub tensor_of : (A B : Ty) (v : Value) → TypedGround (TensorT A B) v → IsPair v × TypedGround A (first_in v) × TypedGround B (second_in v)
tensor_of A B (PairV a b) h = (refl, h.0, h.1)
tensor_of A B v h = absurd h

pub with_of : (A B : Ty) (v : Value) → TypedGround (WithT A B) v → IsPair v × TypedGround A (first_in v) × TypedGround B (second_in v)
with_of A B (PairV a b) h = (refl, h.0, h.1)
with_of A B v h = absurd h

pub sum_of : (A B : Ty) (v : Value) → TypedGround (SumT A B) v → IsSum v
sum_of A B (InlV a) h = inl refl
sum_of A B (InrV a) h = inr refl
sum_of A B v h = absurd h

pub left_of : (A B : Ty) (v : Value) → TypedGround (SumT A B) v → v ≡ InlV (side_in v) → TypedGround A (side_in v)
left_of A B (InlV a) h e = h
left_of A B v h e = cc

pub right_of : (A B : Ty) (v : Value) → TypedGround (SumT A B) v → v ≡ InrV (side_in v) → TypedGround B (side_in v)
right_of A B (InrV a) h e = h
right_of A B v h e = cc

pub bang_of : (r : Distance) (A : Ty) (v : Value) → TypedGround (BangT r A) v → IsBangValue v × TypedGround A (banged_in v)
bang_of r A (BangV a) h = (refl, h)
bang_of r A v h = absurd h

pub bag_of : (A : Ty) (v : Value) → TypedGround (BagT A) v → IsBag v
bag_of A (BagV xs) h = refl
bag_of A v h = absurd h

-- what is answered, form by form

not_wide : (b c : Bool) → (IsTrue b → c ≡ false) → c ≡ true → b ≡ false
not_wide true c h k = let e = h refl in cc
not_wide false c h k = refl

-- where the distance alone decides
pub answered_by : (A : Ty) (v w : Value) (d : Distance) (o : Option Dist) → lowest d ≡ lowest (distance_between A v w) → some_wide A v w ≡ is_too_wide (distance_between A v w) → IfSome o (λ x. answered x ≡ lowest d) → (IsNone o ↔ IsTrue (is_too_wide d)) → IsDistanceAnswer (ok_or o Range) A v w
answered_by A v w d (Some x) e f g h =
    let k : is_too_wide d ≡ is_too_wide (distance_between A v w) = ap (λ m. not (fits_63_bits m)) e in
    let n : is_too_wide d ≡ false = not_wide (is_too_wide d) true h.1 refl in (g ∙ e, f ∙ sym k ∙ n)
answered_by A v w d None e f g h =
    let k : is_too_wide d ≡ is_too_wide (distance_between A v w) = ap (λ m. not (fits_63_bits m)) e in f ∙ sym k ∙ h.0 refl

-- what code keeps fits
kept_fits : (z : Dist) → fits_63_bits (answered z) ≡ true
kept_fits (Finite r) = let h = r.narrow in fit r.p r.q h.0 h.1
  where
    fit : (a b : ℕ) → a ≤ greatest_of_63_bits → b ≤ greatest_of_63_bits → (nat_le a greatest_of_63_bits && nat_le b greatest_of_63_bits) ≡ true
    fit a b h k = grind (arith, nat_tests)
kept_fits Endless = refl

kept_narrow : (z : Dist) (d : Distance) → answered z ≡ lowest d → is_too_wide d ≡ false
kept_narrow z d e = ap (λ m. not (fits_63_bits m)) (sym e) ∙ ap not (kept_fits z)

pub tensor_answer : (A B : Ty) (v w : Value) (x y : Dist) (o : Option Dist) → IsPair v → IsPair w → IsDistanceAnswer (Ok x) A (first_in v) (first_in w) → IsDistanceAnswer (Ok y) B (second_in v) (second_in w)
    → IfSome o (λ z. answered z ≡ lowest (add (answered x) (answered y))) → (IsNone o ↔ IsTrue (is_too_wide (add (answered x) (answered y)))) → IsDistanceAnswer (ok_or o Range) (TensorT A B) v w
tensor_answer A B (PairV a b) (PairV c d) x y o p q h k f g =
    answered_by (TensorT A B) (PairV a b) (PairV c d) (add (answered x) (answered y)) o
    ((λ i. lowest (add (h.0 i) (k.0 i))) ∙ lowest_sum (distance_between A a c) (distance_between B b d))
    (λ i. h.1 i || k.1 i || is_too_wide (distance_between (TensorT A B) (PairV a b) (PairV c d)))
    f g
tensor_answer A B v w x y o p q h k f g = cc

pub with_answer : (A B : Ty) (v w : Value) (x y z : Dist) → IsPair v → IsPair w → IsDistanceAnswer (Ok x) A (first_in v) (first_in w) → IsDistanceAnswer (Ok y) B (second_in v) (second_in w)
    → answered z ≡ greater (answered x) (answered y) → IsDistanceAnswer (Ok z) (WithT A B) v w
with_answer A B (PairV a b) (PairV c d) x y z p q h k e =
    let f : answered z ≡ lowest (distance_between (WithT A B) (PairV a b) (PairV c d)) = e ∙ (λ i. greater (h.0 i) (k.0 i)) ∙ lowest_greater (distance_between A a c) (distance_between B b d) in
    let n = kept_narrow z (distance_between (WithT A B) (PairV a b) (PairV c d)) f in
    (f, λ i. h.1 i || k.1 i || n i)
with_answer A B v w x y z p q h k e = cc

pub bang_answer : (r : Distance) (A : Ty) (v w : Value) (x : Dist) (o : Option Dist) → IsBangValue v → IsBangValue w → IsDistanceAnswer (Ok x) A (banged_in v) (banged_in w)
    → IfSome o (λ z. answered z ≡ lowest (mul r (answered x))) → (IsNone o ↔ IsTrue (is_too_wide (mul r (answered x)))) → IsDistanceAnswer (ok_or o Range) (BangT r A) v w
bang_answer r A (BangV a) (BangV b) x o p q h f g =
    answered_by (BangT r A) (BangV a) (BangV b) (mul r (answered x)) o
    ((λ i. lowest (mul r (h.0 i))) ∙ lowest_product r (distance_between A a b))
    (λ i. h.1 i || is_too_wide (distance_between (BangT r A) (BangV a) (BangV b)))
    f g
bang_answer r A v w x o p q h f g = cc

pub left_answer : (A B : Ty) (v w : Value) (r : Result Dist DistFault) → v ≡ InlV (side_in v) → w ≡ InlV (side_in w) → IsDistanceAnswer r A (side_in v) (side_in w) → IsDistanceAnswer r (SumT A B) v w
left_answer A B (InlV a) (InlV b) (Ok x) p q h = h
left_answer A B (InlV a) (InlV b) (Err Range) p q h = h
left_answer A B (InlV a) (InlV b) (Err OutOfMemory) p q h = tt
left_answer A B v w r p q h = cc

pub right_answer : (A B : Ty) (v w : Value) (r : Result Dist DistFault) → v ≡ InrV (side_in v) → w ≡ InrV (side_in w) → IsDistanceAnswer r B (side_in v) (side_in w) → IsDistanceAnswer r (SumT A B) v w
right_answer A B (InrV a) (InrV b) (Ok x) p q h = h
right_answer A B (InrV a) (InrV b) (Err Range) p q h = h
right_answer A B (InrV a) (InrV b) (Err OutOfMemory) p q h = tt
right_answer A B v w r p q h = cc

pub left_right_answer : (A B : Ty) (v w : Value) → v ≡ InlV (side_in v) → w ≡ InrV (side_in w) → IsDistanceAnswer (Ok Endless) (SumT A B) v w
left_right_answer A B (InlV a) (InrV b) p q = (refl, refl)
left_right_answer A B v w p q = cc

pub right_left_answer : (A B : Ty) (v w : Value) → v ≡ InrV (side_in v) → w ≡ InlV (side_in w) → IsDistanceAnswer (Ok Endless) (SumT A B) v w
right_left_answer A B (InrV a) (InlV b) p q = (refl, refl)
right_left_answer A B v w p q = cc

pub number_answer : (v w : Value) (n : ℕ) (o : Option Dist) → IsNum v → IsNum w → n ≡ gap (number_in v) (number_in w) → IfSome o (λ z. answered z ≡ lowest (Fin n 1)) → (IsNone o ↔ IsTrue (is_too_wide (Fin n 1))) → IsDistanceAnswer (ok_or o Range) NumT v w
number_answer (NumV y) (NumV z) n o p q e f g = answered_by NumT (NumV y) (NumV z) (Fin n 1) o (λ i. lowest (Fin (e i) 1)) refl f g
number_answer v w n o p q e f g = cc

pub unit_answer : (v w : Value) (o : Option Dist) → v ≡ UnitV → w ≡ UnitV → IfSome o (λ z. answered z ≡ lowest (Fin 0 1)) → (IsNone o ↔ IsTrue (is_too_wide (Fin 0 1))) → IsDistanceAnswer (ok_or o Range) UnitT v w
unit_answer UnitV UnitV o p q f g = answered_by UnitT UnitV UnitV (Fin 0 1) o refl refl f g
unit_answer v w o p q f g = cc

pub same_text_answer : (v w : Value) (o : Option Dist) → IsTextValue v → IsTextValue w → bytes_eq (text_in v) (text_in w) ≡ true → IfSome o (λ z. answered z ≡ lowest (Fin 0 1)) → (IsNone o ↔ IsTrue (is_too_wide (Fin 0 1))) → IsDistanceAnswer (ok_or o Range) TextT v w
same_text_answer (TextV s) (TextV t) o p q e f g = answered_by TextT (TextV s) (TextV t) (Fin 0 1) o (ap (λ b. lowest (cond b none Inf)) (sym e)) refl f g
same_text_answer v w o p q e f g = cc

pub other_text_answer : (v w : Value) → IsTextValue v → IsTextValue w → bytes_eq (text_in v) (text_in w) ≡ false → IsDistanceAnswer (Ok Endless) TextT v w
other_text_answer (TextV s) (TextV t) p q e = (ap (λ b. lowest (cond b none Inf)) (sym e), ap (λ b. is_too_wide (cond b none Inf)) e)
other_text_answer v w p q e = cc

pub bag_answer : (A : Ty) (v w : Value) (n : ℕ) (o : Option Dist) → IsBag v → IsBag w → n ≡ bag_distance (elements v) (elements w) → IfSome o (λ z. answered z ≡ lowest (Fin n 1)) → (IsNone o ↔ IsTrue (is_too_wide (Fin n 1))) → IsDistanceAnswer (ok_or o Range) (BagT A) v w
bag_answer A (BagV xs) (BagV ys) n o p q e f g = answered_by (BagT A) (BagV xs) (BagV ys) (Fin n 1) o (λ i. lowest (Fin (e i) 1)) refl f g
bag_answer A v w n o p q e f g = cc

-- a fault of a part is one of the whole

or_true : (b c : Bool) → (b || true || c) ≡ true
or_true true c = refl
or_true false c = refl

pub tensor_first_fault : (A B : Ty) (v w : Value) (e : DistFault) → IsPair v → IsPair w → IsDistanceAnswer (Err e) A (first_in v) (first_in w) → IsDistanceAnswer (Err e) (TensorT A B) v w
tensor_first_fault A B (PairV a b) (PairV c d) Range p q h = λ i. h i || some_wide B b d || is_too_wide (distance_between (TensorT A B) (PairV a b) (PairV c d))
tensor_first_fault A B (PairV a b) (PairV c d) OutOfMemory p q h = tt
tensor_first_fault A B v w e p q h = cc

pub tensor_second_fault : (A B : Ty) (v w : Value) (e : DistFault) → IsPair v → IsPair w → IsDistanceAnswer (Err e) B (second_in v) (second_in w) → IsDistanceAnswer (Err e) (TensorT A B) v w
tensor_second_fault A B (PairV a b) (PairV c d) Range p q h = (λ i. some_wide A a c || h i || is_too_wide (distance_between (TensorT A B) (PairV a b) (PairV c d))) ∙ or_true (some_wide A a c) (is_too_wide (distance_between (TensorT A B) (PairV a b) (PairV c d)))
tensor_second_fault A B (PairV a b) (PairV c d) OutOfMemory p q h = tt
tensor_second_fault A B v w e p q h = cc

pub with_first_fault : (A B : Ty) (v w : Value) (e : DistFault) → IsPair v → IsPair w → IsDistanceAnswer (Err e) A (first_in v) (first_in w) → IsDistanceAnswer (Err e) (WithT A B) v w
with_first_fault A B (PairV a b) (PairV c d) Range p q h = λ i. h i || some_wide B b d || is_too_wide (distance_between (WithT A B) (PairV a b) (PairV c d))
with_first_fault A B (PairV a b) (PairV c d) OutOfMemory p q h = tt
with_first_fault A B v w e p q h = cc

pub with_second_fault : (A B : Ty) (v w : Value) (e : DistFault) → IsPair v → IsPair w → IsDistanceAnswer (Err e) B (second_in v) (second_in w) → IsDistanceAnswer (Err e) (WithT A B) v w
with_second_fault A B (PairV a b) (PairV c d) Range p q h = (λ i. some_wide A a c || h i || is_too_wide (distance_between (WithT A B) (PairV a b) (PairV c d))) ∙ or_true (some_wide A a c) (is_too_wide (distance_between (WithT A B) (PairV a b) (PairV c d)))
with_second_fault A B (PairV a b) (PairV c d) OutOfMemory p q h = tt
with_second_fault A B v w e p q h = cc

pub bang_fault : (r : Distance) (A : Ty) (v w : Value) (e : DistFault) → IsBangValue v → IsBangValue w → IsDistanceAnswer (Err e) A (banged_in v) (banged_in w) → IsDistanceAnswer (Err e) (BangT r A) v w
bang_fault r A (BangV a) (BangV b) Range p q h = λ i. h i || is_too_wide (distance_between (BangT r A) (BangV a) (BangV b))
bang_fault r A (BangV a) (BangV b) OutOfMemory p q h = tt
bang_fault r A v w e p q h = cc

pub tensor_fault : (A B : Ty) (v w : Value) (e : DistFault) → IsPair v → IsPair w → AreHalves (Err e) A B v w → IsDistanceAnswer (Err e) (TensorT A B) v w
tensor_fault A B v w e p q (inl h) = tensor_first_fault A B v w e p q h
tensor_fault A B v w e p q (inr h) = tensor_second_fault A B v w e p q h

pub with_fault : (A B : Ty) (v w : Value) (e : DistFault) → IsPair v → IsPair w → AreHalves (Err e) A B v w → IsDistanceAnswer (Err e) (WithT A B) v w
with_fault A B v w e p q (inl h) = with_first_fault A B v w e p q h
with_fault A B v w e p q (inr h) = with_second_fault A B v w e p q h

-- what is returned at a type that is known by an equation, for parts that are known by equations

pub tensor_returned : (T A B : Ty) (v w : Value) (x y : Dist) (o : Option Dist) (r : Result Dist DistFault) → T ≡ TensorT A B → TypedGround T v → TypedGround T w → AreHalves (Ok (x, y)) A B v w
    → IfSome o (λ z. answered z ≡ lowest (add (answered x) (answered y))) → (IsNone o ↔ IsTrue (is_too_wide (add (answered x) (answered y)))) → r ≡ ok_or o Range → IsDistanceAnswer r T v w
tensor_returned T A B v w x y o r e g h k m n q =
    let p = tensor_of A B v (subst (λ (X : Ty). TypedGround X v) e g) in
    let s = tensor_of A B w (subst (λ (X : Ty). TypedGround X w) e h) in
    subst (λ (a : Result Dist DistFault). IsDistanceAnswer a T v w) (sym q) (subst (λ (X : Ty). IsDistanceAnswer (ok_or o Range) X v w) (sym e) (tensor_answer A B v w x y o p.0 s.0 k.0 k.1 m n))

pub with_returned : (T A B : Ty) (v w : Value) (x y z : Dist) → T ≡ WithT A B → TypedGround T v → TypedGround T w → AreHalves (Ok (x, y)) A B v w
    → answered z ≡ greater (answered x) (answered y) → IsDistanceAnswer (Ok z) T v w
with_returned T A B v w x y z e g h k m =
    let p = with_of A B v (subst (λ (X : Ty). TypedGround X v) e g) in
    let s = with_of A B w (subst (λ (X : Ty). TypedGround X w) e h) in
    subst (λ (X : Ty). IsDistanceAnswer (Ok z) X v w) (sym e) (with_answer A B v w x y z p.0 s.0 k.0 k.1 m)

pub bang_returned : (r : Distance) (A : Ty) (v w a b : Value) (x : Dist) (o : Option Dist) (s : Result Dist DistFault) → IsBangValue v → IsBangValue w → a ≡ banged_in v → b ≡ banged_in w → IsDistanceAnswer (Ok x) A a b
    → IfSome o (λ z. answered z ≡ lowest (mul r (answered x))) → (IsNone o ↔ IsTrue (is_too_wide (mul r (answered x)))) → s ≡ ok_or o Range → IsDistanceAnswer s (BangT r A) v w
bang_returned r A v w a b x o s p q e f h m n k =
    let inside = subst (λ (u : Value). IsDistanceAnswer (Ok x) A u (banged_in w)) e (subst (λ (u : Value). IsDistanceAnswer (Ok x) A a u) f h) in
    subst (λ (y : Result Dist DistFault). IsDistanceAnswer y (BangT r A) v w) (sym k) (bang_answer r A v w x o p q inside m n)

pub not_unequal : (b c : Bool) → not (beq b c) ≡ false → b ≡ c
not_unequal true true h = refl
not_unequal true false h = cc
not_unequal false true h = cc
not_unequal false false h = refl

pub left_returned : (A B : Ty) (v w a b : Value) (r : Result Dist DistFault) → v ≡ InlV (side_in v) → w ≡ InlV (side_in w) → a ≡ side_in v → b ≡ side_in w → IsDistanceAnswer r A a b → IsDistanceAnswer r (SumT A B) v w
left_returned A B v w a b r p q e f h =
    left_answer A B v w r p q (subst (λ (u : Value). IsDistanceAnswer r A u (side_in w)) e (subst (λ (u : Value). IsDistanceAnswer r A a u) f h))

pub right_returned : (A B : Ty) (v w a b : Value) (r : Result Dist DistFault) → v ≡ InrV (side_in v) → w ≡ InrV (side_in w) → a ≡ side_in v → b ≡ side_in w → IsDistanceAnswer r B a b → IsDistanceAnswer r (SumT A B) v w
right_returned A B v w a b r p q e f h =
    right_answer A B v w r p q (subst (λ (u : Value). IsDistanceAnswer r B u (side_in w)) e (subst (λ (u : Value). IsDistanceAnswer r B a u) f h))
