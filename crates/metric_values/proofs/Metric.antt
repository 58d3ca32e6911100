-- Distance is a metric up to the order of bags.
use Rattle.std.proofs.Common.{arith, inl, inr, refl, ⊎_elim}
use Rattle.std.proofs.lemmas.Int.{ints}
use Rattle.std.specs.Prelude.{Bool, List, [], bytes_eq, cond, false, length, suc, true, zero, ℕ, ℤ, ◌*◌, ◌+◌, ◌∷◌, ◌≡◌, ◌≤◌, ◌⊎◌}
use Rattle.fz_frac.proofs.Laws.{add-comm, add-none, add-swap, greater-least, greater-left, greater-right, mul-add, mul-none, none-add, none-least, ⊑-inf, ⊑-refl, ◌⊕◌, ◌⊗◌, ◌⨾◌}
use Rattle.fz_frac.specs.Distance.{Distance, Fin, Inf, add, den, mul, none, ◌⊑◌}
use Rattle.fz_ast.specs.Limits.{IsBang, TypeLimits}
use Rattle.fz_ast.specs.Types.{ArrowT, BagT, BangT, NumT, SumT, TensorT, TextT, Ty, UnitT, WithT}
use Rattle.metric_values.proofs.Elements.{text_is, text_refl}
use Rattle.metric_values.proofs.Removal.{permuted_zero, removal_flips, removal_symmetric, removal_triangle, zero_permuted}
use Rattle.metric_values.specs.Distances.{SameUpToOrder, distance_between, gap}
use Rattle.metric_values.specs.Tables.{Dataset, SameRows, apart}
use Rattle.metric_values.specs.Values.{BagV, BangV, Flat, InlV, InrV, NumV, PairV, TextV, UnitV, Value}

-- both values have the outermost form that the type's values have
data Shaped : Ty → Value → Type 0 where
  a_num : {z : ℤ} → Shaped NumT (NumV z)
  a_text : {s : List ℕ} → Shaped TextT (TextV s)
  a_unit : Shaped UnitT UnitV
  a_pair : {A B : Ty} {a b : Value} → Shaped (TensorT A B) (PairV a b)
  a_with : {A B : Ty} {a b : Value} → Shaped (WithT A B) (PairV a b)
  an_inl : {A B : Ty} {a : Value} → Shaped (SumT A B) (InlV a)
  an_inr : {A B : Ty} {a : Value} → Shaped (SumT A B) (InrV a)
  a_bang : {r : Distance} {A : Ty} {a : Value} → Shaped (BangT r A) (BangV a)
  a_bag : {A : Ty} {xs : List Flat} → Shaped (BagT A) (BagV xs)

-- others are at inf
view : (A : Ty) (v w : Value) → (Shaped A v × Shaped A w) ⊎ (Inf ⊑ distance_between A v w)
view NumT (NumV y) (NumV z) = inl (a_num, a_num)
view TextT (TextV s) (TextV t) = inl (a_text, a_text)
view UnitT UnitV UnitV = inl (a_unit, a_unit)
view (TensorT A B) (PairV a b) (PairV c d) = inl (a_pair, a_pair)
view (WithT A B) (PairV a b) (PairV c d) = inl (a_with, a_with)
view (SumT A B) (InlV a) (InlV b) = inl (an_inl, an_inl)
view (SumT A B) (InlV a) (InrV b) = inl (an_inl, an_inr)
view (SumT A B) (InrV a) (InlV b) = inl (an_inr, an_inl)
view (SumT A B) (InrV a) (InrV b) = inl (an_inr, an_inr)
view (BangT r A) (BangV a) (BangV b) = inl (a_bang, a_bang)
view (BagT A) (BagV xs) (BagV ys) = inl (a_bag, a_bag)
view A v w = inr (⊑-refl Inf)

same_view : (A : Ty) (v w : Value) → SameUpToOrder A v w → Shaped A v × Shaped A w
same_view NumT (NumV y) (NumV z) h = (a_num, a_num)
same_view TextT (TextV s) (TextV t) h = (a_text, a_text)
same_view UnitT UnitV UnitV h = (a_unit, a_unit)
same_view (TensorT A B) (PairV a b) (PairV c d) h = (a_pair, a_pair)
same_view (WithT A B) (PairV a b) (PairV c d) h = (a_with, a_with)
same_view (SumT A B) (InlV a) (InlV b) h = (an_inl, an_inl)
same_view (SumT A B) (InrV a) (InrV b) h = (an_inr, an_inr)
same_view (BangT r A) (BangV a) (BangV b) h = (a_bang, a_bang)
same_view (BagT A) (BagV xs) (BagV ys) h = (a_bag, a_bag)
same_view A v w h = absurd h

-- numbers

gap_flips : (y z : ℤ) → gap y z ≤ gap z y
gap_flips y z = omega (arith, ints)

gap_triangle : (x y z : ℤ) → gap x z ≤ gap x y + gap y z
gap_triangle x y z = omega (arith, ints)

pub gap_zero : (y z : ℤ) → gap y z ≤ 0 → y ≡ z
gap_zero y z h = grind (arith, ints)

gap_self : (z : ℤ) → gap z z ≤ 0
gap_self z = omega (arith, ints)

pub whole : (m n : ℕ) → m ≤ n → Fin m 1 ⊑ Fin n 1
whole m n h = record { le = omega arith }

pub whole_none : (n : ℕ) → Fin n 1 ⊑ none → n ≤ 0
whole_none n h = let k : n * 1 ≤ 0 * 1 = h.le in omega arith

pub whole_sum : (k m n : ℕ) → k ≤ m + n → Fin k 1 ⊑ add (Fin m 1) (Fin n 1)
whole_sum k m n h = record { le = omega arith }

left_part : (a b : Distance) → a ⊑ add a b
left_part a b = none-add a ⨾ add-comm none a ⨾ (⊑-refl a ⊕ none-least b)

right_part : (a b : Distance) → b ⊑ add a b
right_part a b = none-add b ⨾ (none-least a ⊕ ⊑-refl b)

-- symmetry

text_flips : (s t : List ℕ) → cond (bytes_eq s t) none Inf ⊑ cond (bytes_eq t s) none Inf
text_flips s t = go (bytes_eq t s) refl
  where
    go : (b : Bool) → bytes_eq t s ≡ b → cond (bytes_eq s t) none Inf ⊑ cond b none Inf
    go true e = let f : t ≡ s = text_is t s e in rw (f, text_refl s) (⊑-refl none)
    go false e = ⊑-inf _

by_shape : (A : Ty) (v w : Value) → (Shaped A v → Shaped A w → distance_between A v w ⊑ distance_between A w v) → distance_between A v w ⊑ distance_between A w v
by_shape A v w f = ⊎_elim (λ h. f h.1 h.0) (λ h. ⊑-inf _ ⨾ h) (view A w v)

flips : (A : Ty) (v w : Value) → Shaped A v → Shaped A w → distance_between A v w ⊑ distance_between A w v
flips NumT _ _ (a_num {z = y}) (a_num {z = z}) = whole _ _ (gap_flips y z)
flips TextT _ _ (a_text {s = s}) (a_text {s = t}) = text_flips s t
flips UnitT _ _ a_unit a_unit = ⊑-refl none
flips (TensorT A B) _ _ (a_pair {a = a} {b = b}) (a_pair {a = c} {b = d}) = by_shape A a c (flips A a c) ⊕ by_shape B b d (flips B b d)
flips (WithT A B) _ _ (a_with {a = a} {b = b}) (a_with {a = c} {b = d}) =
    greater-least _ _ _ (by_shape A a c (flips A a c) ⨾ greater-left _ (distance_between B d b)) (by_shape B b d (flips B b d) ⨾ greater-right (distance_between A c a) _)
flips (SumT A B) _ _ (an_inl {a = a}) (an_inl {a = c}) = by_shape A a c (flips A a c)
flips (SumT A B) _ _ an_inl an_inr = ⊑-refl Inf
flips (SumT A B) _ _ an_inr an_inl = ⊑-refl Inf
flips (SumT A B) _ _ (an_inr {a = a}) (an_inr {a = c}) = by_shape B a c (flips B a c)
flips (ArrowT A B) v w h k = ⊑-refl Inf
flips (BangT r A) _ _ (a_bang {a = a}) (a_bang {a = c}) = ⊑-refl r ⊗ by_shape A a c (flips A a c)
flips (BagT A) _ _ (a_bag {xs = xs}) (a_bag {xs = ys}) = whole _ _ (removal_flips ys xs)

pub symmetric : (A : Ty) (v w : Value) → distance_between A v w ⊑ distance_between A w v
symmetric A v w = by_shape A v w (flips A v w)

-- the triangle

text_triangle : (s t u : List ℕ) → cond (bytes_eq s u) none Inf ⊑ add (cond (bytes_eq s t) none Inf) (cond (bytes_eq t u) none Inf)
text_triangle s t u = go (bytes_eq s t) refl (bytes_eq t u) refl
  where
    go : (b : Bool) → bytes_eq s t ≡ b → (c : Bool) → bytes_eq t u ≡ c → cond (bytes_eq s u) none Inf ⊑ add (cond b none Inf) (cond c none Inf)
    go true e true f = let g : s ≡ t = text_is s t e in let h : t ≡ u = text_is t u f in rw (g, h, text_refl u) (none-least _)
    go true e false f = ⊑-inf _
    go false e true f = ⊑-inf _
    go false e false f = ⊑-inf _

inf_left : (d : Distance) → Inf ⊑ add Inf d
inf_left d = left_part Inf d

inf_right : (d : Distance) → Inf ⊑ add d Inf
inf_right d = right_part d Inf

abbrev Bends : Ty → Value → Value → Value → Type 0
Bends A u v w = distance_between A u w ⊑ add (distance_between A u v) (distance_between A v w)

by_shapes : (A : Ty) (u v w : Value) → (Shaped A u → Shaped A v → Shaped A w → Bends A u v w) → Bends A u v w
by_shapes A u v w f = ⊎_elim
    (λ h. ⊎_elim (λ k. f h.0 h.1 k.1) (λ k. ⊑-inf _ ⨾ k ⨾ right_part (distance_between A u v) _) (view A v w))
    (λ h. ⊑-inf _ ⨾ h ⨾ left_part _ (distance_between A v w))
    (view A u v)

bends : (A : Ty) (u v w : Value) → Shaped A u → Shaped A v → Shaped A w → Bends A u v w
bends NumT _ _ _ (a_num {z = x}) (a_num {z = y}) (a_num {z = z}) = whole_sum _ _ _ (gap_triangle x y z)
bends TextT _ _ _ (a_text {s = s}) (a_text {s = t}) (a_text {s = u}) = text_triangle s t u
bends UnitT _ _ _ a_unit a_unit a_unit = none-least _
bends (TensorT A B) _ _ _ (a_pair {a = a} {b = b}) (a_pair {a = c} {b = d}) (a_pair {a = e} {b = f}) =
    (by_shapes A a c e (bends A a c e) ⊕ by_shapes B b d f (bends B b d f)) ⨾ add-swap (distance_between A a c) (distance_between A c e) (distance_between B b d) (distance_between B d f)
bends (WithT A B) _ _ _ (a_with {a = a} {b = b}) (a_with {a = c} {b = d}) (a_with {a = e} {b = f}) = greater-least _ _ _
    (by_shapes A a c e (bends A a c e) ⨾ (greater-left _ (distance_between B b d) ⊕ greater-left _ (distance_between B d f)))
    (by_shapes B b d f (bends B b d f) ⨾ (greater-right (distance_between A a c) _ ⊕ greater-right (distance_between A c e) _))
bends (SumT A B) _ _ _ (an_inl {a = a}) (an_inl {a = c}) (an_inl {a = e}) = by_shapes A a c e (bends A a c e)
bends (SumT A B) _ _ _ (an_inl {a = a}) (an_inl {a = c}) an_inr = inf_right (distance_between A a c)
bends (SumT A B) _ _ _ an_inl an_inr an_inl = ⊑-inf _
bends (SumT A B) _ _ _ an_inl (an_inr {a = c}) (an_inr {a = e}) = inf_left (distance_between B c e)
bends (SumT A B) _ _ _ an_inr (an_inl {a = c}) (an_inl {a = e}) = inf_left (distance_between A c e)
bends (SumT A B) _ _ _ an_inr an_inl an_inr = ⊑-inf _
bends (SumT A B) _ _ _ (an_inr {a = a}) (an_inr {a = c}) an_inl = inf_right (distance_between B a c)
bends (SumT A B) _ _ _ (an_inr {a = a}) (an_inr {a = c}) (an_inr {a = e}) = by_shapes B a c e (bends B a c e)
bends (ArrowT A B) u v w h k l = ⊑-inf _
bends (BangT r A) _ _ _ (a_bang {a = a}) (a_bang {a = c}) (a_bang {a = e}) = (⊑-refl r ⊗ by_shapes A a c e (bends A a c e)) ⨾ mul-add r (distance_between A a c) (distance_between A c e)
bends (BagT A) _ _ _ (a_bag {xs = xs}) (a_bag {xs = ys}) (a_bag {xs = zs}) = whole_sum _ _ _ (removal_triangle xs ys zs)

pub triangle : (A : Ty) (u v w : Value) → Bends A u v w
triangle A u v w = by_shapes A u v w (bends A u v w)

-- distance 0

text_zero : (s t : List ℕ) → cond (bytes_eq s t) none Inf ⊑ none → s ≡ t
text_zero s t = go (bytes_eq s t) refl
  where
    go : (b : Bool) → bytes_eq s t ≡ b → cond b none Inf ⊑ none → s ≡ t
    go true e h = text_is s t e
    go false e h = absurd h.le

positive : (p q : ℕ) → IsBang (Fin p q) → 1 ≤ p
positive p q h = h.0

-- a factor above 0 leaves nothing at 0 but what was
pub no_divisor : (r c : Distance) → IsBang r → mul r c ⊑ none → c ⊑ none
no_divisor (Fin zero q) c b h = let k = positive 0 q b in absurd (omega arith)
no_divisor (Fin (suc p) q) (Fin zero s) b h = record { le = omega arith }
no_divisor (Fin (suc p) q) (Fin (suc r) s) b h = let l : suc p * suc r * 1 ≤ 0 * den (den q * den s) = h.le in absurd (omega arith)
no_divisor (Fin (suc p) q) Inf b h = absurd h.le
no_divisor Inf (Fin zero s) b h = record { le = omega arith }
no_divisor Inf (Fin (suc r) s) b h = absurd h.le
no_divisor Inf Inf b h = absurd h.le

not_far : {d : Distance} → Inf ⊑ d → d ⊑ none → ⊥
not_far h k = (h ⨾ k).le

by_zero : (A : Ty) (v w : Value) → (Shaped A v → Shaped A w → SameUpToOrder A v w) → distance_between A v w ⊑ none → SameUpToOrder A v w
by_zero A v w f h = ⊎_elim (λ k. f k.0 k.1) (λ k. absurd (not_far k h)) (view A v w)

zeros : (A : Ty) (v w : Value) → TypeLimits A → distance_between A v w ⊑ none → Shaped A v → Shaped A w → SameUpToOrder A v w
zeros NumT _ _ l h (a_num {z = y}) (a_num {z = z}) = gap_zero y z (whole_none _ h)
zeros TextT _ _ l h (a_text {s = s}) (a_text {s = t}) = text_zero s t h
zeros UnitT _ _ l h a_unit a_unit = tt
zeros (TensorT A B) _ _ l h (a_pair {a = a} {b = b}) (a_pair {a = c} {b = d}) =
    let f = left_part (distance_between A a c) (distance_between B b d) ⨾ h in let g = right_part (distance_between A a c) (distance_between B b d) ⨾ h in
    (by_zero A a c (zeros A a c l.0 f) f, by_zero B b d (zeros B b d l.1 g) g)
zeros (WithT A B) _ _ l h (a_with {a = a} {b = b}) (a_with {a = c} {b = d}) =
    let f = greater-left (distance_between A a c) (distance_between B b d) ⨾ h in let g = greater-right (distance_between A a c) (distance_between B b d) ⨾ h in
    (by_zero A a c (zeros A a c l.0 f) f, by_zero B b d (zeros B b d l.1 g) g)
zeros (SumT A B) _ _ l h (an_inl {a = a}) (an_inl {a = c}) = by_zero A a c (zeros A a c l.0 h) h
zeros (SumT A B) _ _ l h an_inl an_inr = absurd h.le
zeros (SumT A B) _ _ l h an_inr an_inl = absurd h.le
zeros (SumT A B) _ _ l h (an_inr {a = a}) (an_inr {a = c}) = by_zero B a c (zeros B a c l.1 h) h
zeros (ArrowT A B) v w l h j k = absurd h.le
zeros (BangT r A) _ _ l h (a_bang {a = a}) (a_bang {a = c}) = let f = no_divisor r (distance_between A a c) l.0 h in by_zero A a c (zeros A a c l.1 f) f
zeros (BagT A) _ _ l h (a_bag {xs = xs}) (a_bag {xs = ys}) = let n = whole_none _ h in zero_permuted xs ys (omega (arith, n))

pub zero_same : (A : Ty) (v w : Value) → TypeLimits A → distance_between A v w ⊑ none → SameUpToOrder A v w
zero_same A v w l h = by_zero A v w (zeros A v w l h) h

by_same : (A : Ty) (v w : Value) → (Shaped A v → Shaped A w → distance_between A v w ⊑ none) → SameUpToOrder A v w → distance_between A v w ⊑ none
by_same A v w f h = let k = same_view A v w h in f k.0 k.1

sames : (A : Ty) (v w : Value) → SameUpToOrder A v w → Shaped A v → Shaped A w → distance_between A v w ⊑ none
sames NumT _ _ h (a_num {z = y}) (a_num {z = z}) = rw h (whole _ _ (gap_self z))
sames TextT _ _ h (a_text {s = s}) (a_text {s = t}) = rw (h, text_refl t) (⊑-refl none)
sames UnitT _ _ h a_unit a_unit = ⊑-refl none
sames (TensorT A B) _ _ h (a_pair {a = a} {b = b}) (a_pair {a = c} {b = d}) = (by_same A a c (sames A a c h.0) h.0 ⊕ by_same B b d (sames B b d h.1) h.1) ⨾ add-none none
sames (WithT A B) _ _ h (a_with {a = a} {b = b}) (a_with {a = c} {b = d}) = greater-least _ _ _ (by_same A a c (sames A a c h.0) h.0) (by_same B b d (sames B b d h.1) h.1)
sames (SumT A B) _ _ h (an_inl {a = a}) (an_inl {a = c}) = by_same A a c (sames A a c h) h
sames (SumT A B) _ _ h an_inl an_inr = absurd h
sames (SumT A B) _ _ h an_inr an_inl = absurd h
sames (SumT A B) _ _ h (an_inr {a = a}) (an_inr {a = c}) = by_same B a c (sames B a c h) h
sames (ArrowT A B) v w h j k = absurd h
sames (BangT r A) _ _ h (a_bang {a = a}) (a_bang {a = c}) = (⊑-refl r ⊗ by_same A a c (sames A a c h) h) ⨾ mul-none r
sames (BagT A) _ _ h (a_bag {xs = xs}) (a_bag {xs = ys}) = let e = permuted_zero xs ys h in whole _ _ (omega (arith, e))

pub same_zero : (A : Ty) (v w : Value) → SameUpToOrder A v w → distance_between A v w ⊑ none
same_zero A v w h = by_same A v w (sames A v w h) h

-- datasets

pub apart_flips : (X Y : Dataset) → apart X Y ≡ apart Y X
apart_flips [] [] = refl
apart_flips [] (ys ∷ Y) = refl
apart_flips (xs ∷ X) [] = refl
apart_flips (xs ∷ X) (ys ∷ Y) = let a = removal_symmetric xs ys in let b = apart_flips X Y in omega (arith, a, b)

pub apart_triangle : (X Y Z : Dataset) → length X ≡ length Y → length Y ≡ length Z → apart X Z ≤ apart X Y + apart Y Z
apart_triangle [] Y Z e f = omega arith
apart_triangle (xs ∷ X) Y [] e f = omega arith
apart_triangle (xs ∷ X) [] (zs ∷ Z) e f = absurd (omega (arith, e))
apart_triangle (xs ∷ X) (ys ∷ Y) (zs ∷ Z) e f = let a = removal_triangle xs ys zs in let b = apart_triangle X Y Z (omega (arith, e)) (omega (arith, f)) in omega (arith, a, b)

pub apart_zero : (X Y : Dataset) → length X ≡ length Y → apart X Y ≡ 0 → SameRows X Y
apart_zero [] [] e h = tt
apart_zero [] (ys ∷ Y) e h = absurd (omega (arith, e))
apart_zero (xs ∷ X) [] e h = absurd (omega (arith, e))
apart_zero (xs ∷ X) (ys ∷ Y) e h = (zero_permuted xs ys (omega (arith, h)), apart_zero X Y (omega (arith, e)) (omega (arith, h)))

pub zero_apart : (X Y : Dataset) → SameRows X Y → apart X Y ≡ 0
zero_apart [] [] h = refl
zero_apart [] (ys ∷ Y) h = refl
zero_apart (xs ∷ X) [] h = refl
zero_apart (xs ∷ X) (ys ∷ Y) h = let a = permuted_zero xs ys h.0 in let b = zero_apart X Y h.1 in omega (arith, a, b)
