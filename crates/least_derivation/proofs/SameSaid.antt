-- Lists by place and numbers by name: what is made of both is alike.
use Rattle.std.proofs.Common.{◌≡◌, Bool, true, false, cond, [], ◌∷◌, refl, sym, ◌∙◌, subst}
use Rattle.std.specs.Prelude.{bytes_eq, ◌||◌}
use Rattle.std.proofs.lemmas.Slice.Eq.{bytes_eq-Decides}
use Rattle.fz_frac.proofs.Laws.{add-none, greater-least, greater-right, none-add, none-least, ⊑-refl, ≈-refl, ≈-sym, ≈-trans}
use Rattle.fz_frac.proofs.Lowest.{endless_fits}
use Rattle.fz_frac.specs.Distance.{Distance, add, greater, mul, none, ◌≈◌}
use Rattle.fz_frac.specs.Lowest.{is_out}
use Rattle.fz_ast.specs.Terms.{Name}
use Rattle.fz_ast.specs.Types.{Ty}
use Rattle.fz_derive.specs.Derivable.{IsNamed, inmost, outer}
use Rattle.derivation_rows.specs.Numbers.{Amounts, without}
use Rattle.linear_types.proofs.Alike.{add_alike, add_none, greater_alike, greater_none, is_out_alike, mul_alike, mul_none, rest_in_range}
use Rattle.linear_types.specs.Inferred.{any_out}
use Rattle.linear_types.specs.Sensitivities.{Sensitivities, each, first, join, plus, rest, scale}
use Rattle.linear_types.specs.Typing.{Closed, Context, Under}
use Rattle.least_derivation.specs.Derived.{SaySame}

pub same_of : (x y : Name) → bytes_eq x y ≡ true → x ≡ y
same_of x y h = (bytes_eq-Decides x y).0 h

itself : (x : Name) → bytes_eq x x ≡ true
itself x = (bytes_eq-Decides x x).1 refl

-- numbers that are alike at each name in scope
pub near_says : (Γ : Context) (D : Sensitivities) (E F : Amounts) → ((x : Name) (A : Ty) → IsNamed Γ x A → E x ≈ F x) → SaySame Γ D E → SaySame Γ D F
near_says Closed D E F n h = tt
near_says (Under x A Γ) D E F n h = (≈-trans h.0 (n x A (inmost (itself x))), near_says Γ (rest D) (without x E) (without x F) (λ y B k. at_name y B k (bytes_eq x y) refl) h.1)
  where
    at_name : (y : Name) (B : Ty) → IsNamed Γ y B → (b : Bool) → bytes_eq x y ≡ b → cond b none (E y) ≈ cond b none (F y)
    at_name y B k true e = ≈-refl none
    at_name y B k false e = n y B (outer e k)

-- places and names put together

none_add : (a : Distance) → a ≈ add none a
none_add a = record { le = none-add a; ge = add-none a }

none_greater : (a : Distance) → a ≈ greater none a
none_greater a = record { le = greater-right none a; ge = greater-least none a a (none-least a) (⊑-refl a) }

module _ (f : Distance → Distance → Distance) (alike : (a b c d : Distance) → a ≈ b → c ≈ d → f a c ≈ f b d) (left : (a : Distance) → a ≈ f none a) (right : (a : Distance) → f a none ≈ a) where
  first_each : (D E : Sensitivities) → first (each f D E) ≈ f (first D) (first E)
  first_each [] E = left (first E)
  first_each (t ∷ D) [] = ≈-sym (right t)
  first_each (t ∷ D) (u ∷ E) = ≈-refl (f t u)

  each_empty : (D : Sensitivities) → each f D [] ≡ D
  each_empty [] = refl
  each_empty (t ∷ D) = refl

  rest_each : (D E : Sensitivities) → each f (rest D) (rest E) ≡ rest (each f D E)
  rest_each [] E = refl
  rest_each (t ∷ D) [] = each_empty D
  rest_each (t ∷ D) (u ∷ E) = refl

  each_says : (Γ : Context) (D D' : Sensitivities) (E E' : Amounts) → SaySame Γ D E → SaySame Γ D' E' → SaySame Γ (each f D D') (λ x. f (E x) (E' x))
  each_says Closed D D' E E' h k = tt
  each_says (Under x A Γ) D D' E E' h k = (
    ≈-trans (first_each D D') (alike _ _ _ _ h.0 k.0),
    subst (λ L. SaySame Γ L (without x (λ y. f (E y) (E' y)))) (rest_each D D')
        (near_says Γ (each f (rest D) (rest D')) (λ y. f (without x E y) (without x E' y)) (without x (λ y. f (E y) (E' y))) (λ y B m. at_none (bytes_eq x y) (E y) (E' y))
        (each_says Γ (rest D) (rest D') (without x E) (without x E') h.1 k.1)),
  )
    where
      at_none : (b : Bool) (t u : Distance) → f (cond b none t) (cond b none u) ≈ cond b none (f t u)
      at_none true t u = ≈-sym (left none)
      at_none false t u = ≈-refl (f t u)

pub plus_says : (Γ : Context) (D D' : Sensitivities) (E E' : Amounts) → SaySame Γ D E → SaySame Γ D' E' → SaySame Γ (plus D D') (λ x. add (E x) (E' x))
plus_says = each_says add (λ a b c d h k. add_alike h k) none_add add_none

pub join_says : (Γ : Context) (D D' : Sensitivities) (E E' : Amounts) → SaySame Γ D E → SaySame Γ D' E' → SaySame Γ (join D D') (λ x. greater (E x) (E' x))
join_says = each_says greater (λ a b c d h k. greater_alike h k) none_greater greater_none

first_scale : (r : Distance) (D : Sensitivities) → first (scale r D) ≈ mul r (first D)
first_scale r [] = ≈-sym (mul_none r)
first_scale r (t ∷ D) = ≈-refl (mul r t)

rest_scale : (r : Distance) (D : Sensitivities) → scale r (rest D) ≡ rest (scale r D)
rest_scale r [] = refl
rest_scale r (t ∷ D) = refl

pub scale_says : (r s : Distance) → r ≈ s → (Γ : Context) (D : Sensitivities) (E : Amounts) → SaySame Γ D E → SaySame Γ (scale r D) (λ x. mul s (E x))
scale_says r s i Closed D E h = tt
scale_says r s i (Under x A Γ) D E h = (
  ≈-trans (first_scale r D) (mul_alike i h.0),
  subst (λ L. SaySame Γ L (without x (λ y. mul s (E y)))) (rest_scale r D)
      (near_says Γ (scale r (rest D)) (λ y. mul s (without x E y)) (without x (λ y. mul s (E y))) (λ y B m. at_none (bytes_eq x y) (E y)) (scale_says r s i Γ (rest D) (without x E) h.1)),
)
  where
    at_none : (b : Bool) (t : Distance) → mul s (cond b none t) ≈ cond b none (mul s t)
    at_none true t = mul_none s
    at_none false t = ≈-refl (mul s t)

-- a number in range at its place is so by its name

first_in : (D : Sensitivities) → any_out D ≡ false → is_out (first D) ≡ false
first_in [] h = endless_fits 0
first_in (t ∷ D) h = or_left (is_out t) (any_out D) h
  where
    or_left : (a b : Bool) → (a || b) ≡ false → a ≡ false
    or_left true b h = absurd (cc h)
    or_left false b h = refl

pub in_range_at : {Γ : Context} {x : Name} {A : Ty} → IsNamed Γ x A → (D : Sensitivities) (E : Amounts) → SaySame Γ D E → any_out D ≡ false → is_out (E x) ≡ false
in_range_at (inmost {x = x} {y = y} e) D E h r = subst (λ z. is_out (E z) ≡ false) (same_of y x e) (sym (is_out_alike h.0) ∙ first_in D r)
in_range_at (outer {x = x} {y = y} e k) D E h r = subst (λ b. is_out (cond b none (E x)) ≡ false) e (in_range_at k (rest D) (without y E) h.1 (rest_in_range D r))
