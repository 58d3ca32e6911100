-- Sensitivities that are equal as numbers give equal answers.
use Rattle.std.proofs.Common.{◌≡◌, refl, sym, cond, Bool, true, false, List, [], ◌∷◌, ◌∙◌}
use Rattle.std.specs.Prelude.{◌||◌}
use Rattle.fz_frac.specs.Distance.{Distance, Fin, Inf, ◌⊑◌, ◌≈◌, none, one, add, mul, greater, is_le, quotient}
use Rattle.fz_frac.specs.Lowest.{is_out}
use Rattle.fz_frac.specs.declared.sens.Sens.{Sens}
use Rattle.fz_frac.proofs.Laws.{⊑-refl, none-least, add-comm, add-none_r, none-add, mul-none, ◌⨾◌, ◌⊕◌, ◌⊗◌, ≈-refl, ≈-sym, ≈-trans, is_le-yes, le-is_le, greater-left, greater-right, greater-least, quotient-le, le-quotient}
use Rattle.fz_frac.proofs.Lowest.{out_same, out_same_true, sens_fits, inf_fits, endless_fits}
use Rattle.fz_ast.specs.Limits.{IsBang}
use Rattle.term_meanings.proofs.Quotient.{over_any}
use Rattle.term_meanings.specs.Sensitivities.{Sensitivities, first, rest, each, plus, join, scale, above_zero}
use Rattle.linear_types.specs.Inferred.{any_out}
use Rattle.linear_types.specs.Places.{AllAlike, AreAlike, IsCause, IsGiven, distances}
use Rattle.linear_types.specs.declared.places.EnvFault.{EnvFault}
use Rattle.linear_types.specs.declared.places.EnvFault.TheVariants.{Range, NoMemory}

-- two equal numbers

pub add_alike : {a b c d : Distance} → a ≈ b → c ≈ d → add a c ≈ add b d
add_alike h k = record { le = h.le ⊕ k.le; ge = h.ge ⊕ k.ge }

pub mul_alike : {a b c d : Distance} → a ≈ b → c ≈ d → mul a c ≈ mul b d
mul_alike h k = record { le = h.le ⊗ k.le; ge = h.ge ⊗ k.ge }

greater_mono : (a b c d : Distance) → a ⊑ b → c ⊑ d → greater a c ⊑ greater b d
greater_mono a b c d h k = greater-least a c (greater b d) (h ⨾ greater-left b d) (k ⨾ greater-right b d)

pub greater_alike : {a b c d : Distance} → a ≈ b → c ≈ d → greater a c ≈ greater b d
greater_alike {a} {b} {c} {d} h k = record { le = greater_mono a b c d h.le k.le; ge = greater_mono b a d c h.ge k.ge }

pub add_none : (a : Distance) → add a none ≈ a
add_none a = record { le = add-none_r a; ge = none-add a ⨾ add-comm none a }

pub greater_none : (a : Distance) → greater a none ≈ a
greater_none a = record { le = greater-least a none a (⊑-refl a) (none-least a); ge = greater-left a none }

pub mul_none : (a : Distance) → mul a none ≈ none
mul_none a = record { le = mul-none a; ge = none-least _ }

pub is_le_alike : {a b c d : Distance} → a ≈ b → c ≈ d → is_le a c ≡ is_le b d
is_le_alike {a} {b} {c} {d} h k = go (is_le a c) refl (is_le b d) refl
  where
    go : (t : Bool) → is_le a c ≡ t → (u : Bool) → is_le b d ≡ u → t ≡ u
    go true e true f = refl
    go false e false f = refl
    go true e false f = let i = le-is_le b d (h.ge ⨾ is_le-yes a c e ⨾ k.le) in cc
    go false e true f = let i = le-is_le a c (h.le ⨾ is_le-yes b d f ⨾ k.ge) in cc

pub above_zero_alike : {a b : Distance} → a ≈ b → above_zero a ≈ above_zero b
above_zero_alike {a} {b} h = let e = is_le_alike h (≈-refl none) in rw e (go (is_le b none))
  where
    go : (t : Bool) → cond t one a ≈ cond t one b
    go true = ≈-refl one
    go false = h

quotient_mono : (a b r s : Distance) → IsBang r → IsBang s → a ⊑ b → r ≈ s → quotient a r ⊑ quotient b s
quotient_mono a b (Fin p q) (Fin m n) i j h k = le-quotient a (quotient b (Fin m n)) p q i.0 (h ⨾ quotient-le b (quotient b (Fin m n)) m n j.0 (⊑-refl _) ⨾ (⊑-refl (quotient b (Fin m n)) ⊗ k.ge))
quotient_mono a b (Fin p q) Inf i j h k = absurd k.ge.le
quotient_mono a b Inf (Fin m n) i j h k = absurd k.le.le
quotient_mono a b Inf Inf i j h k = rw (over_any a, over_any b) (go (is_le a none) refl (is_le b none) refl)
  where
    go : (t : Bool) → is_le a none ≡ t → (u : Bool) → is_le b none ≡ u → cond t none one ⊑ cond u none one
    go true e u f = none-least _
    go false e false f = ⊑-refl one
    go false e true f = let l = le-is_le a none (h ⨾ is_le-yes b none f) in cc

pub quotient_alike : {a b r s : Distance} → IsBang r → IsBang s → a ≈ b → r ≈ s → quotient a r ≈ quotient b s
quotient_alike {a} {b} {r} {s} i j h k = record { le = quotient_mono a b r s i j h.le k; ge = quotient_mono b a s r j i h.ge (≈-sym k) }

pub is_out_alike : {a b : Distance} → a ≈ b → is_out a ≡ is_out b
is_out_alike {a} {b} h = go (is_out a) refl
  where
    go : (t : Bool) → is_out a ≡ t → t ≡ is_out b
    go true e = sym (out_same_true a b h e)
    go false e = sym (out_same a b h e)

-- lists of them

all_refl : (D : Sensitivities) → AllAlike D D
all_refl [] = tt
all_refl (t ∷ D) = (≈-refl t, all_refl D)

pub alike_refl : (D : Sensitivities) → AreAlike D D
alike_refl D = record { all = all_refl D }

all_sym : (D E : Sensitivities) → AllAlike D E → AllAlike E D
all_sym [] [] h = tt
all_sym (t ∷ D) (u ∷ E) h = (≈-sym h.0, all_sym D E h.1)
all_sym [] (u ∷ E) h = absurd h
all_sym (t ∷ D) [] h = absurd h

pub alike_sym : {D E : Sensitivities} → AreAlike D E → AreAlike E D
alike_sym {D} {E} h = record { all = all_sym D E h.all }

all_trans : (D E F : Sensitivities) → AllAlike D E → AllAlike E F → AllAlike D F
all_trans [] [] [] h k = tt
all_trans (t ∷ D) (u ∷ E) (v ∷ F) h k = (≈-trans h.0 k.0, all_trans D E F h.1 k.1)
all_trans [] [] (v ∷ F) h k = absurd k
all_trans [] (u ∷ E) F h k = absurd h
all_trans (t ∷ D) [] F h k = absurd h
all_trans (t ∷ D) (u ∷ E) [] h k = absurd k

pub alike_trans : {D E F : Sensitivities} → AreAlike D E → AreAlike E F → AreAlike D F
alike_trans {D} {E} {F} h k = record { all = all_trans D E F h.all k.all }

all_each : (f : Distance → Distance → Distance) → ((a b c d : Distance) → a ≈ b → c ≈ d → f a c ≈ f b d) → (A D B E : Sensitivities) → AllAlike A D → AllAlike B E → AllAlike (each f A B) (each f D E)
all_each f g [] [] B E h k = k
all_each f g (a ∷ A) (d ∷ D) [] [] h k = h
all_each f g (a ∷ A) (d ∷ D) (b ∷ B) (e ∷ E) h k = (g a d b e h.0 k.0, all_each f g A D B E h.1 k.1)
all_each f g (a ∷ A) (d ∷ D) (b ∷ B) [] h k = absurd k
all_each f g (a ∷ A) (d ∷ D) [] (e ∷ E) h k = absurd k
all_each f g (a ∷ A) [] B E h k = absurd h
all_each f g [] (d ∷ D) B E h k = absurd h

pub plus_alike : {A D B E : Sensitivities} → AreAlike A D → AreAlike B E → AreAlike (plus A B) (plus D E)
plus_alike {A} {D} {B} {E} h k = record { all = all_each add (λ a b c d i j. add_alike i j) A D B E h.all k.all }

pub join_alike : {A D B E : Sensitivities} → AreAlike A D → AreAlike B E → AreAlike (join A B) (join D E)
join_alike {A} {D} {B} {E} h k = record { all = all_each greater (λ a b c d i j. greater_alike i j) A D B E h.all k.all }

all_scale : (r s : Distance) (A D : Sensitivities) → r ≈ s → AllAlike A D → AllAlike (scale r A) (scale s D)
all_scale r s [] [] g h = tt
all_scale r s (a ∷ A) (d ∷ D) g h = (mul_alike g h.0, all_scale r s A D g h.1)
all_scale r s [] (d ∷ D) g h = absurd h
all_scale r s (a ∷ A) [] g h = absurd h

pub scale_alike : {r s : Distance} {A D : Sensitivities} → r ≈ s → AreAlike A D → AreAlike (scale r A) (scale s D)
scale_alike {r} {s} {A} {D} g h = record { all = all_scale r s A D g h.all }

all_rest : (A D : Sensitivities) → AllAlike A D → AllAlike (rest A) (rest D)
all_rest [] [] h = tt
all_rest (a ∷ A) (d ∷ D) h = h.1
all_rest [] (d ∷ D) h = absurd h
all_rest (a ∷ A) [] h = absurd h

pub rest_alike : {A D : Sensitivities} → AreAlike A D → AreAlike (rest A) (rest D)
rest_alike {A} {D} h = record { all = all_rest A D h.all }

all_first : (A D : Sensitivities) → AllAlike A D → first A ≈ first D
all_first [] [] h = ≈-refl none
all_first (a ∷ A) (d ∷ D) h = h.0
all_first [] (d ∷ D) h = absurd h
all_first (a ∷ A) [] h = absurd h

pub first_alike : {A D : Sensitivities} → AreAlike A D → first A ≈ first D
first_alike {A} {D} h = all_first A D h.all

all_out : (A D : Sensitivities) → AllAlike A D → any_out A ≡ any_out D
all_out [] [] h = refl
all_out (a ∷ A) (d ∷ D) h = let e = is_out_alike h.0 in let f = all_out A D h.1 in rw (e, f) refl
all_out [] (d ∷ D) h = absurd h
all_out (a ∷ A) [] h = absurd h

pub any_out_alike : {A D : Sensitivities} → AreAlike A D → any_out A ≡ any_out D
any_out_alike {A} {D} h = all_out A D h.all

-- what is kept is in range
pub kept_in_range : (v : List Sens) → any_out (distances v) ≡ false
kept_in_range [] = refl
kept_in_range (s ∷ v) = let e = sens_fits s in let f = kept_in_range v in rw (e, f) refl

-- what is alike is given, and is out of range for the same cause

pub given_of : (v : List Sens) (D : Sensitivities) → AreAlike (distances v) D → IsGiven v D
given_of v D h = record { in_range = sym (any_out_alike h) ∙ kept_in_range v; alike = h }

pub given_alike : (v : List Sens) (D E : Sensitivities) → AreAlike D E → IsGiven v D → IsGiven v E
given_alike v D E h g = given_of v E (alike_trans g.alike h)

pub cause_alike : (f : EnvFault) (D E : Sensitivities) → AreAlike D E → IsCause f D → IsCause f E
cause_alike Range D E h c = sym (any_out_alike h) ∙ c
cause_alike NoMemory D E h c = tt

-- what the others keep in range

or_false : (a b : Bool) → (a || b) ≡ false → (a ≡ false) × (b ≡ false)
or_false false b h = (refl, h)
or_false true b h = cc

greater_in_range : (a b : Distance) → is_out a ≡ false → is_out b ≡ false → is_out (greater a b) ≡ false
greater_in_range a b h k = go (is_le a b)
  where
    go : (t : Bool) → is_out (cond t b a) ≡ false
    go true = k
    go false = h

pub join_in_range : (D E : Sensitivities) → any_out D ≡ false → any_out E ≡ false → any_out (join D E) ≡ false
join_in_range [] E h k = k
join_in_range (t ∷ D) [] h k = h
join_in_range (t ∷ D) (u ∷ E) h k =
    let a = or_false (is_out t) (any_out D) h in let b = or_false (is_out u) (any_out E) k in
    let x = greater_in_range t u a.0 b.0 in let y = join_in_range D E a.1 b.1 in rw (x, y) refl

pub rest_in_range : (D : Sensitivities) → any_out D ≡ false → any_out (rest D) ≡ false
rest_in_range [] h = refl
rest_in_range (t ∷ D) h = (or_false (is_out t) (any_out D) h).1

inf_times : (d : Distance) → is_out (mul Inf d) ≡ false
inf_times (Fin p q) = endless_fits p
inf_times Inf = inf_fits

pub endless_in_range : (D : Sensitivities) → any_out (scale Inf D) ≡ false
endless_in_range [] = refl
endless_in_range (t ∷ D) = let e = inf_times t in let f = endless_in_range D in rw (e, f) refl
