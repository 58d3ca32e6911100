-- Distances are an ordered semiring.
use Rattle.std.proofs.Common.{◌≡◌, ℕ, zero, suc, ◌+◌, ◌*◌, ◌<◌, ◌≤◌, Bool, true, false, cond, refl, arith, ◌⊎◌, inl, inr, ◌-◌, ◌/◌, ◌↔◌, Some}
use Rattle.std.proofs.lemmas.Bool.Decides.{nat_tests}
use Rattle.std.proofs.Math.Nat.{div-lt_iff_lt-mul}
use native.Mathlib.Nat.{mul-le-mul, mul-le-mul_right, le_of_mul-le-mul_right, zero-mul, mul-zero, add-zero, zero-add}
use Rattle.fz_frac.specs.Distance.{Distance, Fin, Inf, den, ◌⊑◌, ◌≈◌, is_le, none, one, add, endless, mul, greater, quotient, ceil_times}

pub den_pos : (q : ℕ) → 0 < den q
den_pos zero = omega arith
den_pos (suc q) = omega arith

pub den_of : (n : ℕ) → 0 < n → den n ≡ n
den_of zero h = absurd (omega arith)
den_of (suc n) h = refl

pub pos_mul : (a b : ℕ) → 0 < a → 0 < b → 0 < a * b
pos_mul zero b h k = absurd (omega arith)
pos_mul (suc a) b h k = omega arith

den_den : (q s : ℕ) → den (den q * den s) ≡ den q * den s
den_den q s = den_of (den q * den s) (pos_mul (den q) (den s) (den_pos q) (den_pos s))

den_2 : (q s u : ℕ) → den (den q * (den s * den u)) ≡ den q * (den s * den u)
den_2 q s u = den_of (den q * (den s * den u)) (pos_mul (den q) (den s * den u) (den_pos q) (pos_mul (den s) (den u) (den_pos s) (den_pos u)))

den_3 : (q s u : ℕ) → den (den q * den s * den u) ≡ den q * den s * den u
den_3 q s u = den_of (den q * den s * den u) (pos_mul (den q * den s) (den u) (pos_mul (den q) (den s) (den_pos q) (den_pos s)) (den_pos u))

den_4 : (q s t u : ℕ) → den (den q * den s * (den t * den u)) ≡ den q * den s * (den t * den u)
den_4 q s t u = den_of (den q * den s * (den t * den u)) (pos_mul (den q * den s) (den t * den u) (pos_mul (den q) (den s) (den_pos q) (den_pos s)) (pos_mul (den t) (den u) (den_pos t) (den_pos u)))

ruleset dens = (den_den, den_2, den_3, den_4)

trans_nat : (p q r s t u : ℕ) → 0 < s → p * s ≤ r * q → r * u ≤ t * s → p * u ≤ t * q
trans_nat p q r s t u h k l =
    let a : (p * s) * u ≤ (r * q) * u = mul-le-mul_right u k in
    let b : (r * u) * q ≤ (t * s) * q = mul-le-mul_right q l in
    let e : (p * u) * s ≤ (t * q) * s = omega arith in
    le_of_mul-le-mul_right {m = p * u} {n = t * q} {k = s} e h

add_nat : (p q p' q' r s r' s' : ℕ) → p * q' ≤ p' * q → r * s' ≤ r' * s → (p * s + r * q) * (q' * s') ≤ (p' * s' + r' * q') * (q * s)
add_nat p q p' q' r s r' s' h k =
    let a : (p * q') * (s * s') ≤ (p' * q) * (s * s') = mul-le-mul_right (s * s') h in
    let b : (r * s') * (q * q') ≤ (r' * s) * (q * q') = mul-le-mul_right (q * q') k in
    omega arith

mul_nat : (p q p' q' r s r' s' : ℕ) → p * q' ≤ p' * q → r * s' ≤ r' * s → (p * r) * (q' * s') ≤ (p' * r') * (q * s)
mul_nat p q p' q' r s r' s' h k =
    let a : (p * q') * (r * s') ≤ (p' * q) * (r' * s) = mul-le-mul h k in
    omega arith

suc_suc : (a b : ℕ) → suc a * suc b ≡ suc (b + a * suc b)
suc_suc a b = omega arith

endless_pos : (n : ℕ) → 0 < n → endless n ≡ Inf
endless_pos zero h = absurd (omega arith)
endless_pos (suc n) h = refl

pos_den : (a q : ℕ) → 0 < suc a * den q
pos_den a q = pos_mul (suc a) (den q) (omega arith) (den_pos q)

no_pos : (a q x : ℕ) → suc a * den q ≤ 0 * x → ⊥
no_pos a q x h = let k = pos_den a q in omega arith

endless_l : (a q m : ℕ) → endless (suc a * den q + m) ≡ Inf
endless_l a q m = let h = pos_den a q in endless_pos (suc a * den q + m) (omega arith)

endless_r : (a q m : ℕ) → endless (m + suc a * den q) ≡ Inf
endless_r a q m = let h = pos_den a q in endless_pos (m + suc a * den q) (omega arith)

endless_den : (a q : ℕ) → endless (suc a * den q) ≡ Inf
endless_den a q = endless_pos (suc a * den q) (pos_den a q)

ruleset zeros = (zero-mul, mul-zero, add-zero, zero-add, suc_suc, endless_l, endless_r, endless_den)

-- order

pub ⊑-refl : (a : Distance) → a ⊑ a
⊑-refl (Fin p q) = record { le = omega arith }
⊑-refl Inf = record { le = tt }

pub ⊑-trans : (a b c : Distance) → a ⊑ b → b ⊑ c → a ⊑ c
⊑-trans (Fin p q) (Fin r s) (Fin t u) h k = record { le = trans_nat p (den q) r (den s) t (den u) (den_pos s) h.le k.le }
⊑-trans (Fin p q) Inf (Fin t u) h k = absurd k.le
⊑-trans Inf (Fin r s) c h k = absurd h.le
⊑-trans Inf Inf (Fin t u) h k = absurd k.le
⊑-trans a b Inf h k = ⊑-inf a
  where
    ⊑-inf : (a : Distance) → a ⊑ Inf
    ⊑-inf (Fin p q) = record { le = tt }
    ⊑-inf Inf = record { le = tt }

pub ⊑-inf : (a : Distance) → a ⊑ Inf
⊑-inf (Fin p q) = record { le = tt }
⊑-inf Inf = record { le = tt }

pub none-least : (a : Distance) → none ⊑ a
none-least (Fin p q) = record { le = omega arith }
none-least Inf = record { le = tt }

-- sums

pub add-mono : (a b c d : Distance) → a ⊑ b → c ⊑ d → add a c ⊑ add b d
add-mono (Fin p q) (Fin p' q') (Fin r s) (Fin r' s') h k = record { le = simp dens (add_nat p (den q) p' (den q') r (den s) r' (den s') h.le k.le) }
add-mono (Fin p q) (Fin p' q') Inf (Fin r' s') h k = absurd k.le
add-mono Inf (Fin p' q') c d h k = absurd h.le
add-mono a Inf c (Fin r' s') h k = ⊑-inf _
add-mono a Inf c Inf h k = ⊑-inf _
add-mono a (Fin p' q') c Inf h k = ⊑-inf _

pub add-comm : (a b : Distance) → add a b ⊑ add b a
add-comm (Fin p q) (Fin r s) = record { le = simp dens (omega arith) }
add-comm (Fin p q) Inf = record { le = tt }
add-comm Inf (Fin p q) = record { le = tt }
add-comm Inf Inf = record { le = tt }

pub add-assoc : (a b c : Distance) → add (add a b) c ⊑ add a (add b c)
add-assoc (Fin p q) (Fin r s) (Fin t u) = record { le = simp dens (omega arith) }
add-assoc (Fin p q) (Fin r s) Inf = record { le = tt }
add-assoc (Fin p q) Inf (Fin t u) = record { le = tt }
add-assoc (Fin p q) Inf Inf = record { le = tt }
add-assoc Inf (Fin r s) (Fin t u) = record { le = tt }
add-assoc Inf (Fin r s) Inf = record { le = tt }
add-assoc Inf Inf (Fin t u) = record { le = tt }
add-assoc Inf Inf Inf = record { le = tt }

pub add-assoc' : (a b c : Distance) → add a (add b c) ⊑ add (add a b) c
add-assoc' a b c = ⊑-trans _ _ _ (add-comm a (add b c)) (⊑-trans _ _ _ (add-assoc b c a) (⊑-trans _ _ _ (add-comm b (add c a)) (⊑-trans _ _ _ (add-assoc c a b) (add-comm c (add a b)))))

pub add-none : (a : Distance) → add none a ⊑ a
add-none (Fin p q) = record { le = simp dens (omega arith) }
add-none Inf = record { le = tt }

-- products

pub mul-mono : (a b c d : Distance) → a ⊑ b → c ⊑ d → mul a c ⊑ mul b d
mul-mono (Fin p q) (Fin p' q') (Fin r s) (Fin r' s') h k = record { le = simp dens (mul_nat p (den q) p' (den q') r (den s) r' (den s') h.le k.le) }
mul-mono (Fin p q) (Fin p' q') Inf (Fin r' s') h k = absurd k.le
mul-mono Inf (Fin p' q') c d h k = absurd h.le
mul-mono (Fin p q) (Fin p' q') c Inf h k = unending p p' q q' c h
  where
    unending : (p p' q q' : ℕ) (c : Distance) → Fin p q ⊑ Fin p' q' → mul (Fin p q) c ⊑ endless p'
    unending p (suc p') q q' c h = ⊑-inf _
    unending zero zero q q' (Fin r s) h = record { le = omega arith }
    unending zero zero q q' Inf h = record { le = omega arith }
    unending (suc p) zero q q' c h = let e = h.le in let d = den_pos q' in let f : 0 < suc p * den q' = pos_mul (suc p) (den q') (omega arith) d in absurd (omega arith)
mul-mono a Inf c (Fin (suc r') s') h k = ⊑-inf _
mul-mono (Fin p q) Inf (Fin zero s) (Fin zero s') h k = record { le = omega arith }
mul-mono (Fin p q) Inf (Fin (suc r) s) (Fin zero s') h k = absurd (no_pos r s' (den s) k.le)
mul-mono Inf Inf (Fin zero s) (Fin zero s') h k = record { le = omega arith }
mul-mono Inf Inf (Fin (suc r) s) (Fin zero s') h k = absurd (no_pos r s' (den s) k.le)
mul-mono a Inf Inf (Fin zero s') h k = absurd k.le
mul-mono a Inf c Inf h k = ⊑-inf _

pub mul-assoc : (a b c : Distance) → mul (mul a b) c ⊑ mul a (mul b c)
mul-assoc (Fin p q) (Fin r s) (Fin t u) = record { le = simp dens (omega arith) }
mul-assoc (Fin zero q0) (Fin zero q1) Inf = record { le = omega arith }
mul-assoc (Fin zero q0) (Fin (suc p1) q1) Inf = record { le = simp zeros (omega arith) }
mul-assoc (Fin zero q0) Inf (Fin zero q2) = record { le = omega arith }
mul-assoc (Fin zero q0) Inf (Fin (suc p2) q2) = record { le = omega arith }
mul-assoc (Fin zero q0) Inf Inf = record { le = omega arith }
mul-assoc (Fin (suc p0) q0) (Fin zero q1) Inf = record { le = simp zeros (omega arith) }
mul-assoc (Fin (suc p0) q0) (Fin (suc p1) q1) Inf = record { le = simp zeros (omega arith) }
mul-assoc (Fin (suc p0) q0) Inf (Fin zero q2) = record { le = omega arith }
mul-assoc (Fin (suc p0) q0) Inf (Fin (suc p2) q2) = record { le = omega arith }
mul-assoc (Fin (suc p0) q0) Inf Inf = record { le = omega arith }
mul-assoc Inf (Fin zero q1) (Fin zero q2) = record { le = omega arith }
mul-assoc Inf (Fin zero q1) (Fin (suc p2) q2) = record { le = simp zeros (omega arith) }
mul-assoc Inf (Fin zero q1) Inf = record { le = omega arith }
mul-assoc Inf (Fin (suc p1) q1) (Fin zero q2) = record { le = simp zeros (omega arith) }
mul-assoc Inf (Fin (suc p1) q1) (Fin (suc p2) q2) = record { le = simp zeros (omega arith) }
mul-assoc Inf (Fin (suc p1) q1) Inf = record { le = omega arith }
mul-assoc Inf Inf (Fin zero q2) = record { le = omega arith }
mul-assoc Inf Inf (Fin (suc p2) q2) = record { le = omega arith }
mul-assoc Inf Inf Inf = record { le = omega arith }

pub mul-assoc' : (a b c : Distance) → mul a (mul b c) ⊑ mul (mul a b) c
mul-assoc' (Fin p q) (Fin r s) (Fin t u) = record { le = simp dens (omega arith) }
mul-assoc' (Fin zero q0) (Fin zero q1) Inf = record { le = omega arith }
mul-assoc' (Fin zero q0) (Fin (suc p1) q1) Inf = record { le = simp zeros (omega arith) }
mul-assoc' (Fin zero q0) Inf (Fin zero q2) = record { le = omega arith }
mul-assoc' (Fin zero q0) Inf (Fin (suc p2) q2) = record { le = omega arith }
mul-assoc' (Fin zero q0) Inf Inf = record { le = omega arith }
mul-assoc' (Fin (suc p0) q0) (Fin zero q1) Inf = record { le = simp zeros (omega arith) }
mul-assoc' (Fin (suc p0) q0) (Fin (suc p1) q1) Inf = record { le = simp zeros (omega arith) }
mul-assoc' (Fin (suc p0) q0) Inf (Fin zero q2) = record { le = omega arith }
mul-assoc' (Fin (suc p0) q0) Inf (Fin (suc p2) q2) = record { le = omega arith }
mul-assoc' (Fin (suc p0) q0) Inf Inf = record { le = omega arith }
mul-assoc' Inf (Fin zero q1) (Fin zero q2) = record { le = omega arith }
mul-assoc' Inf (Fin zero q1) (Fin (suc p2) q2) = record { le = simp zeros (omega arith) }
mul-assoc' Inf (Fin zero q1) Inf = record { le = omega arith }
mul-assoc' Inf (Fin (suc p1) q1) (Fin zero q2) = record { le = simp zeros (omega arith) }
mul-assoc' Inf (Fin (suc p1) q1) (Fin (suc p2) q2) = record { le = simp zeros (omega arith) }
mul-assoc' Inf (Fin (suc p1) q1) Inf = record { le = omega arith }
mul-assoc' Inf Inf (Fin zero q2) = record { le = omega arith }
mul-assoc' Inf Inf (Fin (suc p2) q2) = record { le = omega arith }
mul-assoc' Inf Inf Inf = record { le = omega arith }

pub mul-add : (a b c : Distance) → mul a (add b c) ⊑ add (mul a b) (mul a c)
mul-add (Fin p q) (Fin r s) (Fin t u) = record { le = simp dens (omega arith) }
mul-add (Fin zero q0) (Fin zero q1) Inf = record { le = omega arith }
mul-add (Fin zero q0) (Fin (suc p1) q1) Inf = record { le = omega arith }
mul-add (Fin zero q0) Inf (Fin zero q2) = record { le = omega arith }
mul-add (Fin zero q0) Inf (Fin (suc p2) q2) = record { le = omega arith }
mul-add (Fin zero q0) Inf Inf = record { le = omega arith }
mul-add (Fin (suc p0) q0) (Fin zero q1) Inf = record { le = omega arith }
mul-add (Fin (suc p0) q0) (Fin (suc p1) q1) Inf = record { le = omega arith }
mul-add (Fin (suc p0) q0) Inf (Fin zero q2) = record { le = omega arith }
mul-add (Fin (suc p0) q0) Inf (Fin (suc p2) q2) = record { le = omega arith }
mul-add (Fin (suc p0) q0) Inf Inf = record { le = omega arith }
mul-add Inf (Fin zero q1) (Fin zero q2) = record { le = simp zeros (omega arith) }
mul-add Inf (Fin zero q1) (Fin (suc p2) q2) = record { le = simp zeros (omega arith) }
mul-add Inf (Fin zero q1) Inf = record { le = omega arith }
mul-add Inf (Fin (suc p1) q1) (Fin zero q2) = record { le = simp zeros (omega arith) }
mul-add Inf (Fin (suc p1) q1) (Fin (suc p2) q2) = record { le = simp zeros (omega arith) }
mul-add Inf (Fin (suc p1) q1) Inf = record { le = omega arith }
mul-add Inf Inf (Fin zero q2) = record { le = omega arith }
mul-add Inf Inf (Fin (suc p2) q2) = record { le = omega arith }
mul-add Inf Inf Inf = record { le = omega arith }

pub mul-add' : (a b c : Distance) → add (mul a b) (mul a c) ⊑ mul a (add b c)
mul-add' (Fin p q) (Fin r s) (Fin t u) = record { le = simp dens (omega arith) }
mul-add' (Fin zero q0) (Fin zero q1) Inf = record { le = omega arith }
mul-add' (Fin zero q0) (Fin (suc p1) q1) Inf = record { le = omega arith }
mul-add' (Fin zero q0) Inf (Fin zero q2) = record { le = omega arith }
mul-add' (Fin zero q0) Inf (Fin (suc p2) q2) = record { le = omega arith }
mul-add' (Fin zero q0) Inf Inf = record { le = omega arith }
mul-add' (Fin (suc p0) q0) (Fin zero q1) Inf = record { le = omega arith }
mul-add' (Fin (suc p0) q0) (Fin (suc p1) q1) Inf = record { le = omega arith }
mul-add' (Fin (suc p0) q0) Inf (Fin zero q2) = record { le = omega arith }
mul-add' (Fin (suc p0) q0) Inf (Fin (suc p2) q2) = record { le = omega arith }
mul-add' (Fin (suc p0) q0) Inf Inf = record { le = omega arith }
mul-add' Inf (Fin zero q1) (Fin zero q2) = record { le = simp zeros (omega arith) }
mul-add' Inf (Fin zero q1) (Fin (suc p2) q2) = record { le = simp zeros (omega arith) }
mul-add' Inf (Fin zero q1) Inf = record { le = omega arith }
mul-add' Inf (Fin (suc p1) q1) (Fin zero q2) = record { le = simp zeros (omega arith) }
mul-add' Inf (Fin (suc p1) q1) (Fin (suc p2) q2) = record { le = simp zeros (omega arith) }
mul-add' Inf (Fin (suc p1) q1) Inf = record { le = omega arith }
mul-add' Inf Inf (Fin zero q2) = record { le = omega arith }
mul-add' Inf Inf (Fin (suc p2) q2) = record { le = omega arith }
mul-add' Inf Inf Inf = record { le = omega arith }

pub add-mul : (a b c : Distance) → add (mul a c) (mul b c) ⊑ mul (add a b) c
add-mul (Fin p q) (Fin r s) (Fin t u) = record { le = simp dens (omega arith) }
add-mul (Fin zero q0) (Fin zero q1) Inf = record { le = simp zeros (omega arith) }
add-mul (Fin zero q0) (Fin (suc p1) q1) Inf = record { le = simp zeros (omega arith) }
add-mul (Fin zero q0) Inf (Fin zero q2) = record { le = omega arith }
add-mul (Fin zero q0) Inf (Fin (suc p2) q2) = record { le = omega arith }
add-mul (Fin zero q0) Inf Inf = record { le = omega arith }
add-mul (Fin (suc p0) q0) (Fin zero q1) Inf = record { le = simp zeros (omega arith) }
add-mul (Fin (suc p0) q0) (Fin (suc p1) q1) Inf = record { le = simp zeros (omega arith) }
add-mul (Fin (suc p0) q0) Inf (Fin zero q2) = record { le = omega arith }
add-mul (Fin (suc p0) q0) Inf (Fin (suc p2) q2) = record { le = omega arith }
add-mul (Fin (suc p0) q0) Inf Inf = record { le = omega arith }
add-mul Inf (Fin zero q1) (Fin zero q2) = record { le = omega arith }
add-mul Inf (Fin zero q1) (Fin (suc p2) q2) = record { le = omega arith }
add-mul Inf (Fin zero q1) Inf = record { le = omega arith }
add-mul Inf (Fin (suc p1) q1) (Fin zero q2) = record { le = omega arith }
add-mul Inf (Fin (suc p1) q1) (Fin (suc p2) q2) = record { le = omega arith }
add-mul Inf (Fin (suc p1) q1) Inf = record { le = omega arith }
add-mul Inf Inf (Fin zero q2) = record { le = omega arith }
add-mul Inf Inf (Fin (suc p2) q2) = record { le = omega arith }
add-mul Inf Inf Inf = record { le = omega arith }

pub mul-one : (a : Distance) → mul one a ⊑ a
mul-one (Fin p q) = record { le = simp dens (omega arith) }
mul-one Inf = record { le = tt }

pub one-mul : (a : Distance) → a ⊑ mul one a
one-mul (Fin p q) = record { le = simp dens (omega arith) }
one-mul Inf = record { le = tt }

pub mul-none : (a : Distance) → mul a none ⊑ none
mul-none (Fin p q) = record { le = omega arith }
mul-none Inf = record { le = omega arith }

-- the same, with what the facts determine left out

infixr 30 ◌⨾◌
infixr 35 ◌⊕◌
infixr 36 ◌⊗◌
pub ◌⨾◌ : {a b c : Distance} → a ⊑ b → b ⊑ c → a ⊑ c
◌⨾◌ {a} {b} {c} h k = ⊑-trans a b c h k

pub ◌⊕◌ : {a b c d : Distance} → a ⊑ b → c ⊑ d → add a c ⊑ add b d
◌⊕◌ {a} {b} {c} {d} h k = add-mono a b c d h k

pub ◌⊗◌ : {a b c d : Distance} → a ⊑ b → c ⊑ d → mul a c ⊑ mul b d
◌⊗◌ {a} {b} {c} {d} h k = mul-mono a b c d h k

-- (a + b) + (c + d) ⊑ (a + c) + (b + d)
pub add-swap : (a b c d : Distance) → add (add a b) (add c d) ⊑ add (add a c) (add b d)
add-swap a b c d =
    add-assoc a b (add c d)
    ⨾ (⊑-refl a ⊕ (add-assoc' b c d ⨾ (add-comm b c ⊕ ⊑-refl d) ⨾ add-assoc c b d))
    ⨾ add-assoc' a c (add b d)

pub add-none_r : (a : Distance) → add a none ⊑ a
add-none_r a = add-comm a none ⨾ add-none a

pub none-add : (a : Distance) → a ⊑ add none a
none-add (Fin p q) = record { le = simp dens (omega arith) }
none-add Inf = record { le = tt }

pub none-mul : (a : Distance) → mul none a ⊑ none
none-mul (Fin p q) = record { le = omega arith }
none-mul Inf = record { le = omega arith }

-- the greater of two
pub is_le-yes : (a b : Distance) → is_le a b ≡ true → a ⊑ b
is_le-yes (Fin p q) (Fin r s) h = record { le = grind (arith, nat_tests) }
is_le-yes (Fin p q) Inf h = record { le = tt }
is_le-yes Inf (Fin r s) h = absurd (cc)
is_le-yes Inf Inf h = record { le = tt }

pub is_le-no : (a b : Distance) → is_le a b ≡ false → b ⊑ a
is_le-no (Fin p q) (Fin r s) h = record { le = grind (arith, nat_tests) }
is_le-no (Fin p q) Inf h = absurd (cc)
is_le-no Inf (Fin r s) h = record { le = tt }
is_le-no Inf Inf h = absurd (cc)

pub greater-left : (a b : Distance) → a ⊑ greater a b
greater-left a b = go (is_le a b) refl
  where
    go : (t : Bool) → is_le a b ≡ t → a ⊑ cond t b a
    go true e = is_le-yes a b e
    go false e = ⊑-refl a

pub greater-right : (a b : Distance) → b ⊑ greater a b
greater-right a b = go (is_le a b) refl
  where
    go : (t : Bool) → is_le a b ≡ t → b ⊑ cond t b a
    go true e = ⊑-refl b
    go false e = is_le-no a b e

pub greater-least : (a b d : Distance) → a ⊑ d → b ⊑ d → greater a b ⊑ d
greater-least a b d h k = go (is_le a b)
  where
    go : (t : Bool) → cond t b a ⊑ d
    go true = k
    go false = h

-- the same number

pub ≈-refl : (a : Distance) → a ≈ a
≈-refl a = record { le = ⊑-refl a; ge = ⊑-refl a }

pub ≈-sym : {a b : Distance} → a ≈ b → b ≈ a
≈-sym h = record { le = h.ge; ge = h.le }

pub ≈-trans : {a b c : Distance} → a ≈ b → b ≈ c → a ≈ c
≈-trans h k = record { le = h.le ⨾ k.le; ge = k.ge ⨾ h.ge }

pub mul-comm : (a b : Distance) → mul a b ⊑ mul b a
mul-comm (Fin p q) (Fin r s) = record { le = simp dens (omega arith) }
mul-comm (Fin p q) Inf = ⊑-refl (endless p)
mul-comm Inf (Fin r s) = ⊑-refl (endless r)
mul-comm Inf Inf = ⊑-refl Inf

pub total : (a b : Distance) → (a ⊑ b) ⊎ (b ⊑ a)
total a b = go (is_le a b) refl
  where
    go : (t : Bool) → is_le a b ≡ t → (a ⊑ b) ⊎ (b ⊑ a)
    go true e = inl (is_le-yes a b e)
    go false e = inr (is_le-no a b e)

pub le-is_le : (a b : Distance) → a ⊑ b → is_le a b ≡ true
le-is_le (Fin p q) (Fin r s) h = let k = h.le in grind (arith, nat_tests, k)
le-is_le (Fin p q) Inf h = refl
le-is_le Inf Inf h = refl
le-is_le Inf (Fin r s) h = absurd h.le

-- the least k with a at most k times r/s

quotient_up : (p q r s t u : ℕ) → (p * s) * u ≤ t * (q * r) → p * (u * s) ≤ (t * r) * q
quotient_up p q r s t u h = omega arith

quotient_down : (p q r s t u : ℕ) → p * (u * s) ≤ (t * r) * q → (p * s) * u ≤ t * (q * r)
quotient_down p q r s t u h = omega arith

den_times : (q r : ℕ) → 0 < r → den (den q * r) ≡ den q * r
den_times q r h = den_of (den q * r) (pos_mul (den q) r (den_pos q) h)

pub quotient-le : (a k : Distance) (r s : ℕ) → 0 < r → quotient a (Fin r s) ⊑ k → a ⊑ mul k (Fin r s)
quotient-le (Fin p q) (Fin t u) r s z h = let e = den_times q r z in let l : (p * den s) * den u ≤ t * (den q * r) = rw e at h.le in record { le = simp dens (quotient_up p (den q) r (den s) t (den u) l) }
quotient-le (Fin p q) Inf r s z h = rw (endless_pos r z) (⊑-inf _)
quotient-le Inf (Fin t u) r s z h = absurd h.le
quotient-le Inf Inf r s z h = rw (endless_pos r z) (⊑-inf _)

pub le-quotient : (a k : Distance) (r s : ℕ) → 0 < r → a ⊑ mul k (Fin r s) → quotient a (Fin r s) ⊑ k
le-quotient (Fin p q) (Fin t u) r s z h = let e = den_times q r z in let l : p * (den u * den s) ≤ (t * r) * den q = simp dens at h.le in record { le = rw e (quotient_down p (den q) r (den s) t (den u) l) }
le-quotient (Fin p q) Inf r s z h = ⊑-inf _
le-quotient Inf (Fin t u) r s z h = absurd h.le
le-quotient Inf Inf r s z h = ⊑-inf _

-- rounding up

ceil_up : (n d m : ℕ) → 0 < d → n ≤ m * d → (n + (d - 1)) / d ≤ m
ceil_up n d m z h =
    let a : n + (d - 1) < (m + 1) * d = omega arith in
    let b : (n + (d - 1)) / d < m + 1 = (div-lt_iff_lt-mul z).1 a in
    omega arith

ceil_down : (n d m : ℕ) → 0 < d → (n + (d - 1)) / d ≤ m → n ≤ m * d
ceil_down n d m z h =
    let a : (n + (d - 1)) / d < m + 1 = omega arith in
    let b : n + (d - 1) < (m + 1) * d = (div-lt_iff_lt-mul z).0 a in
    omega arith

whole_up : (x n d : ℕ) → x * 1 ≤ n * (d * 1) → x ≤ n * d
whole_up x n d h = omega arith

pub ceiling : (a : Distance) (e m : ℕ) → ceil_times a e ≡ Some m → (n : ℕ) → (mul a (Fin e 1) ⊑ Fin n 1) ↔ (m ≤ n)
ceiling Inf e m h n = absurd (cc)
ceiling (Fin p q) e m h n =
    let k : (p * e + (den q - 1)) / den q ≡ m = cc in (
      (λ l. rw (← k) (ceil_up (p * e) (den q) n (den_pos q) (let i = simp dens at l.le in whole_up (p * e) n (den q) i))),
      (λ l. record { le = simp dens (let i = ceil_down (p * e) (den q) n (den_pos q) (rw k l) in omega arith) }),
    )
