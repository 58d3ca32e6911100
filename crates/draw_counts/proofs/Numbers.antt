-- The chance of up to 100 ones of exp(-1) within 700 draws, against partial sums of the exponential series: computed for each.
use Rattle.std.proofs.Common.{◌≡◌, ◌∙◌, sym, ap, subst, refl, ℕ, zero, suc, ◌+◌, ◌-◌, ◌*◌, ◌<◌, ◌≤◌, Bool, true, arith, inl, inr}
use Rattle.std.specs.Prelude.{◌^◌, ◌&&◌, nat_lt}
use Rattle.std.proofs.lemmas.Bool.{cases_Bool, ltb-true, ltb-false, and_parts}
use Rattle.std.proofs.Math.Nat.{mul-le-mul_left, mul-pos, le_of_mul-le-mul_right, one-le-pow, pow-le-pow_left}
use Rattle.std.proofs.lemmas.Nat.{mul-pow}
use Rattle.draw_counts.specs.Privacy.{exp_top, exp_bottom, AtLeastExp}
use Rattle.draw_counts.proofs.Steps.{count}
use Rattle.draw_counts.proofs.Ideal.{top, bottom}
use Rattle.draw_counts.proofs.Begins.{begins, alpha, beta, begins_least}

enough : ℕ → Bool
enough i = nat_lt ((2 ^ 129 - 1) * (beta ^ i * 2 ^ 700 * exp_bottom 1 400)) (2 ^ 129 * exp_top i 1 400 * (alpha ^ i * 2 ^ 700 - (16 * beta) ^ i))

all_enough : ℕ → Bool
all_enough zero = true
all_enough (suc i) = enough i && all_enough i

they_are : all_enough 101 ≡ true
unfolding all_enough enough exp_top exp_bottom top bottom alpha beta
they_are = refl

each_enough : (n i : ℕ) → i < n → all_enough n ≡ true → enough i ≡ true
unfolding all_enough
each_enough zero i l e = absurd (omega (arith, l))
each_enough (suc n) i l e = let both = and_parts (enough n) (all_enough n) e in elim (cases_Bool (nat_lt i n)) [
  | inl y ↦ each_enough n i (ltb-true i n y) both.1
  | inr z ↦ let k = ltb-false i n z in let same : n ≡ i = omega (arith, k, l) in subst (λ x. enough x ≡ true) same both.0
]

enough_less : (i : ℕ) → enough i ≡ true → (2 ^ 129 - 1) * (beta ^ i * 2 ^ 700 * exp_bottom 1 400) < 2 ^ 129 * exp_top i 1 400 * (alpha ^ i * 2 ^ 700 - (16 * beta) ^ i)
unfolding enough
enough_less i e = ltb-true ((2 ^ 129 - 1) * (beta ^ i * 2 ^ 700 * exp_bottom 1 400)) (2 ^ 129 * exp_top i 1 400 * (alpha ^ i * 2 ^ 700 - (16 * beta) ^ i)) e

less_is : (x y w z s : ℕ) → s ≡ x - y → x * w ≤ z + y * w → s * w ≤ z
less_is x y w z s e h = elim (cases_Bool (nat_lt x y)) [
  | inl l ↦ let k = ltb-true x y l in let none : s ≡ 0 = omega (arith, e, k) in omega (arith, ap (λ v. v * w) none)
  | inr l ↦ let k = ltb-false x y l in let both : s + y ≡ x = omega (arith, e, k) in omega (arith, ap (λ v. v * w) both, h)
]

enough_from : (c S p q T Bt Bj H s w : ℕ) → q * T ≤ p * Bt → s * w ≤ Bj * H → c * (Bj * Bt) ≤ S * T * s → 0 < Bj * Bt → c * (q * w) ≤ S * (p * H)
enough_from c S p q T Bt Bj H s w h sw num pos =
    let a = mul-le-mul_left (q * w) num in let b = mul-le-mul_left (S * q * T) sw in let d = mul-le-mul_left (S * Bj * H) h in
    let all : (c * (q * w)) * (Bj * Bt) ≤ (S * (p * H)) * (Bj * Bt) = omega (arith, a, b, d) in
    le_of_mul-le-mul_right all pos

split_powers : (a b y g h w x : ℕ) → g ≡ h * w → a * g ≤ b * (x * h) + y * w → (a * h) * w ≤ (b * h) * x + y * w
split_powers a b y g h w x e l = omega (arith, ap (λ v. a * v) e, l)

beta_positive : 0 < beta
unfolding beta bottom
beta_positive = omega arith

bottom_positive : (n : ℕ) → 0 < exp_bottom 1 n
unfolding exp_bottom
bottom_positive zero = omega arith
bottom_positive (suc n) = mul-pos (bottom_positive n) (omega arith)

-- p times the lists of 700 draws that begin with i ones are almost q times all lists
abbrev pub Enough : (i p q : ℕ) → Type 0
Enough i p q = (2 ^ 129 - 1) * (q * (2 ^ 64) ^ 700) ≤ 2 ^ 129 * (p * count 700 (begins i))

enough_by : (i p q T Bt w : ℕ) → w ≡ (2 ^ 64) ^ 700 → q * T ≤ p * Bt → (2 ^ 129 - 1) * (beta ^ i * 2 ^ 700 * Bt) ≤ 2 ^ 129 * T * (alpha ^ i * 2 ^ 700 - (16 * beta) ^ i) → 0 < Bt → (2 ^ 129 - 1) * (q * w) ≤ 2 ^ 129 * (p * count 700 (begins i))
enough_by i p q T Bt w ew h num some =
    let x = alpha ^ i * 2 ^ 700 in let y = (16 * beta) ^ i in let H = count 700 (begins i) in
    let few = begins_least i 700 (omega arith) in
    let sp = split_powers (alpha ^ i) (beta ^ i) y ((2 * 2 ^ 64) ^ 700) (2 ^ 700) w H (mul-pow 2 (2 ^ 64) 700 ∙ ap (λ v. 2 ^ 700 * v) (sym ew)) (subst (λ v. alpha ^ i * (2 * 2 ^ 64) ^ 700 ≤ beta ^ i * (H * 2 ^ 700) + y * v) (sym ew) few) in
    let less = less_is x y w (beta ^ i * 2 ^ 700 * H) (x - y) refl sp in
    enough_from (2 ^ 129 - 1) (2 ^ 129) p q T Bt (beta ^ i * 2 ^ 700) H (x - y) w h less (omega (arith, num)) (mul-pos (mul-pos (one-le-pow i beta beta_positive) (omega arith)) some)

-- where p/q is at least e^i
pub begins_enough : (i p q : ℕ) → i ≤ 100 → AtLeastExp i 1 p q → Enough i p q
begins_enough i p q l least =
    let num = enough_less i (each_enough 101 i (omega (arith, l)) they_are) in
    enough_by i p q (exp_top i 1 400) (exp_bottom 1 400) ((2 ^ 64) ^ 700) refl (least 400) (omega (arith, num)) (bottom_positive 400)

-- and where p/q is at least e, for the powers
power_enough : ℕ → Bool
power_enough i = nat_lt ((2 ^ 129 - 1) * (beta ^ i * 2 ^ 700 * exp_bottom 1 60 ^ i)) (2 ^ 129 * exp_top 1 1 60 ^ i * (alpha ^ i * 2 ^ 700 - (16 * beta) ^ i))

all_powers : ℕ → Bool
all_powers zero = true
all_powers (suc i) = power_enough i && all_powers i

powers_are : all_powers 101 ≡ true
unfolding all_powers power_enough exp_top exp_bottom top bottom alpha beta
powers_are = refl

each_power : (n i : ℕ) → i < n → all_powers n ≡ true → power_enough i ≡ true
unfolding all_powers
each_power zero i l e = absurd (omega (arith, l))
each_power (suc n) i l e = let both = and_parts (power_enough n) (all_powers n) e in elim (cases_Bool (nat_lt i n)) [
  | inl y ↦ each_power n i (ltb-true i n y) both.1
  | inr z ↦ let k = ltb-false i n z in let same : n ≡ i = omega (arith, k, l) in subst (λ x. power_enough x ≡ true) same both.0
]

power_less : (i : ℕ) → power_enough i ≡ true → (2 ^ 129 - 1) * (beta ^ i * 2 ^ 700 * exp_bottom 1 60 ^ i) < 2 ^ 129 * exp_top 1 1 60 ^ i * (alpha ^ i * 2 ^ 700 - (16 * beta) ^ i)
unfolding power_enough
power_less i e = ltb-true ((2 ^ 129 - 1) * (beta ^ i * 2 ^ 700 * exp_bottom 1 60 ^ i)) (2 ^ 129 * exp_top 1 1 60 ^ i * (alpha ^ i * 2 ^ 700 - (16 * beta) ^ i)) e

powers_le : (i p q T Bt : ℕ) → q * T ≤ p * Bt → q ^ i * T ^ i ≤ p ^ i * Bt ^ i
powers_le i p q T Bt h = subst (λ x. x ≤ p ^ i * Bt ^ i) (mul-pow q T i) (subst (λ x. (q * T) ^ i ≤ x) (mul-pow p Bt i) (pow-le-pow_left h i))

pub powers_enough : (i p q : ℕ) → i ≤ 100 → AtLeastExp 1 1 p q → Enough i (p ^ i) (q ^ i)
powers_enough i p q l least =
    let num = power_less i (each_power 101 i (omega (arith, l)) powers_are) in
    enough_by i (p ^ i) (q ^ i) (exp_top 1 1 60 ^ i) (exp_bottom 1 60 ^ i) ((2 ^ 64) ^ 700) refl (powers_le i p q (exp_top 1 1 60) (exp_bottom 1 60) (least 60)) (omega (arith, num)) (one-le-pow i (exp_bottom 1 60) (bottom_positive 60))
