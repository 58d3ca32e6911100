-- Trials of exp(-u/t) give a one on fewer lists where u is larger, draw by draw, up to a whole one of exp(-1) more.
use Rattle.std.proofs.Common.{◌≡◌, ◌∙◌, ap, refl, ℕ, zero, suc, ◌+◌, ◌-◌, ◌*◌, ◌%◌, ◌<◌, ◌≤◌, Bool, true, false, arith, inl, inr}
use Rattle.std.specs.Prelude.{cond, ◌/◌, ◌^◌, ◌==◌, nat_lt}
use Rattle.std.proofs.lemmas.Bool.{cases_Bool, ltb-true, ltb-false}
use Rattle.std.proofs.lemmas.Nat.{mod_below}
use Rattle.std.proofs.Math.Nat.{mul-le-mul, mul-le-mul_left, mul-le-mul_right, le_of_mul-le-mul_left}
use Rattle.draw_counts.proofs.Uniform.{words_are}
use Rattle.draw_counts.proofs.Exhaustion.{odd_is, even_is}

-- K k n counts the lists of n draws from trial k of exp(-u/t) on that give a one and go on as g.
abbrev pub IsTrial : (u t : ℕ) → (K : ℕ → ℕ → ℕ) → (g : ℕ → ℕ) → Type 0
IsTrial u t K g = (k n z : ℕ) → u + z ≡ t * k → K k (suc n) ≡ 2 ^ 64 / (t * k) * (u * K (suc k) n + z * cond (k % 2 == 1) (g n) 0) + 2 ^ 64 % (t * k) * K k n

drops : (W q r m u z x' x1 x0 x y y' : ℕ) → W ≡ q * m + r → u + z ≡ m → x' ≡ q * (u * x1 + z * x0) + r * x → x1 ≤ y → x0 ≤ y → x ≤ y → W * y ≤ y' → x' ≤ y'
drops W q r m u z x' x1 x0 x y y' w ez e h1 h0 h last =
    let a = mul-le-mul_left (q * u) h1 in let b = mul-le-mul_left (q * z) h0 in let d = mul-le-mul_left r h in
    let f = ap (λ v. v * y) w in let g = ap (λ v. q * v * y) ez in
    omega (arith, a, b, d, f, g, e, last)

cond_under : (b : Bool) (x : ℕ) → cond b x 0 ≤ x
cond_under true x = omega arith
cond_under false x = omega arith

module _ (u t : ℕ) (K : ℕ → ℕ → ℕ) (g : ℕ → ℕ) (start : (k : ℕ) → K k 0 ≡ 0) (step : IsTrial u t K g) (grows : (n : ℕ) → 2 ^ 64 * g n ≤ g (suc n)) (fraction : u ≤ t) where
  rest : (k : ℕ) → 1 ≤ k → u + (t * k - u) ≡ t * k
  rest k l = let a = mul-le-mul_left t l in omega (arith, a, fraction)

  pub under : (n k : ℕ) → 1 ≤ k → K k n ≤ g n
  under zero k p = let a = start k in omega (arith, a)
  under (suc n) k p =
      let z = t * k - u in
      drops (2 ^ 64) (2 ^ 64 / (t * k)) (2 ^ 64 % (t * k)) (t * k) u z (K k (suc n)) (K (suc k) n) (cond (k % 2 == 1) (g n) 0) (K k n) (g n) (g (suc n)) (words_are (t * k)) (rest k p) (step k n z (rest k p))
      (under n (suc k) (omega arith)) (cond_under (k % 2 == 1) (g n)) (under n k p) (grows n)

odd_step : (q r u z a' b' x1 x1' x x' g : ℕ) → a' ≡ q * (suc u * x1' + z * g) + r * x' → b' ≡ q * (u * x1 + suc z * g) + r * x → suc u * x1' ≤ u * x1 + g → x' ≤ x → a' ≤ b'
odd_step q r u z a' b' x1 x1' x x' g e e' h l = let a = mul-le-mul_left q h in let b = mul-le-mul_left r l in omega (arith, e, e', a, b)

even_step : (W q r u m t z z' a' b' x1 x1' x x' g g' : ℕ) → W ≡ q * m + r → 2 * t ≤ m → a' ≡ q * (suc u * x1' + z' * 0) + r * x' → b' ≡ q * (u * x1 + z * 0) + r * x → x1' ≤ x1 → x1 ≤ g
    → 2 * t * (suc u * x') ≤ 2 * t * (u * x) + (2 * u + 1) * g → W * g ≤ g' → 2 * t * (suc u * a') ≤ 2 * t * (u * b') + (2 * u + 1) * g'
even_step W q r u m t z z' a' b' x1 x1' x x' g g' w le e e' h1 h0 h last =
    let f = ap (λ v. 2 * t * suc u * v) e in let f' = ap (λ v. 2 * t * u * v) e' in
    let a = mul-le-mul_left (2 * t * q * suc u * suc u) h1 in
    let b = mul-le-mul_left (2 * t * q * (2 * u + 1)) h0 in
    let c = mul-le-mul_left r h in
    let d = mul-le-mul_left ((2 * u + 1) * g * q) le in
    let i = ap (λ v. (2 * u + 1) * g * v) w in
    let j = mul-le-mul_left (2 * u + 1) last in
    omega (arith, f, f', a, b, c, d, i, j)

module _ (u t : ℕ) (K K' : ℕ → ℕ → ℕ) (g : ℕ → ℕ) (start : (k : ℕ) → K k 0 ≡ 0) (start' : (k : ℕ) → K' k 0 ≡ 0) (step : IsTrial u t K g) (step' : IsTrial (suc u) t K' g)
    (grows : (n : ℕ) → 2 ^ 64 * g n ≤ g (suc n)) (fraction : suc u ≤ t) where
  one_less : (x x' y : ℕ) → 2 * t * (suc u * x') ≤ 2 * t * (u * x) + (2 * u + 1) * y → suc u * x' ≤ u * x + y
  one_less x x' y h = let a = mul-le-mul_right y fraction in let b : 2 * t * (suc u * x') ≤ 2 * t * (u * x + y) = omega (arith, h, a) in le_of_mul-le-mul_left b (omega (arith, fraction))

  at_odd : (j n k : ℕ) → k ≡ 2 * j + 1 → suc u * K' (suc k) n ≤ u * K (suc k) n + g n → K' k n ≤ K k n → K' k (suc n) ≤ K k (suc n)
  at_odd j n k e h l =
      let z = t * k - suc u in
      let low = mul-le-mul_left t (let a : 1 ≤ k = omega (arith, e) in a) in
      let e' : suc u + z ≡ t * k = omega (arith, low, fraction) in
      let e0 : u + suc z ≡ t * k = omega (arith, e') in
      let one : cond (k % 2 == 1) (g n) 0 ≡ g n = ap (λ v. cond (v % 2 == 1) (g n) 0) e ∙ ap (λ b. cond b (g n) 0) (odd_is j) in
      let q = 2 ^ 64 / (t * k) in let r = 2 ^ 64 % (t * k) in
      odd_step q r u z (K' k (suc n)) (K k (suc n)) (K (suc k) n) (K' (suc k) n) (K k n) (K' k n) (g n)
      (step' k n z e' ∙ ap (λ v. q * (suc u * K' (suc k) n + z * v) + r * K' k n) one)
      (step k n (suc z) e0 ∙ ap (λ v. q * (u * K (suc k) n + suc z * v) + r * K k n) one) h l

  at_even : (j n k : ℕ) → k ≡ 2 * j → 1 ≤ j → K' (suc k) n ≤ K (suc k) n → K (suc k) n ≤ g n → 2 * t * (suc u * K' k n) ≤ 2 * t * (u * K k n) + (2 * u + 1) * g n
      → 2 * t * (suc u * K' k (suc n)) ≤ 2 * t * (u * K k (suc n)) + (2 * u + 1) * g (suc n)
  at_even j n k e p h1 h0 h =
      let z = t * k - suc u in
      let low = mul-le-mul_left t (let a : 2 ≤ k = omega (arith, e, p) in a) in
      let e' : suc u + z ≡ t * k = omega (arith, low, fraction) in
      let e0 : u + suc z ≡ t * k = omega (arith, e') in
      let none : cond (k % 2 == 1) (g n) 0 ≡ 0 = ap (λ v. cond (v % 2 == 1) (g n) 0) e ∙ ap (λ b. cond b (g n) 0) (even_is j) in
      let q = 2 ^ 64 / (t * k) in let r = 2 ^ 64 % (t * k) in
      even_step (2 ^ 64) q r u (t * k) t (suc z) z (K' k (suc n)) (K k (suc n)) (K (suc k) n) (K' (suc k) n) (K k n) (K' k n) (g n) (g (suc n)) (words_are (t * k)) (omega (arith, low))
      (step' k n z e' ∙ ap (λ v. q * (suc u * K' (suc k) n + z * v) + r * K' k n) none)
      (step k n (suc z) e0 ∙ ap (λ v. q * (u * K (suc k) n + suc z * v) + r * K k n) none) h1 h0 h (grows n)

  pub falls : (n : ℕ) → ((j k : ℕ) → k ≡ 2 * j → 1 ≤ j → 2 * t * (suc u * K' k n) ≤ 2 * t * (u * K k n) + (2 * u + 1) * g n) × ((j k : ℕ) → k ≡ 2 * j + 1 → K' k n ≤ K k n)
  falls zero = (
    λ j k e p. let a = ap (λ v. 2 * t * (suc u * v)) (start' k) in omega (arith, a),
    λ j k e. let a = start' k in omega (arith, a),
  )
  falls (suc n) =
      let h = falls n in (
        λ j k e p. at_even j n k e p (h.1 j (suc k) (omega (arith, e))) (under u t K g start step grows (omega (arith, fraction)) n (suc k) (omega arith)) (h.0 j k e p),
        λ j k e. at_odd j n k e (one_less (K (suc k) n) (K' (suc k) n) (g n) (h.0 (suc j) (suc k) (omega (arith, e)) (omega arith))) (h.1 j k e),
      )

-- after trials of exp(-1) by fractions of t a draw later there are almost as many as after trials of 1/k
late_loss : (q1 q2 r1 r2 k t Z P g : ℕ) → q1 * k + r1 ≡ q2 * t * k + r2 → r1 < k → r2 ≤ t * k → k ≤ t * k → Z ≤ k * g → P ≤ g → q1 * Z + r1 * P ≤ q2 * t * Z + t * k * g
late_loss q1 q2 r1 r2 k t Z P g e l1 l2 lk hz hp = elim (cases_Bool (nat_lt (q2 * t) q1)) [
  | inl y ↦ let more = ltb-true (q2 * t) q1 y in let d = q1 - q2 * t in let ed : q2 * t + d ≡ q1 = omega (arith, more) in more_is d ed
  | inr n ↦ let less = ltb-false (q2 * t) q1 n in
      let a = mul-le-mul_right Z less in let b = mul-le-mul_left r1 hp in let c = mul-le-mul_right g (let f : r1 ≤ t * k = omega (arith, l1, lk) in f) in omega (arith, a, b, c)
]
  where
    more_is : (d : ℕ) → q2 * t + d ≡ q1 → q1 * Z + r1 * P ≤ q2 * t * Z + t * k * g
    more_is d ed =
        let a = ap (λ v. v * Z) ed in let b = mul-le-mul_left d hz in let c = mul-le-mul_left r1 hp in
        let s : d * k + r1 ≡ r2 = omega (arith, e, ap (λ v. v * k) ed) in
        let i = ap (λ v. v * g) s in let j = mul-le-mul_right g l2 in omega (arith, a, b, c, i, j)

late_step : (W q1 q2 r1 r2 k t z zt P' P1 P c Q' Q1 Q c' g0 g1 g2 : ℕ) → P' ≡ q1 * (1 * P1 + z * c) + r1 * P → Q' ≡ q2 * (t * Q1 + zt * c') + r2 * Q → zt ≡ t * z
    → W * (W * P1) ≤ W * Q1 + 4 * t * suc k * g1 → W * c ≤ c' → q1 * (P1 + z * c) + r1 * P ≤ q2 * t * (P1 + z * c) + t * k * g0 → W * g0 ≤ g1 → W * g1 ≤ g2 → q2 * (t * k) ≤ W → 4 * suc k ≤ 3 * (k * k)
    → W * (W * P') ≤ W * Q' + 4 * t * k * g2
late_step W q1 q2 r1 r2 k t z zt P' P1 P c Q' Q1 Q c' g0 g1 g2 eP eQ ez ih hc loss h1 h2 hq hk =
    let f0 = ap (λ v. W * (W * v)) eP in
    let f1 = mul-le-mul_left (W * W) loss in
    let f2 = mul-le-mul_left (q2 * t) ih in
    let f3 = mul-le-mul_left (W * q2 * t * z) hc in
    let f4 = ap (λ v. W * v) eQ in
    let f5 = ap (λ v. W * q2 * v * c') ez in
    let f6 = mul-le-mul_left (q2 * t * t * g1) hk in
    let f7 = mul-le-mul_left (3 * t * k * g1) hq in
    let f8 = mul-le-mul_left (W * t * k) h1 in
    let f9 = mul-le-mul_left (4 * t * k) h2 in
    omega (arith, f0, f1, f2, f3, f4, f5, f6, f7, f8, f9)

cond_grows : (b : Bool) (x y : ℕ) → 2 ^ 64 * x ≤ y → 2 ^ 64 * cond b x 0 ≤ cond b y 0
cond_grows true x y h = h
cond_grows false x y h = omega arith

few_of : (q m r W : ℕ) → W ≡ q * m + r → q * m ≤ W
few_of q m r W e = omega (arith, e)

-- trials of 1/1, 1/2, .. (P), and those of t/t, t/(2t), .. (Q) a draw later
module _ (t : ℕ) (P Q : ℕ → ℕ → ℕ) (g : ℕ → ℕ) (t_pos : 1 ≤ t) (startP : (k : ℕ) → P k 0 ≡ 0) (stepP : IsTrial 1 1 P g) (stepQ : IsTrial t t Q g) (grows : (n : ℕ) → 2 ^ 64 * g n ≤ g (suc n)) where
  squares : (k : ℕ) → 2 ≤ k → 4 * suc k ≤ 3 * (k * k)
  squares k p = let a = mul-le-mul_left k p in omega (arith, a, p)

  late_sum : (x c g0 k z : ℕ) → 1 + z ≡ k → x ≤ g0 → c ≤ g0 → x + z * c ≤ k * g0
  late_sum x c g0 k z e a b = let d = mul-le-mul_left z b in let f = ap (λ v. v * g0) e in omega (arith, a, d, f)

  pub late : (n k : ℕ) → 2 ≤ k → 2 ^ 64 * (2 ^ 64 * P k n) ≤ 2 ^ 64 * Q k (suc n) + 4 * t * k * g (suc n)
  late zero k p = let a = ap (λ v. 2 ^ 64 * (2 ^ 64 * v)) (startP k) in omega (arith, a)
  late (suc n) k p =
      let z = k - 1 in let zt = t * z in
      let ez : 1 + z ≡ k = omega (arith, p) in
      let e1 : 1 + z ≡ 1 * k = omega (arith, p) in
      let et : t + zt ≡ t * k = (let a = ap (λ v. t * v) ez in omega (arith, a)) in
      let q1 = 2 ^ 64 / (1 * k) in let q2 = 2 ^ 64 / (t * k) in let r1 = 2 ^ 64 % (1 * k) in let r2 = 2 ^ 64 % (t * k) in
      let w1 = words_are (1 * k) in let w2 = words_are (t * k) in
      let big = mul-le-mul_right k t_pos in
      let l1 = mod_below (2 ^ 64) (1 * k) (omega (arith, p)) in let l2 = mod_below (2 ^ 64) (t * k) (omega (arith, p, big)) in
      let c0 = cond (k % 2 == 1) (g n) 0 in
      let u1 = under 1 1 P g startP stepP grows (omega arith) n in
      let loss = late_loss q1 q2 r1 r2 k t (P (suc k) n + z * c0) (P k n) (g n) (same_words q1 q2 r1 r2 k t (2 ^ 64) w1 w2) (omega (arith, l1)) (omega (arith, l2)) (omega (arith, big))
      (late_sum (P (suc k) n) c0 (g n) k z ez (u1 (suc k) (omega arith)) (cond_under (k % 2 == 1) (g n))) (u1 k (omega (arith, p))) in
      late_step (2 ^ 64) q1 q2 r1 r2 k t z zt (P k (suc n)) (P (suc k) n) (P k n) c0 (Q k (suc (suc n))) (Q (suc k) (suc n)) (Q k (suc n)) (cond (k % 2 == 1) (g (suc n)) 0) (g n) (g (suc n)) (g (suc (suc n)))
      (stepP k n z e1) (stepQ k (suc n) zt et) refl (late n (suc k) (omega (arith, p))) (cond_grows (k % 2 == 1) (g n) (g (suc n)) (grows n)) loss (grows n) (grows (suc n)) (few_of q2 (t * k) r2 (2 ^ 64) w2) (squares k p)
    where
      same_words : (q1 q2 r1 r2 k t W : ℕ) → W ≡ q1 * (1 * k) + r1 → W ≡ q2 * (t * k) + r2 → q1 * k + r1 ≡ q2 * t * k + r2
      same_words q1 q2 r1 r2 k t W a b = omega (arith, a, b)

wrap_numbers : (W u P2 Q2 K2 g : ℕ) → W * (W * P2) ≤ W * Q2 + 4 * suc u * 2 * g → 2 * suc u * (suc u * Q2) ≤ 2 * suc u * (u * K2) + (2 * u + 1) * g → 16 * (suc u * suc u * suc u) ≤ W
    → (2 * suc u * W) * (suc u * (W * P2)) ≤ (2 * suc u * W) * (u * K2 + g)
wrap_numbers W u P2 Q2 K2 g late falls small =
    let a = mul-le-mul_left (2 * suc u * suc u) late in let b = mul-le-mul_left W falls in let c = mul-le-mul_right g small in omega (arith, a, b, c)

-- A one of exp(-u/t) at u = t - 1, against one at u = 0 and a whole one of exp(-1) (P) after it.
module _ (u : ℕ) (A K Q P : ℕ → ℕ → ℕ) (f g : ℕ → ℕ) (most : suc u ≤ 1000000) (startA : (k : ℕ) → A k 0 ≡ 0) (startK : (k : ℕ) → K k 0 ≡ 0) (startQ : (k : ℕ) → Q k 0 ≡ 0) (startP : (k : ℕ) → P k 0 ≡ 0)
    (stepA : IsTrial 0 (suc u) A f) (stepK : IsTrial u (suc u) K g) (stepQ : IsTrial (suc u) (suc u) Q g) (stepP : IsTrial 1 1 P g) (then_one : (n : ℕ) → f n ≡ P 1 n) (grows : (n : ℕ) → 2 ^ 64 * g n ≤ g (suc n)) where
  small : 16 * (suc u * suc u * suc u) ≤ 2 ^ 64
  small = let a : suc u * suc u ≤ 1000000 * 1000000 = mul-le-mul most most in let b : (suc u * suc u) * suc u ≤ 1000000 * 1000000 * 1000000 = mul-le-mul a most in omega (arith, b)

  one_more : (n : ℕ) → suc u * f n ≤ u * K 2 n + g n
  one_more zero = let a = ap (λ v. suc u * v) (then_one 0 ∙ startP 1) in omega (arith, a)
  one_more (suc n) =
      let s = stepP 1 n 0 refl in
      let e : f (suc n) ≡ 2 ^ 64 * P 2 n = (let a = then_one (suc n) in omega (arith, a, s)) in
      let l = late (suc u) P Q g (omega arith) startP stepP stepQ grows n 2 (omega arith) in
      let h = (falls u (suc u) K Q g startK startQ stepK stepQ grows (omega arith) (suc n)).0 1 2 refl (omega arith) in
      let w = wrap_numbers (2 ^ 64) u (P 2 n) (Q 2 (suc n)) (K 2 (suc n)) (g (suc n)) l h small in
      let r : suc u * (2 ^ 64 * P 2 n) ≤ u * K 2 (suc n) + g (suc n) = le_of_mul-le-mul_left w (omega arith) in
      let b = ap (λ v. suc u * v) e in omega (arith, b, r)

  pub wraps : (n : ℕ) → A 1 n ≤ K 1 n
  wraps zero = let a = startA 1 in omega (arith, a)
  wraps (suc n) =
      let q = 2 ^ 64 / (suc u * 1) in let r = 2 ^ 64 % (suc u * 1) in
      let a = stepA 1 n (suc u * 1) (omega arith) in let b = stepK 1 n 1 (omega arith) in
      let c = mul-le-mul_left q (one_more n) in let d = mul-le-mul_left r (wraps n) in
      omega (arith, a, b, c, d)
