-- How many lists begin with so many ones of exp(-1), from below: the chance without a limit on draws, less a bound on what takes
-- longer.
use Rattle.std.proofs.Common.{◌≡◌, ◌∙◌, sym, ap, subst, refl, ℕ, zero, suc, ◌+◌, ◌-◌, ◌*◌, ◌%◌, ◌<◌, ◌≤◌, Bool, true, false, arith}
use Rattle.std.specs.Prelude.{◌/◌, ◌^◌}
use Rattle.std.proofs.Math.Nat.{mul-le-mul, mul-le-mul_left, mul-le-mul_right, pow-succ'}
use Rattle.std.proofs.lemmas.Nat.{mod_below}
use Rattle.draw_counts.proofs.Uniform.{words_are}
use Rattle.draw_counts.proofs.Chains.{IsChain, rest_of}

-- The chance that trials 1/k, 1/(k+1), .. of at most so many give a one, as a fraction; k is odd where the bit is true.
unfoldable pub bottom : (steps k : ℕ) → ℕ
bottom zero k = 1
bottom (suc f) k = k * bottom f (suc k)

unfoldable pub top : Bool → (steps k : ℕ) → ℕ
top odd zero k = 0
top true (suc f) k = top false f (suc k) + (k - 1) * bottom f (suc k)
top false (suc f) k = top true f (suc k)

pub at_most_one : (odd : Bool) (f k : ℕ) → 1 ≤ k → top odd f k ≤ bottom f k
unfolding top bottom
at_most_one odd zero k p = omega arith
at_most_one true (suc f) k p =
    let a = at_most_one false f (suc k) (omega arith) in let e : (k - 1) + 1 ≡ k = omega (arith, p) in
    let g = ap (λ v. v * bottom f (suc k)) e in omega (arith, a, g)
at_most_one false (suc f) k p = let a = at_most_one true f (suc k) (omega arith) in let g = mul-le-mul_right (bottom f (suc k)) p in omega (arith, a, g)

least_step : (W q r k z e a' b' A B G h w x' x1 x0 x P1 P0 P : ℕ) → W ≡ q * k + r → e ≤ z → x' ≡ q * (1 * x1 + z * x0) + r * x
    → a' * (A * G) ≤ b' * (B * (x1 * h)) + b' * (P1 * w) → e * (A * G) ≤ e * (B * (x0 * h)) + e * (P0 * w)
    → (a' + e * b') * (A * G) ≤ (k * b') * (B * (x * h)) + (k * b') * (P * w)
    → 2 * (q * P1 + q * e * P0 + r * P) ≤ W * P
    → (a' + e * b') * (A * (2 * W * G)) ≤ (k * b') * (B * (x' * (2 * h))) + (k * b') * (P * (W * w))
least_step W q r k z e a' b' A B G h w x' x1 x0 x P1 P0 P ew le ex h1 h0 hk pots =
    let f1 = mul-le-mul_left (2 * q * k) h1 in
    let f0 = mul-le-mul_left (2 * q * k * b') h0 in
    let fk = mul-le-mul_left (2 * r) hk in
    let fz = mul-le-mul_right (q * x0) le in
    let fx : q * x1 + q * e * x0 + r * x ≤ x' = omega (arith, fz, ex) in
    let gx = mul-le-mul_left (2 * k * b' * B * h) fx in
    let fp = mul-le-mul_left (k * b' * w) pots in
    let gw = ap (λ v. (a' + e * b') * (A * (2 * v * G))) ew in
    omega (arith, f1, f0, fk, gx, fp, gw)

-- Trials that go on as x at an odd number of them.
module _ (K c : ℕ → ℕ → ℕ) (x : ℕ → ℕ) (A B P : ℕ) (start : (k : ℕ) → K k 0 ≡ 0) (step : IsChain K c) (odds : (j n : ℕ) → c (2 * j + 1) n ≡ x n)
    (after : (n : ℕ) → n ≤ 4000 → A * (2 * 2 ^ 64) ^ n ≤ B * (x n * 2 ^ n) + P * (2 ^ 64) ^ n) (first : A ≤ P) where
  unfoldable pub IsLeast : (pot : ℕ) → (odd : Bool) → (f k n : ℕ) → Type 0
  IsLeast pot odd f k n = top odd f k * (A * (2 * 2 ^ 64) ^ n) ≤ bottom f k * (B * (K k n * 2 ^ n)) + bottom f k * ((pot * P) * (2 ^ 64) ^ n)

  least_start : (pot : ℕ) (odd : Bool) (f k : ℕ) → 1 ≤ pot → 1 ≤ k → IsLeast pot odd f k 0
  unfolding IsLeast
  least_start pot odd f k q p =
      let a = at_most_one odd f k p in let b = mul-le-mul_right P q in let d : A ≤ pot * P = omega (arith, b, first) in
      let g : top odd f k * A ≤ bottom f k * (pot * P) = mul-le-mul a d in omega (arith, g)

  least_none : (pot : ℕ) (odd : Bool) (k n : ℕ) → IsLeast pot odd 0 k n
  unfolding IsLeast top
  least_none pot odd k n = omega arith

  many : (k : ℕ) → 1 ≤ k → k ≤ 4100 → 8 * (2 ^ 64 % (1 * k)) ≤ 2 ^ 64 / (1 * k)
  many k p l = many_of (2 ^ 64 / (1 * k)) (1 * k) (2 ^ 64 % (1 * k)) (words_are (1 * k)) (mod_below (2 ^ 64) (1 * k) (omega (arith, p))) (omega (arith, l))
    where
      many_of : (q m r : ℕ) → 2 ^ 64 ≡ q * m + r → r < m → m ≤ 4100 → 8 * r ≤ q
      many_of q m r w less le = let a = mul-le-mul_left q le in omega (arith, a)

  even_pots : (q r k : ℕ) → 2 ≤ k → 8 * r ≤ q → 2 * (q * (7 * P) + q * 0 * P + r * (8 * P)) ≤ (q * (1 * k) + r) * (8 * P)
  even_pots q r k p l = let a = mul-le-mul_right (q * P) p in let b = mul-le-mul_right P l in omega (arith, a, b)

  odd_pots : (q r k z : ℕ) → 3 ≤ k → 1 + z ≡ 1 * k → 8 * r ≤ q → 2 * (q * (8 * P) + q * z * P + r * (7 * P)) ≤ (q * (1 * k) + r) * (7 * P)
  odd_pots q r k z p e l = let a = mul-le-mul_right (q * P) p in let b = mul-le-mul_right P l in let g = ap (λ v. q * v * P) e in omega (arith, a, b, g)

  next_powers : (n : ℕ) (a b y pot : ℕ) → a * (A * (2 * 2 ^ 64 * (2 * 2 ^ 64) ^ n)) ≤ b * (B * (y * (2 * 2 ^ n))) + b * ((pot * P) * (2 ^ 64 * (2 ^ 64) ^ n))
      → a * (A * (2 * 2 ^ 64) ^ suc n) ≤ b * (B * (y * 2 ^ suc n)) + b * ((pot * P) * (2 ^ 64) ^ suc n)
  next_powers n a b y pot h =
      subst (λ v. a * (A * v) ≤ b * (B * (y * 2 ^ suc n)) + b * ((pot * P) * (2 ^ 64) ^ suc n)) (sym (pow-succ' (2 * 2 ^ 64) n))
      (subst (λ v. a * (A * (2 * 2 ^ 64 * (2 * 2 ^ 64) ^ n)) ≤ b * (B * (y * v)) + b * ((pot * P) * (2 ^ 64) ^ suc n)) (sym (pow-succ' 2 n))
      (subst (λ v. a * (A * (2 * 2 ^ 64 * (2 * 2 ^ 64) ^ n)) ≤ b * (B * (y * (2 * 2 ^ n))) + b * ((pot * P) * v)) (sym (pow-succ' (2 ^ 64) n)) h))

  zero_more : (a b k G R : ℕ) → a * G ≤ b * R → (a + 0 * b) * G ≤ b * R
  zero_more a b k G R h = omega (arith, h)

  at_even : (f k n : ℕ) → 2 ≤ k → k ≤ 4100 → IsLeast 7 true f (suc k) n → IsLeast 8 false (suc f) k n → IsLeast 8 false (suc f) k (suc n)
  unfolding IsLeast top bottom
  at_even f k n p l h1 hk =
      let q = 2 ^ 64 / (1 * k) in let r = 2 ^ 64 % (1 * k) in let z = k - 1 in let e = rest_of k (omega (arith, p)) in
      let G = (2 * 2 ^ 64) ^ n in let w = (2 ^ 64) ^ n in let a' = top true f (suc k) in let b' = bottom f (suc k) in
      let one : 1 * k ≡ k = omega arith in
      let s = least_step (2 ^ 64) q r (1 * k) z 0 a' b' A B G (2 ^ n) w (K k (suc n)) (K (suc k) n) (c k n) (K k n) (7 * P) P (8 * P) (words_are (1 * k)) (omega arith) (step k n z e)
      h1 (omega arith) (let g : (a' + 0 * b') * (A * G) ≤ (1 * k * b') * (B * (K k n * 2 ^ n)) + (1 * k * b') * ((8 * P) * w) = omega (arith, hk) in g)
      (subst (λ v. 2 * (q * (7 * P) + q * 0 * P + r * (8 * P)) ≤ v * (8 * P)) (sym (words_are (1 * k))) (even_pots q r k p (many k (omega (arith, p)) l))) in
      next_powers n a' (k * b') (K k (suc n)) 8 (omega (arith, s))

  at_odd : (f k n j : ℕ) → k ≡ 2 * j + 1 → 3 ≤ k → k ≤ 4100 → n ≤ 4000 → IsLeast 8 false f (suc k) n → IsLeast 7 true (suc f) k n → IsLeast 7 true (suc f) k (suc n)
  unfolding IsLeast top bottom
  at_odd f k n j ek p l few h1 hk =
      let q = 2 ^ 64 / (1 * k) in let r = 2 ^ 64 % (1 * k) in let z = k - 1 in let e = rest_of k (omega (arith, p)) in
      let G = (2 * 2 ^ 64) ^ n in let w = (2 ^ 64) ^ n in let a' = top false f (suc k) in let b' = bottom f (suc k) in
      let same : c k n ≡ x n = ap (λ v. c v n) ek ∙ odds j n in
      let h0 = mul-le-mul_left z (subst (λ v. A * G ≤ B * (v * 2 ^ n) + P * w) (sym same) (after n few)) in
      let s = least_step (2 ^ 64) q r (1 * k) z z a' b' A B G (2 ^ n) w (K k (suc n)) (K (suc k) n) (c k n) (K k n) (8 * P) P (7 * P) (words_are (1 * k)) (omega arith) (step k n z e)
      h1 (omega (arith, h0)) (let g : (a' + z * b') * (A * G) ≤ (1 * k * b') * (B * (K k n * 2 ^ n)) + (1 * k * b') * ((7 * P) * w) = omega (arith, hk) in g)
      (subst (λ v. 2 * (q * (8 * P) + q * z * P + r * (7 * P)) ≤ v * (7 * P)) (sym (words_are (1 * k))) (odd_pots q r k z p e (many k (omega (arith, p)) l))) in
      next_powers n (a' + z * b') (k * b') (K k (suc n)) 7 (omega (arith, s))

  later : (n : ℕ) → n ≤ 4000 → ((f j k : ℕ) → k ≡ 2 * j → 1 ≤ j → k + n ≤ 4100 → IsLeast 8 false f k n) × ((f j k : ℕ) → k ≡ 2 * j + 1 → 1 ≤ j → k + n ≤ 4100 → IsLeast 7 true f k n)
  later zero few = (λ f j k e p m. least_start 8 false f k (omega arith) (omega (arith, e, p)), λ f j k e p m. least_start 7 true f k (omega arith) (omega (arith, e, p)))
  later (suc n) few = let r = later n (omega (arith, few)) in (evens r, odds_at r)
    where
      evens : ((f j k : ℕ) → k ≡ 2 * j → 1 ≤ j → k + n ≤ 4100 → IsLeast 8 false f k n) × ((f j k : ℕ) → k ≡ 2 * j + 1 → 1 ≤ j → k + n ≤ 4100 → IsLeast 7 true f k n)
          → (f j k : ℕ) → k ≡ 2 * j → 1 ≤ j → k + suc n ≤ 4100 → IsLeast 8 false f k (suc n)
      evens r zero j k e p m = least_none 8 false k (suc n)
      evens r (suc f) j k e p m = at_even f k n (omega (arith, e, p)) (omega (arith, m)) (r.1 f j (suc k) (omega (arith, e)) p (omega (arith, m))) (r.0 (suc f) j k e p (omega (arith, m)))

      odds_at : ((f j k : ℕ) → k ≡ 2 * j → 1 ≤ j → k + n ≤ 4100 → IsLeast 8 false f k n) × ((f j k : ℕ) → k ≡ 2 * j + 1 → 1 ≤ j → k + n ≤ 4100 → IsLeast 7 true f k n)
          → (f j k : ℕ) → k ≡ 2 * j + 1 → 1 ≤ j → k + suc n ≤ 4100 → IsLeast 7 true f k (suc n)
      odds_at r zero j k e p m = least_none 7 true k (suc n)
      odds_at r (suc f) j k e p m = at_odd f k n j e (omega (arith, e, p)) (omega (arith, m)) (omega (arith, few)) (r.0 f (suc j) (suc k) (omega (arith, e)) (omega (arith, p)) (omega (arith, m))) (r.1 (suc f) j k e p (omega (arith, m)))

  first_pots : 2 * (2 ^ 64 * (8 * P) + 2 ^ 64 * 0 * P + 0 * (16 * P)) ≤ 2 ^ 64 * (16 * P)
  first_pots = omega arith

  at_first : (f n : ℕ) → IsLeast 8 false f 2 n → IsLeast 16 true (suc f) 1 n → IsLeast 16 true (suc f) 1 (suc n)
  unfolding IsLeast top bottom
  at_first f n h1 hk =
      let G = (2 * 2 ^ 64) ^ n in let w = (2 ^ 64) ^ n in let a' = top false f 2 in let b' = bottom f 2 in
      let s = least_step (2 ^ 64) (2 ^ 64) 0 1 0 0 a' b' A B G (2 ^ n) w (K 1 (suc n)) (K 2 n) (c 1 n) (K 1 n) (8 * P) P (16 * P) (omega arith) (omega arith) (step 1 n 0 refl)
      h1 (omega arith) hk first_pots in
      next_powers n (a' + 0 * b') (1 * b') (K 1 (suc n)) 16 s

  -- from the first trial on
  pub least : (n f : ℕ) → n ≤ 4000 → IsLeast 16 true (suc f) 1 n
  least zero f m = least_start 16 true (suc f) 1 (omega arith) (omega arith)
  least (suc n) f m = at_first f n ((later n (omega (arith, m))).0 f 1 2 refl (omega arith) (omega (arith, m))) (least n f (omega (arith, m)))
