-- What is counted as exhausted after n draws is at most f * (25 * 2^64)^n / 26^n, by a number f for each place in the reading:
-- a step of the reading multiplies what is expected of f by at most 25/26.
use Rattle.std.proofs.Common.{◌≡◌, ◌∙◌, sym, ap, subst, refl, ℕ, zero, suc, ◌+◌, ◌-◌, ◌*◌, ◌%◌, ◌<◌, ◌≤◌, arith}
use Rattle.std.specs.Prelude.{◌/◌, ◌^◌}
use Rattle.std.proofs.lemmas.Nat.{mod_below}
use Rattle.std.proofs.Math.Nat.{mul-le-mul, mul-le-mul_left, mul-le-mul_right, mul-pos, pow-succ'}
use Rattle.draw_counts.specs.Counts.{sum_below}
use Rattle.draw_counts.proofs.Uniform.{words_are}

abbrev pub Tail : (x f n : ℕ) → Type 0
Tail x f n = x * 26 ^ n ≤ f * (25 * 2 ^ 64) ^ n

step_bound : (q m r W n z x' x1 x0 x f1 f0 f P Q : ℕ) → W ≡ q * m + r → 1000 * r ≤ q * m → x' ≡ q * (n * x1 + z * x0) + r * x → x1 * P ≤ f1 * Q → x0 * P ≤ f0 * Q → x * P ≤ f * Q
    → 26000 * (n * f1 + z * f0) ≤ 24999 * (m * f) → x' * (26 * P) ≤ f * ((25 * W) * Q)
step_bound q m r W n z x' x1 x0 x f1 f0 f P Q w small e h1 h0 h c =
    let a = mul-le-mul_left (q * n) h1 in
    let b = mul-le-mul_left (q * z) h0 in
    let d = mul-le-mul_left r h in
    let g = mul-le-mul_right (q * Q) c in
    let s = mul-le-mul_right (f * Q) small in
    let l = ap (λ y. y * (26 * P)) e in
    let k = ap (λ y. f * ((25 * y) * Q)) w in
    omega (arith, a, b, d, g, s, l, k)

few_rejected : (a m r : ℕ) → 2 ^ 64 ≡ a + r → r < m → m ≤ 2 ^ 32 → 1000 * r ≤ a
few_rejected a m r w l h = omega arith

pub step_tail : (m n z x' x1 x0 x f1 f0 f j : ℕ) → 0 < m → m ≤ 2 ^ 32 → x' ≡ 2 ^ 64 / m * (n * x1 + z * x0) + 2 ^ 64 % m * x → Tail x1 f1 j → Tail x0 f0 j → Tail x f j
    → 26000 * (n * f1 + z * f0) ≤ 24999 * (m * f) → Tail x' f (suc j)
step_tail m n z x' x1 x0 x f1 f0 f j pos most e h1 h0 h c =
    let q = 2 ^ 64 / m in let r = 2 ^ 64 % m in
    let w = words_are m in
    let g = step_bound q m r (2 ^ 64) n z x' x1 x0 x f1 f0 f (26 ^ j) ((25 * 2 ^ 64) ^ j) w (few_rejected (q * m) m r w (mod_below (2 ^ 64) m pos) most) e h1 h0 h c in
    subst (λ y. x' * y ≤ f * (25 * 2 ^ 64) ^ suc j) (sym (pow-succ' 26 j)) (subst (λ y. x' * (26 * 26 ^ j) ≤ f * y) (sym (pow-succ' (25 * 2 ^ 64) j)) g)

pub start_tail : (x f : ℕ) → x ≤ 1 → 1 ≤ f → Tail x f 0
start_tail x f h k = omega arith

pub nothing_tail : (x f n : ℕ) → x ≡ 0 → Tail x f n
nothing_tail x f n e = subst (λ y. y * 26 ^ n ≤ f * (25 * 2 ^ 64) ^ n) (sym e) (omega arith)

pub sum_tail : (x f : ℕ → ℕ) (n m : ℕ) → ((i : ℕ) → i < m → Tail (x i) (f i) n) → Tail (sum_below x m) (sum_below f m) n
unfolding sum_below
sum_tail x f n zero h = omega arith
sum_tail x f n (suc m) h = let a = sum_tail x f n m (λ i l. h i (omega (arith, l))) in let b = h m (omega arith) in omega (arith, a, b)

-- Trials of u/(t*1), u/(t*2), ..: `first` at the first, `even` and `odd` at later ones, where what comes after an odd or an even
-- number of trials has its own bound.
module _ (u t most first even odd after_odd after_even : ℕ) (K c : ℕ → ℕ → ℕ) (t_pos : 0 < t) (t_most : t ≤ 1000000) (fraction : u ≤ t) (draws : most ≤ 4096)
    (start : (k : ℕ) → K k 0 ≤ 1) (step : (k n z : ℕ) → u + z ≡ t * k → K k (suc n) ≡ 2 ^ 64 / (t * k) * (u * K (suc k) n + z * c k n) + 2 ^ 64 % (t * k) * K k n)
    (first_pos : 1 ≤ first) (even_pos : 1 ≤ even) (odd_pos : 1 ≤ odd)
    (odds : (j n : ℕ) → n < most → Tail (c (2 * j + 1) n) after_odd n) (evens : (j n : ℕ) → n < most → Tail (c (2 * j) n) after_even n)
    (at_first : (z : ℕ) → u + z ≡ t * 1 → 26000 * (u * even + z * after_odd) ≤ 24999 * (t * 1 * first))
    (at_even : (j z : ℕ) → 1 ≤ j → u + z ≡ t * (2 * j) → 26000 * (u * odd + z * after_even) ≤ 24999 * (t * (2 * j) * even))
    (at_odd : (j z : ℕ) → 1 ≤ j → u + z ≡ t * (2 * j + 1) → 26000 * (u * even + z * after_odd) ≤ 24999 * (t * (2 * j + 1) * odd)) where
  rest : (k : ℕ) → 1 ≤ k → u + (t * k - u) ≡ t * k
  rest k l = let a = mul-le-mul_left t l in omega (arith, a, fraction)

  few : (k : ℕ) → k ≤ 4100 → t * k ≤ 2 ^ 32
  few k l = let a : t * k ≤ 1000000 * 4100 = mul-le-mul t_most l in omega (arith, a)

  later : (n : ℕ) → n ≤ most → ((j k : ℕ) → k ≡ 2 * j → 1 ≤ j → k + n ≤ 4100 → Tail (K k n) even n) × ((j k : ℕ) → k ≡ 2 * j + 1 → 1 ≤ j → k + n ≤ 4100 → Tail (K k n) odd n)
  later zero l = (λ j k e p m. start_tail (K k 0) even (start k) even_pos, λ j k e p m. start_tail (K k 0) odd (start k) odd_pos)
  later (suc n) l =
      let r = later n (omega (arith, l)) in (
        λ j k e p m. let z = t * k - u in let w = rest k (omega (arith, e, p)) in
            step_tail (t * k) u z (K k (suc n)) (K (suc k) n) (c k n) (K k n) odd after_even even n (mul-pos t_pos (omega (arith, e, p))) (few k (omega (arith, m))) (step k n z w)
            (r.1 j (suc k) (omega (arith, e)) p (omega (arith, m))) (subst (λ x. Tail (c x n) after_even n) (sym e) (evens j n l)) (r.0 j k e p (omega (arith, m)))
            (subst (λ x. 26000 * (u * odd + z * after_even) ≤ 24999 * (t * x * even)) (sym e) (at_even j z p (w ∙ ap (λ x. t * x) e))),
        λ j k e p m. let z = t * k - u in let w = rest k (omega (arith, e, p)) in
            step_tail (t * k) u z (K k (suc n)) (K (suc k) n) (c k n) (K k n) even after_odd odd n (mul-pos t_pos (omega (arith, e, p))) (few k (omega (arith, m))) (step k n z w)
            (r.0 (suc j) (suc k) (omega (arith, e)) (omega (arith, p)) (omega (arith, m))) (subst (λ x. Tail (c x n) after_odd n) (sym e) (odds j n l)) (r.1 j k e p (omega (arith, m)))
            (subst (λ x. 26000 * (u * even + z * after_odd) ≤ 24999 * (t * x * odd)) (sym e) (at_odd j z p (w ∙ ap (λ x. t * x) e))),
      )

  pub trials_tail : (n : ℕ) → n ≤ most → Tail (K 1 n) first n
  trials_tail zero l = start_tail (K 1 0) first (start 1) first_pos
  trials_tail (suc n) l =
      let z = t * 1 - u in let w = rest 1 (omega arith) in
      step_tail (t * 1) u z (K 1 (suc n)) (K 2 n) (c 1 n) (K 1 n) even after_odd first n (mul-pos t_pos (omega arith)) (few 1 (omega arith)) (step 1 n z w)
      ((later n (omega (arith, l))).0 1 2 refl (omega arith) (omega (arith, l, draws))) (odds 0 n l) (trials_tail n (omega (arith, l))) (at_first z w)
