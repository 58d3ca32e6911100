-- How many lists are exhausted: the numbers of each place in the reading of a noise.
use Rattle.std.proofs.Common.{◌≡◌, ◌∙◌, sym, ap, subst, refl, ℕ, zero, suc, ◌+◌, ◌*◌, ◌%◌, ◌<◌, ◌≤◌, Bool, true, false, List, Option, Some, None, arith}
use Rattle.std.specs.Prelude.{cond, ◌/◌, ◌^◌, ◌==◌, ℤ, is_none}
use Rattle.std.proofs.lemmas.Bool.{eq-eqb, ne_eqb}
use Rattle.std.proofs.Math.Nat.{mul-le-mul_right}
use Rattle.exact_bernoulli.specs.Readers.{read_bernoulli, read_uniform}
use Rattle.discrete_laplace.specs.DiscreteLaplace.{signed_size}
use Rattle.draw_counts.specs.Counts.{sum_below}
use Rattle.draw_counts.proofs.Uniform.{lists_ext, lists_none}
use Rattle.draw_counts.proofs.Steps.{outcome, count, bit, uniform_step, uniform_start, bernoulli_step, bernoulli_start, trials, trials_step, trials_start, ones, ones_unroll, started, noise_from, then_again, noise_unroll}
use Rattle.draw_counts.proofs.Potentials.{Tail, step_tail, start_tail, nothing_tail, sum_tail, trials_tail}

pub odd_is : (j : ℕ) → ((2 * j + 1) % 2 == 1) ≡ true
odd_is j = eq-eqb ((2 * j + 1) % 2) 1 (omega arith)

pub even_is : (j : ℕ) → ((2 * j) % 2 == 1) ≡ false
even_is j = ne_eqb ((2 * j) % 2) 1 (λ e. omega (arith, e))

pub cond_count : (b c : Bool) (n : ℕ) (p q : List ℕ → Bool) → b ≡ c → count n (λ ws. cond b (p ws) (q ws)) ≡ count n (λ ws. cond c (p ws) (q ws))
cond_count b c n p q e = ap (λ x. count n (λ ws. cond x (p ws) (q ws))) e

one_at_most : (x : ℕ) → x ≡ bit true → x ≤ 1
one_at_most x e = omega (arith, e)

module _ (t s : ℕ) (t_pos : 0 < t) (t_most : t ≤ 1000000) where
  again : ℕ → List ℕ → Bool
  again k ws = is_none (noise_from t s k ws)

  goes : ℕ → Option ℤ → List ℕ → Bool
  goes k = then_again t s is_none k

  goes_none : (k n : ℕ) → count n (goes k None) ≡ count n (again (suc k))
  unfolding goes again
  goes_none k n = refl

  goes_some : (k n : ℕ) (z : ℤ) → count n (goes k (Some z)) ≡ 0
  unfolding goes
  goes_some k n z = lists_none (2 ^ 64) n

  sign_part : ℕ → ℕ → List ℕ → Bool
  sign_part k y rest = outcome true (read_bernoulli 1 2 rest) (λ negative last. goes k (signed_size negative y) last)

  ones_part : ℕ → ℕ → ℕ → List ℕ → Bool
  ones_part k u v rest = outcome true (ones v rest) (λ zero last. sign_part k ((u + t * zero.0) / s) last)

  start_part : ℕ → ℕ → List ℕ → Bool
  start_part k u rest = outcome true (trials u t 1 rest) (λ zero last. cond (zero.0 % 2 == 1) (ones_part k u 0 last) (goes k None last))

  -- bounds where the next attempt has its own
  module _ (k most : ℕ) (draws : most ≤ 4096) (next : (n : ℕ) → n ≤ most → Tail (count n (again (suc k))) (100 * t) n) where
    minus : (y n : ℕ) → n ≤ most → Tail (count n (goes k (signed_size true y))) (100 * t) n
    minus zero n l = subst (λ x. Tail x (100 * t) n) (sym (goes_none k n)) (next n l)
    minus (suc y) n l = nothing_tail _ (100 * t) n (goes_some k n _)

    sign_tail : (y n : ℕ) → n ≤ most → Tail (count n (sign_part k y)) (53 * t) n
    unfolding sign_part
    sign_tail y zero l = start_tail _ (53 * t) (one_at_most _ (bernoulli_start true 1 2 (λ negative last. goes k (signed_size negative y) last))) (omega (arith, t_pos))
    sign_tail y (suc n) l =
        step_tail 2 1 1 (count (suc n) (sign_part k y)) (count n (goes k (signed_size true y))) (count n (goes k (signed_size false y))) (count n (sign_part k y)) (100 * t) 0 (53 * t) n (omega arith) (omega arith)
        (bernoulli_step true 1 1 2 n (λ negative last. goes k (signed_size negative y) last) refl)
        (minus y n (omega (arith, l))) (nothing_tail _ 0 n (goes_some k n _)) (sign_tail y n (omega (arith, l))) (omega arith)

    after_trial : ℕ → ℕ → ℕ × Bool → List ℕ → Bool
    after_trial u v found last = cond (found.0 % 2 == 1) (ones_part k u (suc v) last) (sign_part k ((u + t * v) / s) last)

    ones_as : (u v n : ℕ) → count n (ones_part k u v) ≡ count n (λ ws. outcome true (trials 1 1 1 ws) (after_trial u v))
    unfolding ones_part after_trial
    ones_as u v n = lists_ext (2 ^ 64) n _ _ (λ ws. ones_unroll true v (λ zero last. sign_part k ((u + t * zero.0) / s) last) ws)

    one_trial : (u v within : ℕ) → within ≤ most → ((n : ℕ) → n < within → Tail (count n (ones_part k u (suc v))) (67 * t) n) → (n : ℕ) → n ≤ within → Tail (count n (ones_part k u v)) (67 * t) n
    unfolding after_trial
    one_trial u v within l more n m = subst (λ x. Tail x (67 * t) n) (sym (ones_as u v n))
        (trials_tail 1 1 within (67 * t) (64 * t) (70 * t) (67 * t) (53 * t) (λ i n. count n (λ ws. outcome true (trials 1 1 i ws) (after_trial u v))) (λ i n. count n (after_trial u v (i, false)))
        (omega arith) (omega arith) (omega arith) (omega (arith, l, draws))
        (λ i. one_at_most _ (trials_start true 1 1 i (after_trial u v)))
        (λ i n z e. trials_step true 1 z 1 i n (after_trial u v) e)
        (omega (arith, t_pos)) (omega (arith, t_pos)) (omega (arith, t_pos))
        (λ j i h. subst (λ x. Tail x (67 * t) i) (sym (cond_count _ true i (ones_part k u (suc v)) (sign_part k ((u + t * v) / s)) (odd_is j))) (more i h))
        (λ j i h. subst (λ x. Tail x (53 * t) i) (sym (cond_count _ false i (ones_part k u (suc v)) (sign_part k ((u + t * v) / s)) (even_is j))) (sign_tail ((u + t * v) / s) i (omega (arith, h, l))))
        (λ z e. let a : z ≡ 0 = omega (arith, e) in omega (arith, ap (λ x. x * t) a))
        (λ j z p e. let a : z + 1 ≡ 2 * j = omega (arith, e) in omega (arith, ap (λ x. x * t) a, mul-le-mul_right t p))
        (λ j z p e. let a : z ≡ 2 * j = omega (arith, e) in omega (arith, ap (λ x. x * t) a, mul-le-mul_right t p))
        n m)

    ones_tail : (within : ℕ) → within ≤ most → (u v n : ℕ) → n ≤ within → Tail (count n (ones_part k u v)) (67 * t) n
    ones_tail zero l u v n m = one_trial u v 0 l (λ i h. absurd (omega (arith, h))) n m
    ones_tail (suc within) l u v n m = one_trial u v (suc within) l (λ i h. ones_tail within (omega (arith, l)) u (suc v) i (omega (arith, h))) n m

    after_start : ℕ → ℕ × Bool → List ℕ → Bool
    after_start u found last = cond (found.0 % 2 == 1) (ones_part k u 0 last) (goes k None last)

    start_bound : (u : ℕ) → u < t → (n : ℕ) → n ≤ most → Tail (count n (start_part k u)) (70 * t + 40 * u) n
    unfolding start_part after_start
    start_bound u below n m =
        trials_tail u t most (70 * t + 40 * u) (105 * t) (83 * t) (67 * t) (100 * t) (λ i n. count n (λ ws. outcome true (trials u t i ws) (after_start u))) (λ i n. count n (after_start u (i, false)))
        t_pos t_most (omega (arith, below)) draws
        (λ i. one_at_most _ (trials_start true u t i (after_start u)))
        (λ i n z e. trials_step true u z t i n (after_start u) e)
        (omega (arith, t_pos)) (omega (arith, t_pos)) (omega (arith, t_pos))
        (λ j i h. subst (λ x. Tail x (67 * t) i) (sym (cond_count _ true i (ones_part k u 0) (goes k None) (odd_is j))) (ones_tail most (omega arith) u 0 i (omega (arith, h))))
        (λ j i h. subst (λ x. Tail x (100 * t) i) (sym (cond_count _ false i (ones_part k u 0) (goes k None) (even_is j) ∙ goes_none k i)) (next i (omega (arith, h))))
        (λ z e. omega (arith, ap (λ x. x * t) e, mul-le-mul_right t (let b : u ≤ t = omega (arith, below) in b)))
        (λ j z p e. omega (arith, ap (λ x. x * t) e, mul-le-mul_right (t * t) p))
        (λ j z p e. omega (arith, ap (λ x. x * t) e, mul-le-mul_right (t * t) p, mul-le-mul_right t (let b : u ≤ t = omega (arith, below) in b)))
        n m

    mean : (m : ℕ) → sum_below (λ u. 70 * t + 40 * u) m + 20 * m ≡ 70 * t * m + 20 * (m * m)
    unfolding sum_below
    mean zero = omega arith
    mean (suc m) = let a = mean m in omega (arith, a)

    attempt_tail : (n : ℕ) → n ≤ most → Tail (count n (again k)) (100 * t) n → Tail (count (suc n) (again k)) (100 * t) (suc n)
    unfolding again goes sign_part ones_part start_part
    attempt_tail n l own =
        let same = noise_unroll t s k is_none in
        let x = uniform_step true t n (λ u rest. start_part k u rest) in
        let sums = sum_tail (λ u. count n (start_part k u)) (λ u. 70 * t + 40 * u) n t (λ u b. start_bound u b n l) in
        let here = lists_ext (2 ^ 64) (suc n) (again k) (λ ws. outcome true (read_uniform t ws) (λ u rest. start_part k u rest)) same in
        let there = lists_ext (2 ^ 64) n (again k) (λ ws. outcome true (read_uniform t ws) (λ u rest. start_part k u rest)) same in
        let all = sum_below (λ u. count n (start_part k u)) t in
        let e : count (suc n) (again k) ≡ 2 ^ 64 / t * (1 * all + 0 * 0) + 2 ^ 64 % t * count n (again k) =
        here ∙ (x ∙ (ap (λ y. 2 ^ 64 / t * all + 2 ^ 64 % t * y) (sym there) ∙ ap (λ y. 2 ^ 64 / t * y + 2 ^ 64 % t * count n (again k)) (let f : all ≡ 1 * all + 0 * 0 = omega arith in f))) in
        step_tail t 1 0 (count (suc n) (again k)) all 0 (count n (again k)) (sum_below (λ u. 70 * t + 40 * u) t) 0 (100 * t) n t_pos (omega (arith, t_most)) e sums (nothing_tail 0 0 n refl) own
        (let a = mean t in omega (arith, a))

  start_as : (k : ℕ) (ws : List ℕ) → again k ws ≡ outcome true (read_uniform t ws) (λ u rest. started true t s (then_again t s is_none k) u rest)
  unfolding again
  start_as k ws = noise_unroll t s k is_none ws

  noise_tail : (within : ℕ) → within ≤ 4096 → (k n : ℕ) → n ≤ within → Tail (count n (again k)) (100 * t) n
  noise_tail within l k zero m =
      start_tail _ (100 * t) (one_at_most _ (lists_ext (2 ^ 64) 0 (again k) (λ ws. outcome true (read_uniform t ws) (λ u rest. started true t s (then_again t s is_none k) u rest)) (start_as k) ∙ uniform_start true t _)) (omega (arith, t_pos))
  noise_tail zero l k (suc n) m = absurd (omega (arith, m))
  noise_tail (suc within) l k (suc n) m =
      attempt_tail k n (omega (arith, l, m)) (λ i h. noise_tail within (omega (arith, l)) (suc k) i (omega (arith, h, m))) n (omega arith) (noise_tail within (omega (arith, l)) k n (omega (arith, m)))

  pub exhausted_tail : (n : ℕ) → n ≤ 4096 → Tail (count n (λ ws. is_none (noise_from t s 0 ws))) (100 * t) n
  unfolding again
  exhausted_tail n l = noise_tail n l 0 n (omega arith)
