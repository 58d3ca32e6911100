-- Larger noise comes from no more lists: the first attempt, and those after it.
use Rattle.std.proofs.Common.{◌≡◌, ◌∙◌, sym, ap, subst, refl, ℕ, zero, suc, ◌+◌, ◌-◌, ◌*◌, ◌%◌, ◌<◌, ◌≤◌, Bool, true, false, List, Option, Some, None, arith}
use Rattle.std.specs.Prelude.{cond, not, ◌/◌, ◌^◌, ◌==◌, ◌&&◌, nat_lt, ℤ, pos, negsuc}
use Rattle.std.proofs.lemmas.Bool.{eqb-true, eq-eqb, ltb-true, ltb-false, lt-ltb, le-ltb, and_parts}
use Rattle.std.proofs.lemmas.Nat.{mod_below, div-mul-add}
use Rattle.std.proofs.Math.Nat.{mul-le-mul_left, mod-add-div'}
use Rattle.exact_bernoulli.specs.Readers.{read_bernoulli, read_uniform}
use Rattle.exact_bernoulli.specs.Meter.{draw_limit}
use Rattle.discrete_laplace.specs.DiscreteLaplace.{signed_size}
use Rattle.draw_counts.specs.Counts.{sum_below}
use Rattle.draw_counts.specs.Noises.{noise_passes, is_noise, noise_lists}
use Rattle.draw_counts.proofs.Uniform.{below_ext, lists_ext}
use Rattle.draw_counts.proofs.After.{lists_add, sums}
use Rattle.draw_counts.proofs.Symmetry.{whole_noise}
use Rattle.draw_counts.proofs.Steps.{outcome, outcome_ext, count, bit, uniform_step, uniform_start, bernoulli_step, bernoulli_start, trials, trials_step, trials_start, ones, signed_after, accepted, started, noise_from, then_again, noise_unroll, whole_sample}
use Rattle.draw_counts.proofs.Chains.{ones_le}
use Rattle.draw_counts.proofs.Begins.{cond_out}
use Rattle.draw_counts.proofs.Shift.{sum_le}
use Rattle.draw_counts.proofs.Whole.{outcome_bits, is_size, given_at, goes_on, minus_next, plus_next}
use Rattle.draw_counts.proofs.Order.{ends_of, ends_struct, hit, plus, same_bool, start_of, start_next, inside, block, block_falls}

step_le : (q u r z x' x1 x0 x y' y1 y0 y : ℕ) → x' ≡ q * (u * x1 + z * x0) + r * x → y' ≡ q * (u * y1 + z * y0) + r * y → x1 ≤ y1 → x0 ≤ y0 → x ≤ y → x' ≤ y'
step_le q u r z x' x1 x0 x y' y1 y0 y e e' h1 h0 h =
    let a = mul-le-mul_left (q * u) h1 in let b = mul-le-mul_left (q * z) h0 in let d = mul-le-mul_left r h in omega (arith, a, b, d, e, e')

abbrev Steps : (u t : ℕ) → (K c : ℕ → ℕ → ℕ) → Type 0
Steps u t K c = (k n z : ℕ) → u + z ≡ t * k → K k (suc n) ≡ 2 ^ 64 / (t * k) * (u * K (suc k) n + z * c k n) + 2 ^ 64 % (t * k) * K k n

trial_le : (u t most : ℕ) (K c K' c' : ℕ → ℕ → ℕ) → u ≤ t → ((k : ℕ) → K k 0 ≡ 0) → Steps u t K c → Steps u t K' c' → ((k n : ℕ) → n < most → c k n ≤ c' k n) → (n k : ℕ) → n ≤ most → 1 ≤ k → K k n ≤ K' k n
trial_le u t most K c K' c' fraction start step step' conts zero k l p = let a = start k in omega (arith, a)
trial_le u t most K c K' c' fraction start step step' conts (suc n) k l p =
    let z = t * k - u in
    let e : u + z ≡ t * k = (let a = mul-le-mul_left t p in omega (arith, a, fraction)) in
    step_le (2 ^ 64 / (t * k)) u (2 ^ 64 % (t * k)) z (K k (suc n)) (K (suc k) n) (c k n) (K k n) (K' k (suc n)) (K' (suc k) n) (c' k n) (K' k n) (step k n z e) (step' k n z e)
    (trial_le u t most K c K' c' fraction start step step' conts n (suc k) (omega (arith, l)) (omega arith)) (conts k n l) (trial_le u t most K c K' c' fraction start step step' conts n k (omega (arith, l)) p)

cond_le : (b : Bool) (x y x' y' : ℕ) → x ≤ x' → y ≤ y' → cond b x y ≤ cond b x' y'
cond_le true x y x' y' h k = h
cond_le false x y x' y' h k = k

both_bits : (b x x' y y' z z' : Bool) → bit x ≡ bit y + bit z → bit x' ≡ bit y' + bit z' → bit (cond b x x') ≡ bit (cond b y y') + bit (cond b z z')
both_bits true x x' y y' z z' h k = h
both_bits false x x' y y' z z' h k = k

and_false : (b : Bool) → false ≡ b && false
and_false true = refl
and_false false = refl

and_true : (b : Bool) → b ≡ b && true
and_true true = refl
and_true false = refl

once : (n : ℕ) (p q : List ℕ → Bool) → count n p ≤ count n q → 1 * count n p ≤ count (n + 0) q
once n p q h = let e : n ≡ n + 0 = omega arith in subst (λ m. 1 * count n p ≤ count m q) e (omega (arith, h))

not_once : (n : ℕ) (p q : List ℕ → Bool) → 1 * count n p ≤ count (n + 0) q → count n p ≤ count n q
not_once n p q h = let e : n + 0 ≡ n = omega arith in let a = subst (λ m. 1 * count n p ≤ count m q) e h in omega (arith, a)

module _ (t s : ℕ) (t_pos : 0 < t) (t_most : t ≤ 1000000) (s_pos : 0 < s) where
  -- the attempts that give k
  size_inside : (x k : ℕ) → ((x / s) == k) ≡ inside t (s * k) s x
  unfolding inside
  size_inside x k = same_bool ((x / s) == k) (not (nat_lt x (s * k)) && nat_lt x (s * k + s))
      (λ y. let e = eqb-true (x / s) k y in let a = mod-add-div' x s in let b = mod_below x s s_pos in let c = ap (λ v. v * s) e in
      ap (λ b. not b && nat_lt x (s * k + s)) (le-ltb x (s * k) (omega (arith, a, c))) ∙ lt-ltb x (s * k + s) (omega (arith, a, b, c)))
      (λ y. let both = and_parts (not (nat_lt x (s * k))) (nat_lt x (s * k + s)) y in
      let high = ltb-true x (s * k + s) both.1 in let low = ltb-false x (s * k) (un_not (nat_lt x (s * k)) both.0) in
      let e : k * s + (x - s * k) ≡ x = omega (arith, low) in
      eq-eqb (x / s) k (ap (λ v. v / s) (sym e) ∙ div-mul-add k s (x - s * k) (omega (arith, low, high))))
    where
      un_not : (b : Bool) → not b ≡ true → b ≡ false
      un_not true h = sym h
      un_not false h = refl

  sign_given : (o : Option (Bool × List ℕ)) (y k : ℕ) (b : Bool) → (y == k) ≡ b → outcome false o (λ negative more. given_at s s_pos k (signed_size negative y) more) ≡ (b && outcome false o (λ negative more. not negative))
  unfolding given_at is_size
  sign_given None y k b e = and_false b
  sign_given (Some (true, more)) zero k b e = and_false b
  sign_given (Some (true, more)) (suc y) k b e = and_false b
  sign_given (Some (false, more)) y k b e = e ∙ and_true b

  given_as : (u k n : ℕ) → count n (started false t s (given_at s s_pos k) u) ≡ count n (start_of t u (λ v. inside t (s * k) s (u + t * v)))
  unfolding given_at start_of start_next ends_of hit plus
  given_as u k n = lists_ext (2 ^ 64) n _ _ (λ ws. outcome_ext false (trials u t 1 ws) _ (λ zero last. cond (zero.0 % 2 == 1) (ends_of (hit (λ v. inside t (s * k) s (u + t * v))) 0 last) false)
      (λ zero rest. ap (λ x. cond (zero.0 % 2 == 1) x false) (outcome_ext false (ones 0 rest) (λ one last. signed_after false t s u (given_at s s_pos k) one.0 last) (λ one last. hit (λ v. inside t (s * k) s (u + t * v)) one.0 last)
      (λ one last. sign_given (read_bernoulli 1 2 last) ((u + t * one.0) / s) k (inside t (s * k) s (u + t * one.0)) (size_inside (u + t * one.0) k)))))

  given_falls : (k n : ℕ) → sum_below (λ u. count n (started false t s (given_at s s_pos (suc k)) u)) t ≤ sum_below (λ u. count n (started false t s (given_at s s_pos k) u)) t
  unfolding block
  given_falls k n =
      let a = below_ext (λ u. count n (started false t s (given_at s s_pos (suc k)) u)) (λ u. count n (start_of t u (λ v. inside t (s * suc k) s (u + t * v)))) t (λ u l. given_as u (suc k) n) in
      let b = below_ext (λ u. count n (started false t s (given_at s s_pos k) u)) (λ u. count n (start_of t u (λ v. inside t (s * k) s (u + t * v)))) t (λ u l. given_as u k n) in
      let e : s * k + s ≡ s * suc k = omega arith in
      let h = subst (λ x. sum_below (λ u. count n (start_of t u (λ v. inside t x s (u + t * v)))) t ≤ sum_below (λ u. count n (start_of t u (λ v. inside t (s * k) s (u + t * v)))) t) e (block_falls t t_pos t_most (s * k) s s n) in
      omega (arith, a, b, h)

  -- the attempts that are rejected
  signs : ℕ → (List ℕ → Bool) → ℕ → List ℕ → Bool
  signs u next v last = signed_after false t s u (goes_on s s_pos next) v last

  sign_le : (u v i : ℕ) (next next' : List ℕ → Bool) → ((m : ℕ) → m < i → count m next ≤ count m next') → count i (signs u next v) ≤ count i (signs u next' v)
  unfolding signs
  sign_le u v zero next next' h = let a = bernoulli_start false 1 2 (λ negative last. goes_on s s_pos next (signed_size negative ((u + t * v) / s)) last) in omega (arith, a)
  sign_le u v (suc i) next next' h =
      let y = (u + t * v) / s in
      let a = bernoulli_step false 1 1 2 i (λ negative last. goes_on s s_pos next (signed_size negative y) last) refl in
      let b = bernoulli_step false 1 1 2 i (λ negative last. goes_on s s_pos next' (signed_size negative y) last) refl in
      let m = not_once i (goes_on s s_pos next (signed_size true y)) (goes_on s s_pos next' (signed_size true y)) (minus_next s s_pos y 1 0 i next next' (once i next next' (h i (omega arith)))) in
      let p = not_once i (goes_on s s_pos next (signed_size false y)) (goes_on s s_pos next' (signed_size false y)) (plus_next s s_pos y 1 0 i next next') in
      omega (arith, a, b, m, p)

  accepted_le : (u n : ℕ) (next next' : List ℕ → Bool) → ((m : ℕ) → m < n → count m next ≤ count m next') → count n (ends_of (signs u next) 0) ≤ count n (ends_of (signs u next') 0)
  accepted_le u n next next' h =
      not_once n (ends_of (signs u next) 0) (ends_of (signs u next') 0)
      (ones_le 1 0 (λ v n. count n (ends_of (signs u next) v)) (λ v n. count n (signs u next v)) (λ v n. count n (ends_of (signs u next') v)) (λ v n. count n (signs u next' v)) (ends_struct (signs u next)) (ends_struct (signs u next'))
      (λ v w. v ≡ w) (λ v w e. ap suc e) n (λ v w m e l. subst (λ x. 1 * count m (signs u next v) ≤ count (m + 0) (signs u next' x)) e (once m (signs u next v) (signs u next' v) (sign_le u v m next next' (λ j b. h j (omega (arith, b, l))))))
      n (omega arith) 0 0 n refl (omega arith))

  after_trial : ℕ → (List ℕ → Bool) → ℕ × Bool → List ℕ → Bool
  after_trial u next found last = cond (found.0 % 2 == 1) (ends_of (signs u next) 0 last) (next last)

  trial_count : ℕ → (List ℕ → Bool) → ℕ → ℕ → ℕ
  trial_count u next k n = count n (λ ws. outcome false (trials u t k ws) (after_trial u next))

  trial_step : (u : ℕ) (next : List ℕ → Bool) → Steps u t (trial_count u next) (λ k n. cond (k % 2 == 1) (count n (ends_of (signs u next) 0)) (count n next))
  unfolding trial_count after_trial
  trial_step u next k n z e =
      trials_step false u z t k n (after_trial u next) e
      ∙ ap (λ x. 2 ^ 64 / (t * k) * (u * trial_count u next (suc k) n + z * x) + 2 ^ 64 % (t * k) * trial_count u next k n) (cond_out (k % 2 == 1) n (ends_of (signs u next) 0) next)

  trial_start : (u : ℕ) (next : List ℕ → Bool) (k : ℕ) → trial_count u next k 0 ≡ 0
  unfolding trial_count
  trial_start u next k = trials_start false u t k (after_trial u next)

  rejected_as : (u n : ℕ) (next : List ℕ → Bool) → count n (started false t s (goes_on s s_pos next) u) ≡ trial_count u next 1 n
  unfolding trial_count after_trial signs ends_of goes_on
  rejected_as u n next = refl

  rejected_le : (u n : ℕ) (next next' : List ℕ → Bool) → u < t → ((m : ℕ) → m < n → count m next ≤ count m next') → count n (started false t s (goes_on s s_pos next) u) ≤ count n (started false t s (goes_on s s_pos next') u)
  rejected_le u n next next' l h =
      let r = trial_le u t n (trial_count u next) _ (trial_count u next') _ (omega (arith, l)) (trial_start u next) (trial_step u next) (trial_step u next')
      (λ k m b. cond_le (k % 2 == 1) (count m (ends_of (signs u next) 0)) (count m next) (count m (ends_of (signs u next') 0)) (count m next') (accepted_le u m next next' (λ j c. h j (omega (arith, c, b)))) (h m b))
      n 1 (omega arith) (omega arith) in
      let a = rejected_as u n next in let b = rejected_as u n next' in omega (arith, r, a, b)

  -- whole noises
  wanted : ℕ → ℕ → List ℕ → Bool
  wanted k i ws = noise_passes (is_size k) (noise_from t s i ws)

  either : ℕ → ℕ → Option ℤ → List ℕ → Bool
  either k i = then_again t s (noise_passes (is_size k)) i

  begun : ℕ → ℕ → ℕ → List ℕ → Bool
  begun k i u rest = started false t s (either k i) u rest

  wanted_as : (k i : ℕ) (ws : List ℕ) → wanted k i ws ≡ outcome false (read_uniform t ws) (begun k i)
  unfolding wanted begun either
  wanted_as k i ws = noise_unroll t s i (noise_passes (is_size k)) ws

  bits : (k i : ℕ) (o : Option ℤ) (last : List ℕ) → bit (either k i o last) ≡ bit (given_at s s_pos k o last) + bit (goes_on s s_pos (wanted k (suc i)) o last)
  unfolding either given_at goes_on wanted
  bits k i None last = omega arith
  bits k i (Some z) last = omega arith

  begun_as : (k i u n : ℕ) → count n (begun k i u) ≡ count n (started false t s (given_at s s_pos k) u) + count n (started false t s (goes_on s s_pos (wanted k (suc i))) u)
  unfolding begun
  begun_as k i u n =
      let a = given_at s s_pos k in let b = goes_on s s_pos (wanted k (suc i)) in let c = either k i in
      let sign : (Option ℤ → List ℕ → Bool) → ℕ × Bool → List ℕ → Bool = λ p one last. signed_after false t s u p one.0 last in
      let end : (Option ℤ → List ℕ → Bool) → ℕ → Bool → List ℕ → Bool = λ p v negative last. p (signed_size negative ((u + t * v) / s)) last in
      lists_add (2 ^ 64) n (started false t s c u) (started false t s a u) (started false t s b u) (λ ws. outcome_bits (trials u t 1 ws) _ _ _
      (λ zero rest. both_bits (zero.0 % 2 == 1) (accepted false t s u c rest) (c None rest) (accepted false t s u a rest) (a None rest) (accepted false t s u b rest) (b None rest)
      (outcome_bits (ones 0 rest) (sign c) (sign a) (sign b) (λ one last. outcome_bits (read_bernoulli 1 2 last) (end c one.0) (end a one.0) (end b one.0) (λ negative more. bits k i (signed_size negative ((u + t * one.0) / s)) more)))
      (bits k i None rest)))

  wanted_start : (k i : ℕ) → count 0 (wanted k i) ≡ 0
  wanted_start k i = lists_ext (2 ^ 64) 0 (wanted k i) (λ ws. outcome false (read_uniform t ws) (begun k i)) (wanted_as k i) ∙ uniform_start false t (begun k i)

  wanted_step : (k i n : ℕ) → count (suc n) (wanted k i) ≡ 2 ^ 64 / t * sum_below (λ u. count n (begun k i u)) t + 2 ^ 64 % t * count n (wanted k i)
  wanted_step k i n =
      let here = lists_ext (2 ^ 64) (suc n) (wanted k i) (λ ws. outcome false (read_uniform t ws) (begun k i)) (wanted_as k i) in
      let there = lists_ext (2 ^ 64) n (wanted k i) (λ ws. outcome false (read_uniform t ws) (begun k i)) (wanted_as k i) in
      here ∙ (uniform_step false t n (begun k i) ∙ ap (λ x. 2 ^ 64 / t * sum_below (λ u. count n (begun k i u)) t + 2 ^ 64 % t * x) (sym there))

  begun_sum : (k i n : ℕ) → sum_below (λ u. count n (begun k i u)) t ≡ sum_below (λ u. count n (started false t s (given_at s s_pos k) u)) t + sum_below (λ u. count n (started false t s (goes_on s s_pos (wanted k (suc i))) u)) t
  begun_sum k i n =
      below_ext (λ u. count n (begun k i u)) (λ u. count n (started false t s (given_at s s_pos k) u) + count n (started false t s (goes_on s s_pos (wanted k (suc i))) u)) t (λ u l. begun_as k i u n)
      ∙ sums t (λ u. count n (started false t s (given_at s s_pos k) u)) (λ u. count n (started false t s (goes_on s s_pos (wanted k (suc i))) u))

  wanted_falls : (k within n i i' : ℕ) → n ≤ within → count n (wanted (suc k) i) ≤ count n (wanted k i')
  wanted_falls k within zero i i' l = let a = wanted_start (suc k) i in omega (arith, a)
  wanted_falls k zero (suc n) i i' l = absurd (omega (arith, l))
  wanted_falls k (suc within) (suc n) i i' l =
      let a = wanted_step (suc k) i n in let b = wanted_step k i' n in
      let sa = begun_sum (suc k) i n in let sb = begun_sum k i' n in
      let g = given_falls k n in
      let r = sum_le (λ u. count n (started false t s (goes_on s s_pos (wanted (suc k) (suc i))) u)) (λ u. count n (started false t s (goes_on s s_pos (wanted k (suc i'))) u)) t
      (λ u b. rejected_le u n (wanted (suc k) (suc i)) (wanted k (suc i')) b (λ m c. wanted_falls k within m (suc i) (suc i') (omega (arith, c, l)))) in
      let own = wanted_falls k within n i i' (omega (arith, l)) in
      let all : sum_below (λ u. count n (begun (suc k) i u)) t ≤ sum_below (λ u. count n (begun k i' u)) t = omega (arith, sa, sb, g, r) in
      omega (arith, a, b, mul-le-mul_left (2 ^ 64 / t) all, mul-le-mul_left (2 ^ 64 % t) own)

  same_size : (k : ℕ) (o : Option ℤ) → noise_passes (is_noise k) o ≡ noise_passes (is_size k) o
  unfolding is_size
  same_size k None = refl
  same_size k (Some (pos j)) = refl
  same_size k (Some (negsuc j)) = refl

  noise_as : (k n : ℕ) → n ≤ draw_limit → noise_lists t s n (is_noise k) ≡ count n (wanted k 0)
  unfolding wanted
  noise_as k n l = whole_noise t s n (is_noise k) l ∙ lists_ext (2 ^ 64) n _ _ (λ ws. ap (noise_passes (is_noise k)) (whole_sample t s ws) ∙ same_size k (noise_from t s 0 ws))

  pub larger_rarer : (k n : ℕ) → n ≤ draw_limit → noise_lists t s n (is_noise (suc k)) ≤ noise_lists t s n (is_noise k)
  larger_rarer k n l = let a = noise_as (suc k) n l in let b = noise_as k n l in let c = wanted_falls k n n 0 0 (omega arith) in omega (arith, a, b, c)
