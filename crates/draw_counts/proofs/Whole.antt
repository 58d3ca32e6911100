-- Noise of whole EPS (t = 1): how many lists give which noise. More ones of exp(-1) make larger noise.
use Rattle.std.proofs.Common.{◌≡◌, ◌∙◌, sym, ap, subst, refl, ℕ, zero, suc, ◌+◌, ◌-◌, ◌*◌, ◌%◌, ◌<◌, ◌≤◌, Bool, true, false, List, Option, Some, None, arith}
use Rattle.std.specs.Prelude.{cond, ◌/◌, ◌^◌, ◌==◌, ℤ, pos, negsuc}
use Rattle.std.proofs.lemmas.Bool.{eqb-true, eq-eqb, ne_eqb}
use Rattle.std.proofs.Math.Nat.{pow-succ', mul-le-mul_left, mul-le-mul_right, add-mul-div_left}
use Rattle.std.proofs.lemmas.Nat.{div_below}
use Rattle.exact_bernoulli.specs.Readers.{read_bernoulli, read_uniform}
use Rattle.discrete_laplace.specs.DiscreteLaplace.{signed_size}
use Rattle.draw_counts.specs.Counts.{sum_below}
use Rattle.draw_counts.specs.Noises.{noise_passes}
use Rattle.draw_counts.proofs.Uniform.{lists_ext, lists_none}
use Rattle.draw_counts.proofs.After.{lists_add}
use Rattle.draw_counts.proofs.Steps.{outcome, count, bit, uniform_step, uniform_start, bernoulli_step, bernoulli_start, trials, trials_step, trials_start, ones, ones_unroll, signed_after, accepted, started, noise_from, then_again, noise_unroll}
use Rattle.draw_counts.proofs.Chains.{IsChain, chain_le, chain_drop, Ones, cond_le, ones_le}
use Rattle.draw_counts.proofs.Begins.{cond_out, lists_all, begins, begins_none, trial_begins, begins_as, begins_start, begins_chain}

pub const_count : (b : Bool) (n : ℕ) → count n (λ _. b) ≡ cond b ((2 ^ 64) ^ n) 0
const_count true n = lists_all (2 ^ 64) n
const_count false n = lists_none (2 ^ 64) n

pub outcome_bits : {A : Type 0} (o : Option (A × List ℕ)) (p q r : A → List ℕ → Bool) → ((a : A) (rest : List ℕ) → bit (p a rest) ≡ bit (q a rest) + bit (r a rest)) → bit (outcome false o p) ≡ bit (outcome false o q) + bit (outcome false o r)
outcome_bits None p q r h = refl
outcome_bits (Some f) p q r h = h f.0 f.1

-- a noise is k
unfoldable pub is_size : ℕ → ℤ → Bool
is_size k (pos j) = j == k
is_size k (negsuc j) = false

cond_implied : (F x y : ℕ) (b c : Bool) → F * x ≤ y → (b ≡ true → c ≡ true) → F * cond b x 0 ≤ cond c y 0
cond_implied F x y false c h k = omega arith
cond_implied F x y true c h k = subst (λ v. F * x ≤ cond v y 0) (sym (k refl)) h

uniform_of_one : (n : ℕ) (q : ℕ → List ℕ → Bool) → count (suc n) (λ ws. outcome false (read_uniform 1 ws) q) ≡ 2 ^ 64 * count n (q 0)
unfolding sum_below
uniform_of_one n q = let a = uniform_step false 1 n q in omega (arith, a)

module _ (s : ℕ) (s_pos : 0 < s) where
  pub sign_of : (Option ℤ → List ℕ → Bool) → ℕ → List ℕ → Bool
  sign_of p v rest = signed_after false 1 s 0 p v rest

  pub ones_of : (Option ℤ → List ℕ → Bool) → ℕ → List ℕ → Bool
  ones_of p v rest = outcome false (ones v rest) (λ zero last. signed_after false 1 s 0 p zero.0 last)

  after_trial : (Option ℤ → List ℕ → Bool) → ℕ → ℕ × Bool → List ℕ → Bool
  after_trial p v found last = cond (found.0 % 2 == 1) (ones_of p (suc v) last) (sign_of p v last)

  trial_of : (Option ℤ → List ℕ → Bool) → ℕ → ℕ → ℕ → ℕ
  trial_of p v k n = count n (λ ws. outcome false (trials 1 1 k ws) (after_trial p v))

  trial_top : (p : Option ℤ → List ℕ → Bool) (v n : ℕ) → count n (ones_of p v) ≡ trial_of p v 1 n
  unfolding ones_of after_trial trial_of sign_of
  trial_top p v n = lists_ext (2 ^ 64) n _ _ (λ ws. ones_unroll false v (λ zero last. signed_after false 1 s 0 p zero.0 last) ws)

  trial_start : (p : Option ℤ → List ℕ → Bool) (v k : ℕ) → trial_of p v k 0 ≡ 0
  unfolding trial_of
  trial_start p v k = trials_start false 1 1 k (after_trial p v)

  trial_step : (p : Option ℤ → List ℕ → Bool) (v : ℕ) → IsChain (trial_of p v) (λ k n. cond (k % 2 == 1) (count n (ones_of p (suc v))) (count n (sign_of p v)))
  unfolding trial_of after_trial
  trial_step p v k n z e =
      trials_step false 1 z 1 k n (after_trial p v) e
      ∙ ap (λ x. 2 ^ 64 / (1 * k) * (1 * trial_of p v (suc k) n + z * x) + 2 ^ 64 % (1 * k) * trial_of p v k n) (cond_out (k % 2 == 1) n (ones_of p (suc v)) (sign_of p v))

  pub ones_struct : (p : Option ℤ → List ℕ → Bool) → Ones (λ v n. count n (ones_of p v)) (λ v n. count n (sign_of p v))
  ones_struct p = record { K = trial_of p; top = trial_top p; start = trial_start p; step = trial_step p }

  sign_start : (p : Option ℤ → List ℕ → Bool) (v : ℕ) → count 0 (sign_of p v) ≡ 0
  unfolding sign_of
  sign_start p v = bernoulli_start false 1 2 (λ negative last. p (signed_size negative ((0 + 1 * v) / s)) last)

  sign_step : (p : Option ℤ → List ℕ → Bool) (v n : ℕ) → count (suc n) (sign_of p v) ≡ 2 ^ 63 * (count n (p (signed_size true ((0 + 1 * v) / s))) + count n (p (signed_size false ((0 + 1 * v) / s))))
  unfolding sign_of
  sign_step p v n = let a = bernoulli_step false 1 1 2 n (λ negative last. p (signed_size negative ((0 + 1 * v) / s)) last) refl in omega (arith, a)

  -- where a noise k is given, and where the attempt is rejected and the next one goes on
  unfoldable pub given_at : ℕ → Option ℤ → List ℕ → Bool
  given_at k None rest = false
  given_at k (Some z) rest = is_size k z

  unfoldable pub goes_on : (List ℕ → Bool) → Option ℤ → List ℕ → Bool
  goes_on next None rest = next rest
  goes_on next (Some z) rest = false

  -- the attempts that are rejected
  pub minus_next : (y F J i : ℕ) (next next' : List ℕ → Bool) → F * count i next ≤ count (i + J) next' → F * count i (goes_on next (signed_size true y)) ≤ count (i + J) (goes_on next' (signed_size true y))
  unfolding goes_on
  minus_next zero F J i next next' h = h
  minus_next (suc y) F J i next next' h = let a = lists_none (2 ^ 64) i in omega (arith, ap (λ v. F * v) a)

  pub plus_next : (y F J i : ℕ) (next next' : List ℕ → Bool) → F * count i (goes_on next (signed_size false y)) ≤ count (i + J) (goes_on next' (signed_size false y))
  unfolding goes_on
  plus_next y F J i next next' = let a = lists_none (2 ^ 64) i in omega (arith, ap (λ v. F * v) a)

  sign_next : (F J v i : ℕ) (next next' : List ℕ → Bool) → ((m : ℕ) → m < i → F * count m next ≤ count (m + J) next') → F * count i (sign_of (goes_on next) v) ≤ count (i + J) (sign_of (goes_on next') v)
  sign_next F J v zero next next' h = let a = sign_start (goes_on next) v in omega (arith, ap (λ x. F * x) a)
  sign_next F J v (suc i) next next' h =
      let y = (0 + 1 * v) / s in
      let a = sign_step (goes_on next) v i in let b = sign_step (goes_on next') v (i + J) in
      let more : suc (i + J) ≡ suc i + J = omega arith in
      let m = minus_next y F J i next next' (h i (omega arith)) in let p = plus_next y F J i next next' in
      let all : F * count (suc i) (sign_of (goes_on next) v) ≤ count (suc (i + J)) (sign_of (goes_on next') v) = omega (arith, ap (λ x. F * x) a, b, m, p) in
      subst (λ n. F * count (suc i) (sign_of (goes_on next) v) ≤ count n (sign_of (goes_on next') v)) more all

  rejected_le : (F J n : ℕ) (next next' : List ℕ → Bool) → ((m : ℕ) → m < n → F * count m next ≤ count (m + J) next') → F * count n (ones_of (goes_on next) 0) ≤ count (n + J) (ones_of (goes_on next') 0)
  rejected_le F J n next next' h =
      ones_le F J (λ v n. count n (ones_of (goes_on next) v)) (λ v n. count n (sign_of (goes_on next) v)) (λ v n. count n (ones_of (goes_on next') v)) (λ v n. count n (sign_of (goes_on next') v))
      (ones_struct (goes_on next)) (ones_struct (goes_on next')) (λ v w. v ≡ w) (λ v w e. ap suc e) n
      (λ v w m e l. subst (λ x. F * count m (sign_of (goes_on next) v) ≤ count (m + J) (sign_of (goes_on next') x)) e (sign_next F J v m next next' (λ i b. h i (omega (arith, b, l)))))
      n (omega arith) 0 0 n refl (omega arith)

  -- the attempts that give k
  minus_given : (k y n : ℕ) → count n (given_at k (signed_size true y)) ≡ 0
  unfolding given_at is_size
  minus_given k zero n = lists_none (2 ^ 64) n
  minus_given k (suc y) n = lists_none (2 ^ 64) n

  plus_given : (k y n : ℕ) → count n (given_at k (signed_size false y)) ≡ cond (y == k) ((2 ^ 64) ^ n) 0
  unfolding given_at is_size
  plus_given k y n = const_count (y == k) n

  size_of : ℕ → ℕ
  size_of v = (0 + 1 * v) / s

  given_step : (k v n : ℕ) → count (suc n) (sign_of (given_at k) v) ≡ 2 ^ 63 * cond (size_of v == k) ((2 ^ 64) ^ n) 0
  unfolding size_of
  given_step k v n =
      let a = sign_step (given_at k) v n in let b = minus_given k ((0 + 1 * v) / s) n in let c = plus_given k ((0 + 1 * v) / s) n in
      omega (arith, a, b, c)

  Powers : (F J : ℕ) → Type 0
  Powers F J = (i : ℕ) → F * (2 ^ 64) ^ i ≤ (2 ^ 64) ^ (i + J)

  sign_given : (F J k k' v w i : ℕ) → Powers F J → (size_of v ≡ k → size_of w ≡ k') → F * count i (sign_of (given_at k) v) ≤ count (i + J) (sign_of (given_at k') w)
  unfolding Powers
  sign_given F J k k' v w zero h sizes = let a = sign_start (given_at k) v in omega (arith, ap (λ x. F * x) a)
  sign_given F J k k' v w (suc i) h sizes =
      let a = given_step k v i in let b = given_step k' w (i + J) in
      let more : suc (i + J) ≡ suc i + J = omega arith in
      let c = cond_implied F ((2 ^ 64) ^ i) ((2 ^ 64) ^ (i + J)) (size_of v == k) (size_of w == k') (h i) (λ e. eq-eqb (size_of w) k' (sizes (eqb-true (size_of v) k e))) in
      let all : F * count (suc i) (sign_of (given_at k) v) ≤ count (suc (i + J)) (sign_of (given_at k') w) = omega (arith, ap (λ x. F * x) a, b, c) in
      subst (λ n. F * count (suc i) (sign_of (given_at k) v) ≤ count n (sign_of (given_at k') w)) more all

  given_le : (F J k k' : ℕ) → Powers F J → (R : ℕ → ℕ → Type 0) → ((v w : ℕ) → R v w → R (suc v) (suc w)) → ((v w : ℕ) → R v w → size_of v ≡ k → size_of w ≡ k')
      → (v w n : ℕ) → R v w → F * count n (ones_of (given_at k) v) ≤ count (n + J) (ones_of (given_at k') w)
  given_le F J k k' powers R next sizes v w n r =
      ones_le F J (λ v n. count n (ones_of (given_at k) v)) (λ v n. count n (sign_of (given_at k) v)) (λ v n. count n (ones_of (given_at k') v)) (λ v n. count n (sign_of (given_at k') v))
      (ones_struct (given_at k)) (ones_struct (given_at k')) R next n (λ v w m e l. sign_given F J k k' v w m powers (sizes v w e)) n (omega arith) v w n r (omega arith)

  once : Powers 1 0
  unfolding Powers
  once i = let e : i + 0 ≡ i = omega arith in subst (λ n. 1 * (2 ^ 64) ^ i ≤ (2 ^ 64) ^ n) (sym e) (omega arith)

  one_more : Powers (2 ^ 64) 1
  unfolding Powers
  one_more i = let e : suc i ≡ i + 1 = omega arith in subst (λ n. 2 ^ 64 * (2 ^ 64) ^ i ≤ (2 ^ 64) ^ n) e (omega (arith, pow-succ' (2 ^ 64) i))

  -- a draw more: so many times as many lists at least
  grows : (k v n : ℕ) → 2 ^ 64 * count n (ones_of (given_at k) v) ≤ count (suc n) (ones_of (given_at k) v)
  grows k v n =
      let e : n + 1 ≡ suc n = omega arith in
      subst (λ m. 2 ^ 64 * count n (ones_of (given_at k) v) ≤ count m (ones_of (given_at k) v)) e (given_le (2 ^ 64) 1 k k one_more (λ v w. v ≡ w) (λ v w r. ap suc r) (λ v w r h. ap size_of (sym r) ∙ h) v v n refl)

  grows_on : (k v n j : ℕ) → count n (ones_of (given_at k) v) * (2 ^ 64) ^ j ≤ count (j + n) (ones_of (given_at k) v)
  grows_on k v n zero = let e : n ≡ 0 + n = omega arith in subst (λ m. count n (ones_of (given_at k) v) * (2 ^ 64) ^ 0 ≤ count m (ones_of (given_at k) v)) e (omega arith)
  grows_on k v n (suc j) =
      let e : suc (j + n) ≡ suc j + n = omega arith in
      let a = grows_on k v n j in let b = grows k v (j + n) in let x = count n (ones_of (given_at k) v) in
      subst (λ m. x * (2 ^ 64) ^ suc j ≤ count m (ones_of (given_at k) v)) e (omega (arith, a, b, ap (λ y. x * y) (pow-succ' (2 ^ 64) j)))

  -- so many ones come first, and then those that are still wanted
  first_ones : (k i v n j : ℕ) → count n (ones_of (given_at k) (v + i)) * count j (begins i) ≤ count (j + n) (ones_of (given_at k) v)
  first_ones k zero v n j =
      let e : v ≡ v + 0 = omega arith in
      subst (λ w. count n (ones_of (given_at k) w) * count j (begins 0) ≤ count (j + n) (ones_of (given_at k) v)) e
      (subst (λ y. count n (ones_of (given_at k) v) * y ≤ count (j + n) (ones_of (given_at k) v)) (sym (begins_none j)) (grows_on k v n j))
  first_ones k (suc i) v n j =
      let F = count n (ones_of (given_at k) (v + suc i)) in
      let e : suc v + i ≡ v + suc i = omega arith in
      let before : (m : ℕ) → F * count m (begins i) ≤ count (m + n) (ones_of (given_at k) (suc v)) = λ m. subst (λ w. count n (ones_of (given_at k) w) * count m (begins i) ≤ count (m + n) (ones_of (given_at k) (suc v))) e (first_ones k i (suc v) n m) in
      let h = chain_le F n j (trial_begins i) _ (trial_of (given_at k) v) _ (begins_start i) (begins_chain i) (trial_step (given_at k) v)
      (λ q m l. cond_le (q % 2 == 1) F (count m (begins i)) 0 (count (m + n) (ones_of (given_at k) (suc v))) (count (m + n) (sign_of (given_at k) v)) (before m) (omega arith)) j 1 (omega arith) (omega arith) in
      omega (arith, h, ap (λ y. F * y) (begins_as i j), trial_top (given_at k) v (j + n))

  -- whole noises: the attempts from number i on give k
  unfoldable pub wanted : ℕ → ℕ → List ℕ → Bool
  wanted k i ws = noise_passes (is_size k) (noise_from 1 s i ws)

  either : ℕ → ℕ → Option ℤ → List ℕ → Bool
  either k i = then_again 1 s (noise_passes (is_size k)) i

  begun : ℕ → ℕ → ℕ → List ℕ → Bool
  begun k i u rest = started false 1 s (either k i) u rest

  wanted_as : (k i : ℕ) (ws : List ℕ) → wanted k i ws ≡ outcome false (read_uniform 1 ws) (begun k i)
  unfolding wanted begun either
  wanted_as k i ws = noise_unroll 1 s i (noise_passes (is_size k)) ws

  wanted_start : (k i : ℕ) → count 0 (wanted k i) ≡ 0
  wanted_start k i = lists_ext (2 ^ 64) 0 (wanted k i) (λ ws. outcome false (read_uniform 1 ws) (begun k i)) (wanted_as k i) ∙ uniform_start false 1 (begun k i)

  wanted_first : (k i n : ℕ) → count (suc n) (wanted k i) ≡ 2 ^ 64 * count n (begun k i 0)
  wanted_first k i n = lists_ext (2 ^ 64) (suc n) (wanted k i) (λ ws. outcome false (read_uniform 1 ws) (begun k i)) (wanted_as k i) ∙ uniform_of_one n (begun k i)

  begun_start : (k i : ℕ) → count 0 (begun k i 0) ≡ 0
  unfolding begun
  begun_start k i = trials_start false 0 1 1 (λ zero last. cond (zero.0 % 2 == 1) (accepted false 1 s 0 (either k i) last) (either k i None last))

  begun_first : (k i n : ℕ) → count (suc n) (begun k i 0) ≡ 2 ^ 64 * count n (ones_of (either k i) 0)
  unfolding begun ones_of
  begun_first k i n = let a = trials_step false 0 1 1 1 n (λ zero last. cond (zero.0 % 2 == 1) (accepted false 1 s 0 (either k i) last) (either k i None last)) refl in omega (arith, a)

  bits : (k i : ℕ) (o : Option ℤ) (last : List ℕ) → bit (either k i o last) ≡ bit (given_at k o last) + bit (goes_on (wanted k (suc i)) o last)
  unfolding either given_at goes_on wanted
  bits k i None last = omega arith
  bits k i (Some z) last = omega arith

  both : (k i n : ℕ) → count n (ones_of (either k i) 0) ≡ count n (ones_of (given_at k) 0) + count n (ones_of (goes_on (wanted k (suc i))) 0)
  unfolding ones_of
  both k i n =
      let sign : (Option ℤ → List ℕ → Bool) → ℕ × Bool → List ℕ → Bool = λ p zero last. signed_after false 1 s 0 p zero.0 last in
      let end : (Option ℤ → List ℕ → Bool) → ℕ → Bool → List ℕ → Bool = λ p v negative last. p (signed_size negative ((0 + 1 * v) / s)) last in
      let a = given_at k in let b = goes_on (wanted k (suc i)) in
      lists_add (2 ^ 64) n (ones_of (either k i) 0) (ones_of a 0) (ones_of b 0) (λ ws. outcome_bits (ones 0 ws) (sign (either k i)) (sign a) (sign b)
      (λ zero rest. outcome_bits (read_bernoulli 1 2 rest) (end (either k i) zero.0) (end a zero.0) (end b zero.0) (λ negative last. bits k i (signed_size negative ((0 + 1 * zero.0) / s)) last)))

  wanted_two : (k i n : ℕ) → count (suc (suc n)) (wanted k i) ≡ 2 ^ 64 * (2 ^ 64 * (count n (ones_of (given_at k) 0) + count n (ones_of (goes_on (wanted k (suc i))) 0)))
  wanted_two k i n = let a = wanted_first k i (suc n) in let b = begun_first k i n in let c = both k i n in omega (arith, a, b, c)

  compare : (F J k k' : ℕ) → ((n : ℕ) → F * count n (ones_of (given_at k) 0) ≤ count (n + J) (ones_of (given_at k') 0)) → (within n i i' : ℕ) → n ≤ within → F * count n (wanted k i) ≤ count (n + J) (wanted k' i')
  compare F J k k' h within zero i i' l = let a = wanted_start k i in omega (arith, ap (λ x. F * x) a)
  compare F J k k' h within (suc zero) i i' l = let a = wanted_first k i 0 in let b = begun_start k i in let c : count 1 (wanted k i) ≡ 0 = omega (arith, a, b) in omega (arith, ap (λ x. F * x) c)
  compare F J k k' h zero (suc (suc n)) i i' l = absurd (omega (arith, l))
  compare F J k k' h (suc within) (suc (suc n)) i i' l =
      let a = h n in
      let b = rejected_le F J n (wanted k (suc i)) (wanted k' (suc i')) (λ m less. compare F J k k' h within m (suc i) (suc i') (omega (arith, l, less))) in
      let c = wanted_two k i n in let d = wanted_two k' i' (n + J) in
      let more : suc (suc (n + J)) ≡ suc (suc n) + J = omega arith in
      subst (λ m. F * count (suc (suc n)) (wanted k i) ≤ count m (wanted k' i')) more (omega (arith, a, b, ap (λ x. F * x) c, d))

  size_more : (v z : ℕ) → size_of (v + s * z) ≡ size_of v + z
  unfolding size_of
  size_more v z = let e : 0 + 1 * (v + s * z) ≡ (0 + 1 * v) + s * z = omega arith in ap (λ x. x / s) e ∙ add-mul-div_left (0 + 1 * v) z s_pos

  given_farther : (k d n j : ℕ) → count j (begins (s * d)) * count n (ones_of (given_at k) 0) ≤ count (n + j) (ones_of (given_at (k + d)) 0)
  given_farther k d n j =
      let F = count j (begins (s * d)) in
      let a = given_le 1 0 k (k + d) once (λ v w. w ≡ v + s * d) (λ v w e. omega (arith, e)) (λ v w e z. ap size_of e ∙ (size_more v d ∙ ap (λ x. x + d) z)) 0 (0 + s * d) n refl in
      let e : n + 0 ≡ n = omega arith in
      let b = subst (λ m. 1 * count n (ones_of (given_at k) 0) ≤ count m (ones_of (given_at (k + d)) (0 + s * d))) e a in
      let c = first_ones (k + d) (s * d) 0 n j in
      let turn : j + n ≡ n + j = omega arith in
      subst (λ m. F * count n (ones_of (given_at k) 0) ≤ count m (ones_of (given_at (k + d)) 0)) turn (omega (arith, mul-le-mul_left F b, c))

  -- noise that is d farther from zero comes from at least so many lists
  pub farther : (k d n j : ℕ) → count j (begins (s * d)) * count n (wanted k 0) ≤ count (n + j) (wanted (k + d) 0)
  farther k d n j = compare (count j (begins (s * d))) j k (k + d) (λ m. given_farther k d m j) n n 0 0 (omega arith)

  no_sign : (k v n : ℕ) → size_of v < k → count n (sign_of (given_at k) v) ≡ 0
  no_sign k v zero l = sign_start (given_at k) v
  no_sign k v (suc n) l = let a = given_step k v n in let b = ap (λ x. cond x ((2 ^ 64) ^ n) 0) (ne_eqb (size_of v) k (λ e. omega (arith, e, l))) in omega (arith, a, b)

  cond_most : (b : Bool) (x y : ℕ) → y ≡ 0 → cond b x y ≤ x
  cond_most true x y e = omega arith
  cond_most false x y e = omega (arith, e)

  one_later : (k v n : ℕ) → size_of v < k → count n (ones_of (given_at k) v) ≤ count n (ones_of (given_at k) (suc v))
  one_later k v n l =
      let h = chain_drop (trial_of (given_at k) v) _ (λ m. count m (ones_of (given_at k) (suc v))) (trial_start (given_at k) v) (trial_step (given_at k) v) (λ m. grows k (suc v) m)
      (λ q m. cond_most (q % 2 == 1) (count m (ones_of (given_at k) (suc v))) (count m (sign_of (given_at k) v)) (no_sign k v m l)) n 1 (omega arith) in
      omega (arith, h, trial_top (given_at k) v n)

  small_size : (k v : ℕ) → v < s → size_of v < suc k
  unfolding size_of
  small_size k v l = div_below (0 + 1 * v) s (suc k) s_pos (let a : 1 ≤ suc k = omega arith in omega (arith, l, mul-le-mul_right s a))

  climb : (k i n : ℕ) → i ≤ s → count n (ones_of (given_at (suc k)) 0) ≤ count n (ones_of (given_at (suc k)) i)
  climb k zero n l = omega arith
  climb k (suc i) n l = let a = climb k i n (omega (arith, l)) in let b = one_later (suc k) i n (small_size k i (omega (arith, l))) in omega (arith, a, b)

  given_closer : (k n : ℕ) → 1 * count n (ones_of (given_at (suc k)) 0) ≤ count (n + 0) (ones_of (given_at k) 0)
  given_closer k n =
      let a = given_le 1 0 (suc k) k once (λ v w. v ≡ w + s * 1) (λ v w e. omega (arith, e)) (λ v w e z. let m = size_more w 1 in let f = ap size_of e in omega (arith, m, f, z)) s 0 n (omega arith) in
      let b = climb k s n (omega arith) in
      omega (arith, a, b)

  closer_by : (k a n : ℕ) → count n (wanted (k + a) 0) ≤ count n (wanted k 0)
  closer_by k zero n = let e : k ≡ k + 0 = omega arith in subst (λ m. count n (wanted m 0) ≤ count n (wanted k 0)) e (omega arith)
  closer_by k (suc a) n =
      let h = compare 1 0 (suc (k + a)) (k + a) (λ m. given_closer (k + a) m) n n 0 0 (omega arith) in
      let e : n + 0 ≡ n = omega arith in
      let g = subst (λ m. 1 * count n (wanted (suc (k + a)) 0) ≤ count m (wanted (k + a) 0)) e h in
      let f : suc (k + a) ≡ k + suc a = omega arith in
      let r = closer_by k a n in
      subst (λ m. count n (wanted m 0) ≤ count n (wanted k 0)) f (omega (arith, g, r))

  -- noise that is closer to zero comes from no fewer lists
  pub closer : (k j n : ℕ) → k ≤ j → count n (wanted j 0) ≤ count n (wanted k 0)
  closer k j n l = let e : k + (j - k) ≡ j = omega (arith, l) in subst (λ m. count n (wanted m 0) ≤ count n (wanted k 0)) e (closer_by k (j - k) n)
