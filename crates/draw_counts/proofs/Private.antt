-- At whole EPS an answer is (epsilon, 2^-128)-differentially private.
use Rattle.std.proofs.Common.{◌≡◌, ◌∙◌, sym, ap, subst, refl, ℕ, zero, suc, ◌+◌, ◌-◌, ◌*◌, ◌<◌, ◌≤◌, Bool, true, false, List, [], ◌∷◌, ◌++◌, Option, Some, None, arith, inl, inr, ◌⊎◌, append_assoc, lit<}
use Rattle.std.specs.Prelude.{cond, ◌^◌, ◌&&◌, ℤ, pos, negsuc, ◌+ℤ◌, ◌-ℤ◌, neg_ℤ, is_none, unsigned_abs}
use Rattle.std.proofs.lemmas.Int.{ints}
use Rattle.std.proofs.lemmas.Nat.{pow-add}
use Rattle.std.proofs.Math.Nat.{mul-le-mul_left, mul-le-mul_right, mul_comm}
use Rattle.exact_bernoulli.specs.Meter.{draw_limit}
use Rattle.discrete_laplace.specs.Readers.{read_sample}
use Rattle.discrete_laplace.specs.Noise.{noise_of, noise_in}
use Rattle.discrete_laplace.proofs.Exact.{sample_reads}
use Rattle.draw_counts.specs.Counts.{sum_below, lists_passing}
use Rattle.draw_counts.specs.Noises.{noise_passes}
use Rattle.draw_counts.specs.Privacy.{AtLeastExp, exp_top, exp_bottom, answered, answer_lists, IsPrivate}
use Rattle.draw_counts.proofs.Uniform.{lists_ext, lists_none}
use Rattle.draw_counts.proofs.After.{lists_add}
use Rattle.draw_counts.proofs.Symmetry.{whole_noise}
use Rattle.draw_counts.proofs.Steps.{count, bit, noise_from, whole_sample}
use Rattle.draw_counts.proofs.Begins.{begins, lists_all}
use Rattle.draw_counts.proofs.Numbers.{Enough, begins_enough}
use Rattle.draw_counts.proofs.Rare.{exhausted_below}
use Rattle.draw_counts.proofs.Shift.{lists_le, sum_le, noise, lists, lists_same, mirrored, moved}

all_lists : (n : ℕ) (p : List ℕ → Bool) → count n p ≤ (2 ^ 64) ^ n
all_lists n p = let a = lists_le (2 ^ 64) n p (λ _. true) (λ ws e. refl) in let b = lists_all (2 ^ 64) n in omega (arith, a, b)

sums_scaled : (f : ℕ → ℕ) (x m : ℕ) → sum_below (λ w. f w * x) m ≡ sum_below f m * x
unfolding sum_below
sums_scaled f x zero = omega arith
sums_scaled f x (suc m) = let a = sums_scaled f x m in omega (arith, a)

-- what more draws pass, fewer pass already
begun_lists : (n j : ℕ) (p q : List ℕ → Bool) → ((ws more : List ℕ) → p (ws ++ more) ≡ true → q ws ≡ true) → count (n + j) p ≤ count n q * (2 ^ 64) ^ j
unfolding lists_passing
begun_lists zero j p q h = let e : j ≡ 0 + j = omega arith in subst (λ m. count m p ≤ cond (q []) 1 0 * (2 ^ 64) ^ j) e (at (q []) refl)
  where
    at : (b : Bool) → q [] ≡ b → count j p ≤ cond (q []) 1 0 * (2 ^ 64) ^ j
    at true e = let a = all_lists j p in let c = ap (λ b. cond {A = ℕ} b 1 0 * (2 ^ 64) ^ j) e in omega (arith, a, c)
    at false e = let a = lists_le (2 ^ 64) j p (λ _. false) (λ ws t. sym e ∙ h [] ws t) in let b = lists_none (2 ^ 64) j in omega (arith, a, b)
begun_lists (suc n) j p q h =
    let e : suc (n + j) ≡ suc n + j = omega arith in
    let a = sum_le (λ w. count (n + j) (λ rest. p (w ∷ rest))) (λ w. count n (λ rest. q (w ∷ rest)) * (2 ^ 64) ^ j) (2 ^ 64) (λ w _. begun_lists n j (λ rest. p (w ∷ rest)) (λ rest. q (w ∷ rest)) (λ ws more. h (w ∷ ws) more)) in
    let b = sums_scaled (λ w. count n (λ rest. q (w ∷ rest))) ((2 ^ 64) ^ j) (2 ^ 64) in
    subst (λ m. count m p ≤ sum_below (λ w. count n (λ rest. q (w ∷ rest))) (2 ^ 64) * (2 ^ 64) ^ j) e (omega (arith, a, b))

-- a noise that passes, or none
passes_or_none : (ℤ → Bool) → Option ℤ → Bool
passes_or_none test None = true
passes_or_none test (Some z) = test z

both_bits : (test : ℤ → Bool) (o : Option ℤ) → bit (passes_or_none test o) ≡ bit (noise_passes test o) + bit (is_none o)
unfolding passes_or_none
both_bits test None = omega arith
both_bits test (Some z) = omega arith

below_le : (S x y V : ℕ) → S * x < V → y ≡ x → S * y ≤ V
below_le S x y V h e = omega (arith, ap (λ v. S * v) e, h)

shift_numbers : (A E X Y V w F p q : ℕ) → X ≤ (A + E) * w → F * A ≤ Y → (2 ^ 129 - 1) * (q * w) ≤ 2 ^ 129 * (p * F) → 2 ^ 129 * E ≤ V → A ≤ V → 2 ^ 128 * (q * X) ≤ 2 ^ 128 * (p * Y) + q * (V * w)
shift_numbers A E X Y V w F p q x y c e v =
    let fx = mul-le-mul_left q x in let fy = mul-le-mul_left p y in let fc = mul-le-mul_right A c in
    let fe = mul-le-mul_left (q * w) e in let fv = mul-le-mul_left (q * w) v in
    omega (arith, fx, fy, fc, fe, fv)

answer_bits : (x : ℤ) (set : Option ℤ → Bool) (o : Option ℤ) → bit (set (answered x o)) ≡ bit (noise_passes (λ z. set (Some (x +ℤ z))) o) + bit (set None && is_none o)
answer_bits x set None = and_bits (set None)
  where
    and_bits : (b : Bool) → bit b ≡ bit false + bit (b && true)
    and_bits true = omega arith
    and_bits false = omega arith
answer_bits x set (Some z) = and_bits (bit (set (Some (x +ℤ z)))) (set None)
  where
    and_bits : (n : ℕ) (b : Bool) → n ≡ n + bit (b && false)
    and_bits n true = omega arith
    and_bits n false = omega arith

-- one of two values is the other and what they are apart
apart : (x y : ℤ) → (y ≡ x +ℤ pos (unsigned_abs (x -ℤ y))) ⊎ (x ≡ y +ℤ pos (unsigned_abs (x -ℤ y)))
apart x y = go (x -ℤ y) refl
  where
    go : (z : ℤ) → x -ℤ y ≡ z → (y ≡ x +ℤ pos (unsigned_abs (x -ℤ y))) ⊎ (x ≡ y +ℤ pos (unsigned_abs (x -ℤ y)))
    go (pos n) e = inr (subst (λ v. x ≡ y +ℤ pos (unsigned_abs v)) (sym e) (let f : x ≡ y +ℤ pos n = omega (arith, ints, e) in f))
    go (negsuc n) e = inl (subst (λ v. y ≡ x +ℤ pos (unsigned_abs v)) (sym e) (let f : y ≡ x +ℤ pos (suc n) = omega (arith, ints, e) in f))

module _ (s : ℕ) (s_pos : 0 < s) where
  goes_on : (ws more : List ℕ) (test : ℤ → Bool) → noise_passes test (noise s s_pos (ws ++ more)) ≡ true → passes_or_none test (noise s s_pos ws) ≡ true
  unfolding noise passes_or_none
  goes_on ws more test e = go (read_sample 1 s ws) refl
    where
      go : (o : Option (ℤ × List ℕ)) → read_sample 1 s ws ≡ o → passes_or_none test (noise_in (read_sample 1 s ws)) ≡ true
      go None h = ap (λ o. passes_or_none test (noise_in o)) h
      go (Some f) h =
          let r = (sample_reads 1 s).sound ws f h in
          let same : read_sample 1 s (ws ++ more) ≡ Some (f.0, f.1 ++ more) = ap (λ d. read_sample 1 s (d ++ more)) r.1 ∙ (ap (read_sample 1 s) (append_assoc r.0 f.1 more) ∙ (sample_reads 1 s).complete r.0 (f.1 ++ more) f.0 r.2) in
          ap (λ o. passes_or_none test (noise_in o)) h ∙ (ap (λ o. noise_passes test (noise_in o)) (sym same) ∙ e)

  none : ℕ → ℕ
  none n = count n (λ ws. is_none (noise s s_pos ws))

  longer : (n j : ℕ) (test : ℤ → Bool) → lists s s_pos (n + j) test ≤ (lists s s_pos n test + none n) * (2 ^ 64) ^ j
  unfolding lists none
  longer n j test =
      let a = begun_lists n j (λ ws. noise_passes test (noise s s_pos ws)) (λ ws. passes_or_none test (noise s s_pos ws)) (λ ws more. goes_on ws more test) in
      let b = lists_add (2 ^ 64) n (λ ws. passes_or_none test (noise s s_pos ws)) (λ ws. noise_passes test (noise s s_pos ws)) (λ ws. is_none (noise s s_pos ws)) (λ ws. both_bits test (noise s s_pos ws)) in
      omega (arith, a, ap (λ x. x * (2 ^ 64) ^ j) b)

  fits : (n : ℕ) (test : ℤ → Bool) → lists s s_pos n test ≤ (2 ^ 64) ^ n
  unfolding lists
  fits n test = all_lists n (λ ws. noise_passes test (noise s s_pos ws))

  none_as : (n : ℕ) → none n ≡ count n (λ ws. is_none (noise_from 1 s 0 ws))
  unfolding none noise
  none_as n = lists_ext (2 ^ 64) n _ _ (λ ws. ap is_none (whole_sample 1 s ws))

  few_none : 2 ^ 129 * none 3396 ≤ (2 ^ 64) ^ 3396
  few_none = let a = exhausted_below 1 s 3396 (2 ^ 129) (omega arith) (omega arith) (omega arith) few in below_le (2 ^ 129) (count 3396 (λ ws. is_none (noise_from 1 s 0 ws))) (none 3396) ((2 ^ 64) ^ 3396) a (none_as 3396)
    where
      few : 2 ^ 129 * (100 * 1) * 25 ^ 3396 < 26 ^ 3396
      few = lit< tt

  shifted : (d p q : ℕ) (test : ℤ → Bool) → Enough (s * d) p q → 2 ^ 128 * (q * lists s s_pos (3396 + 700) test) ≤ 2 ^ 128 * (p * lists s s_pos (3396 + 700) (λ z. test (z +ℤ pos d))) + q * (2 ^ 64) ^ (3396 + 700)
  shifted d p q test c =
      let V = (2 ^ 64) ^ 3396 in let w = (2 ^ 64) ^ 700 in
      let n = shift_numbers (lists s s_pos 3396 test) (none 3396) (lists s s_pos (3396 + 700) test) (lists s s_pos (3396 + 700) (λ z. test (z +ℤ pos d))) V w (count 700 (begins (s * d))) p q
      (longer 3396 700 test) (moved s s_pos d 3396 700 test) c few_none (fits 3396 test) in
      subst (λ x. 2 ^ 128 * (q * lists s s_pos (3396 + 700) test) ≤ 2 ^ 128 * (p * lists s s_pos (3396 + 700) (λ z. test (z +ℤ pos d))) + q * x) (sym (pow-add (2 ^ 64) 3396 700)) n

  shifted_down : (d p q : ℕ) (test : ℤ → Bool) → Enough (s * d) p q → 2 ^ 128 * (q * lists s s_pos (3396 + 700) test) ≤ 2 ^ 128 * (p * lists s s_pos (3396 + 700) (λ z. test (z -ℤ pos d))) + q * (2 ^ 64) ^ (3396 + 700)
  shifted_down d p q test c0 =
      let n = 3396 + 700 in
      let a = shifted d p q (λ z. test (neg_ℤ z)) c0 in
      let b = mirrored s s_pos n test in
      let c = mirrored s s_pos n (λ z. test (neg_ℤ (z +ℤ pos d)))
      ∙ lists_same s s_pos n (λ z. test (neg_ℤ (neg_ℤ z +ℤ pos d))) (λ z. test (z -ℤ pos d)) (λ z. ap test (let e : neg_ℤ (neg_ℤ z +ℤ pos d) ≡ z -ℤ pos d = omega (arith, ints) in e)) in
      subst (λ x. 2 ^ 128 * (q * x) ≤ 2 ^ 128 * (p * lists s s_pos (3396 + 700) (λ z. test (z -ℤ pos d))) + q * (2 ^ 64) ^ (3396 + 700)) (sym b)
      (subst (λ x. 2 ^ 128 * (q * lists s s_pos (3396 + 700) (λ z. test (neg_ℤ z))) ≤ 2 ^ 128 * (p * x) + q * (2 ^ 64) ^ (3396 + 700)) c a)

  limit_is : draw_limit ≡ 3396 + 700
  unfolding draw_limit
  limit_is = refl

  noise_as : (test : ℤ → Bool) → count draw_limit (λ ws. noise_passes test (noise_of 1 s ws)) ≡ lists s s_pos (3396 + 700) test
  unfolding lists noise
  noise_as test = whole_noise 1 s draw_limit test (omega arith) ∙ ap (λ n. count n (λ ws. noise_passes test (noise_in (read_sample 1 s ws)))) limit_is

  without : (Option ℤ → Bool) → ℕ
  without set = count draw_limit (λ ws. set None && is_none (noise_of 1 s ws))

  answers_as : (x : ℤ) (set : Option ℤ → Bool) → answer_lists (2 ^ 64) draw_limit (noise_of 1 s) x set ≡ lists s s_pos (3396 + 700) (λ z. set (Some (x +ℤ z))) + without set
  unfolding without
  answers_as x set =
      lists_add (2 ^ 64) draw_limit (λ ws. set (answered x (noise_of 1 s ws))) (λ ws. noise_passes (λ z. set (Some (x +ℤ z))) (noise_of 1 s ws)) (λ ws. set None && is_none (noise_of 1 s ws)) (λ ws. answer_bits x set (noise_of 1 s ws))
      ∙ ap (λ n. n + count draw_limit (λ ws. set None && is_none (noise_of 1 s ws))) (noise_as (λ z. set (Some (x +ℤ z))))

  pub at_least_one : (a p q : ℕ) → AtLeastExp a 1 p q → q ≤ p
  unfolding exp_top exp_bottom
  at_least_one a p q least = let h = least 0 in omega (arith, h)

  with_none : (X Y K V p q : ℕ) → q ≤ p → 2 ^ 128 * (q * X) ≤ 2 ^ 128 * (p * Y) + q * V → 2 ^ 128 * (q * (X + K)) ≤ 2 ^ 128 * (p * (Y + K)) + q * V
  with_none X Y K V p q l h = let a = mul-le-mul_right K l in omega (arith, a, h)

  limit_power : (2 ^ 64) ^ draw_limit ≡ (2 ^ 64) ^ (3396 + 700)
  limit_power = ap (λ n. (2 ^ 64) ^ n) limit_is

  answers_close : (x y : ℤ) (set : Option ℤ → Bool) (p q : ℕ) → q ≤ p
      → 2 ^ 128 * (q * lists s s_pos (3396 + 700) (λ z. set (Some (x +ℤ z)))) ≤ 2 ^ 128 * (p * lists s s_pos (3396 + 700) (λ z. set (Some (y +ℤ z)))) + q * (2 ^ 64) ^ (3396 + 700)
      → 2 ^ 128 * (q * answer_lists (2 ^ 64) draw_limit (noise_of 1 s) x set) ≤ 2 ^ 128 * (p * answer_lists (2 ^ 64) draw_limit (noise_of 1 s) y set) + q * (2 ^ 64) ^ draw_limit
  answers_close x y set p q l h =
      let a = with_none (lists s s_pos (3396 + 700) (λ z. set (Some (x +ℤ z)))) (lists s s_pos (3396 + 700) (λ z. set (Some (y +ℤ z)))) (without set) ((2 ^ 64) ^ (3396 + 700)) p q l h in
      subst (λ v. 2 ^ 128 * (q * v) ≤ 2 ^ 128 * (p * answer_lists (2 ^ 64) draw_limit (noise_of 1 s) y set) + q * (2 ^ 64) ^ draw_limit) (sym (answers_as x set))
      (subst (λ v. 2 ^ 128 * (q * (lists s s_pos (3396 + 700) (λ z. set (Some (x +ℤ z))) + without set)) ≤ 2 ^ 128 * (p * v) + q * (2 ^ 64) ^ draw_limit) (sym (answers_as y set))
      (subst (λ v. 2 ^ 128 * (q * (lists s s_pos (3396 + 700) (λ z. set (Some (x +ℤ z))) + without set)) ≤ 2 ^ 128 * (p * (lists s s_pos (3396 + 700) (λ z. set (Some (y +ℤ z))) + without set)) + q * v) (sym limit_power) a))

  -- answers about x and y, where p times the lists that begin with as many ones as they are apart are almost q times all lists
  pub answers_private : (x y : ℤ) (set : Option ℤ → Bool) (p q : ℕ) → q ≤ p → Enough (s * unsigned_abs (x -ℤ y)) p q
      → 2 ^ 128 * (q * answer_lists (2 ^ 64) draw_limit (noise_of 1 s) x set) ≤ 2 ^ 128 * (p * answer_lists (2 ^ 64) draw_limit (noise_of 1 s) y set) + q * (2 ^ 64) ^ draw_limit
  answers_private x y set p q less enough = let d = unsigned_abs (x -ℤ y) in elim (apart x y) [
    | inl e ↦ answers_close x y set p q less
        (subst (λ v. 2 ^ 128 * (q * lists s s_pos (3396 + 700) (λ z. set (Some (x +ℤ z)))) ≤ 2 ^ 128 * (p * v) + q * (2 ^ 64) ^ (3396 + 700))
        (lists_same s s_pos (3396 + 700) (λ z. set (Some (x +ℤ (z +ℤ pos d)))) (λ z. set (Some (y +ℤ z))) (λ z. ap (λ v. set (Some v)) (let f : x +ℤ (z +ℤ pos d) ≡ y +ℤ z = omega (arith, ints, e) in f)))
        (shifted d p q (λ z. set (Some (x +ℤ z))) enough))
    | inr e ↦ answers_close x y set p q less
        (subst (λ v. 2 ^ 128 * (q * lists s s_pos (3396 + 700) (λ z. set (Some (x +ℤ z)))) ≤ 2 ^ 128 * (p * v) + q * (2 ^ 64) ^ (3396 + 700))
        (lists_same s s_pos (3396 + 700) (λ z. set (Some (x +ℤ (z -ℤ pos d)))) (λ z. set (Some (y +ℤ z))) (λ z. ap (λ v. set (Some v)) (let f : x +ℤ (z -ℤ pos d) ≡ y +ℤ z = omega (arith, ints, e) in f)))
        (shifted_down d p q (λ z. set (Some (x +ℤ z))) enough))
  ]

  pub whole_private : IsPrivate 1 s
  whole_private x y set p q l least =
      let d = unsigned_abs (x -ℤ y) in
      let turn : d * s ≡ s * d = mul_comm d s in
      answers_private x y set p q (at_least_one (d * s) p q least) (begins_enough (s * d) p q (omega (arith, turn, l)) (subst (λ x. AtLeastExp x 1 p q) turn least))
