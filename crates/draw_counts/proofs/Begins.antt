-- How many lists begin with so many ones of exp(-1), from below.
use Rattle.std.proofs.Common.{◌≡◌, ◌∙◌, sym, ap, subst, refl, ℕ, zero, suc, ◌+◌, ◌*◌, ◌%◌, ◌≤◌, Bool, true, false, List, arith}
use Rattle.std.specs.Prelude.{cond, ◌/◌, ◌^◌, ◌==◌}
use Rattle.std.proofs.Math.Nat.{pow-zero, pow-succ', pow-le-pow_left}
use Rattle.std.proofs.lemmas.Nat.{mul-pow}
use Rattle.draw_counts.specs.Counts.{lists_passing}
use Rattle.draw_counts.proofs.Uniform.{below_ext, below_const, lists_none}
use Rattle.draw_counts.proofs.Steps.{outcome, count, trials, trials_step, trials_start}
use Rattle.draw_counts.proofs.Exhaustion.{odd_is, cond_count}
use Rattle.draw_counts.proofs.Chains.{IsChain}
use Rattle.draw_counts.proofs.Ideal.{top, bottom, at_most_one, IsLeast, least}

pub cond_out : (b : Bool) (n : ℕ) (p q : List ℕ → Bool) → count n (λ ws. cond b (p ws) (q ws)) ≡ cond b (count n p) (count n q)
cond_out true n p q = refl
cond_out false n p q = refl

pub lists_all : (words n : ℕ) → lists_passing words n (λ _. true) ≡ words ^ n
unfolding lists_passing
lists_all words zero = sym (pow-zero words)
lists_all words (suc n) = below_ext _ (λ _. words ^ n) words (λ w _. lists_all words n) ∙ (below_const (words ^ n) words ∙ sym (pow-succ' words n))

-- so many ones of exp(-1) come first
pub begins : ℕ → List ℕ → Bool
begins zero ws = true
begins (suc i) ws = outcome false (trials 1 1 1 ws) (λ found rest. cond (found.0 % 2 == 1) (begins i rest) false)

pub begins_none : (n : ℕ) → count n (begins 0) ≡ (2 ^ 64) ^ n
unfolding begins
begins_none n = lists_all (2 ^ 64) n

-- and so many after them
pub more_begin : ℕ → ℕ × Bool → List ℕ → Bool
more_begin i found rest = cond (found.0 % 2 == 1) (begins i rest) false

pub trial_begins : ℕ → ℕ → ℕ → ℕ
trial_begins i k n = count n (λ ws. outcome false (trials 1 1 k ws) (more_begin i))

pub begins_as : (i n : ℕ) → count n (begins (suc i)) ≡ trial_begins i 1 n
unfolding begins more_begin trial_begins
begins_as i n = refl

pub begins_start : (i k : ℕ) → trial_begins i k 0 ≡ 0
unfolding trial_begins
begins_start i k = trials_start false 1 1 k (more_begin i)

begins_step : (i : ℕ) → IsChain (trial_begins i) (λ k n. count n (more_begin i (k, false)))
unfolding trial_begins
begins_step i k n z e = trials_step false 1 z 1 k n (more_begin i) e

pub begins_chain : (i : ℕ) → IsChain (trial_begins i) (λ k n. cond (k % 2 == 1) (count n (begins i)) 0)
unfolding more_begin
begins_chain i k n z e =
    begins_step i k n z e ∙ ap (λ x. 2 ^ 64 / (1 * k) * (1 * trial_begins i (suc k) n + z * x) + 2 ^ 64 % (1 * k) * trial_begins i k n) (cond_out (k % 2 == 1) n (begins i) (λ _. false) ∙ ap (λ x. cond (k % 2 == 1) (count n (begins i)) x) (lists_none (2 ^ 64) n))

odd_begins : (i j n : ℕ) → count n (more_begin i (2 * j + 1, false)) ≡ count n (begins i)
unfolding more_begin
odd_begins i j n = cond_count ((2 * j + 1) % 2 == 1) true n (begins i) (λ _. false) (odd_is j)

-- the chance of a one of exp(-1) by at most 40 trials
unfoldable pub alpha : ℕ
alpha = top true 40 1

unfoldable pub beta : ℕ
beta = bottom 40 1

alpha_least : alpha ≤ 16 * beta
unfolding alpha beta
alpha_least = let a = at_most_one true 40 1 (omega arith) in omega (arith, a)

least_of : (i n A B P : ℕ) → n ≤ 4000 → ((n : ℕ) → n ≤ 4000 → A * (2 * 2 ^ 64) ^ n ≤ B * (count n (begins i) * 2 ^ n) + P * (2 ^ 64) ^ n) → A ≤ P
    → alpha * (A * (2 * 2 ^ 64) ^ n) ≤ beta * (B * (count n (begins (suc i)) * 2 ^ n)) + beta * ((16 * P) * (2 ^ 64) ^ n)
unfolding alpha beta IsLeast
least_of i n A B P l before first =
    subst (λ x. top true 40 1 * (A * (2 * 2 ^ 64) ^ n) ≤ bottom 40 1 * (B * (x * 2 ^ n)) + bottom 40 1 * ((16 * P) * (2 ^ 64) ^ n)) (sym (begins_as i n))
    (least (trial_begins i) (λ k n. count n (more_begin i (k, false))) (λ n. count n (begins i)) A B P (begins_start i) (begins_step i) (odd_begins i) before first n 39 l)

powers_up : (a A b B y h g P w : ℕ) → a * (A * g) ≤ b * (B * (y * h)) + b * ((16 * P) * w) → (a * A) * g ≤ (b * B) * (y * h) + ((16 * b) * P) * w
powers_up a A b B y h g P w e = omega (arith, e)

pub begins_least : (i n : ℕ) → n ≤ 4000 → alpha ^ i * (2 * 2 ^ 64) ^ n ≤ beta ^ i * (count n (begins i) * 2 ^ n) + (16 * beta) ^ i * (2 ^ 64) ^ n
begins_least zero n l =
    let X = count n (begins 0) in let w = (2 ^ 64) ^ n in
    let a = ap (λ v. v * (2 * 2 ^ 64) ^ n) (pow-zero alpha) in let b = ap (λ v. v * (X * 2 ^ n)) (pow-zero beta) in
    let m = mul-pow 2 (2 ^ 64) n in let all = ap (λ v. v * 2 ^ n) (begins_none n) in
    omega (arith, a, b, m, all)
begins_least (suc i) n l =
    let y = count n (begins (suc i)) * 2 ^ n in let g = (2 * 2 ^ 64) ^ n in let w = (2 ^ 64) ^ n in
    let h = powers_up alpha (alpha ^ i) beta (beta ^ i) (count n (begins (suc i))) (2 ^ n) g ((16 * beta) ^ i) w (least_of i n (alpha ^ i) (beta ^ i) ((16 * beta) ^ i) l (begins_least i) (pow-le-pow_left alpha_least i)) in
    subst (λ v. v * g ≤ beta ^ suc i * y + (16 * beta) ^ suc i * w) (sym (pow-succ' alpha i))
    (subst (λ v. (alpha * alpha ^ i) * g ≤ v * y + (16 * beta) ^ suc i * w) (sym (pow-succ' beta i))
    (subst (λ v. (alpha * alpha ^ i) * g ≤ (beta * beta ^ i) * y + v * w) (sym (pow-succ' (16 * beta) i)) h))
