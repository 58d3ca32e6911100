-- Trials of exp(-1) and runs of ones, as sequences of counts, compared draw by draw.
use Rattle.std.proofs.Common.{◌≡◌, ap, subst, ℕ, zero, suc, ◌+◌, ◌-◌, ◌*◌, ◌%◌, ◌<◌, ◌≤◌, Bool, true, false, arith}
use Rattle.std.specs.Prelude.{cond, ◌/◌, ◌^◌, ◌==◌}
use Rattle.std.proofs.Math.Nat.{mul-le-mul_left}
use Rattle.draw_counts.proofs.Uniform.{words_are}

-- K k n counts the lists of n draws from trial k on, and c k n those after a zero at trial k.
abbrev pub IsChain : (K c : ℕ → ℕ → ℕ) → Type 0
IsChain K c = (k n z : ℕ) → 1 + z ≡ 1 * k → K k (suc n) ≡ 2 ^ 64 / (1 * k) * (1 * K (suc k) n + z * c k n) + 2 ^ 64 % (1 * k) * K k n

pub rest_of : (k : ℕ) → 1 ≤ k → 1 + (k - 1) ≡ 1 * k
rest_of k l = omega (arith, l)

step_le : (F q r z x' x1 x0 x y' y1 y0 y : ℕ) → x' ≡ q * (1 * x1 + z * x0) + r * x → y' ≡ q * (1 * y1 + z * y0) + r * y → F * x1 ≤ y1 → F * x0 ≤ y0 → F * x ≤ y → F * x' ≤ y'
step_le F q r z x' x1 x0 x y' y1 y0 y e e' h1 h0 h =
    let a = mul-le-mul_left q h1 in let b = mul-le-mul_left (q * z) h0 in let d = mul-le-mul_left r h in let f = ap (λ v. F * v) e in
    omega (arith, a, b, d, f, e')

pub chain_le : (F J most : ℕ) (K c K' c' : ℕ → ℕ → ℕ) → ((k : ℕ) → K k 0 ≡ 0) → IsChain K c → IsChain K' c' → ((k n : ℕ) → n < most → F * c k n ≤ c' k (n + J))
    → (n k : ℕ) → n ≤ most → 1 ≤ k → F * K k n ≤ K' k (n + J)
chain_le F J most K c K' c' start step step' conts zero k l p = let a = ap (λ v. F * v) (start k) in omega (arith, a)
chain_le F J most K c K' c' start step step' conts (suc n) k l p =
    let z = k - 1 in let e = rest_of k p in
    let more : suc (n + J) ≡ suc n + J = omega arith in
    subst (λ m. F * K k (suc n) ≤ K' k m) more
    (step_le F (2 ^ 64 / (1 * k)) (2 ^ 64 % (1 * k)) z (K k (suc n)) (K (suc k) n) (c k n) (K k n) (K' k (suc (n + J))) (K' (suc k) (n + J)) (c' k (n + J)) (K' k (n + J))
    (step k n z e) (step' k (n + J) z e) (chain_le F J most K c K' c' start step step' conts n (suc k) (omega (arith, l)) (omega arith)) (conts k n l)
    (chain_le F J most K c K' c' start step step' conts n k (omega (arith, l)) p))

drop_step : (W q r m z x' x1 x0 x y y' : ℕ) → W ≡ q * m + r → 1 + z ≡ m → x' ≡ q * (1 * x1 + z * x0) + r * x → x1 ≤ y → x0 ≤ y → x ≤ y → W * y ≤ y' → x' ≤ y'
drop_step W q r m z x' x1 x0 x y y' w ez e h1 h0 h last =
    let a = mul-le-mul_left q h1 in let b = mul-le-mul_left (q * z) h0 in let d = mul-le-mul_left r h in
    let f = ap (λ v. v * y) w in let g = ap (λ v. q * v * y) ez in
    omega (arith, a, b, d, f, g, e, last)

-- trials take draws: lists that go on as x are no fewer without the trials
pub chain_drop : (K c : ℕ → ℕ → ℕ) (x : ℕ → ℕ) → ((k : ℕ) → K k 0 ≡ 0) → IsChain K c → ((n : ℕ) → 2 ^ 64 * x n ≤ x (suc n)) → ((k n : ℕ) → c k n ≤ x n) → (n k : ℕ) → 1 ≤ k → K k n ≤ x n
chain_drop K c x start step grows conts zero k p = let a = start k in omega (arith, a)
chain_drop K c x start step grows conts (suc n) k p =
    let z = k - 1 in let e = rest_of k p in
    drop_step (2 ^ 64) (2 ^ 64 / (1 * k)) (2 ^ 64 % (1 * k)) (1 * k) z (K k (suc n)) (K (suc k) n) (c k n) (K k n) (x n) (x (suc n)) (words_are (1 * k)) e (step k n z e)
    (chain_drop K c x start step grows conts n (suc k) (omega arith)) (conts k n) (chain_drop K c x start step grows conts n k p) (grows n)

-- O v n counts the lists of n draws from the place where v ones have come, and S v n those after the zero that ends them.
pub record Ones (O S : ℕ → ℕ → ℕ) : Type 0 where
  pub K : ℕ → ℕ → ℕ → ℕ
  pub top : (v n : ℕ) → O v n ≡ K v 1 n
  pub start : (v k : ℕ) → K v k 0 ≡ 0
  pub step : (v : ℕ) → IsChain (K v) (λ k n. cond (k % 2 == 1) (O (suc v) n) (S v n))

pub cond_le : (b : Bool) (F x y x' y' : ℕ) → F * x ≤ x' → F * y ≤ y' → F * cond b x y ≤ cond b x' y'
cond_le true F x y x' y' h k = h
cond_le false F x y x' y' h k = k

module _ (F J : ℕ) (O S O' S' : ℕ → ℕ → ℕ) (a : Ones O S) (b : Ones O' S') (R : ℕ → ℕ → Type 0) (next : (v w : ℕ) → R v w → R (suc v) (suc w)) where
  level : (most v w : ℕ) → ((m : ℕ) → m < most → F * O (suc v) m ≤ O' (suc w) (m + J)) → ((m : ℕ) → m < most → F * S v m ≤ S' w (m + J)) → (n : ℕ) → n ≤ most → F * O v n ≤ O' w (n + J)
  level most v w more ends n l =
      let h = chain_le F J most (a.K v) _ (b.K w) _ (a.start v) (a.step v) (b.step w) (λ k m less. cond_le (k % 2 == 1) F (O (suc v) m) (S v m) (O' (suc w) (m + J)) (S' w (m + J)) (more m less) (ends m less)) n 1 l (omega arith) in
      let e = ap (λ x. F * x) (a.top v n) in let f = b.top w (n + J) in
      omega (arith, h, e, f)

  pub ones_le : (most : ℕ) → ((v w m : ℕ) → R v w → m < most → F * S v m ≤ S' w (m + J)) → (within : ℕ) → within ≤ most → (v w n : ℕ) → R v w → n ≤ within → F * O v n ≤ O' w (n + J)
  ones_le most ends zero l v w n r m = level 0 v w (λ i less. absurd (omega (arith, less))) (λ i less. absurd (omega (arith, less))) n m
  ones_le most ends (suc within) l v w n r m =
      level (suc within) v w (λ i less. ones_le most ends within (omega (arith, l)) (suc v) (suc w) i (next v w r) (omega (arith, less))) (λ i less. ends v w i r (omega (arith, less, l))) n m
