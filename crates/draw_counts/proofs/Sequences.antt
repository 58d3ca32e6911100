-- A whole sequence of answers at whole EPS is private.
use Rattle.std.proofs.Common.{◌≡◌, ◌∙◌, sym, ap, subst, refl, ℕ, zero, suc, ◌+◌, ◌-◌, ◌*◌, ◌<◌, ◌≤◌, Bool, List, [], ◌∷◌, ◌++◌, Option, arith}
use Rattle.std.specs.Prelude.{◌^◌, min, ℤ, ◌-ℤ◌, unsigned_abs}
use Rattle.std.proofs.lemmas.Nat.{pow-add}
use Rattle.std.proofs.Math.Nat.{mul-le-mul_left, mul-le-mul_right, mul_comm, pow-succ', pow-le-pow_left}
use Rattle.exact_bernoulli.specs.Meter.{draw_limit}
use Rattle.discrete_laplace.specs.Noise.{noise_of}
use Rattle.draw_counts.specs.Privacy.{AtLeastExp, answered}
use Rattle.draw_counts.specs.Sequence.{sum_lists, draws_passing, Answers, answered_by, cost, CostAtMost, SequenceIsPrivate}
use Rattle.draw_counts.proofs.Numbers.{powers_enough}
use Rattle.draw_counts.proofs.Private.{answers_private, at_least_one}
use Rattle.draw_counts.proofs.Sums.{over_le, over_add, over_times, over_const, numbers, all_draws}

-- one answer, and those after it
compose : (Qc Qe Pc Pe N v k SX SY FX FY : ℕ) → 2 ^ 128 * (Qe * SX) ≤ FX + N * (k * (Qe * v)) → 2 ^ 128 * (Qc * FX) ≤ 2 ^ 128 * (Pc * FY) + Qc * (N * (2 ^ 128 * (Qe * v))) → FY ≤ 2 ^ 128 * (Pe * SY)
    → 2 ^ 128 * ((Qc * Qe) * SX) ≤ 2 ^ 128 * ((Pc * Pe) * SY) + suc k * ((Qc * Qe) * (N * v))
compose Qc Qe Pc Pe N v k SX SY FX FY h1 h2 h3 =
    let a = mul-le-mul_left Qc h1 in let b = mul-le-mul_left Pc h3 in
    omega (arith, a, b, h2)

under_both : (S Qe Pe X Y k v : ℕ) → S * (Qe * X) ≤ S * (Pe * Y) + k * (Qe * v) → X ≤ v → S * (Qe * X) ≤ min (S * (Pe * Y)) (S * (Qe * v)) + k * (Qe * v)
under_both S Qe Pe X Y k v h l = let a = mul-le-mul_left (S * Qe) l in omega (arith, a, h)

same_end : (S Q P b : ℕ) → Q ≤ P → S * (Q * b) ≤ S * (P * b)
same_end S Q P b l = let a = mul-le-mul_right (S * b) l in omega (arith, a)

module _ (eps : Answers → ℕ) (x y : Answers → ℤ) (p q : ℕ) (least : AtLeastExp 1 1 p q) (set : Answers → Bool) where
  runs : (Answers → ℤ) → ℕ → Answers → ℕ
  runs value asks before = draws_passing (2 ^ 64) draw_limit asks (λ draws. set (answered_by eps value before draws))

  all : ℕ → ℕ
  all asks = ((2 ^ 64) ^ draw_limit) ^ asks

  step : (value : Answers → ℤ) → Answers → List ℕ → Answers
  step value before draws = before ++ answered (value before) (noise_of 1 (eps before) draws) ∷ []

  runs_step : (value : Answers → ℤ) (asks : ℕ) (before : Answers) → runs value (suc asks) before ≡ sum_lists (2 ^ 64) draw_limit (λ draws. runs value asks (step value before draws))
  unfolding runs draws_passing answered_by step
  runs_step value asks before = refl

  runs_end : (before : Answers) → runs x 0 before ≡ runs y 0 before
  unfolding runs draws_passing answered_by
  runs_end before = refl

  runs_most : (value : Answers → ℤ) (asks : ℕ) (before : Answers) → runs value asks before ≤ all asks
  unfolding runs all
  runs_most value asks before = all_draws (2 ^ 64) draw_limit asks (λ draws. set (answered_by eps value before draws))

  less : q ≤ p
  less = at_least_one 1 (let a : 0 < 1 = omega arith in a) 1 p q least

  -- what one answer is worth, by what comes after it
  module _ (before : Answers) (some : 0 < eps before) (few : cost eps x y before ≤ 100) (k rest : ℕ)
      (after : (answer : Option ℤ) → 2 ^ 128 * (q ^ rest * runs x k (before ++ answer ∷ [])) ≤ 2 ^ 128 * (p ^ rest * runs y k (before ++ answer ∷ [])) + k * (q ^ rest * all k)) where
    c : ℕ
    c = cost eps x y before

    worth : Option ℤ → ℕ
    worth answer = 2 ^ 128 * (p ^ rest * runs y k (before ++ answer ∷ []))

    most : ℕ
    most = 2 ^ 128 * (q ^ rest * all k)

    answer_of : (Answers → ℤ) → List ℕ → Option ℤ
    answer_of value draws = answered (value before) (noise_of 1 (eps before) draws)

    worth_by : (Answers → ℤ) → ℕ
    worth_by value = sum_lists (2 ^ 64) draw_limit (λ draws. min (worth (answer_of value draws)) most)

    one_answer : 2 ^ 128 * (q ^ c * worth_by x) ≤ 2 ^ 128 * (p ^ c * worth_by y) + q ^ c * ((2 ^ 64) ^ draw_limit * most)
    unfolding worth_by answer_of c
    one_answer = numbers (2 ^ 64) draw_limit (2 ^ 128) (p ^ c) (q ^ c) ((2 ^ 64) ^ draw_limit) (answer_of x) (answer_of y)
        (λ s. answers_private (eps before) some (x before) (y before) s (p ^ c) (q ^ c) (pow-le-pow_left less c) (let turn = mul_comm (unsigned_abs (x before -ℤ y before)) (eps before) in
        subst (λ i. (2 ^ 129 - 1) * (q ^ c * (2 ^ 64) ^ 700) ≤ 2 ^ 129 * (p ^ c * Rattle.draw_counts.proofs.Steps.count 700 (Rattle.draw_counts.proofs.Begins.begins i))) turn (powers_enough c p q few least)))
        worth most

    x_each : (draws : List ℕ) → (2 ^ 128 * q ^ rest) * runs x k (step x before draws) ≤ min (worth (answer_of x draws)) most + k * (q ^ rest * all k)
    unfolding worth most answer_of step
    x_each draws =
        let answer = answered (x before) (noise_of 1 (eps before) draws) in
        let X = runs x k (before ++ answer ∷ []) in let Y = runs y k (before ++ answer ∷ []) in
        let h = under_both (2 ^ 128) (q ^ rest) (p ^ rest) X Y k (all k) (after answer) (runs_most x k (before ++ answer ∷ [])) in
        let e : (2 ^ 128 * q ^ rest) * X ≡ 2 ^ 128 * (q ^ rest * X) = omega arith in
        subst (λ v. v ≤ min (2 ^ 128 * (p ^ rest * Y)) (2 ^ 128 * (q ^ rest * all k)) + k * (q ^ rest * all k)) (sym e) h

    x_under : 2 ^ 128 * (q ^ rest * runs x (suc k) before) ≤ worth_by x + (2 ^ 64) ^ draw_limit * (k * (q ^ rest * all k))
    unfolding worth_by
    x_under =
        let later = k * (q ^ rest * all k) in
        let a = over_le (2 ^ 64) draw_limit (λ draws. (2 ^ 128 * q ^ rest) * runs x k (step x before draws)) (λ draws. min (worth (answer_of x draws)) most + later) x_each in
        let b = over_times (2 ^ 64) draw_limit (2 ^ 128 * q ^ rest) (λ draws. runs x k (step x before draws)) in
        let d = over_add (2 ^ 64) draw_limit (λ draws. min (worth (answer_of x draws)) most) (λ _. later) in
        let e = over_const (2 ^ 64) draw_limit later in
        let g = ap (λ v. (2 ^ 128 * q ^ rest) * v) (runs_step x k before) in
        omega (arith, a, b, d, e, g)

    y_each : (draws : List ℕ) → min (worth (answer_of y draws)) most ≤ (2 ^ 128 * p ^ rest) * runs y k (step y before draws)
    unfolding worth answer_of step
    y_each draws = omega arith

    y_over : worth_by y ≤ 2 ^ 128 * (p ^ rest * runs y (suc k) before)
    unfolding worth_by
    y_over =
        let a = over_le (2 ^ 64) draw_limit (λ draws. min (worth (answer_of y draws)) most) (λ draws. (2 ^ 128 * p ^ rest) * runs y k (step y before draws)) y_each in
        let b = over_times (2 ^ 64) draw_limit (2 ^ 128 * p ^ rest) (λ draws. runs y k (step y before draws)) in
        let g = ap (λ v. (2 ^ 128 * p ^ rest) * v) (runs_step y k before) in
        omega (arith, a, b, g)

    all_step : all (suc k) ≡ (2 ^ 64) ^ draw_limit * all k
    unfolding all
    all_step = pow-succ' ((2 ^ 64) ^ draw_limit) k

    next : 2 ^ 128 * ((q ^ c * q ^ rest) * runs x (suc k) before) ≤ 2 ^ 128 * ((p ^ c * p ^ rest) * runs y (suc k) before) + suc k * ((q ^ c * q ^ rest) * all (suc k))
    unfolding most
    next =
        subst (λ v. 2 ^ 128 * ((q ^ c * q ^ rest) * runs x (suc k) before) ≤ 2 ^ 128 * ((p ^ c * p ^ rest) * runs y (suc k) before) + suc k * ((q ^ c * q ^ rest) * v)) (sym all_step)
        (compose (q ^ c) (q ^ rest) (p ^ c) (p ^ rest) ((2 ^ 64) ^ draw_limit) (all k) k (runs x (suc k) before) (runs y (suc k) before) (worth_by x) (worth_by y) x_under one_answer y_over)

    next_total : (total : ℕ) → c + rest ≡ total → 2 ^ 128 * (q ^ total * runs x (suc k) before) ≤ 2 ^ 128 * (p ^ total * runs y (suc k) before) + suc k * (q ^ total * all (suc k))
    next_total total e =
        let a = sym (pow-add q c rest) ∙ ap (λ n. q ^ n) e in let b = sym (pow-add p c rest) ∙ ap (λ n. p ^ n) e in
        subst (λ v. 2 ^ 128 * (v * runs x (suc k) before) ≤ 2 ^ 128 * (p ^ total * runs y (suc k) before) + suc k * (v * all (suc k))) a
        (subst (λ v. 2 ^ 128 * ((q ^ c * q ^ rest) * runs x (suc k) before) ≤ 2 ^ 128 * (v * runs y (suc k) before) + suc k * ((q ^ c * q ^ rest) * all (suc k))) b next)

  sequence : (asks total : ℕ) (before : Answers) → CostAtMost eps x y asks total before
      → 2 ^ 128 * (q ^ total * runs x asks before) ≤ 2 ^ 128 * (p ^ total * runs y asks before) + asks * (q ^ total * all asks)
  unfolding CostAtMost c
  sequence zero total before h =
      let a = same_end (2 ^ 128) (q ^ total) (p ^ total) (runs y 0 before) (pow-le-pow_left less total) in
      subst (λ v. 2 ^ 128 * (q ^ total * v) ≤ 2 ^ 128 * (p ^ total * runs y 0 before) + 0 * (q ^ total * all 0)) (sym (runs_end before)) (omega (arith, a))
  sequence (suc k) total before h =
      let rest = total - cost eps x y before in
      next_total before h.0 h.1 k rest (λ answer. sequence k rest (before ++ answer ∷ []) (h.3 answer)) total (let l = h.2 in omega (arith, l))

pub sequence_private : SequenceIsPrivate
unfolding runs all
sequence_private eps x y asks total h p q least set = sequence eps x y p q least set asks total [] h
