-- Attempts, one after another, up to the first that gives a number.
use Rattle.std.proofs.Common.{◌≡◌, ◌∙◌, sym, ap, subst, inl, inr, ℕ, suc, ◌-◌, ◌<◌, ◌≤◌, true, List, ◌++◌, length, take, Option, Some, None, arith, length-append}
use Rattle.std.specs.Prelude.{ℤ, is_none, Result, Ok, Err, IfOk, OnOk, OnErr}
use Rattle.std.specs.Result.{result_ok}
use Rattle.std.proofs.Math.Dec.{lit<}
use Rattle.std.proofs.lemmas.List.{take_all}
use Rattle.fz_outside.specs.Draws.{first_draws, HasDrawn}
use Rattle.fz_outside.proofs.Drawn.{length-first}
use Rattle.exact_bernoulli.specs.Meter.{draw_limit, Took, Takes}
use Rattle.exact_bernoulli.specs.Readers.{DrawReader, read_run}
use Rattle.discrete_laplace.specs.DiscreteLaplace.{IsSample, IsNoise}
use Rattle.discrete_laplace.specs.Readers.{read_attempt, given, read_sample}
use Rattle.discrete_laplace.specs.Noise.{noise_of, draws_taken}
use Rattle.exact_bernoulli.proofs.Exact.{then_complete, then_none}
use Rattle.discrete_laplace.proofs.Exact.{attempt_reads, attempt_takes, sample_reads}
use Rattle.discrete_laplace.proofs.Law.{noise_complete, noise_none}
use Rattle.exact_bernoulli.proofs.Metered.{none_from_segments}
use Rattle.exact_bernoulli.proofs.Runs.{Shrinks, shrinks_from, run_again, run_last, run_none}

-- the attempts from number k on
pub attempts_from : ℕ → ℕ → ℕ → DrawReader (ℕ × Option ℤ)
attempts_from t s k = read_run (λ _. read_attempt t s) is_none k

attempt_shrinks : (t s : ℕ) → Shrinks (read_attempt t s)
attempt_shrinks t s = shrinks_from (attempt_reads t s) (attempt_takes t s)

pub attempts_more : (t s k : ℕ) (outcome : Option ℤ) (before draws behind : List ℕ) → attempts_from t s 0 before ≡ attempts_from t s k draws → read_attempt t s draws ≡ Some (outcome, behind) → is_none outcome ≡ true → attempts_from t s 0 before ≡ attempts_from t s (suc k) behind
unfolding attempts_from
attempts_more t s k outcome before draws behind e h y = e ∙ run_again (λ _. read_attempt t s) is_none (λ _. attempt_shrinks t s) k outcome draws behind h y

pub attempts_end : (t s k : ℕ) (outcome : Option ℤ) (noise : ℤ) (before draws behind : List ℕ) → attempts_from t s 0 before ≡ attempts_from t s k draws → read_attempt t s draws ≡ Some (outcome, behind) → outcome ≡ Some noise → read_sample t s before ≡ Some (noise, behind)
unfolding attempts_from read_sample
attempts_end t s k outcome noise before draws behind e h gives =
    then_complete (read_run (λ _. read_attempt t s) is_none 0) (λ last. given last.1) before behind (k, outcome)
    (e ∙ run_last (λ _. read_attempt t s) is_none (λ _. attempt_shrinks t s) k outcome draws behind h (ap is_none gives))
    ∙ ap (λ o. given o behind) gives

pub attempts_none : (t s k : ℕ) (before draws : List ℕ) → attempts_from t s 0 before ≡ attempts_from t s k draws → read_attempt t s draws ≡ None → read_sample t s before ≡ None
unfolding attempts_from read_sample
attempts_none t s k before draws e h =
    then_none (read_run (λ _. read_attempt t s) is_none 0) (λ last. given last.1) before (e ∙ run_none (λ _. read_attempt t s) is_none (λ _. attempt_shrinks t s) k draws h)

-- the draws of a sample are no more than it may take
pub all_of_them : (d : ℕ → ℕ) → take draw_limit (first_draws draw_limit d) ≡ first_draws draw_limit d
all_of_them d = let l = length-first draw_limit d in take_all draw_limit (first_draws draw_limit d) (omega (arith, l))

pub noise_from_segment : (t s left : ℕ) (d rest : ℕ → ℕ) (noise : ℤ) → left < draw_limit → (one : List ℕ) × (first_draws draw_limit d ≡ one ++ first_draws left rest) × IsSample t s one noise → IsNoise t s (first_draws draw_limit d) noise (draw_limit - left)
noise_from_segment t s left d rest noise l h =
    let lengths = ap length h.1 ∙ length-append h.0 (first_draws left rest) in
    let all = length-first draw_limit d in let behind = length-first left rest in
    record { segment = h.0; rest = first_draws left rest; cut = all_of_them d ∙ h.1; as_many = omega (arith, lengths, all, behind); sample = h.2 }

pub none_from_draws : (t s : ℕ) (d : ℕ → ℕ) → ((one rest : List ℕ) (noise : ℤ) → first_draws draw_limit d ≡ one ++ rest → ¬ IsSample t s one noise) → (noise_of t s (first_draws draw_limit d) ≡ None) × (draws_taken t s (first_draws draw_limit d) ≡ draw_limit)
none_from_draws t s d none =
    let r = noise_none t s (first_draws draw_limit d) (ap (read_sample t s) (all_of_them d) ∙ none_from_segments (sample_reads t s) (first_draws draw_limit d) none) in
    (r.0, r.1 ∙ (ap length (all_of_them d) ∙ length-first draw_limit d))

pub taken_drawn : {W : Type 0} {draws : W → ℕ → ℕ} {place : W → ℕ} (left taken : ℕ) (x y : W) → Took draws place draw_limit x left y → left < draw_limit → taken ≡ draw_limit - left → HasDrawn draws place taken x y
taken_drawn left taken x y (inl h) l e = absurd (omega (arith, h.0))
taken_drawn {draws = draws} {place = place} left taken x y (inr h) l e = subst (λ n. HasDrawn draws place n x y) (sym e) h.1

some_draws : 0 < draw_limit
unfolding draw_limit
some_draws = lit< tt

-- what a sample promises, at the words before and behind it
pub record Meets {W E : Type 0} (draws : W → ℕ → ℕ) (place : W → ℕ) (t s : ℕ) (x y : W) (r : Result ℤ E) : Type 0 where
  pub noise : result_ok r ≡ noise_of t s (first_draws draw_limit (draws x))
  pub taken : HasDrawn draws place (draws_taken t s (first_draws draw_limit (draws x))) x y
  pub segments : IfOk r (λ noise. IsNoise t s (first_draws draw_limit (draws x)) noise (draws_taken t s (first_draws draw_limit (draws x))))
  pub none : OnErr r ((noise : ℤ) (taken : ℕ) → ¬ IsNoise t s (first_draws draw_limit (draws x)) noise taken)
  pub all : OnErr r (draws_taken t s (first_draws draw_limit (draws x)) ≡ draw_limit)
  pub within : draws_taken t s (first_draws draw_limit (draws x)) ≤ draw_limit

module _ {W E : Type 0} (draws : W → ℕ → ℕ) (place : W → ℕ) (t s : ℕ) where
  meets_limit : (r : Result ℤ E) (left : ℕ) (x y : W) → Took draws place draw_limit x left y → OnOk r (left < draw_limit) → Takes (IsSample t s) r (first_draws draw_limit (draws x)) (first_draws left (draws y)) → Meets draws place t s x y r
  meets_limit (Ok noise) left x y took fewer segment =
      let here = noise_from_segment t s left (draws x) (draws y) noise fewer segment in
      let c = noise_complete t s (first_draws draw_limit (draws x)) noise (draw_limit - left) here in
      record { noise = sym c.0; taken = taken_drawn left _ x y took fewer c.1; segments = subst (IsNoise t s (first_draws draw_limit (draws x)) noise) (sym c.1) here; none = tt; all = tt; within = omega (arith, c.1) }
  meets_limit (Err e) left x y took fewer segment =
      let n = none_from_draws t s (draws x) segment.1 in
      let none_left : left ≡ 0 = sym (length-first left (draws y)) ∙ ap length segment.0 in
      let some = some_draws in
      record {
        noise = sym n.0;
        taken = taken_drawn left _ x y took (omega (arith, none_left, some)) (omega (arith, n.1, none_left));
        segments = tt;
        none = λ noise taken h. (let c = noise_complete t s (first_draws draw_limit (draws x)) noise taken h in let e = sym n.0 ∙ c.0 in cc e);
        all = n.1;
        within = omega (arith, n.1);
      }

  pub meets : (r : Result ℤ E) (limit left : ℕ) (start x y : W) → limit ≡ draw_limit → start ≡ x → Took draws place limit start left y → OnOk r (left < limit) → Takes (IsSample t s) r (first_draws limit (draws start)) (first_draws left (draws y)) → Meets draws place t s x y r
  meets r limit left start x y l e =
      subst (λ w. Took draws place limit w left y → OnOk r (left < limit) → Takes (IsSample t s) r (first_draws limit (draws w)) (first_draws left (draws y)) → Meets draws place t s x y r) (sym e)
      (subst (λ n. Took draws place n x left y → OnOk r (left < n) → Takes (IsSample t s) r (first_draws n (draws x)) (first_draws left (draws y)) → Meets draws place t s x y r) (sym l) (meets_limit r left x y))
