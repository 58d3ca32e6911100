-- Each reader finds exactly the segments that its relation names.
use Rattle.std.proofs.Common.{◌≡◌, ◌∙◌, sym, ap, subst, refl, ℕ, ◌+◌, ◌*◌, ◌/◌, ◌<◌, Bool, true, false, List, [], ◌++◌, length, Option, Some, None, arith, inl, inr, length-append, append_assoc}
use Rattle.std.proofs.lemmas.List.{append-nil}
use Rattle.std.specs.Prelude.{ℤ, is_none}
use Rattle.exact_bernoulli.specs.ExactBernoulli.{IsUniform, IsBernoulli, IsSegmentRun, IsBernoulliExp}
use Rattle.exact_bernoulli.specs.Readers.{DrawReader, give, then_read, read_uniform, read_bernoulli, read_run, read_bernoulli_exp}
use Rattle.exact_bernoulli.proofs.Exact.{IsReader, some_inj, then_complete, then_cases, same_segments, map_reads, run_reads, ones_reads, uniform_reads, uniform_takes, bernoulli_reads, bernoulli_exp_reads, bernoulli_exp_takes}
use Rattle.discrete_laplace.specs.DiscreteLaplace.{IsGeometric, IsAttempt, IsSample, signed_size}
use Rattle.discrete_laplace.specs.Readers.{read_geometric, read_attempt, given, read_sample}

-- two segments, and the values of both
pub Then : {A B : Type 0} → (List ℕ → A → Type 0) → (A → List ℕ → B → Type 0) → List ℕ → B → Type 0
Then {A} S T draws b = (a : A) × (one two : List ℕ) × (draws ≡ one ++ two) × S one a × T a two b

pub then_reads : {A B : Type 0} (first : DrawReader A) (second : A → DrawReader B) (S : List ℕ → A → Type 0) (T : A → List ℕ → B → Type 0) → IsReader first S → ((a : A) → IsReader (second a) (T a)) → IsReader (then_read first second) (Then S T)
unfolding Then
then_reads first second S T f s = record {
  sound = λ draws found e. let c = then_cases first second draws found e in let p = f.sound draws c.0 c.1 in let q = (s c.0.0).sound c.0.1 found c.2 in
      (p.0 ++ q.0, p.1 ∙ (ap (λ d. p.0 ++ d) q.1 ∙ sym (append_assoc p.0 q.0 found.1)), (c.0.0, p.0, q.0, refl, p.2, q.2));
  complete = λ one rest b h. ap (λ d. then_read first second (d ++ rest)) h.3 ∙ (ap (then_read first second) (append_assoc h.1 h.2 rest) ∙ (then_complete first second (h.1 ++ (h.2 ++ rest)) (h.2 ++ rest) h.0 (f.complete h.1 (h.2 ++ rest) h.0 h.4) ∙ (s h.0).complete h.2 rest b h.5));
}

pub give_reads : {A : Type 0} (a : A) → IsReader (give a) (λ draws b. (draws ≡ []) × (b ≡ a))
give_reads a = record {
  sound = λ draws found e. let q = some_inj e in ([], ap (λ x. x.1) q, (refl, sym (ap (λ x. x.0) q)));
  complete = λ one rest b h. ap (λ d. Some (a, d ++ rest)) h.0 ∙ ap (λ v. Some (v, rest)) (sym h.1);
}

pub geometric_reads : IsReader read_geometric IsGeometric
unfolding read_geometric
geometric_reads = same_segments IsGeometric
    (map_reads (read_run (λ _. read_bernoulli_exp 1 1) (λ one. one) 0) (λ draws r. (n : ℕ) × (r.0 ≡ 0 + n) × (r.1 ≡ false) × IsSegmentRun (λ _. IsBernoulliExp 1 1) true r.1 0 n draws) (λ zero. zero.0)
    (ones_reads (λ _. read_bernoulli_exp 1 1) (λ _. IsBernoulliExp 1 1) (λ _. bernoulli_exp_reads 1 1) (λ _. bernoulli_exp_takes 1 1) 0))
    (λ one a h. let same : h.1.0 ≡ a = omega (arith, h.1.1, h.2) in subst (λ v. IsSegmentRun (λ _. IsBernoulliExp 1 1) true false 0 v one) same (subst (λ b. IsSegmentRun (λ _. IsBernoulliExp 1 1) true b 0 h.1.0 one) h.1.2 h.1.3))
    (λ one a h. ((a, false), (a, omega arith, refl, h), refl))

-- what follows the first trial of an attempt
Follows : ℕ → ℕ → ℕ → Bool → List ℕ → Option ℤ → Type 0
Follows t s u goes_on draws outcome = elim goes_on [
  | false ↦ (draws ≡ []) × (outcome ≡ None)
  | true ↦ Then IsGeometric (λ v draws outcome. (negative : Bool) × IsBernoulli 1 2 draws negative × (outcome ≡ signed_size negative ((u + t * v) / s))) draws outcome
]

read_follows : ℕ → ℕ → ℕ → Bool → DrawReader (Option ℤ)
read_follows t s u goes_on = elim goes_on [
  | false ↦ give None
  | true ↦ then_read read_geometric λ v. then_read (read_bernoulli 1 2) λ negative. give (signed_size negative ((u + t * v) / s))
]

follows_reads : (t s u : ℕ) (goes_on : Bool) → IsReader (read_follows t s u goes_on) (Follows t s u goes_on)
unfolding Follows read_follows
follows_reads t s u false = give_reads None
follows_reads t s u true = then_reads read_geometric (λ v. then_read (read_bernoulli 1 2) λ negative. give (signed_size negative ((u + t * v) / s))) IsGeometric _ geometric_reads
    (λ v. map_reads (read_bernoulli 1 2) (IsBernoulli 1 2) (λ negative. signed_size negative ((u + t * v) / s)) (bernoulli_reads 1 2))

Parts : ℕ → ℕ → List ℕ → Option ℤ → Type 0
Parts t s = Then (IsUniform t) (λ u. Then (IsBernoulliExp u t) (λ goes_on. Follows t s u goes_on))

attempt_from_parts : (t s : ℕ) (draws : List ℕ) (outcome : Option ℤ) (u : ℕ) (first behind second rest : List ℕ) (goes_on : Bool) → draws ≡ first ++ behind → IsUniform t first u → behind ≡ second ++ rest → IsBernoulliExp u t second goes_on → Follows t s u goes_on rest outcome → IsAttempt t s draws outcome
unfolding Follows Then
attempt_from_parts t s draws outcome u first behind second rest false cut uniform cut_two trial h =
    inl (record { first = first; second = second; cut = cut ∙ ap (λ d. first ++ d) (cut_two ∙ (ap (λ d. second ++ d) h.0 ∙ append-nil second)); u = u; uniform = uniform; rejected = trial }, h.1)
attempt_from_parts t s draws outcome u first behind second rest true cut uniform cut_two trial h =
    inr (record { first = first; second = second; third = h.1; fourth = h.2; cut = cut ∙ ap (λ d. first ++ d) (cut_two ∙ ap (λ d. second ++ d) h.3); u = u; uniform = uniform; accepted = trial; v = h.0; geometric = h.4; negative = h.5.0; sign = h.5.1; gives = h.5.2 })

parts_from_attempt : (t s : ℕ) (draws : List ℕ) (outcome : Option ℤ) → IsAttempt t s draws outcome → Parts t s draws outcome
unfolding Parts Follows Then
parts_from_attempt t s draws outcome (inl h) =
    (h.0.u, h.0.first, h.0.second, h.0.cut, h.0.uniform, (false, h.0.second, [], sym (append-nil h.0.second), h.0.rejected, (refl, h.1)))
parts_from_attempt t s draws outcome (inr h) =
    (h.u, h.first, h.second ++ (h.third ++ h.fourth), h.cut, h.uniform, (true, h.second, h.third ++ h.fourth, refl, h.accepted, (h.v, h.third, h.fourth, refl, h.geometric, (h.negative, h.sign, h.gives))))

pub attempt_reads : (t s : ℕ) → IsReader (read_attempt t s) (IsAttempt t s)
unfolding Parts read_follows Then read_attempt
attempt_reads t s = same_segments (IsAttempt t s)
    (then_reads (read_uniform t) (λ u. then_read (read_bernoulli_exp u t) (read_follows t s u)) (IsUniform t) (λ u. Then (IsBernoulliExp u t) (Follows t s u)) (uniform_reads t)
    (λ u. then_reads (read_bernoulli_exp u t) (read_follows t s u) (IsBernoulliExp u t) (Follows t s u) (bernoulli_exp_reads u t) (follows_reads t s u)))
    (λ one a h. attempt_from_parts t s one a h.0 h.1 h.2 h.5.1 h.5.2 h.5.0 h.3 h.4 h.5.3 h.5.4 h.5.5)
    (λ one a h. parts_from_attempt t s one a h)

pub attempt_takes : (t s : ℕ) (one : List ℕ) (a : Option ℤ) → IsAttempt t s one a → 0 < length one
attempt_takes t s one a (inl h) = let l = uniform_takes t h.0.first h.0.u h.0.uniform in omega (arith, l, ap length h.0.cut ∙ length-append h.0.first h.0.second)
attempt_takes t s one a (inr h) = let l = uniform_takes t h.first h.u h.uniform in omega (arith, l, ap length h.cut ∙ length-append h.first (h.second ++ (h.third ++ h.fourth)))

only_None : (a : Option ℤ) → is_none a ≡ true → a ≡ None
only_None None e = refl
only_None (Some a) e = absurd (cc e)

run_of_attempts : (t s : ℕ) → IsReader (read_run (λ _. read_attempt t s) is_none 0) (λ draws r. (n : ℕ) × (r.0 ≡ 0 + n) × (is_none r.1 ≡ false) × IsSegmentRun (λ _. IsAttempt t s) None r.1 0 n draws)
run_of_attempts t s = run_reads (λ _. read_attempt t s) is_none (λ _. IsAttempt t s) None (λ _. attempt_reads t s) only_None refl (λ _. attempt_takes t s) 0

given_reads : (outcome : Option ℤ) → IsReader (given outcome) (λ draws noise. (draws ≡ []) × (outcome ≡ Some noise))
given_reads None = record {
  sound = λ draws found e. absurd (cc e);
  complete = λ one rest noise h. absurd (cc (h.1));
}
given_reads (Some last) = record {
  sound = λ draws found e. let q = some_inj e in ([], ap (λ x. x.1) q, (refl, ap (λ x. Some x.0) q));
  complete = λ one rest noise h. ap (λ d. Some (last, d ++ rest)) h.0 ∙ ap (λ v. Some (v, rest)) (some_inj h.1);
}

pub sample_reads : (t s : ℕ) → IsReader (read_sample t s) (IsSample t s)
unfolding read_sample Then
sample_reads t s = same_segments (IsSample t s)
    (then_reads (read_run (λ _. read_attempt t s) is_none 0) (λ last. given last.1) _ (λ last draws noise. (draws ≡ []) × (last.1 ≡ Some noise)) (run_of_attempts t s) (λ last. given_reads last.1))
    (λ one noise h. let whole : one ≡ h.1 = h.3 ∙ (ap (λ d. h.1 ++ d) h.5.0 ∙ append-nil h.1) in
    record { rejected = h.4.0; attempts = subst (λ d. IsSegmentRun (λ _. IsAttempt t s) None (Some noise) 0 h.4.0 d) (sym whole) (subst (λ o. IsSegmentRun (λ _. IsAttempt t s) None o 0 h.4.0 h.1) h.5.1 h.4.3) })
    (λ one noise h. ((h.rejected, Some noise), one, [], sym (append-nil one), (h.rejected, omega arith, refl, h.attempts), (refl, refl)))
