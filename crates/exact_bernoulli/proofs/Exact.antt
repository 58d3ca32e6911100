-- Each reader finds exactly the segments that its relation names.
use Rattle.std.proofs.Common.{◌≡◌, ◌∙◌, sym, ap, subst, refl, ℕ, zero, suc, ◌+◌, ◌%◌, ◌*◌, ◌<◌, ◌≤◌, Bool, true, false, List, [], ◌∷◌, ◌++◌, length, Option, Some, None, arith, inl, inr, length-append, append_assoc}
use Rattle.std.specs.Prelude.{◌==◌, nat_lt}
use Rattle.std.specs.List.{AllByRecursion}
use Rattle.std.proofs.lemmas.Bool.{cases_Bool, ltb-true, ltb-false, lt-ltb, le-ltb}
use Rattle.exact_bernoulli.specs.ExactBernoulli.{uniform_limit, IsUniform, IsBernoulli, IsSegmentRun, IsBernoulliExp}
use Rattle.exact_bernoulli.specs.Readers.{DrawReader, give, then_read, read_uniform, read_bernoulli, read_run_within, read_run, read_bernoulli_exp}

-- what is found stands in front as a segment, and a segment that stands in front is found
pub record IsReader {A : Type 0} (read : List ℕ → Option (A × List ℕ)) (Segment : List ℕ → A → Type 0) : Type 0 where
  pub sound : (draws : List ℕ) (found : A × List ℕ) → read draws ≡ Some found → (one : List ℕ) × (draws ≡ one ++ found.1) × Segment one found.0
  pub complete : (one rest : List ℕ) (a : A) → Segment one a → read (one ++ rest) ≡ Some (a, rest)

pub some_inj : {A : Type 0} {a b : A} → Some a ≡ Some b → a ≡ b
some_inj e = cc

pub uniform_kept : (m w : ℕ) (draws : List ℕ) → w < uniform_limit m → read_uniform m (w ∷ draws) ≡ Some (w % m, draws)
unfolding read_uniform
uniform_kept m w draws h = let e = lt-ltb w (uniform_limit m) h in rw (e, read_uniform) refl

pub uniform_again : (m w : ℕ) (draws : List ℕ) → uniform_limit m ≤ w → read_uniform m (w ∷ draws) ≡ read_uniform m draws
unfolding read_uniform
uniform_again m w draws h = let e = le-ltb w (uniform_limit m) h in rw (e, read_uniform) refl

uniform_sound : (m : ℕ) (draws : List ℕ) (found : ℕ × List ℕ) → read_uniform m draws ≡ Some found → (one : List ℕ) × (draws ≡ one ++ found.1) × IsUniform m one found.0
unfolding read_uniform
uniform_sound m [] found e = absurd (cc e)
uniform_sound m (w ∷ draws) found e = elim (cases_Bool (nat_lt w (uniform_limit m))) [
  | inl y ↦ let k = ltb-true w (uniform_limit m) y in let f = some_inj (sym (uniform_kept m w draws k) ∙ e) in
      (w ∷ [], ap (λ p. w ∷ p.1) f, record { run = []; kept = w; cut = refl; above = tt; below = k; gives = sym (ap (λ p. p.0) f) })
  | inr n ↦ let k = ltb-false w (uniform_limit m) n in let r = uniform_sound m draws found (sym (uniform_again m w draws k) ∙ e) in
      (w ∷ r.0, ap (λ d. w ∷ d) r.1, record { run = w ∷ r.2.run; kept = r.2.kept; cut = ap (λ d. w ∷ d) r.2.cut; above = (k, r.2.above); below = r.2.below; gives = r.2.gives })
]

uniform_found : (m kept : ℕ) (run rest : List ℕ) → AllByRecursion (λ w. uniform_limit m ≤ w) run → kept < uniform_limit m → read_uniform m ((run ++ kept ∷ []) ++ rest) ≡ Some (kept % m, rest)
unfolding read_uniform
uniform_found m kept [] rest above below = uniform_kept m kept rest below
uniform_found m kept (w ∷ run) rest above below = uniform_again m w _ above.0 ∙ uniform_found m kept run rest above.1 below

pub uniform_reads : (m : ℕ) → IsReader (read_uniform m) (IsUniform m)
uniform_reads m = record { sound = uniform_sound m; complete = λ one rest a h. rw (h.cut, h.gives) (uniform_found m h.kept h.run rest h.above h.below) }

-- one reader and then another
pub then_complete : {A B : Type 0} (first : DrawReader A) (second : A → DrawReader B) (draws rest : List ℕ) (a : A) → first draws ≡ Some (a, rest) → then_read first second draws ≡ second a rest
then_complete first second draws rest a e = rw (e, then_read) refl

pub then_none : {A B : Type 0} (first : DrawReader A) (second : A → DrawReader B) (draws : List ℕ) → first draws ≡ None → then_read first second draws ≡ None
then_none first second draws e = rw (e, then_read) refl

pub then_cases : {A B : Type 0} (first : DrawReader A) (second : A → DrawReader B) (draws : List ℕ) (found : B × List ℕ) → then_read first second draws ≡ Some found → (p : A × List ℕ) × (first draws ≡ Some p) × (second p.0 p.1 ≡ Some found)
then_cases {A} {B} first second draws found e = go (first draws) refl
  where
    go : (o : Option (A × List ℕ)) → first draws ≡ o → (p : A × List ℕ) × (first draws ≡ Some p) × (second p.0 p.1 ≡ Some found)
    go None h = absurd (cc (sym (then_none first second draws h) ∙ e))
    go (Some p) h = (p, h, sym (then_complete first second draws p.1 p.0 h) ∙ e)

pub same_segments : {A : Type 0} {read : DrawReader A} {S : List ℕ → A → Type 0} (T : List ℕ → A → Type 0) → IsReader read S → ((one : List ℕ) (a : A) → S one a → T one a) → ((one : List ℕ) (a : A) → T one a → S one a) → IsReader read T
same_segments T reads to from = record {
  sound = λ draws found e. let r = reads.sound draws found e in (r.0, r.1, to _ _ r.2);
  complete = λ one rest a h. reads.complete one rest a (from one a h);
}

-- one segment, and a value of its value
pub map_reads : {A B : Type 0} (first : DrawReader A) (S : List ℕ → A → Type 0) (value : A → B) → IsReader first S → IsReader (then_read first (λ a. give (value a))) (λ draws b. (a : A) × S draws a × (b ≡ value a))
map_reads first S value f = record {
  sound = λ draws found e. let c = then_cases first (λ a. give (value a)) draws found e in let p = f.sound draws c.0 c.1 in let q = some_inj c.2 in
      (p.0, p.1 ∙ ap (λ x. p.0 ++ x.1) q, (c.0.0, p.2, sym (ap (λ x. x.0) q)));
  complete = λ one rest b h. then_complete first (λ a. give (value a)) (one ++ rest) rest h.0 (f.complete one rest h.0 h.1) ∙ ap (λ v. Some (v, rest)) (sym h.2);
}

module _ {B : Type 0} (read : ℕ → DrawReader B) (is_again : B → Bool) (Segment : ℕ → List ℕ → B → Type 0) (again : B) (reads : (k : ℕ) → IsReader (read k) (Segment k)) (only : (b : B) → is_again b ≡ true → b ≡ again) (it : is_again again ≡ true) (takes : (k : ℕ) (one : List ℕ) (b : B) → Segment k one b → 0 < length one) where
  after : ℕ → ℕ → B → DrawReader (ℕ × B)
  after most k b = elim (is_again b) [ true ↦ read_run_within read is_again most (suc k) | false ↦ give (k, b) ]

  after_again : (most k : ℕ) (b : B) (draws : List ℕ) → is_again b ≡ true → after most k b draws ≡ read_run_within read is_again most (suc k) draws
  unfolding after
  after_again most k b draws e = rw (e, after) refl

  after_last : (most k : ℕ) (b : B) (draws : List ℕ) → is_again b ≡ false → after most k b draws ≡ Some ((k, b), draws)
  unfolding after
  after_last most k b draws e = rw (e, after) refl

  within_sound : (most k : ℕ) (draws : List ℕ) (found : (ℕ × B) × List ℕ) → read_run_within read is_again most k draws ≡ Some found → (n : ℕ) × (one : List ℕ) × (draws ≡ one ++ found.1) × (found.0.0 ≡ k + n) × (is_again found.0.1 ≡ false) × IsSegmentRun Segment again found.0.1 k n one
  unfolding after
  within_sound zero k draws found e = absurd (cc e)
  within_sound (suc most) k draws found e =
      let c = then_cases (read k) (after most k) draws found e in let p = (reads k).sound draws c.0 c.1 in
      elim (cases_Bool (is_again c.0.0)) [
        | inl y ↦ let r = within_sound most (suc k) c.0.1 found (sym (after_again most k c.0.0 c.0.1 y) ∙ c.2) in (
          suc r.0,
          p.0 ++ r.1,
          p.1 ∙ (ap (λ d. p.0 ++ d) r.2 ∙ sym (append_assoc p.0 r.1 found.1)),
          omega (arith, r.3),
          r.4,
          (p.0, r.1, refl, subst (Segment k p.0) (only c.0.0 y) p.2, r.5),
        )
        | inr n ↦ let q = some_inj (sym (after_last most k c.0.0 c.0.1 n) ∙ c.2) in
            (0, p.0, p.1 ∙ ap (λ x. p.0 ++ x.1) q, sym (ap (λ x. x.0.0) q) ∙ omega arith, subst (λ b. is_again b ≡ false) (ap (λ x. x.0.1) q) n, subst (Segment k p.0) (ap (λ x. x.0.1) q) p.2)
      ]

  run_long : (last : B) (k n : ℕ) (draws : List ℕ) → IsSegmentRun Segment again last k n draws → n < length draws
  run_long last k zero draws h = takes k draws last h
  run_long last k (suc n) draws h = let a = takes k h.0 again h.3 in let b = run_long last (suc k) n h.1 h.4 in omega (arith, ap length h.2 ∙ length-append h.0 h.1)

  within_complete : (last : B) → is_again last ≡ false → (most k n : ℕ) (one rest : List ℕ) → n < most → IsSegmentRun Segment again last k n one → read_run_within read is_again most k (one ++ rest) ≡ Some ((k + n, last), rest)
  unfolding after
  within_complete last e zero k n one rest l h = absurd (omega arith)
  within_complete last e (suc most) k zero one rest l h =
      then_complete (read k) (after most k) (one ++ rest) rest last ((reads k).complete one rest last h) ∙ (after_last most k last rest e ∙ ap (λ x. Some ((x, last), rest)) (omega arith))
  within_complete last e (suc most) k (suc n) one rest l h =
      ap (λ d. read_run_within read is_again (suc most) k (d ++ rest)) h.2 ∙ (ap (read_run_within read is_again (suc most) k) (append_assoc h.0 h.1 rest)
      ∙ (then_complete (read k) (after most k) (h.0 ++ (h.1 ++ rest)) (h.1 ++ rest) again ((reads k).complete h.0 (h.1 ++ rest) again h.3)
      ∙ (after_again most k again (h.1 ++ rest) it ∙ (within_complete last e most (suc k) n h.1 rest (omega arith) h.4 ∙ ap (λ x. Some ((x, last), rest)) (omega arith)))))

  pub run_reads : (k : ℕ) → IsReader (read_run read is_again k) (λ draws r. (n : ℕ) × (r.0 ≡ k + n) × (is_again r.1 ≡ false) × IsSegmentRun Segment again r.1 k n draws)
  unfolding read_run
  run_reads k = record {
    sound = λ draws found e. let r = within_sound (length draws) k draws found e in (r.1, r.2, (r.0, r.3, r.4, r.5));
    complete = λ one rest r h. let l = run_long r.1 k h.0 one h.3 in let m = length-append one rest in
        within_complete r.1 h.2 (length (one ++ rest)) k h.0 one rest (omega arith) h.3 ∙ ap (λ x. Some ((x, r.1), rest)) (sym h.1);
  }

pub uniform_takes : (m : ℕ) (one : List ℕ) (a : ℕ) → IsUniform m one a → 0 < length one
uniform_takes m one a h = omega (arith, ap length h.cut ∙ length-append h.run (h.kept ∷ []))

pub bernoulli_reads : (n d : ℕ) → IsReader (read_bernoulli n d) (IsBernoulli n d)
unfolding read_bernoulli
bernoulli_reads n d = same_segments (IsBernoulli n d) (map_reads (read_uniform d) (IsUniform d) (λ number. nat_lt number n) (uniform_reads d))
    (λ one a h. record { number = h.0; uniform = h.1; gives = h.2 })
    (λ one a h. (h.number, h.uniform, h.gives))

pub bernoulli_takes : (n d : ℕ) (one : List ℕ) (a : Bool) → IsBernoulli n d one a → 0 < length one
bernoulli_takes n d one a h = uniform_takes d one h.number h.uniform

-- a run of trials, up to the first zero
pub ones_reads : (read : ℕ → DrawReader Bool) (Segment : ℕ → List ℕ → Bool → Type 0) → ((k : ℕ) → IsReader (read k) (Segment k)) → ((k : ℕ) (one : List ℕ) (b : Bool) → Segment k one b → 0 < length one) → (k : ℕ) → IsReader (read_run read (λ one. one) k) (λ draws r. (n : ℕ) × (r.0 ≡ k + n) × (r.1 ≡ false) × IsSegmentRun Segment true r.1 k n draws)
ones_reads read Segment reads takes k = run_reads read (λ one. one) Segment true reads (λ b e. e) refl takes k

pub bernoulli_exp_reads : (u t : ℕ) → IsReader (read_bernoulli_exp u t) (IsBernoulliExp u t)
unfolding read_bernoulli_exp
bernoulli_exp_reads u t =
    let Trial : ℕ → List ℕ → Bool → Type 0 = λ k. IsBernoulli u (t * k) in
    same_segments (IsBernoulliExp u t)
    (map_reads (read_run (λ k. read_bernoulli u (t * k)) (λ one. one) 1) (λ draws r. (n : ℕ) × (r.0 ≡ 1 + n) × (r.1 ≡ false) × IsSegmentRun Trial true r.1 1 n draws) (λ zero. zero.0 % 2 == 1)
    (ones_reads (λ k. read_bernoulli u (t * k)) Trial (λ k. bernoulli_reads u (t * k)) (λ k. bernoulli_takes u (t * k)) 1))
    (λ one a h. record { ones = h.1.0; trials = subst (λ b. IsSegmentRun Trial true b 1 h.1.0 one) h.1.2 h.1.3; gives = h.2 ∙ ap (λ x. x % 2 == 1) (omega (arith, h.1.1)) })
    (λ one a h. ((1 + h.ones, false), (h.ones, refl, refl, h.trials), h.gives ∙ ap (λ x. x % 2 == 1) (omega arith)))

pub bernoulli_exp_takes : (u t : ℕ) (one : List ℕ) (a : Bool) → IsBernoulliExp u t one a → 0 < length one
bernoulli_exp_takes u t one a h =
    let l = run_long (λ k. read_bernoulli u (t * k)) (λ one. one) (λ k. IsBernoulli u (t * k)) true (λ k. bernoulli_reads u (t * k)) (λ b e. e) refl (λ k. bernoulli_takes u (t * k)) false 1 h.ones one h.trials in omega (arith, l)
