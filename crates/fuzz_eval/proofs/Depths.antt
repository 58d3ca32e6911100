-- How deep elements are held on their way through stages at work, and what a derivation's height adds.
use Rattle.std.proofs.Common.{◌≡◌, ℕ, zero, suc, ◌<◌, ◌≤◌, ◌+◌, ◌-◌, List, [], ◌∷◌, ◌++◌, length, get_or, refl, ap, sym, subst, ◌∙◌, arith}
use Rattle.std.specs.Prelude.{max, slice_set, take, ⊤}
use Rattle.std.proofs.lemmas.List.{take_more}
use Rattle.fz_ast.specs.Terms.{Term}
use Rattle.metric_values.specs.Values.{Env}
use Rattle.flow_values.specs.Depths.{added, stage_deep}
use Rattle.flow_values.specs.Steps.{Step}
use Rattle.flow_values.specs.Views.{stages_deep, step_of, strands_deep}
use Rattle.flow_values.specs.declared.value.Stage.{Stage}
use Rattle.flow_values.specs.declared.value.Strand.{Strand}
use Rattle.fuzz_eval.specs.Steps.{HasValueWithin}
use Rattle.fuzz_eval.specs.Walks.{worker_deep, worker_step, workers_deep}
use Rattle.fuzz_eval.specs.declared.workers.Worker.{Worker}
use Rattle.fuzz_eval.proofs.Steps.{above}

added_above : (n : ℕ) → 0 < n → added n ≡ added (n - 1) + added (n - 1) + 16
unfolding added
added_above zero h = absurd (omega (arith, h))
added_above (suc n) h = let e : suc n - 1 ≡ n = omega arith in subst (λ (k : ℕ). added n + added n + 16 ≡ added k + added k + 16) (sym e) refl

-- a term whose value has a derivation of at most this height, over its parts
pub risen : {n : ℕ} {γ : Env} {t : Term} → HasValueWithin n γ t → added n ≡ added (n - 1) + added (n - 1) + 16
risen {n} h = added_above n (above h)

pub strand_below : (ss : List Strand) (i : ℕ) (s : Strand) → i < length ss → s ≡ get_or ss i s → s.chain.deep ≤ strands_deep ss
strand_below [] i s h e = absurd (omega (arith, h))
strand_below (c ∷ ss) zero s h e = subst (λ (s : Strand). s.chain.deep ≤ max c.chain.deep (strands_deep ss)) (sym e) (omega arith)
strand_below (c ∷ ss) (suc i) s h e = omega (arith, strand_below ss i s (omega (arith, h)) e)

-- each of the others is the same stage, its name standing for an element by now that may be met there
abbrev pub AreNoDeeper : ℕ → List Worker → List Worker → Type 0
AreNoDeeper d [] [] = ⊤
AreNoDeeper d (o ∷ os) (w ∷ ws) = (w.inner.deep ≤ max o.inner.deep (d + 3)) × (w.left ≡ o.left) × AreNoDeeper (worker_deep d o) os ws
AreNoDeeper d os ws = ⊥

pub none_deeper : (d : ℕ) (ws : List Worker) → AreNoDeeper d ws ws
none_deeper d [] = tt
none_deeper d (w ∷ ws) = (omega arith, refl, none_deeper (worker_deep d w) ws)

rises : (ws : List Worker) (d : ℕ) → d ≤ workers_deep d ws
rises [] d = omega arith
rises (w ∷ ws) d = omega (arith, rises ws (worker_deep d w))

taken_below : (ws : List Worker) (i d : ℕ) → workers_deep d (take i ws) ≤ workers_deep d ws
taken_below [] zero d = omega arith
taken_below [] (suc i) d = omega arith
taken_below (w ∷ ws) zero d = rises (w ∷ ws) d
taken_below (w ∷ ws) (suc i) d = taken_below ws i (worker_deep d w)

ends_below : (d e : ℕ) (old ws : List Worker) → e ≤ d → AreNoDeeper d old ws → workers_deep e ws ≤ workers_deep d old
ends_below d e [] [] l h = l
ends_below d e [] (w ∷ ws) l h = absurd h
ends_below d e (o ∷ os) [] l h = absurd h
ends_below d e (o ∷ os) (w ∷ ws) l h = ends_below (worker_deep d o) (worker_deep e w) os ws (omega (arith, l, h.0, ap added h.1)) h.2

pub no_deeper : (d : ℕ) (old ws : List Worker) → AreNoDeeper d old ws → workers_deep d ws ≤ workers_deep d old
no_deeper d old ws h = ends_below d d old ws (omega arith) h

behind : (d e : ℕ) (old ws : List Worker) (i : ℕ) (w : Worker) → i < length ws → w ≡ get_or ws i w → AreNoDeeper d old ws
    → e ≤ workers_deep d (take i old) → worker_deep e w ≤ workers_deep d (take (suc i) old)
behind d e old [] i w k q h l = absurd (omega (arith, k))
behind d e [] (v ∷ ws) i w k q h l = absurd h
behind d e (o ∷ os) (v ∷ ws) zero w k q h l = subst (λ (w : Worker). worker_deep e w ≤ worker_deep d o) (sym q) (omega (arith, l, h.0, ap added h.1))
behind d e (o ∷ os) (v ∷ ws) (suc i) w k q h l = behind (worker_deep d o) e os ws i w (omega (arith, k)) q h.2 l

set_again : (d e : ℕ) (old ws : List Worker) (i : ℕ) (w v : Worker) → i < length ws → w ≡ get_or ws i w → AreNoDeeper d old ws
    → e ≤ workers_deep d (take i old) → v.inner.deep ≤ max w.inner.deep (e + 3) → v.left ≡ w.left → AreNoDeeper d old (slice_set ws i v)
set_again d e old [] i w v k q h l m s = absurd (omega (arith, k))
set_again d e [] (u ∷ ws) i w v k q h l m s = absurd h
set_again d e (o ∷ os) (u ∷ ws) zero w v k q h l m s = (omega (arith, l, h.0, m, ap (λ (w : Worker). w.inner.deep) q), s ∙ ap (λ (w : Worker). w.left) q ∙ h.1, h.2)
set_again d e (o ∷ os) (u ∷ ws) (suc i) w v k q h l m s = (h.0, h.1, set_again (worker_deep d o) e os ws i w v (omega (arith, k)) q h.2 l m s)

pub at_first : (d : ℕ) (ws : List Worker) → d ≤ workers_deep d (take 0 ws)
at_first d [] = omega arith
at_first d (w ∷ ws) = omega arith

-- the stages at work pass an element on
module _ (d e : ℕ) (old ws : List Worker) (i : ℕ) (w : Worker) (k : i < length ws) (q : w ≡ get_or ws i w) (h : AreNoDeeper d old ws)
    (l : e ≤ workers_deep d (take i old)) where
  pub passed_on : (y : ℕ) → y ≤ worker_deep e w → y ≤ workers_deep d (take (i + 1) old)
  passed_on y m =
      let n : suc i ≡ i + 1 = omega arith in
      subst (λ (j : ℕ). y ≤ workers_deep d (take j old)) n (omega (arith, m, behind d e old ws i w k q h l))

  pub worker_below : worker_deep e w ≤ workers_deep d old
  worker_below = omega (arith, behind d e old ws i w k q h l, taken_below old (suc i) d)

  pub still_no_deeper : (v : Worker) → v.inner.deep ≤ max w.inner.deep (e + 3) → worker_step v ≡ worker_step w → AreNoDeeper d old (slice_set ws i v)
  still_no_deeper v m s = set_again d e old ws i w v k q h l m (ap (λ (s : Step). s.left) s)

-- stages put to work
workers_behind : (d : ℕ) (ws : List Worker) (w : Worker) → workers_deep d (ws ++ w ∷ []) ≡ worker_deep (workers_deep d ws) w
workers_behind d [] w = refl
workers_behind d (v ∷ ws) w = workers_behind (worker_deep d v) ws w

stages_behind : (d : ℕ) (ss : List Stage) (s : Stage) → stages_deep d (ss ++ s ∷ []) ≡ stage_deep s.function.value.scope.deep (stages_deep d ss) s.left
stages_behind d [] s = refl
stages_behind d (t ∷ ss) s = stages_behind (stage_deep t.function.value.scope.deep d t.left) ss s

pub deep_worked : (ss : List Stage) (i : ℕ) (s : Stage) → i < length ss → s ≡ get_or ss i s → (out more : List Worker) (w : Worker)
    → workers_deep 0 out ≤ stages_deep 0 (take i ss) → more ≡ out ++ w ∷ [] → worker_step w ≡ step_of s → w.inner.deep ≡ s.function.value.scope.deep + 2
    → workers_deep 0 more ≤ stages_deep 0 (take (i + 1) ss)
deep_worked ss i s h e out more w inv p is d =
    let q : take (i + 1) ss ≡ take i ss ++ s ∷ [] = take_more ss i s h ∙ ap (λ x. take i ss ++ x ∷ []) (sym e) in
    let a = ap (workers_deep 0) p ∙ workers_behind 0 out w in
    let b = ap (stages_deep 0) q ∙ stages_behind 0 (take i ss) s in
    omega (arith, a, b, inv, d, ap (λ (s : Step). added s.left) is)
