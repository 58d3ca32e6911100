-- Stages at work, put together.
use Rattle.std.proofs.Common.{◌≡◌, ℕ, zero, suc, ◌<◌, ◌+◌, List, [], ◌∷◌, ◌++◌, length, get_or, refl, ap, sym, subst, ◌∙◌, arith}
use Rattle.std.specs.Prelude.{take}
use Rattle.std.proofs.lemmas.List.{take_more}
use Rattle.flow_values.specs.Views.{AllKnown, IsKnown, step_of, steps_of}
use Rattle.flow_values.specs.declared.value.Stage.{Stage}
use Rattle.flow_values.proofs.Stranded.{steps_more}
use Rattle.fuzz_eval.specs.declared.workers.Worker.{Worker}
use Rattle.fuzz_eval.specs.Walks.{AllKnownWorkers, IsKnownWorker, worker_step, worker_steps}

pub known_at : (ss : List Stage) (i : ℕ) (s : Stage) → i < length ss → s ≡ get_or ss i s → AllKnown ss → IsKnown s.function.value
known_at [] i s h e k = absurd (omega (arith, h))
known_at (t ∷ ss) zero s h e k = subst (λ (s : Stage). IsKnown s.function.value) (sym e) k.0
known_at (t ∷ ss) (suc i) s h e k = known_at ss i s (omega (arith, h)) e k.1

steps_behind : (ws : List Worker) (w : Worker) → worker_steps (ws ++ w ∷ []) ≡ worker_steps ws ++ worker_step w ∷ []
steps_behind [] w = refl
steps_behind (v ∷ ws) w = ap (λ ss. worker_step v ∷ ss) (steps_behind ws w)

known_behind : (ws : List Worker) (w : Worker) → AllKnownWorkers ws → IsKnownWorker w → AllKnownWorkers (ws ++ w ∷ [])
known_behind [] w h k = (k, tt)
known_behind (v ∷ ws) w h k = (h.0, known_behind ws w h.1 k)

pub worked_more : (ss : List Stage) (i : ℕ) (s : Stage) → i < length ss → s ≡ get_or ss i s → (out more : List Worker) (w : Worker)
    → ((worker_steps out ≡ steps_of (take i ss)) × AllKnownWorkers out) → more ≡ out ++ w ∷ [] → worker_step w ≡ step_of s → IsKnownWorker w
    → (worker_steps more ≡ steps_of (take (i + 1) ss)) × AllKnownWorkers more
worked_more ss i s h e out more w inv p is known =
    let q : take (i + 1) ss ≡ take i ss ++ s ∷ [] = take_more ss i s h ∙ ap (λ x. take i ss ++ x ∷ []) (sym e) in (
      ap worker_steps p ∙ steps_behind out w ∙ (λ j. inv.0 j ++ is j ∷ []) ∙ sym (steps_more (take i ss) s) ∙ ap steps_of (sym q),
      subst AllKnownWorkers (sym p) (known_behind out w inv.1 known),
    )
