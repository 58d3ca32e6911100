-- Stages at work, and what a walk makes of a table's rows.
use Rattle.std.specs.Prelude.{List, None, Option, Some, [], length, max, ℕ, ◌+◌, ◌<◌, ◌≡◌, ◌∷◌, ⊤}
use Rattle.fz_ast.specs.TermNodes.{term_at}
use Rattle.metric_values.specs.Values.{Flat, Value, value_of}
use Rattle.run_values.specs.Flats.{IsFlat, flat_of}
use Rattle.run_values.specs.Parts.{IsNum}
use Rattle.flow_values.specs.Depths.{added}
use Rattle.flow_values.specs.Held.{Held}
use Rattle.flow_values.specs.Steps.{AllGo, Answers, Goes, Step, all_through}
use Rattle.row_kernels.specs.declared.gather.Gather.{Gather}
use Rattle.row_kernels.specs.declared.gather.Gather.TheVariants.{Size, Sum}
use Rattle.row_kernels.specs.Gathers.{AllWeighed}
use Rattle.fuzz_eval.specs.Loops.{function_inside}
use Rattle.fuzz_eval.specs.declared.workers.Worker.{Worker}

abbrev pub worker_step : Worker → Step
worker_step w = record { function = function_inside w.body.arrow w.inner.means (term_at w.nodes.value.terms w.body.term); left = w.left; keeps = w.keeps }

abbrev pub worker_steps : List Worker → List Step
worker_steps [] = []
worker_steps (w ∷ ws) = worker_step w ∷ worker_steps ws

-- how deep an element may be held behind a stage, and behind stages, that is held d deep before them
abbrev pub worker_deep : ℕ → Worker → ℕ
worker_deep d w = max w.inner.deep (d + 3) + added w.left

abbrev pub workers_deep : ℕ → List Worker → ℕ
workers_deep d [] = d
workers_deep d (w ∷ ws) = workers_deep (worker_deep d w) ws

-- the body is one of the nodes, and the height is one that can be said
abbrev pub IsKnownWorker : Worker → Type 0
IsKnownWorker w = (w.body.term < length w.nodes.value.terms) × (w.left < 4294967296)

abbrev pub AllKnownWorkers : List Worker → Type 0
AllKnownWorkers [] = ⊤
AllKnownWorkers (w ∷ ws) = IsKnownWorker w × AllKnownWorkers ws

-- its name may stand for another element by now
pub record IsSameWorker (v w : Worker) : Type 0 where
  pub step : worker_step w ≡ worker_step v
  pub known : IsKnownWorker v → IsKnownWorker w

pub record AreSameWorkers (vs ws : List Worker) : Type 0 where
  pub steps : worker_steps ws ≡ worker_steps vs
  pub known : AllKnownWorkers vs → AllKnownWorkers ws

abbrev pub means_in : Option Held → Option Value
means_in None = None
means_in (Some h) = Some h.means

abbrev pub values_in : Option Flat → Option Value
values_in None = None
values_in (Some x) = Some (value_of x)

abbrev pub flat_in : Option Value → Option Flat
flat_in None = None
flat_in (Some v) = Some (flat_of v)

-- v is an element, and the step's function gives something for it
pub record CanStep (s : Step) (v : Value) : Type 0 where
  pub flat : IsFlat v
  pub answers : Answers s (flat_of v)

pub record CanPass (ss : List Step) (v : Value) : Type 0 where
  pub flat : IsFlat v
  pub goes : Goes ss (Some (flat_of v))

-- each row goes through, and what it becomes can be counted or added
pub record CanGather (g : Gather) (ss : List Step) (rows : List Flat) : Type 0 where
  pub goes : AllGo ss rows
  pub weighed : AllWeighed g (all_through ss rows)

abbrev pub IsWeighedValue : Gather → Option Value → Type 0
IsWeighedValue Size o = ⊤
IsWeighedValue (Sum lo hi) None = ⊤
IsWeighedValue (Sum lo hi) (Some v) = IsNum v
