use Rattle.std.proofs.Common.{◌≡◌, ◌≤◌}
use Rattle.std.specs.Prelude.{take}
use Rattle.flow_values.specs.Views.{stages_deep, steps_of}
use Rattle.fuzz_eval.specs.Walks.{AllKnownWorkers, worker_steps, workers_deep}
use Rattle.fuzz_eval.proofs.workers.workers_of.Given as goal

abbrev pub invariant-loop-i : goal.invariant-loop-i
invariant-loop-i l = (worker_steps l.out.items ≡ steps_of (take l.i l.stages)) × AllKnownWorkers l.out.items × (workers_deep 0 l.out.items ≤ stages_deep 0 (take l.i l.stages))
