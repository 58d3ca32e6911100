use Rattle.std.proofs.Common.{◌+◌, ◌*◌, ◌≡◌, ◌≤◌}
use Rattle.std.specs.Prelude.{max, take}
use Rattle.flow_values.specs.Depths.{added}
use Rattle.flow_values.specs.Views.{flow_of, scope_deep, stages_deep, steps_of}
use Rattle.row_kernels.specs.Gathers.{gathered}
use Rattle.row_kernels.specs.Flows.{IsFlatTotal}
use Rattle.fuzz_eval.specs.Walks.{worker_deep, workers_deep}
use Rattle.fuzz_eval.proofs.Depths.{AreNoDeeper}
use Rattle.fuzz_eval.proofs.Walked.{AreAtWork, Remains}
use Rattle.fuzz_eval.proofs.eval.+evaluating.Given as goal

-- how deep what it can make is held; a bag's stages are held less deep than the bag
abbrev pub decreases-eval : goal.decreases-eval
decreases-eval l = 16 * (l.scope.now.deep + added l.left) + 2

abbrev pub decreases-eval_two : goal.decreases-eval_two
decreases-eval_two l = 16 * (l.scope.now.deep + added l.left + added l.left) + 50

abbrev pub decreases-eval_equal : goal.decreases-eval_equal
decreases-eval_equal l = 16 * (l.scope.now.deep + added l.left) + 3

abbrev pub decreases-eval_pair : goal.decreases-eval_pair
decreases-eval_pair l = 16 * (l.scope.now.deep + added l.left + added l.left) + 70

abbrev pub decreases-eval_other : goal.decreases-eval_other
decreases-eval_other l = 16 * (l.scope.now.deep + added l.left)

abbrev pub decreases-eval_under : goal.decreases-eval_under
decreases-eval_under l = 16 * (scope_deep l.value.deep l.scope.now.deep + added l.left) + 3

abbrev pub decreases-apply : goal.decreases-apply
decreases-apply l = 16 * (scope_deep l.c.now.deep l.u.deep + added l.left) + 4

abbrev pub decreases-combine : goal.decreases-combine
decreases-combine l = 16 * (scope_deep l.u.deep l.w.deep + added l.left) + 6

abbrev pub decreases-apply_to_element : goal.decreases-apply_to_element
decreases-apply_to_element l = 16 * (max l.inner.now.deep (l.x.deep + 3) + added l.left) + 6

abbrev pub decreases-step : goal.decreases-step
decreases-step l = 16 * worker_deep l.x.deep l.worker.now + 7

abbrev pub decreases-pass : goal.decreases-pass
decreases-pass l = 16 * workers_deep l.x.deep l.workers.now.items + 8

abbrev pub decreases-walk_rows : goal.decreases-walk_rows
decreases-walk_rows l = 16 * stages_deep 0 l.branch.now.stages.items + 9

abbrev pub decreases-walk_strand : goal.decreases-walk_strand
decreases-walk_strand l = 16 * l.strand.now.chain.deep + 10

abbrev pub decreases-walk : goal.decreases-walk
decreases-walk l = 16 * l.b.now.deep + 11

abbrev pub decreases-tally : goal.decreases-tally
decreases-tally l = 16 * l.b.now.deep + 12

abbrev pub decreases-word : goal.decreases-word
decreases-word l = 16 * l.u.now.deep + 13

abbrev pub decreases-bounded : goal.decreases-bounded
decreases-bounded l = 16 * l.u.now.deep + 13

abbrev pub invariant-pass-loop-i : goal.invariant-pass-loop-i
invariant-pass-loop-i l =
    Remains l.fn.workers.items l.workers.items l.fn.x.means l.i l.at.means × AreNoDeeper l.fn.x.deep l.fn.workers.items l.workers.items
    × (l.at.deep ≤ workers_deep l.fn.x.deep (take l.i l.fn.workers.items))

abbrev pub invariant-walk_rows-loop-i : goal.invariant-walk_rows-loop-i
invariant-walk_rows-loop-i l =
    AreAtWork l.workers.items (steps_of l.branch.stages.items) × IsFlatTotal l.gather (steps_of l.branch.stages.items) l.branch.table.value l.i l.total
    × (workers_deep 0 l.workers.items ≤ stages_deep 0 l.branch.stages.items)

abbrev pub invariant-walk-loop-i : goal.invariant-walk-loop-i
invariant-walk-loop-i l = l.total ≡ gathered l.gather (flow_of (take l.i l.strands))
