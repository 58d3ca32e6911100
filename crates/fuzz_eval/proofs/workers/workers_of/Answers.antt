use Rattle.fuzz_eval.proofs.AtWork.{known_at, worked_more}
use Rattle.fuzz_eval.proofs.Depths.{deep_worked}
use Rattle.fuzz_eval.proofs.workers.workers_of.Goals as goal

pub worker_of-requires : goal.worker_of-requires
worker_of-requires c = known_at c.args.stages.now c.loop-i.i c.index-stages-i.result c.loop-i-test.true c.index-stages-i.is c.requires

pub loop-i-preserved : goal.loop-i-preserved
loop-i-preserved c =
    let both = worked_more c.args.stages.now c.loop-i.i c.index-stages-i.result c.loop-i-test.true c.index-stages-i.is c.loop-i.out.items c.put.new.out.items c.in_ok-worker.worker
    (c.loop-i.invariant.0, c.loop-i.invariant.1) c.in_ok-put.ensures c.in_ok-worker.ensures.is c.in_ok-worker.ensures.known in
    let deep = deep_worked c.args.stages.now c.loop-i.i c.index-stages-i.result c.loop-i-test.true c.index-stages-i.is c.loop-i.out.items c.put.new.out.items c.in_ok-worker.worker
    c.loop-i.invariant.2 c.in_ok-put.ensures c.in_ok-worker.ensures.is c.in_ok-worker.ensures.deep in
    (both.0, both.1, deep)
