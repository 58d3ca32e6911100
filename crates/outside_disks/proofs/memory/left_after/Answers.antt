use Rattle.std.proofs.Common.{◌+◌, arith, drop}
use Rattle.outside_disks.specs.Memory.{steps_of}
use Rattle.outside_disks.proofs.Stops.{replay-next, replay-step, replay-fits, replay-same}
use Rattle.outside_disks.proofs.memory.left_after.Goals as goal

pub redo-requires-clause-fits : goal.redo-requires-clause-fits
redo-requires-clause-fits c =
    let start = c.args.start.now in
    let kept = c.args.steps.now in
    let all = steps_of kept c.args.written.now in
    let s = c.loop-step in
    let next = replay-next c.args.torn start all kept s.step-index s.pool.now s.read.items s.left.items c.loop-step-test.true s.invariant in
    let fits = replay-fits c.args.torn start all (drop (s.step-index + 1) kept) s.pool.now s.read.items s.left.items _ next in
    omega (arith, fits, c.requires.fits)

pub loop-step-preserved : goal.loop-step-preserved
loop-step-preserved c =
    let start = c.args.start.now in
    let kept = c.args.steps.now in
    let all = steps_of kept c.args.written.now in
    let s = c.loop-step in
    let next = replay-next c.args.torn start all kept s.step-index s.pool.now s.read.items s.left.items c.loop-step-test.true s.invariant in
    replay-same c.args.torn start all (drop (s.step-index + 1) kept) _ _ _ _ _ _ c.in_ok-pool.ensures.rest c.in_ok-pool.ensures.read c.in_ok-pool.ensures.left
    (replay-step c.args.torn start all (drop (s.step-index + 1) kept) s.pool.now s.read.items s.left.items _ next)
