use Rattle.std.proofs.Common.{◌+◌, rules}
use Rattle.std.specs.Prelude.{drop}
use Rattle.flow_values.specs.Views.{step_of, steps_of}
use Rattle.row_kernels.specs.Flows.{AreStepped}
use Rattle.row_kernels.proofs.Passing.{along_end, along_next, along_start, known_at, none_left, steps_left}
use Rattle.row_kernels.proofs.flows.pass_stages.Goals as goal

pub loop-i-init : goal.loop-i-init
loop-i-init c = along_start (steps_of c.args.stages.now) c.args.table.now.value c.args.first c.args.len c.in_ok-rows.rows c.in_ok-rows.ensures c.requires.goes

pub stepped-requires-clause-known : goal.stepped-requires-clause-known
stepped-requires-clause-known c = known_at c.args.stages.now c.loop-i.i c.index-stages-i.result c.loop-i-test.true c.index-stages-i.is c.requires.known

pub stepped-requires-clause-long : goal.stepped-requires-clause-long
stepped-requires-clause-long c = c.loop-i.invariant.long

pub loop-i-preserved : goal.loop-i-preserved
loop-i-preserved c =
    let ss = c.args.stages.now in
    let s = c.index-stages-i.result in
    let h : AreStepped (step_of s) c.args.len c.loop-i.rows c.in-Some.more = search rules in
    along_next (steps_of ss) (steps_of (drop c.loop-i.i ss)) (steps_of (drop (c.loop-i.i + 1) ss)) (step_of s) c.args.table.now.value c.args.first c.args.len c.loop-i.rows c.in-Some.more
    (steps_left ss c.loop-i.i s c.loop-i-test.true c.index-stages-i.is) c.loop-i.invariant h

pub returns : goal.returns
returns c =
    along_end (steps_of c.args.stages.now) (steps_of (drop c.loop-i.i c.args.stages.now)) c.args.table.now.value c.args.first c.args.len c.loop-i.rows
    (none_left c.args.stages.now c.loop-i.i c.loop-i-test.false) c.loop-i.invariant
