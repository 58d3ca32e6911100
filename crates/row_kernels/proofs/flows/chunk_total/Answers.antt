use Rattle.std.proofs.Common.{◌+◌, arith, rules, Some}
use Rattle.metric_values.specs.Cells.{row_at}
use Rattle.flow_values.specs.Steps.{through}
use Rattle.flow_values.specs.Views.{steps_of}
use Rattle.row_kernels.specs.Flows.{ArePassed, IsChunkTotal, IsLanesTotal}
use Rattle.row_kernels.proofs.Gathered.{chunk_total, go_at}
use Rattle.row_kernels.proofs.Given.{by_answer}
use Rattle.row_kernels.proofs.flows.chunk_total.Goals as goal

pub pass_stages-requires-clause-goes : goal.pass_stages-requires-clause-goes
pass_stages-requires-clause-goes c = λ j l. go_at (steps_of c.args.stages.now) c.args.table.now.value (c.args.first + j) (omega (arith, l, c.requires.within)) c.requires.goes

pub lanes_total-requires : goal.lanes_total-requires
lanes_total-requires c =
    let a : ArePassed (steps_of c.args.stages.now) c.args.table.now.value c.args.first c.args.len c.in-Some.rows = search rules in a.long

pub returns : goal.returns
returns c =
    let ss = steps_of c.args.stages.now in
    let rows = c.args.table.now.value in
    let a : ArePassed ss rows c.args.first c.args.len c.in-Some.rows = search rules in
    by_answer c.lanes_total.result (IsLanesTotal c.args.gather c.args.len c.in-Some.rows) (IsChunkTotal c.args.gather ss rows c.args.first c.args.len) c.lanes_total.ensures
    (λ z h. chunk_total c.args.gather ss rows c.args.first c.args.len z c.requires.within (h (λ j. through ss (Some (row_at rows (c.args.first + j)))) a))
