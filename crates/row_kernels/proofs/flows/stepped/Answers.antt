use Rattle.std.proofs.Common.{refl, rules}
use Rattle.flow_values.specs.Views.{step_of}
use Rattle.row_kernels.specs.Flows.{AreImaged}
use Rattle.row_kernels.proofs.Passing.{mapped}
use Rattle.row_kernels.proofs.flows.stepped.Goals as goal

pub returns-in-Some-2 : goal.returns-in-Some-2
returns-in-Some-2 c =
    let s = step_of c.args.stage.now in
    let h : AreImaged s.function c.args.len c.args.passed.lanes c.in-Some-2.lanes = search rules in
    mapped s c.args.len c.in-None.is c.args.passed (record { lanes = c.in-Some-2.lanes; there = c.args.passed.there }) c.requires.long c.in-Some-2.lanes h refl refl
