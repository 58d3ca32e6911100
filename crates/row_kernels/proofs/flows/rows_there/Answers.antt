use Rattle.std.proofs.Common.{◌+◌, List, arith, ap, subst, sym, ◌∙◌}
use Rattle.metric_values.specs.Cells.{row_at}
use Rattle.metric_values.specs.Values.{Flat, value_of}
use Rattle.flow_values.proofs.TableParts.{columns_some}
use Rattle.row_kernels.specs.Lanes.{AreThere}
use Rattle.row_kernels.proofs.Passing.{rows_are}
use Rattle.row_kernels.proofs.flows.rows_there.Goals as goal

pub rows_from-lanes-requires : goal.rows_from-lanes-requires
rows_from-lanes-requires c =
    let rows = c.args.table.now.value in
    subst (λ (xs : List Flat). AreThere xs c.args.first c.args.len 0) (sym c.in_ok-clone.ensures.cases)
    (record { rows_there = c.requires.within; below = c.requires.below; narrow = omega arith; column = λ j l. columns_some (row_at rows (c.args.first + j)) })

pub returns : goal.returns
returns c =
    rows_are c.args.table.now.value c.args.first c.args.len (record { lanes = c.rows_from-lanes.result; there = c.in_ok-there.there }) c.rows_from-lanes.ensures.long
    (λ j lt. c.rows_from-lanes.ensures.each j lt ∙ ap (λ (xs : List Flat). value_of (row_at xs (c.args.first + j))) c.in_ok-clone.ensures.cases) c.in_ok-there.ensures
