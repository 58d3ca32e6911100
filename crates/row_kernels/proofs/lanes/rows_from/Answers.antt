use Rattle.std.proofs.Common.{◌≡◌, ◌+◌, List, arith, ap, subst}
use Rattle.std.specs.List.{All}
use Rattle.metric_values.specs.Cells.{columns_in}
use Rattle.metric_values.specs.Values.{Flat, value_of}
use Rattle.flow_values.proofs.TableParts.{last_of_row}
use Rattle.row_kernels.proofs.lanes.rows_from.Goals as goal

pub returns-then-width-k-clause-each : goal.returns-then-width-k-clause-each
returns-then-width-k-clause-each c j l =
    let rows = c.args.t.value in
    let w = c.width.result in
    let wide : All (λ row. columns_in row ≡ w) rows = subst (λ (xs : List Flat). All (λ row. columns_in row ≡ w) xs) c.deref.ensures c.width.ensures.columns in
    ap value_of (last_of_row rows w wide (c.args.first + j) c.args.k (omega (arith, l, c.requires.rows_there)) (omega arith) (c.requires.column j l))
