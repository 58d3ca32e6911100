use Rattle.metric_values.specs.Cells.{row_at}
use Rattle.flow_values.proofs.TableParts.{columns_some}
use Rattle.flow_values.proofs.value.Value.row.Goals as goal

pub part-requires-clause-column : goal.part-requires-clause-column
part-requires-clause-column c = columns_some (row_at c.args.table.now.value c.args.i)
