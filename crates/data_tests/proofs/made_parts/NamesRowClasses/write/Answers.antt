-- Each row has a first column.
use Rattle.metric_values.specs.Cells.{row_at}
use Rattle.part_views.proofs.Making.{some_columns}
use Rattle.data_tests.proofs.made_parts.NamesRowClasses.write.Goals as goal

pub cell-requires-clause-column : goal.cell-requires-clause-column
cell-requires-clause-column c = some_columns (row_at c.args.self.now.table.now c.args.row)
