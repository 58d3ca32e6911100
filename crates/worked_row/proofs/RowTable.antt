-- The table of three rows.
use Rattle.std.proofs.Common.{◌≡◌, refl}
use Rattle.std.specs.Prelude.{Ok}
use Rattle.csv.specs.Machine.{next_record}
use Rattle.csv.specs.Reading.{records_from, strip_bom}
use Rattle.table_store.specs.Cell.{cell_number}
use Rattle.table_store.specs.Table.{cells_from, rows_from, table_in_file}
use Rattle.worked_row.specs.Row.{table_text}
use Rattle.worked_row.specs.Held.{people, rows}

pub has_rows : table_in_file people.columns table_text ≡ Ok rows
unfolding table_in_file next_record records_from strip_bom rows_from cells_from cell_number
has_rows = refl
