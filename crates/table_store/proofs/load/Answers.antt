-- The rows of a table are of its schema's type.
use Rattle.std.proofs.Common.{◌≡◌, Ok, rules}
use Rattle.table_store.specs.Table.{table_in_file}
use Rattle.table_store.proofs.TableLaws.{table_in_file-typed}
use Rattle.table_store.proofs.load.Goals as goal

pub returns-in-Ok-clause-typed : goal.returns-in-Ok-clause-typed
unfolding table_in_file
returns-in-Ok-clause-typed c =
    let is : table_in_file c.args.schema.now c.args.bytes.now ≡ Ok c.in-Ok.table = search rules in
    table_in_file-typed c.args.schema.now c.args.bytes.now c.in-Ok.table c.columns.ensures.legal.some is
