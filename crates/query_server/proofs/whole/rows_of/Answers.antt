use Rattle.query_server.proofs.WholeViews.{whole_rows}
use Rattle.query_server.proofs.whole.rows_of.Goals as goal

pub returns-clause-rows : goal.returns-clause-rows
returns-clause-rows c = whole_rows c.args.dataset.now.rows c.tables.result.now c.args.dataset.now.partitions c.tables.ensures.rows
