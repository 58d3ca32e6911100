use Rattle.query_server.proofs.WholeViews.{whole_tables}
use Rattle.query_server.proofs.whole.tables_of.Goals as goal

pub returns-clause-tables : goal.returns-clause-tables
returns-clause-tables c = whole_tables c.args.dataset.now.tables c.sig.result.now c.args.dataset.now.partitions c.sig.ensures.tables
