use Rattle.std.proofs.Common.{◌∙◌, sym, ap}
use Rattle.owner_catalog.specs.Entries.{table_columns}
use Rattle.owner_catalog.proofs.Steps.{columns_at}
use Rattle.owner_catalog.proofs.reading.columns_of.Goals as goal

pub returns : goal.returns
returns c =
    c.columns.ensures.columns ∙ ap table_columns c.found.view_is
    ∙ sym (columns_at c.args.tables.now c.args.table c.index-tables-table.result c.requires c.index-tables-table.is)
