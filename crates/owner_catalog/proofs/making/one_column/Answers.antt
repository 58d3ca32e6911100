use Rattle.owner_catalog.proofs.Made.{one_schema}
use Rattle.owner_catalog.proofs.making.one_column.Goals as goal

pub new-requires-2 : goal.new-requires-2
new-requires-2 c = one_schema _ _ c.in_ok-columns.ensures.items
