use Rattle.std.proofs.Common.{◌&&◌, bytes_eq, rules, tests}
use Rattle.std.proofs.lemmas.Iterator.{YieldsList-from_slice}
use Rattle.std.proofs.lemmas.Iterator.Search.{position_from_yields_List}
use Rattle.owner_catalog.specs.Catalog.{is_text_column}
use Rattle.owner_catalog.proofs.reading.find_text_column.Goals as goal

pub returns : goal.returns
returns c =
    position_from_yields_List (λ column. bytes_eq c.args.name.now column.name && is_text_column column.kind) _ _ _
    c.position.ensures.ran (YieldsList-from_slice c.args.columns.now cc) (λ x b q k. search (rules, tests))
