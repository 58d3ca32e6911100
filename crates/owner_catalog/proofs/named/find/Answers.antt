use Rattle.std.proofs.Common.{bytes_eq, rules, tests}
use Rattle.std.proofs.lemmas.Iterator.{YieldsList-from_slice}
use Rattle.std.proofs.lemmas.Iterator.Search.{position_from_yields_List}
use Rattle.owner_catalog.proofs.named.find.Goals as goal

pub returns : goal.returns
returns g c =
    position_from_yields_List (λ one. bytes_eq c.args.name.now (g.T.Named.name_of one)) _ _ _
    c.position.ensures.ran (YieldsList-from_slice c.args.all.now cc) (λ x b q k. search (rules, tests))
