use Rattle.std.proofs.Common.{sym}
use Rattle.part_views.proofs.Chains.{number_found}
use Rattle.part_views.proofs.made_parts.Keys.number.Goals as goal

pub returns-clause-number : goal.returns-clause-number
returns-clause-number c = number_found c.self.inside.numbered.keys c.args.self.now c.args.text.now c.get_index_of.result c.self.view_is (sym c.get_index_of.ensures.index)
