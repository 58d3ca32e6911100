use Rattle.part_views.proofs.Laws.{parts_are_disjoint, parts_are_sublists}
use Rattle.part_views.proofs.parts_are_disjoint.Goals as goal

pub returns-clause-sublists : goal.returns-clause-sublists
returns-clause-sublists c = parts_are_sublists

pub returns-clause-disjoint : goal.returns-clause-disjoint
returns-clause-disjoint c = parts_are_disjoint
