use Rattle.part_views.proofs.SeenLaws.{parts_seen_are_disjoint, parts_seen_are_of_their_keys, parts_seen_are_sublists}
use Rattle.part_views.proofs.parts_seen_are_disjoint.Goals as goal

pub returns-clause-sublists : goal.returns-clause-sublists
returns-clause-sublists c = parts_seen_are_sublists

pub returns-clause-keys : goal.returns-clause-keys
returns-clause-keys c = parts_seen_are_of_their_keys

pub returns-clause-disjoint : goal.returns-clause-disjoint
returns-clause-disjoint c = parts_seen_are_disjoint
