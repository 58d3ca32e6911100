use Rattle.std.proofs.Common.{rules, ap, ◌∙◌}
use Rattle.owner_lock.specs.Views.{known_by, settled}
use Rattle.owner_lock.proofs.Keeps.{joins, looks}
use Rattle.owner_lock.proofs.lock.Owned.join.Goals as goal

pub join_seat-requires : goal.join_seat-requires
join_seat-requires g c = (search rules, search rules, search rules, search rules, joins g.T.StandsFor _ _ _ _ c.args.pass.now.rests c.args.other.rests)

pub load-requires : goal.load-requires
load-requires g c = (search rules, search rules, rw (c.join_seat.ensures.2, c.args.pass.now.empty) (looks g.T.StandsFor _ _ _))

pub returns-clause-joined : goal.returns-clause-joined
returns-clause-joined g c = ap known_by (c.load.ensures.2.1 ∙ ap (λ m. settled m.0) c.join_seat.ensures.2)
