use Rattle.std.proofs.Common.{rules}
use Rattle.owner_lock.proofs.Keeps.{turns}
use Rattle.owner_lock.proofs.lock.Owned.try_turn.Goals as goal

pub compare_exchange-requires : goal.compare_exchange-requires
compare_exchange-requires g c = let rests = c.requires.rests in
    (search rules, search rules, turns g.T.StandsFor _ _ _ _ _ rests.1 rests.0.0 (c.is_taken.ensures.free c.if-is_taken.false) c.taken_word-taken.ensures.taken)
