use Rattle.budget_core.proofs.RunLemmas.{run-found, sound-reopened}
use Rattle.budget_core.proofs.ledger.Ledger.reopen.Goals as goal

pub invariant_of-self : goal.invariant_of-self
invariant_of-self c =
    run-found c.self.inside.history c.len-self-inside.result c.reservations-self-inside.result (sound-reopened c.self.inside c.self.invariant)
    c.len-self-inside.ensures c.reservations-self-inside.ensures

pub returns-clause-sound : goal.returns-clause-sound
returns-clause-sound c = (invariant_of-self c).sound
