use Rattle.std.proofs.Common.{sym, subst}
use Rattle.budget_core.specs.History.{History}
use Rattle.budget_core.specs.Sound.{IsSound}
use Rattle.budget_core.proofs.RunLemmas.{run-found}
use Rattle.budget_core.proofs.SoundLemmas.{sound-found}
use Rattle.budget_core.proofs.ledger.Ledger.found.Goals as goal

pub invariant_of-result : goal.invariant_of-result
invariant_of-result c =
    let known = c.in_ok-history.ensures in
    let sound = sound-found c.args.entry c.args.records.items c.found.ensures.valid known.history known.within known.limited c.requires.room in
    run-found c.in_ok-history.history c.len.result c.reservations.result
    (subst (λ (p : History). IsSound (record { entry = p.entry; found = p.records; records = p.records })) (sym known.found) sound) c.len.ensures c.reservations.ensures

pub returns-clause-sound : goal.returns-clause-sound
returns-clause-sound c = (invariant_of-result c).sound
