use Rattle.std.proofs.Common.{◌∙◌, fold, sym, ap, subst}
use Rattle.std.proofs.lemmas.List.{drop_all}
use Rattle.budget_core.specs.Events.{stepped}
use Rattle.budget_core.specs.Machine.{world_of}
use Rattle.budget_core.specs.Safe.{IsSafe}
use Rattle.budget_core.proofs.EventLemmas.{events-safe}
use Rattle.budget_core.proofs.events.run_events.Goals as goal

pub returns-clause-safe : goal.returns-clause-safe
returns-clause-safe c =
    let machine = c.loop-event.machine in
    let done = ap (fold (stepped machine.ledger.entry) (world_of machine)) (drop_all c.loop-event.event-index c.args.events.now c.loop-event-test.false) in
    subst (IsSafe c.args.entry) (c.loop-event.invariant.0 ∙ done ∙ sym c.into_world.ensures) (events-safe c.args.entry c.args.events.now c.new.ensures.valid)
