use Rattle.std.proofs.Common.{◌≡◌, drop, fold}
use Rattle.budget_core.specs.Events.{stepped, ran}
use Rattle.budget_core.specs.Machine.{world_of}
use Rattle.budget_core.proofs.events.run_events.Given as goal

abbrev pub invariant-loop-event : goal.invariant-loop-event
invariant-loop-event l =
    (ran l.fn.entry l.events ≡ fold (stepped l.machine.ledger.entry) (world_of l.machine) (drop l.event-index l.events)) × (l.machine.ledger.entry ≡ l.fn.entry)
