-- The world of a machine.
use Rattle.budget_core.specs.declared.events.Machine.{Machine}
use Rattle.budget_core.specs.Events.{World}
use Rattle.budget_core.specs.Ledger.{start_of}

abbrev pub world_of : Machine → World
world_of machine = record { records = machine.ledger.records; start = start_of machine.ledger; running = machine.running; sent = machine.sent.items }
