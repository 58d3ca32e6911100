use Rattle.owner_desk.specs.Shared.{IsKept}
use Rattle.budget_tests.proofs.desks.ask_all.Given as goal

abbrev pub invariant-loop : goal.invariant-loop
invariant-loop g l = IsKept l.initial.pass l.pass
