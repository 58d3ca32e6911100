-- What the loop of env::Env::join keeps.
use Rattle.std.proofs.Common.{take}
use Rattle.fz_frac.specs.Distance.{greater}
use Rattle.linear_types.specs.Entries.{amounts_of}
use Rattle.linear_types.proofs.Entries.{Done}
use Rattle.linear_types.proofs.env.Env.join.Given as goal

abbrev pub invariant-loop-entry : goal.invariant-loop-entry
invariant-loop-entry l = Done l.join l.self greater (amounts_of (take l.entry-index l.entry-items))
