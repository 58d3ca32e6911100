-- What the loop of env::Env::scale keeps.
use Rattle.std.proofs.Common.{[], take}
use Rattle.fz_frac.specs.Distance.{mul}
use Rattle.fz_frac.specs.Sens.{distance_of}
use Rattle.linear_types.specs.Entries.{amounts_of}
use Rattle.linear_types.proofs.Entries.{Done}
use Rattle.linear_types.proofs.env.Env.scale.Given as goal

abbrev pub invariant-loop-entry : goal.invariant-loop-entry
invariant-loop-entry l = Done l.product [] (λ _ d. mul (distance_of l.r) d) (amounts_of (take l.entry-index l.entry-items))
