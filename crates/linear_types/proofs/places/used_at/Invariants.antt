-- What the loop of places::used_at keeps.
use Rattle.std.proofs.Common.{◌≡◌, replicate}
use Rattle.fz_frac.specs.Distance.{none}
use Rattle.linear_types.specs.Places.{distances}
use Rattle.linear_types.proofs.places.used_at.Given as goal

abbrev pub invariant-loop : goal.invariant-loop
invariant-loop l = distances l.amounts.items ≡ replicate l.counter none
