-- What the loop of places::copied keeps.
use Rattle.std.proofs.Common.{◌≡◌, take}
use Rattle.linear_types.proofs.places.copied.Given as goal

abbrev pub invariant-loop-amount : goal.invariant-loop-amount
invariant-loop-amount l = l.copy.items ≡ take l.amount-index l.a
