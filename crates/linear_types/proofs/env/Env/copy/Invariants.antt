-- What the loop of env::Env::copy keeps.
use Rattle.std.proofs.Common.{◌≡◌, take}
use Rattle.linear_types.proofs.env.Env.copy.Given as goal

abbrev pub invariant-loop-entry : goal.invariant-loop-entry
invariant-loop-entry l = l.entries.items ≡ take l.entry-index l.entry-items
