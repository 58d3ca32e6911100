use Rattle.std.proofs.Common.{◌≡◌, map, take}
use Rattle.owner_catalog.specs.Entries.{limit_for, owner_entry_at}
use Rattle.owner_house.proofs.entry.limits_in.Given as goal

-- the limits of the first analysts are there
abbrev pub invariant-loop-analyst : goal.invariant-loop-analyst
invariant-loop-analyst l = l.limits.items ≡ map (limit_for (owner_entry_at l.catalog l.owner)) (take l.analyst l.catalog.analysts)
