use Rattle.std.proofs.Common.{◌≡◌}
use Rattle.catalog_loading.specs.Given.{holdings_with}
use Rattle.catalog_loading.proofs.registers.divided.Given as goal

-- what the owners so far hold
abbrev pub invariant-loop-rows : goal.invariant-loop-rows
invariant-loop-rows l = l.datasets.items ≡ holdings_with l.catalog.owners l.yielded
