use Rattle.std.proofs.Common.{◌≡◌, ◌++◌, drop}
use Rattle.std.specs.List.{flat_map}
use Rattle.query_server.specs.Init.{made_line}
use Rattle.query_server.proofs.init.made_lines.Given as goal

-- the lines of the owners so far, and of the others
abbrev pub invariant-loop-owner : goal.invariant-loop-owner
invariant-loop-owner l = l.lines.items ++ flat_map made_line (drop l.owner l.catalog.owners) ≡ flat_map made_line l.catalog.owners
