use Rattle.std.proofs.Common.{◌++◌, take}
use Rattle.std.specs.List.{concat}
use Rattle.sha2.specs.Hashers.{Holds256}
use Rattle.owner_catalog.specs.Digest.{digest_head}
use Rattle.owner_catalog.proofs.hashing.digest.Given as goal

abbrev pub invariant-loop-table : goal.invariant-loop-table
invariant-loop-table l = Holds256 l.hasher (digest_head l.fn.catalog l.fn.owner l.fn.key ++ concat (take l.table-index l.tables))
