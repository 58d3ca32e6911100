-- The bay has the disks of owner 1, and keeps what it has where others are taken.
use Rattle.std.proofs.Common.{arith}
use Rattle.memory_runs.proofs.journals.Journals.into_homes.Goals as goal

pub take-requires-2-clause-owner : goal.take-requires-2-clause-owner
take-requires-2-clause-owner g c = omega (arith, (c.args.self.home 1 (omega arith)).0, c.take.ensures.owners)
