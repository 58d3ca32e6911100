use Rattle.std.proofs.Common.{arith}
use Rattle.std.proofs.lemmas.Grind.{common_steps}
use Rattle.std.proofs.lemmas.Int.{to_z-of_z}
use Rattle.fuzz_eval.proofs.Maps.{maps_count_is}
use Rattle.fuzz_eval.proofs.totals.count_at_once.Goals as goal

pub returns-then-has_only_maps : goal.returns-then-has_only_maps
returns-then-has_only_maps c =
    maps_count_is c.args.gather c.args.strand.now.chain.steps c.args.strand.now.table.value _ c.in-Size.is (c.has_only_maps.ensures c.if-has_only_maps.true)
    (grind (arith, to_z-of_z, common_steps, c.len.ensures))
