use Rattle.std.proofs.Common.{◌≡◌, arith, pos, get_or, to_z, of_z, w64}
use Rattle.std.proofs.lemmas.Grind.{common_steps}
use Rattle.std.proofs.lemmas.Int.{to_z-of_z}
use Rattle.metric_values.specs.Numbers.{clip}
use Rattle.row_kernels.proofs.Changed.{put}
use Rattle.row_kernels.proofs.columns.clip_each.Goals as goal

pub loop-i-preserved : goal.loop-i-preserved
loop-i-preserved c =
    let h = c.loop-i.invariant in
    let lo = to_z w64 (of_z w64 c.args.lo) in
    let hi = to_z w64 (of_z w64 c.args.hi) in
    let z = to_z w64 (of_z w64 c.clipped.result) in
    let e : z ≡ clip lo hi (get_or c.args.a.now c.loop-i.i (pos 0)) = grind (arith, to_z-of_z, common_steps, c.clipped.ensures) in (
      grind (arith, common_steps),
      put (λ j. clip lo hi (get_or c.args.a.now j (pos 0))) c.loop-i.out c.loop-i.i z (omega arith) e h.1,
    )
