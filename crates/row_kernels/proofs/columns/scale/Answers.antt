use Rattle.std.proofs.Common.{◌≡◌, arith, pos, get_or, to_z, of_z, w64, ◌*ℤ◌}
use Rattle.std.proofs.lemmas.Grind.{common_steps}
use Rattle.std.proofs.lemmas.Int.{to_z-of_z}
use Rattle.metric_values.specs.Numbers.{clamp}
use Rattle.row_kernels.proofs.Changed.{put}
use Rattle.row_kernels.proofs.columns.scale.Goals as goal

pub loop-i-preserved : goal.loop-i-preserved
loop-i-preserved c =
    let h = c.loop-i.invariant in
    let k = to_z w64 (of_z w64 c.args.k) in
    let z = to_z w64 (of_z w64 c.times.result) in
    let e : z ≡ clamp (k *ℤ get_or c.args.a.now c.loop-i.i (pos 0)) = grind (arith, to_z-of_z, common_steps, c.times.ensures) in (
      grind (arith, common_steps),
      put (λ j. clamp (k *ℤ get_or c.args.a.now j (pos 0))) c.loop-i.out c.loop-i.i z (omega arith) e h.1,
    )
