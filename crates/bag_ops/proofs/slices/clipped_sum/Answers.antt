use Rattle.std.proofs.Common.{◌≡◌, ◌∙◌, ap, arith, map, of_z, rules, to_z, w64}
use Rattle.std.proofs.lemmas.Int.{ints}
use Rattle.metric_law.proofs.Fine.{clamped}
use Rattle.metric_values.specs.Numbers.{clamp, clipped_sum}
use Rattle.run_values.specs.Parts.{number_in}
use Rattle.bag_ops.proofs.Lists.{given_map}
use Rattle.bag_ops.proofs.slices.clipped_sum.Goals as goal

pub returns : goal.returns
returns c =
    let numbers = map number_in c.args.bag.now in
    let r = c.in-Ok.ensures.ok in
    let same : r.0 ≡ numbers = given_map _ number_in c.args.bag.now r.0 (λ i z l e. search rules) r.1 in
    let low : to_z w64 (of_z w64 c.args.lo) ≡ c.args.lo = omega (arith, ints, c.ranges.lo) in
    let high : to_z w64 (of_z w64 c.args.hi) ≡ c.args.hi = omega (arith, ints, c.ranges.hi) in
    let sum : c.in-Ok.sum ≡ clamp (clipped_sum c.args.lo c.args.hi numbers) =
    r.2 ∙ ap (λ x. clamp (clipped_sum x (to_z w64 (of_z w64 c.args.hi)) r.0)) low ∙ ap (λ x. clamp (clipped_sum c.args.lo x r.0)) high ∙ ap (λ zs. clamp (clipped_sum c.args.lo c.args.hi zs)) same in
    let k = clamped (clipped_sum c.args.lo c.args.hi numbers) in
    let held : to_z w64 (of_z w64 c.in-Ok.sum) ≡ c.in-Ok.sum = omega (arith, ints, sum, k.0, k.1) in
    held ∙ sum
