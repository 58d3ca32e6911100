use Rattle.std.proofs.Common.{◌<◌, ◌≤◌, ℕ, subst, sym, refl}
use Rattle.std.specs.Prelude.{IsTrue}
use Rattle.fz_frac.specs.Distance.{Fin, ◌≈◌}
use Rattle.fz_frac.specs.Lowest.{is_out}
use Rattle.answer_path.proofs.Scales.{narrow_scale, scale_is, scale_bounds, no_truth}
use Rattle.answer_path.proofs.answer.scale_of.Goals as goal

pub unreachable-requires : goal.unreachable-requires
unreachable-requires c =
    let out : IsTrue (is_out (Fin 1000000 c.args.e)) = subst (λ (e : ℕ). IsTrue (is_out (Fin 1000000 e))) c.from.ensures (c.in-Err.ensures.range.0 refl) in
    no_truth (is_out (Fin 1000000 c.args.e)) out (narrow_scale c.args.e c.requires)

pub returns-clause-numerator : goal.returns-clause-numerator
returns-clause-numerator c =
    (scale_is c.in-Ok.scale.p c.in-Ok.scale.q c.args.e c.requires c.in-Ok.scale.above_zero c.in-Ok.scale.lowest
    (subst (λ (e : ℕ). Fin c.in-Ok.scale.p c.in-Ok.scale.q ≈ Fin 1000000 e) c.from.ensures c.in-Ok.ensures.exact)).0

pub returns-clause-denominator : goal.returns-clause-denominator
returns-clause-denominator c =
    (scale_is c.in-Ok.scale.p c.in-Ok.scale.q c.args.e c.requires c.in-Ok.scale.above_zero c.in-Ok.scale.lowest
    (subst (λ (e : ℕ). Fin c.in-Ok.scale.p c.in-Ok.scale.q ≈ Fin 1000000 e) c.from.ensures c.in-Ok.ensures.exact)).1

pub returns-clause-bounds : goal.returns-clause-bounds
returns-clause-bounds c =
    let bounds = scale_bounds c.args.e c.requires in
    let over = returns-clause-numerator c in
    subst (λ (p : ℕ). (0 < p) × (p ≤ 1000000)) (sym over) bounds
