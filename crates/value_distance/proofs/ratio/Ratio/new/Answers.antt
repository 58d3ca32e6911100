use Rattle.std.proofs.Common.{inl, inr, refl, sym}
use Rattle.fz_frac.proofs.Lowest.{coprime, pos_low, pos_of_IsGcd}
use Rattle.value_distance.proofs.Halved.{lowest_by, narrow_by, wide_by}
use Rattle.value_distance.proofs.ratio.Ratio.new.Goals.{else-n-via-then-n+else-d, else-n-via-else-n}
use Rattle.value_distance.proofs.ratio.Ratio.new.Goals as goal

pub nonzero_div-n : goal.nonzero_div-n
nonzero_div-n c = pos_of_IsGcd c.args.p c.args.q c.common_divisor-g.result c.requires c.common_divisor-g.ensures

pub nonzero_div-d : goal.nonzero_div-d
nonzero_div-d c = pos_of_IsGcd c.args.p c.args.q c.common_divisor-g.result c.requires c.common_divisor-g.ensures

pub invariant_of-result-clause-above_zero : goal.invariant_of-result-clause-above_zero
invariant_of-result-clause-above_zero c = pos_low c.args.p c.args.q c.common_divisor-g.result c.requires c.common_divisor-g.ensures

pub invariant_of-result-clause-lowest : goal.invariant_of-result-clause-lowest
invariant_of-result-clause-lowest c = coprime c.args.p c.args.q c.common_divisor-g.result (pos_of_IsGcd c.args.p c.args.q c.common_divisor-g.result c.requires c.common_divisor-g.ensures) c.common_divisor-g.ensures

pub returns-then-d-clause-exact : goal.returns-then-d-clause-exact
returns-then-d-clause-exact c = sym (lowest_by c.args.p c.args.q c.common_divisor-g.result c.requires c.common_divisor-g.ensures)

pub returns-then-d-clause-range : goal.returns-then-d-clause-range
returns-then-d-clause-range c =
    let n = narrow_by c.args.p c.args.q c.common_divisor-g.result c.requires c.common_divisor-g.ensures c.if-n.true c.if-d.true in ((λ e. cc), (λ e. cc))

pub returns-else-n-clause-range : goal.returns-else-n-clause-range
returns-else-n-clause-range c =
    let h = wide_by c.args.p c.args.q c.common_divisor-g.result c.requires c.common_divisor-g.ensures in
    ((λ _. h (elim c.else-n.branch [ else-n-via-then-n+else-d w ↦ inr w.if-d.false | else-n-via-else-n w ↦ inl w.if-n.false ])), (λ _. refl))
