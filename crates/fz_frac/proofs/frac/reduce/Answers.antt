use Rattle.std.proofs.Common.{arith, inl, inr, refl}
use Rattle.fz_frac.proofs.Lowest.{reduced, too_wide, coprime, pos_low, fits_at, pos_of_IsGcd}
use Rattle.fz_frac.proofs.frac.reduce.Goals.{else-n-via-then-n+else-d, else-n-via-else-n}
use Rattle.fz_frac.proofs.frac.reduce.Goals as goal

pub nonzero_div-n : goal.nonzero_div-n
nonzero_div-n c = pos_of_IsGcd c.args.p c.args.q c.common_divisor-g.result c.requires c.common_divisor-g.ensures

pub nonzero_div-d : goal.nonzero_div-d
nonzero_div-d c = pos_of_IsGcd c.args.p c.args.q c.common_divisor-g.result c.requires c.common_divisor-g.ensures

pub invariant_of-result-clause-lowest : goal.invariant_of-result-clause-lowest
invariant_of-result-clause-lowest c = coprime c.args.p c.args.q c.common_divisor-g.result (pos_of_IsGcd c.args.p c.args.q c.common_divisor-g.result c.requires c.common_divisor-g.ensures) c.common_divisor-g.ensures

pub returns-then-d-clause-exact : goal.returns-then-d-clause-exact
returns-then-d-clause-exact c = (reduced c.args.p c.args.q c.common_divisor-g.result c.requires c.common_divisor-g.ensures (omega arith) (omega arith)).1

pub returns-then-d-clause-range : goal.returns-then-d-clause-range
returns-then-d-clause-range c = fits_at _ (reduced c.args.p c.args.q c.common_divisor-g.result c.requires c.common_divisor-g.ensures (omega arith) (omega arith)).0

pub returns-else-n-clause-range : goal.returns-else-n-clause-range
returns-else-n-clause-range c =
    let h = too_wide c.args.p c.args.q c.common_divisor-g.result c.requires c.common_divisor-g.ensures in
    ((λ _. h (elim c.else-n.branch [ else-n-via-then-n+else-d w ↦ inr w.if-d.false | else-n-via-else-n w ↦ inl w.if-n.false ])), (λ _. refl))

pub invariant_of-result-clause-above_zero : goal.invariant_of-result-clause-above_zero
invariant_of-result-clause-above_zero c = pos_low c.args.p c.args.q c.common_divisor-g.result c.requires c.common_divisor-g.ensures
