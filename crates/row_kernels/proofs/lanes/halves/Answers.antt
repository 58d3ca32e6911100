use Rattle.std.proofs.Common.{ap, subst, sym, ◌∙◌}
use Rattle.metric_values.specs.Values.{PairV}
use Rattle.row_kernels.specs.declared.lanes.Both.{Both}
use Rattle.row_kernels.specs.declared.lanes.Lanes.{Lanes}
use Rattle.row_kernels.specs.Lanes.{IsLong, IsSameAt, lane_at}
use Rattle.row_kernels.proofs.lanes.halves.Goals as goal

pub returns-in-Pair : goal.returns-in-Pair
returns-in-Pair c =
    let n = c.args.len in
    let p = c.in-Pair.both.value in
    let a : IsSameAt c.in_ok-copy-in-Pair.field-0 p.first = subst (λ (b : Both). IsSameAt c.in_ok-copy-in-Pair.field-0 b.first) c.deref.ensures c.in_ok-copy-in-Pair.ensures in
    let b : IsSameAt c.in_ok-copy-in-Pair-2.field-0 p.second = subst (λ (b : Both). IsSameAt c.in_ok-copy-in-Pair-2.field-0 b.second) c.deref-in-Pair.ensures c.in_ok-copy-in-Pair-2.ensures in
    let long : IsLong n p.first × IsLong n p.second = subst (λ (l : Lanes). IsLong n l) c.in-Pair.is c.requires in
    record {
      first = a.long n long.0;
      second = b.long n long.1;
      each = λ j lt. ap (λ (l : Lanes). lane_at l j) c.in-Pair.is ∙ (λ i. PairV (sym (a.each j) i) (sym (b.each j) i));
    }
