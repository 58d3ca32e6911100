use Rattle.std.proofs.Common.{ap, sym, ◌∙◌}
use Rattle.std.proofs.lemmas.List.{get_or_default}
use Rattle.partition_charge.specs.declared.parts.PartSum.{PartSum}
use Rattle.partition_charge.proofs.Sums.{no_sum, sum-at, sum-in-gap}
use Rattle.partition_charge.proofs.parts.Parts.sum.Goals as goal

pub returns-in-Ok : goal.returns-in-Ok
returns-in-Ok c =
    let is = c.in-Ok.ensures.found in
    ap (λ (x : PartSum). x.sum) (c.index.ensures ∙ get_or_default c.args.self.now.sums.items c.in-Ok.place c.index.result.now no_sum is.in_range)
    ∙ sym (sum-at c.args.self.now.sums.items c.requires c.args.part c.in-Ok.place is)

pub returns-in-Err : goal.returns-in-Err
returns-in-Err c = sym (sum-in-gap c.args.self.now.sums.items c.args.part _ c.in-Err.ensures.missing)
