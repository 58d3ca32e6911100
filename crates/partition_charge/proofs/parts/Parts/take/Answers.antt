use Rattle.std.proofs.Common.{ℕ, ◌-◌, refl, ap, sym, ◌∙◌, arith}
use Rattle.std.proofs.lemmas.List.{get_or_default}
use Rattle.partition_charge.specs.declared.parts.PartSum.{PartSum}
use Rattle.partition_charge.specs.Parts.{sum_of}
use Rattle.partition_charge.proofs.Sums.{no_sum, sum-at, sum-in-gap, below-set, put-read, put-none}
use Rattle.partition_charge.proofs.parts.Parts.take.Goals as goal

pub overflow_sub-index_mut : goal.overflow_sub-index_mut
overflow_sub-index_mut c =
    let is = c.in-Ok.ensures.found in
    let here = ap (λ (x : PartSum). x.sum) (c.index_mut.ensures.value ∙ get_or_default c.args.self.now.sums.items c.in-Ok.place c.index_mut.result.now no_sum is.in_range) in
    omega (arith, here, sum-at c.args.self.now.sums.items c.requires.ordered c.args.part c.in-Ok.place is, c.requires.enough)

pub returns-in-Ok-clause-taken : goal.returns-in-Ok-clause-taken
returns-in-Ok-clause-taken c =
    let is = c.in-Ok.ensures.found in
    let read = c.index_mut.ensures.value ∙ get_or_default c.args.self.now.sums.items c.in-Ok.place c.index_mut.result.now no_sum is.in_range in
    put-read c.args.self.now _ c.args.part (sum_of c.args.self.now.sums.items c.args.part - c.args.amount) c.in-Ok.place
    (record { part = c.index_mut.result.now.part; sum = c.index_mut.result.now.sum - c.args.amount }) c.requires.ordered refl is
    (ap (λ (x : PartSum). x.part) read ∙ is.has_part)
    (ap (λ (x : PartSum). x.sum - c.args.amount) read ∙ ap (λ (n : ℕ). n - c.args.amount) (sym (sum-at c.args.self.now.sums.items c.requires.ordered c.args.part c.in-Ok.place is)))
    refl

pub returns-in_default-clause-taken : goal.returns-in_default-clause-taken
returns-in_default-clause-taken c =
    let none = sum-in-gap c.args.self.now.sums.items c.args.part c.in_default.field-0 c.in_default.ensures.missing in
    put-none c.args.self.now _ c.args.part (sum_of c.args.self.now.sums.items c.args.part - c.args.amount) c.requires.ordered refl (omega (arith, none))

pub returns-in-Ok-clause-below : goal.returns-in-Ok-clause-below
returns-in-Ok-clause-below c n below =
    let is = c.in-Ok.ensures.found in
    let read = c.index_mut.ensures.value ∙ get_or_default c.args.self.now.sums.items c.in-Ok.place c.index_mut.result.now no_sum is.in_range in
    let same = ap (λ (x : PartSum). x.part) read ∙ is.has_part in
    below-set c.args.self.now.sums.items (record { part = c.index_mut.result.now.part; sum = c.index_mut.result.now.sum - c.args.amount }) c.in-Ok.place
    (record { in_range = is.in_range; has_part = is.has_part ∙ sym same }) n below
