use Rattle.std.proofs.Common.{refl, ap, ◌∙◌, arith}
use Rattle.std.proofs.lemmas.List.{get_or_default}
use Rattle.partition_charge.specs.declared.parts.PartSum.{PartSum}
use Rattle.partition_charge.proofs.Sums.{no_sum, gap-free, put-read, put-in}
use Rattle.partition_charge.proofs.parts.Parts.put.Goals as goal

pub returns-in-Ok-clause-put : goal.returns-in-Ok-clause-put
returns-in-Ok-clause-put c =
    let is = c.in-Ok.ensures.found in
    let read = c.index_mut.ensures.value ∙ get_or_default c.args.self.now.sums.items c.in-Ok.place c.index_mut.result.now no_sum is.in_range in
    put-read c.args.self.now _ c.args.part c.args.sum c.in-Ok.place (record { part = c.index_mut.result.now.part; sum = c.args.sum }) c.requires.ordered refl is
    (ap (λ (x : PartSum). x.part) read ∙ is.has_part) refl refl

pub returns-in-Err-clause-put : goal.returns-in-Err-clause-put
returns-in-Err-clause-put c =
    let gap = c.in-Err.ensures.missing in
    let free = gap-free c.args.self.now c.args.part c.in-Err.place c.requires.place gap in
    let items = rw c.unwrap.ensures at c.insert.ensures.items in
    let block = c.insert.ensures.in_place (omega (arith, free)) in
    put-in c.args.self.now _ (record { part = c.args.part; sum = c.args.sum }) c.in-Err.place c.requires.ordered block.1.0 gap items
