use Rattle.std.proofs.Common.{rules}
use Rattle.std.proofs.lemmas.List.Sorted.{answers_always}
use Rattle.partition_charge.specs.declared.parts.PartSum.{PartSum}
use Rattle.partition_charge.proofs.Sums.{searched}
use Rattle.partition_charge.proofs.parts.Parts.place_of.Goals as goal

-- the closure gives a sum's part
pub returns : goal.returns
returns c =
    let facts = c.binary_search_by_key.ensures in
    let by_part = facts.position (λ (x : PartSum). x.part) (answers_always _ _ _ (λ f a r g called. search rules)) in
    rw (← c.deref.ensures.value) (searched _ (rw c.deref.ensures.value c.requires) c.args.part _ facts.bound by_part)
