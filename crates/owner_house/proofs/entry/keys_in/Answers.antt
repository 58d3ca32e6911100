use Rattle.std.proofs.Common.{ℕ, List, [], ◌∷◌, ◌++◌, sym, ◌∙◌, ap, arith}
use Rattle.owner_catalog.specs.Entries.{owner_entry_at}
use Rattle.owner_house.proofs.Owners.{keys_more}
use Rattle.owner_house.proofs.entry.keys_in.Goals as goal

pub loop-partition-preserved : goal.loop-partition-preserved
loop-partition-preserved c =
    c.in_ok-push.ensures.items ∙ ap (λ (xs : List ℕ). xs ++ c.keys.result ∷ []) c.loop-partition.invariant
    ∙ sym (keys_more (owner_entry_at c.args.catalog.now c.args.owner) c.loop-partition.partition c.keys.result _
    (omega (arith, c.loop-partition-test.true, c.partitions-partitions.ensures.partitions)) c.keys.ensures.keys)
