use Rattle.std.proofs.Common.{◌≡◌, length, vec_capacity}
use Rattle.partition_charge.specs.Views.{partition_range}
use Rattle.partition_charge.proofs.Standing.{AreEmpty}
use Rattle.partition_charge.proofs.costs.Costs.new.Given as goal

-- each partition so far has no sums, and its room
abbrev pub invariant-loop-partition : goal.invariant-loop-partition
invariant-loop-partition l =
    record {
      count : length l.partitions.items ≡ l.partition;
      broad : vec_capacity l.partitions ≡ partition_range;
      empty : AreEmpty l.most l.charges l.partitions.items;
    }
