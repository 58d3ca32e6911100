use Rattle.std.proofs.Common.{ℕ, ◌<◌, ◌≤◌, get_or}
use Rattle.partition_charge.specs.Parts.{sum_without, lowered}
use Rattle.partition_charge.proofs.Sums.{no_sum}
use Rattle.partition_charge.proofs.parts.Parts.greatest_without.Given as goal

-- the greatest of the sums so far
abbrev pub invariant-loop-kept : goal.invariant-loop-kept
invariant-loop-kept l =
    record {
      most : (k : ℕ) → k < l.kept-index → lowered l.part l.amount (get_or l.self.sums.items k no_sum) ≤ l.greatest;
      least : (bound : ℕ) → ((k : ℕ) → sum_without l.self.sums.items l.part l.amount k ≤ bound) → l.greatest ≤ bound;
    }
