use Rattle.std.proofs.Common.{◌≡◌, ℕ, ◌<◌, ◌≤◌, get_or, []}
use Rattle.partition_charge.specs.Views.{part_limit}
use Rattle.budget_core.proofs.entry.Entry.most_keys.Given as goal

-- the greatest so far
abbrev pub invariant-loop-keys : goal.invariant-loop-keys
invariant-loop-keys l =
    record {
      most : (k : ℕ) → k < l.keys-index → get_or l.keys-items k 0 ≤ l.most;
      limited : l.most ≤ part_limit;
      none : l.keys-items ≡ [] → l.most ≡ 0;
    }
