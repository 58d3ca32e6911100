use Rattle.std.proofs.Common.{◌≡◌, [], length, vec_capacity, All}
use Rattle.budget_core.specs.Kept.{IsShareOf}
use Rattle.budget_core.proofs.totals.new_shares.Given as goal

-- each so far is of no charges, with its room
abbrev pub invariant-loop-analyst : goal.invariant-loop-analyst
invariant-loop-analyst l =
    record {
      count : length l.shares.items ≡ l._analyst;
      broad : vec_capacity l.shares ≡ l.entry.analysts;
      each : All (IsShareOf l.entry [] 0) l.shares.items;
    }
