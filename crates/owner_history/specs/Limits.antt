-- A budget of which each analyst has a share.
use Rattle.std.specs.Prelude.{ℕ, ◌≤◌, ◌<◌, length, unwrap_or, IsSome}
use Rattle.partition_charge.specs.Cost.{total_below}
use Rattle.budget_core.specs.Entries.{Entry, limit_of}

-- Every analyst has a limit, nobody else has one, and all limits together are within the budget: each has a share of its own.
pub record IsShared (entry : Entry) : Type 0 where
  pub only : length entry.limits ≤ entry.analysts
  pub each : (analyst : ℕ) → analyst < entry.analysts → IsSome (limit_of entry analyst)
  pub within : total_below entry.analysts (λ analyst. unwrap_or (limit_of entry analyst) 0) ≤ entry.budget
