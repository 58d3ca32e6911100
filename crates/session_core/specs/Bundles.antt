-- A worker's passes, one for each owner.
use Rattle.std.specs.Prelude.{◌≡◌, ◌⊎◌, ℕ, ◌+◌, ◌-◌, ◌/◌, ◌<◌, List, [], length, map, sum_by, get_or, Some}
use mathlib.Core.List.{IsPrefix}
use Rattle.atomic_table.specs.Seated.{TableId}
use Rattle.budget_ledger.specs.declared.failure.Failure.{Failure}
use Rattle.owner_lock.specs.Entries.{Ascends}
use Rattle.owner_history.specs.OwnerDesk.Passes.{Pass, Told}
use Rattle.owner_history.specs.OwnerDesk.Shared.{Shared}
use Rattle.session_core.specs.Code.{pass_at}

-- Which locks they are of, their shares, and what they know of the owners' books.
pub record Bundle : Type 0 where
  pub locks : List TableId
  pub shares : List ℕ
  pub knows : List Pass

abbrev pub bundle_of : List Shared → Bundle
bundle_of passes = record {
  locks = map (λ (s : Shared). s.lock) passes;
  shares = map (λ (s : Shared). s.share) passes;
  knows = map (λ (s : Shared). s.knows) passes;
}

-- what is left of passes of which half was given away
abbrev pub kept_halves : Bundle → Bundle
kept_halves bundle = record bundle { shares = map (λ s. s - s / 2) bundle.shares }

-- a pass with what another has seen, and with nothing of its own
abbrev pub handed_on : Pass → Pass
handed_on pass = record pass { own = []; faults = [] }

-- the halves that are given away
abbrev pub given_halves : Bundle → Bundle
given_halves bundle = record { locks = bundle.locks; shares = map (λ s. s / 2) bundle.shares; knows = map handed_on bundle.knows }

-- An owner's pass took in another one of the same book: what both have seen, and what is both's own, each once.
pub record HasTakenIn (before other after : Pass) : Type 0 where
  pub opened : after.opened ≡ before.opened
  pub seen : IsPrefix before.seen after.seen × IsPrefix other.seen after.seen
  pub own : (weight : Told → ℕ) → sum_by weight after.own ≡ sum_by weight before.own + sum_by weight other.own
  pub apart : Ascends 0 after.own
  pub faults : (weight : Failure → ℕ) → sum_by weight after.faults ≡ sum_by weight before.faults + sum_by weight other.faults
  pub failure : (failure : Failure) → (before.failure ≡ Some failure) ⊎ (other.failure ≡ Some failure) → after.failure ≡ Some failure

-- Each owner's pass took in that of another worker.
pub record HaveTakenIn (before other after : Bundle) : Type 0 where
  pub locks : after.locks ≡ before.locks
  pub shares : (o : ℕ) → get_or after.shares o 0 ≡ get_or before.shares o 0 + get_or other.shares o 0
  pub passes : (o : ℕ) → o < length before.locks → HasTakenIn (pass_at before.knows o) (pass_at other.knows o) (pass_at after.knows o)
