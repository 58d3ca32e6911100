-- Each record behind those found is one line's.
use Rattle.std.specs.Prelude.{◌≡◌, ℕ, ◌≤◌, true, List, length, slice_get, Some}
use Rattle.journal_records.specs.declared.records.Record.{Record}
use Rattle.session_core.specs.OwnerHouse.House.{House}
use Rattle.session_core.specs.Turns.{meant_at}
use Rattle.session_core.specs.Exchanges.{Exchange, is_of}
use Rattle.session_core.specs.OwnerDesk.Passes.{Told}
use Rattle.session_core.specs.OwnerDesk.Answers.{Has}

-- the exchange at a place of the script asks the owner, and was told this
pub record IsToldAt (house : House) (o : ℕ) (xs : List Exchange) (place : ℕ) (told : Told) : Type 0 where
  pub x : Exchange
  pub stands : slice_get xs place ≡ Some x
  pub ours : is_of o (meant_at house x.turn) ≡ true
  pub has : Has told x.told

-- Each record behind those found is told at one place of the script, and what is told anywhere is such a record.
pub record AreToldOnce (house : House) (o : ℕ) (xs : List Exchange) (found records : List Record) : Type 0 where
  pub each : (p : ℕ) (r : Record) → length found ≤ p → slice_get records p ≡ Some r → (place : ℕ) × IsToldAt house o xs place (p, r)
  pub once : (p : ℕ) (r s : Record) (j k : ℕ) → IsToldAt house o xs j (p, r) → IsToldAt house o xs k (p, s) → j ≡ k
  pub stand : (p : ℕ) (r : Record) (j : ℕ) → IsToldAt house o xs j (p, r) → (length found ≤ p) × (slice_get records p ≡ Some r)
