-- Why lines are refused for their owner's disk, where workers answer them in any order.
use Rattle.std.specs.Prelude.{◌≡◌, ℕ, List, slice_get, Option, Some, None}
use Rattle.budget_ledger.specs.declared.failure.Failure.{Failure}
use Rattle.session_core.specs.OwnerHouse.Owner.{Owner}
use Rattle.session_core.specs.OwnerHouse.House.{House}
use Rattle.session_core.specs.AnswerPath.Query.{Query}
use Rattle.session_core.specs.AnswerPath.Demand.{asks}
use Rattle.session_core.specs.AnswerPath.Shut.{disk_word, IsPendingOf}
use Rattle.session_core.specs.Meant.{wants}
use Rattle.session_core.specs.Turns.{meant_at}
use Rattle.session_core.specs.Exchanges.{Exchange}

-- the line at a place asks this of the owner, and is told that the disk failed: now, or earlier, at a count
pub record IsShutAt (house : House) (o : ℕ) (xs : List Exchange) (place : ℕ) (owner : Owner) (query : Query) (word : Option ℕ) : Type 0 where
  pub x : Exchange
  pub stands : slice_get xs place ≡ Some x
  pub meant : meant_at house x.turn ≡ wants o owner (asks query)
  pub word_is : disk_word x.reply ≡ Some word

-- Who is told 42 is told of the failure that shut the book. Who is told 52 is told so of its own, which is that failure: there is one
-- such line where the book is shut in the end, and else none.
pub record AreCaused (house : House) (draws : ℕ → ℕ → ℕ → ℕ) (o : ℕ) (xs : List Exchange) (closed : Option Failure) : Type 0 where
  pub seen : (place : ℕ) (owner : Owner) (query : Query) (failed_at : ℕ) → IsShutAt house o xs place owner query (Some failed_at)
      → (failure : Failure) × (closed ≡ Some failure) × (failed_at ≡ failure.failed_at)
  pub failed : (place : ℕ) (owner : Owner) (query : Query) → (r : IsShutAt house o xs place owner query None)
      → (failure : Failure) × (closed ≡ Some failure) × IsPendingOf owner (draws o) query r.x.told failure.pending
  pub once : (j k : ℕ) (owner other : Owner) (query and : Query) → IsShutAt house o xs j owner query None
      → IsShutAt house o xs k other and None → j ≡ k
  pub due : (failure : Failure) → closed ≡ Some failure
      → (place : ℕ) × (owner : Owner) × (query : Query) × IsShutAt house o xs place owner query None
