-- What is demanded of an owner.
use Rattle.std.specs.Prelude.{ℕ}
use Rattle.answer_path.specs.Query.{Query}

-- an answer to a query, what became of a number that the analyst reserved, what is spent of the budget, or what the analyst has spent
pub data Demand : Type 0 where
  asks : Query → Demand
  recalls : (analyst number : ℕ) → Demand
  balances : Demand
  spends : (analyst : ℕ) → Demand
