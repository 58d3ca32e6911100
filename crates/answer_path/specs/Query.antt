-- What an analyst asks.
use Rattle.std.specs.Prelude.{ℕ, List}
use Rattle.partition_charge.specs.declared.view.View.{View}

-- which analyst, in which view, at which epsilon in millionths, and which program
pub record Query : Type 0 where
  pub analyst : ℕ
  pub view : View
  pub e : ℕ
  pub program : List ℕ
