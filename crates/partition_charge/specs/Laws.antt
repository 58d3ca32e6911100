-- The laws of costs.
use Rattle.std.specs.Prelude.{◌≡◌, ℕ, ◌≤◌, ◌↔◌, List, [], ◌∷◌, ◌++◌, sum_by}
use Rattle.std.specs.List.{All}
use Rattle.partition_charge.specs.declared.view.View.TheVariants.{Whole, Part}
use Rattle.partition_charge.specs.Cost.{Charge, charges_of, partition_cost, cost_of_charges}

-- A charge never lowers the cost.
abbrev pub NeverFalls : Type 0
NeverFalls = (charges : List Charge) (next : Charge) → cost_of_charges charges ≤ cost_of_charges (charges ++ next ∷ [])

-- A partition costs the least that no part of it costs more than: by this its cost is known, however it is worked out.
abbrev pub CostsItsDearest : Type 0
CostsItsDearest = (charges : List Charge) (partition cost : ℕ) → partition_cost charges partition ≤ cost
    ↔ ((part : ℕ) → charges_of (Part partition part) charges ≤ cost)

-- Where the whole view alone is charged, the cost is the sum of the amounts.
abbrev pub AddsUpWhole : Type 0
AddsUpWhole = (charges : List Charge) → All (λ (charge : Charge). charge.view ≡ Whole) charges
    → cost_of_charges charges ≡ sum_by (λ (charge : Charge). charge.amount) charges
