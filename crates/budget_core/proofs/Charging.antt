-- what one more charge costs at most
use Rattle.std.proofs.Common.{◌≡◌, ℕ, ◌+◌, ◌≤◌, ◌<◌, List, [], ◌∷◌, ◌++◌, length, Option, Some, None, IsSomeAnd, All, slice_get, refl, arith}
use Rattle.std.proofs.lemmas.Option.{slice_get_within, get_or_from_slice_get}
use Rattle.partition_charge.specs.declared.view.View.{View}
use Rattle.partition_charge.specs.declared.view.View.TheVariants.{Whole, Part}
use Rattle.partition_charge.specs.Views.{IsView, IsPartBelow, partition_range, part_limit}
use Rattle.partition_charge.specs.Cost.{Charge, cost_of_charges}
use Rattle.partition_charge.proofs.Charges.{dearest-at, whole-cost, part-cost}
use Rattle.budget_core.specs.Entries.{Entry, IsEntry, HasView}

-- A charge raises the cost by at most its amount.
pub rises : (charges : List Charge) (view : View) (amount : ℕ) → IsView view
    → cost_of_charges (charges ++ record { view = view; amount = amount } ∷ []) ≤ cost_of_charges charges + amount
rises charges Whole amount valid = omega (arith, whole-cost charges amount)
rises charges (Part p j) amount valid = omega (arith, part-cost charges amount p j valid.0, dearest-at charges p j)

-- An entry's view is within the limits of all views.
pub view-valid : (entry : Entry) (view : View) → IsEntry entry → HasView entry view → IsView view
view-valid entry Whole valid has = tt
view-valid entry (Part p j) valid has = within (slice_get entry.keys p) refl has
  where
    within : (found : Option ℕ) → slice_get entry.keys p ≡ found → IsSomeAnd found (λ keys. j < keys) → (p < partition_range) × (j < part_limit)
    within None at less = absurd less
    within (Some keys) at less =
        let inside : p < length entry.keys = slice_get_within entry.keys p keys at in
        let most = valid.keys p 0 inside in
        (omega (arith, inside, valid.partitions), omega (arith, less, most.1, get_or_from_slice_get entry.keys p keys 0 at))

-- Where no partition has more than n keys, an entry's parts are below n.
pub view-below : (entry : Entry) (view : View) (n : ℕ) → All (λ (count : ℕ). count ≤ n) entry.keys → HasView entry view → IsPartBelow n view
view-below entry Whole n most has = tt
view-below entry (Part p j) n most has = within (slice_get entry.keys p) refl has
  where
    within : (found : Option ℕ) → slice_get entry.keys p ≡ found → IsSomeAnd found (λ keys. j < keys) → j < n
    within None at less = absurd less
    within (Some keys) at less =
        let inside : p < length entry.keys = slice_get_within entry.keys p keys at in
        omega (arith, less, most p 0 inside, get_or_from_slice_get entry.keys p keys 0 at)
