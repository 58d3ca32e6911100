-- Rows of a chunk on their way through the stages of a bag.
use Rattle.std.specs.Prelude.{◌≡◌, ◌<◌, ◌≤◌, ◌+◌, ◌+ℤ◌, Bool, List, None, Option, Some, false, get_or, length, pos, take, true, ℕ, ℤ, suc, zero}
use Rattle.metric_law.specs.Means.{Applies, MeansIn}
use Rattle.metric_values.specs.Cells.{row_at}
use Rattle.metric_values.specs.Values.{BangV, Flat, Value, value_of}
use Rattle.flow_values.specs.Steps.{Answers, Step, all_through, stepped, through}
use Rattle.row_kernels.specs.declared.flows.Passed.{Passed}
use Rattle.row_kernels.specs.declared.gather.Gather.{Gather}
use Rattle.row_kernels.specs.declared.lanes.Lanes.{Lanes}
use Rattle.row_kernels.specs.Gathers.{gathered, weigh_some}
use Rattle.row_kernels.specs.Lanes.{IsLong, lane_at}

-- both columns are of n rows
pub record IsLongPassed (n : ℕ) (p : Passed) : Type 0 where
  pub lanes : IsLong n p.lanes
  pub there : length p.there.items ≡ n

abbrev pub is_there : Passed → ℕ → Bool
is_there p j = get_or p.there.items j false

-- a row is there, with this value, or isn't
abbrev pub IsRow : Bool → Value → Option Flat → Type 0
IsRow true v o = (y : Flat) × (o ≡ Some y) × (v ≡ value_of y)
IsRow false v o = o ≡ None

-- each row is what o says of it
pub record AreAll (o : ℕ → Option Flat) (n : ℕ) (p : Passed) : Type 0 where
  pub long : IsLongPassed n p
  pub each : (j : ℕ) → j < n → IsRow (is_there p j) (lane_at p.lanes j) (o j)

-- the table's rows from a row on
abbrev pub AreRowsThere : List Flat → ℕ → ℕ → Passed → Type 0
AreRowsThere rows first n p = AreAll (λ j. Some (row_at rows (first + j))) n p

-- they behind the steps
abbrev pub ArePassed : List Step → List Flat → ℕ → ℕ → Passed → Type 0
ArePassed ss rows first n p = AreAll (λ j. through ss (Some (row_at rows (first + j)))) n p

-- for each row whatever the function gives for its lane
pub record AreImaged (c : Value) (n : ℕ) (l k : Lanes) : Type 0 where
  pub long : IsLong n k
  pub each : (j : ℕ) → j < n → (m : ℕ) (v : Value) → Applies (MeansIn m) c (BangV (lane_at l j)) v → v ≡ lane_at k j

-- what a row becomes by one step, where the step's function gives something for it
abbrev pub RowSteps : Step → Bool → Value → Bool → Value → Type 0
RowSteps s true v b w = (x : Flat) → v ≡ value_of x → Answers s x → IsRow b w (stepped s x)
RowSteps s false v b w = b ≡ false

pub record AreStepped (s : Step) (n : ℕ) (p q : Passed) : Type 0 where
  pub long : IsLongPassed n q
  pub each : (j : ℕ) → j < n → RowSteps s (is_there p j) (lane_at p.lanes j) (is_there q j) (lane_at q.lanes j)

-- by a step that tells which are kept
abbrev pub AreJudged : Step → Bool → ℕ → Passed → Passed → Type 0
AreJudged s k n p q = s.keeps ≡ Some k → AreStepped s n p q

-- what n rows add
abbrev pub added_up : Gather → (ℕ → Option Flat) → ℕ → ℤ
added_up g o zero = pos 0
added_up g o (suc n) = added_up g o n +ℤ weigh_some g (o n)

-- whatever the rows are
abbrev pub IsLanesTotal : Gather → ℕ → Passed → ℤ → Type 0
IsLanesTotal g n p z = (o : ℕ → Option Flat) → AreAll o n p → z ≡ added_up g o n

-- what n rows from a row on add to those before it
abbrev pub IsChunkTotal : Gather → List Step → List Flat → ℕ → ℕ → ℤ → Type 0
IsChunkTotal g ss rows first n z = gathered g (all_through ss (take first rows)) +ℤ z ≡ gathered g (all_through ss (take (first + n) rows))

-- the first n rows
pub record IsFlatTotal (g : Gather) (ss : List Step) (rows : List Flat) (n : ℕ) (z : ℤ) : Type 0 where
  pub within : n ≤ length rows
  pub total : z ≡ gathered g (all_through ss (take n rows))
