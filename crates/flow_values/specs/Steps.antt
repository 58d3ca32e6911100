-- Stages of bags: what becomes of a table's rows on their way through them.
use Rattle.std.specs.Prelude.{◌≡◌, ◌++◌, Bool, List, None, Option, Some, [], cond, ℕ, ◌∷◌, ⊤}
use Rattle.metric_law.specs.Means.{Applies, MeansIn}
use Rattle.metric_values.specs.Values.{BangV, Flat, Value, truth, value_of}
use Rattle.run_values.specs.Flats.{IsFlat, flat_of}
use Rattle.flow_values.specs.Computed.{agree, computed, given, is_true}

-- a function whose body's derivations are at most so high; it gives an element for each element, or tells which are kept: those for
-- which it says this truth
pub record Step : Type 0 where
  pub function : Value
  pub left : ℕ
  pub keeps : Option Bool

-- what x becomes where the function gives v for it
abbrev pub outcome : Option Bool → Value → Flat → Option Flat
outcome None v x = Some (flat_of v)
outcome (Some k) v x = cond (agree k (is_true v)) (Some x) None

abbrev pub stepped : Step → Flat → Option Flat
stepped s x = outcome s.keeps (given (computed s.left) s.function x) x

-- what an element, if it is still there, becomes behind the steps
abbrev pub through : List Step → Option Flat → Option Flat
through ss None = None
through [] (Some x) = Some x
through (s ∷ ss) (Some x) = through ss (stepped s x)

abbrev pub listed : Option Flat → List Flat
listed None = []
listed (Some x) = x ∷ []

-- what rows become
abbrev pub all_through : List Step → List Flat → List Flat
all_through ss [] = []
all_through ss (x ∷ xs) = listed (through ss (Some x)) ++ all_through ss xs

-- an element, or a truth where it is told which are kept
abbrev pub IsAnswer : Option Bool → Value → Type 0
IsAnswer None v = IsFlat v
IsAnswer (Some k) v = (b : Bool) × (v ≡ truth b)

-- the function gives something for x, by the rules
pub record Answers (s : Step) (x : Flat) : Type 0 where
  pub value : Value
  pub gives : Applies (MeansIn s.left) s.function (BangV (value_of x)) value
  pub is : IsAnswer s.keeps value

-- so do those of all steps, for what it becomes
abbrev pub Goes : List Step → Option Flat → Type 0
Goes ss None = ⊤
Goes [] (Some x) = ⊤
Goes (s ∷ ss) (Some x) = Answers s x × Goes ss (stepped s x)

-- and for all rows
abbrev pub AllGo : List Step → List Flat → Type 0
AllGo ss [] = ⊤
AllGo ss (x ∷ xs) = Goes ss (Some x) × AllGo ss xs

-- no step leaves elements out
abbrev pub AreAllMaps : List Step → Type 0
AreAllMaps [] = ⊤
AreAllMaps (s ∷ ss) = (s.keeps ≡ None) × AreAllMaps ss
