-- Strands of bags, and strands made of them.
use Rattle.std.specs.Prelude.{◌≡◌, ◌≤◌, ◌++◌, max, Bool, List, Option, [], ℕ, ◌∷◌}
use Rattle.flow_values.specs.Depths.{stage_deep}
use Rattle.flow_values.specs.Steps.{AllGo, all_through}
use Rattle.flow_values.specs.Views.{AllKnown, IsFlow, flow_of, stages_deep, step_by, steps_of, strands_deep}
use Rattle.flow_values.specs.declared.stages.Branch.{Branch}
use Rattle.flow_values.specs.declared.value.Closure.{Closure}
use Rattle.flow_values.specs.declared.value.Stage.{Stage}
use Rattle.flow_values.specs.declared.value.Strand.{Strand}

-- the stage of this function
pub record IsSameStage (s : Stage) (c : Closure) (l : ℕ) (k : Option Bool) : Type 0 where
  pub closure : s.function.value ≡ c
  pub left : s.left ≡ l
  pub keeps : s.keeps ≡ k

-- the same table and steps
pub record IsSameStrand (a b : Strand) : Type 0 where
  pub table : a.table.value ≡ b.table.value
  pub steps : a.chain.steps ≡ b.chain.steps
  pub deep : a.chain.deep ≡ b.chain.deep

-- one step more
pub record IsLonger (a b : Strand) (c : Closure) (l : ℕ) (k : Option Bool) : Type 0 where
  pub table : a.table.value ≡ b.table.value
  pub steps : a.chain.steps ≡ b.chain.steps ++ step_by c l k ∷ []
  pub deep : a.chain.deep ≡ stage_deep c.scope.deep b.chain.deep l

-- the branch is the strand's table with its stages
pub record IsLaidOut (b : Branch) (s : Strand) : Type 0 where
  pub table : b.table.value ≡ s.table.value
  pub steps : steps_of b.stages.items ≡ s.chain.steps
  pub known : AllKnown b.stages.items
  pub deep : stages_deep 0 b.stages.items ≡ s.chain.deep

-- the elements after one step more, and how that can be walked
pub record AreStaged (c : Closure) (l : ℕ) (k : Option Bool) (before after : List Strand) : Type 0 where
  pub elements : flow_of after ≡ all_through (step_by c l k ∷ []) (flow_of before)
  pub walked : IsFlow before → AllGo (step_by c l k ∷ []) (flow_of before) → IsFlow after
  pub deep : strands_deep after ≤ stage_deep c.scope.deep (strands_deep before) l

-- those of both
pub record AreAppended (before more after : List Strand) : Type 0 where
  pub elements : flow_of after ≡ flow_of before ++ flow_of more
  pub walked : IsFlow before → IsFlow more → IsFlow after
  pub deep : strands_deep after ≤ max (strands_deep before) (strands_deep more)
