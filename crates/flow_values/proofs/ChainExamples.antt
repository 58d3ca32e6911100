-- Chains of stages, strands, and what bags of them mean, at worked values, on both sides of each choice.
use Rattle.std.proofs.Common.{ap, refl, subst, sym, ◌∙◌}
use Rattle.std.specs.Prelude.{Bool, IsTrue, List, None, Option, Some, [], false, pos, true, ℕ, ◌++◌, ◌∷◌, ◌≡◌}
use Rattle.metric_values.specs.Values.{Flat, NumF, UnitV}
use Rattle.flow_values.specs.Steps.{AreAllMaps, Step, all_through}
use Rattle.flow_values.specs.Strands.{IsLaidOut, IsLonger}
use Rattle.flow_values.specs.Views.{IsJoint, flow_of, joint_steps, step_by, steps_of}
use Rattle.flow_values.specs.declared.stages.Branch.{Branch}
use Rattle.flow_values.specs.declared.value.Closure.{Closure}
use Rattle.flow_values.specs.declared.value.Joint.{Joint}
use Rattle.flow_values.specs.declared.value.Strand.{Strand}

abbrev by : Option Bool → Step
by k = record { function = UnitV; left = 2; keeps = k }

abbrev map_then_filter : List Step
map_then_filter = by None ∷ by (Some true) ∷ []

abbrev filter_then_map : List Step
filter_then_map = by (Some true) ∷ by None ∷ []

abbrev first_keeps : List Step → Option Bool
first_keeps [] = None
first_keeps (s ∷ ss) = s.keeps

not_exchanged : map_then_filter ≡ filter_then_map → ⊥
not_exchanged h = let both : None ≡ Some true = ap first_keeps h in absurd (cc both)

-- no steps, maps alone, and a filter among them
none_leave_out : AreAllMaps []
none_leave_out = tt

maps_leave_none_out : AreAllMaps (by None ∷ by None ∷ [])
maps_leave_none_out = (refl, (refl, tt))

last_leaves_out : AreAllMaps map_then_filter → ⊥
last_leaves_out h = let both : Some true ≡ None = h.1.0 in absurd (cc both)

first_leaves_out : AreAllMaps (by (Some false) ∷ by None ∷ []) → ⊥
first_leaves_out h = let both : Some false ≡ None = h.0 in absurd (cc both)

-- a cell's own step is the last one
module _ (j : Joint) (before : j.before.steps ≡ by None ∷ []) (own : step_by j.function.value j.left j.keeps ≡ by (Some true)) where
  own_step_last : joint_steps j ≡ map_then_filter
  own_step_last = λ i. before i ++ own i ∷ []

  own_step_not_first : joint_steps j ≡ filter_then_map → ⊥
  own_step_not_first h = not_exchanged (sym own_step_last ∙ h)

-- no cell says of a filter that none is left out
filter_not_flagged : (j : Joint) → j.before.steps ≡ [] → j.keeps ≡ Some true → IsTrue j.maps → IsJoint j → ⊥
filter_not_flagged j before keeps flag is =
    let maps : AreAllMaps (step_by j.function.value j.left j.keeps ∷ []) =
    subst (λ (ss : List Step). AreAllMaps (ss ++ step_by j.function.value j.left j.keeps ∷ [])) before (is.maps flag) in
    let both : Some true ≡ None = sym keeps ∙ maps.0 in absurd (cc both)

-- a strand's new step is the last one
module _ (a b : Strand) (c : Closure) (l : ℕ) (longer : IsLonger a b c l (Some true))
    (before : b.chain.steps ≡ by None ∷ []) (new : step_by c l (Some true) ≡ by (Some true)) where
  new_step_last : a.chain.steps ≡ map_then_filter
  new_step_last = longer.steps ∙ (λ i. before i ++ new i ∷ [])

  new_step_not_first : a.chain.steps ≡ filter_then_map → ⊥
  new_step_not_first h = not_exchanged (sym new_step_last ∙ h)

-- the first step is laid out first
module _ (b : Branch) (s : Strand) (is : IsLaidOut b s) (steps : s.chain.steps ≡ map_then_filter) where
  in_order : steps_of b.stages.items ≡ map_then_filter
  in_order = is.steps ∙ steps

  not_from_the_last : steps_of b.stages.items ≡ filter_then_map → ⊥
  not_from_the_last h = not_exchanged (sym in_order ∙ h)

-- a bag has the elements of its strands, those of the first one first
no_strands : flow_of [] ≡ []
no_strands = refl

module _ (s t : Strand) (s_bare : s.chain.steps ≡ []) (t_bare : t.chain.steps ≡ [])
    (one : s.table.value ≡ NumF (pos 1) ∷ []) (two : t.table.value ≡ NumF (pos 2) ∷ []) where
  both_strands : flow_of (s ∷ t ∷ []) ≡ NumF (pos 1) ∷ NumF (pos 2) ∷ []
  both_strands = λ i. all_through (s_bare i) (one i) ++ (all_through (t_bare i) (two i) ++ [])

  same_strand_twice : flow_of (s ∷ s ∷ []) ≡ NumF (pos 1) ∷ NumF (pos 1) ∷ []
  same_strand_twice = λ i. all_through (s_bare i) (one i) ++ (all_through (s_bare i) (one i) ++ [])
