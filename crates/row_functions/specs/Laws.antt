-- What is proved of functions of rows.
use Rattle.std.specs.Prelude.{List, ℕ, ◌↔◌, ◌≡◌, ◌≤◌}
use Rattle.fz_ast.specs.Limits.{IsText, TermLimits}
use Rattle.fz_ast.specs.Terms.{Term}
use Rattle.fz_ast.specs.Types.{TextT, Ty, UnlimitedT}
use Rattle.linear_types.specs.Inferred.{Has}
use Rattle.linear_types.specs.Rule.{rule}
use Rattle.linear_types.specs.Sensitivities.{Sensitivities}
use Rattle.linear_types.specs.Typing.{Closed}
use Rattle.metric_law.specs.Means.{MeansIn}
use Rattle.metric_values.specs.Typed.{TypedFlat}
use Rattle.metric_values.specs.Values.{Env, Flat, Value}
use Rattle.row_functions.specs.Computed.{computed}
use Rattle.row_functions.specs.RowFunctions.{GivesText, GivesTextIn, IsRowFunction, depth_limit, function_rule, row_text}

-- where the rules give a term a value, it is the one that is computed
abbrev pub MeaningsAreComputed : Type 0
MeaningsAreComputed = (n : ℕ) (γ : Env) (e : Term) (v : Value) → MeansIn n γ e v → v ≡ computed n γ e

-- a term is inferred to be a function of rows exactly where it is one, with its own type and sensitivities
abbrev pub FunctionsAreInferred : Type 0
FunctionsAreInferred =
    (row : Ty) (t : Term) (A : Ty) (D : Sensitivities)
    → (function_rule row t ≡ Has A D) ↔ ((A ≡ UnlimitedT row TextT) × (rule Closed t ≡ Has A D))

-- a function of rows gives a text for each row of its type, of at most 64 bytes
abbrev pub RowFunctionsGiveTexts : Type 0
RowFunctionsGiveTexts = (row : Ty) (t : Term) (x : Flat) → TermLimits t → IsRowFunction row t → TypedFlat row x → (s : List ℕ) × GivesText t x s × IsText s

-- and no other
abbrev pub TextsAreUnique : Type 0
TextsAreUnique = (t : Term) (x : Flat) (s u : List ℕ) → GivesText t x s → GivesText t x u → s ≡ u

-- within the limit it is the text that is computed
abbrev pub TextsAreComputed : Type 0
TextsAreComputed = (n : ℕ) (t : Term) (x : Flat) (s : List ℕ) → n ≤ depth_limit → GivesTextIn n t x s → row_text t x ≡ s
