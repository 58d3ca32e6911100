-- What a name is found to stand for, numbers and texts among that, and another value for the innermost name.
use Rattle.std.specs.Prelude.{None, Option, Some, ℕ, ◌≡◌, ⊤}
use Rattle.metric_law.specs.Means.{find}
use Rattle.fz_ast.specs.Terms.{Name}
use Rattle.metric_values.specs.Values.{Bind, Empty, Env, NumV, TextV, Value}
use Rattle.run_values.specs.Parts.{IsPair, first_in, second_in}
use Rattle.flow_values.specs.Views.{IsClosureAt}
use Rattle.flow_values.specs.declared.plain.Plain.{Plain}
use Rattle.flow_values.specs.declared.plain.Plain.TheVariants.{Num, Text, Other}
use Rattle.flow_values.specs.declared.scope.Found.{Found}
use Rattle.flow_values.specs.declared.scope.Found.TheVariants.{None as Nowhere, Whole, First, Second}
use Rattle.flow_values.specs.declared.value.Closure.{Closure}

abbrev pub value_found : Found → Option Value
value_found Nowhere = None
value_found (Whole v) = Some v.now.means
value_found (First p) = Some (first_in p.now.means)
value_found (Second p) = Some (second_in p.now.means)

-- how deep that is held where it is found
abbrev pub found_deep : Found → ℕ
found_deep Nowhere = 0
found_deep (Whole v) = v.now.deep
found_deep (First p) = p.now.deep
found_deep (Second p) = p.now.deep

-- what is found as a half is one of a pair
abbrev pub IsFoundInPair : Found → Type 0
IsFoundInPair Nowhere = ⊤
IsFoundInPair (Whole v) = ⊤
IsFoundInPair (First p) = IsPair p.now.means
IsFoundInPair (Second p) = IsPair p.now.means

-- δ is γ with two more names, for the halves of what this name stands for
abbrev pub AreHalvesNamed : Env → Name → Name → Name → Env → Type 0
AreHalvesNamed γ r x y δ = (v : Value) × (find γ r ≡ Some v) × (δ ≡ Bind y (second_in v) (Bind x (first_in v) γ))

-- the name stands for this function
abbrev pub IsFoundFunction : Env → Name → Closure → Type 0
IsFoundFunction γ x c = (v : Value) × (find γ x ≡ Some v) × IsClosureAt c v

-- the value itself, where it is a number or a text
abbrev pub plain_in : Value → Option Value
plain_in (NumV z) = Some (NumV z)
plain_in (TextV s) = Some (TextV s)
plain_in v = None

abbrev pub plain_found : Option Value → Option Value
plain_found None = None
plain_found (Some v) = plain_in v

abbrev pub plain_of : Plain → Option Value
plain_of (Num z) = Some (NumV z)
plain_of (Text s) = Some (TextV s.now)
plain_of Other = None

-- the innermost name, if there is one, stands for w
abbrev pub rebound : Env → Value → Env
rebound Empty w = Empty
rebound (Bind x v γ) w = Bind x w γ
