-- Terms that need no evaluation: names, numbers and quoted texts, as operands of signs and as pairs that are taken apart.
use Rattle.std.specs.Prelude.{List, Option, None, Some, bytes_eq, int_le, suc, ℕ, ℤ, ◌+ℤ◌, ◌-ℤ◌, ◌≡◌, ◌⊎◌, ⊤}
use Rattle.fz_ast.specs.Terms.{Name, Term}
use Rattle.fz_ast.specs.declared.term.Binary.{Binary}
use Rattle.fz_ast.specs.declared.term.Binary.TheVariants.{Plus, Minus, AtMost, Equal}
use Rattle.metric_law.specs.Means.{MeansIn}
use Rattle.metric_values.specs.Numbers.{clamp}
use Rattle.metric_values.specs.Distances.{same_number}
use Rattle.metric_values.specs.Values.{Bind, Env, NumV, TextV, Value, truth}
use Rattle.run_values.specs.Parts.{first_in, second_in}

-- the term has this value by derivations of every height
abbrev pub MeansAtOnce : Env → Term → Value → Type 0
MeansAtOnce γ t v = (n : ℕ) → MeansIn (suc n) γ t v

-- what is told about a term's value, where something is
abbrev pub IsOperand : Env → Term → Option Value → Type 0
IsOperand γ t None = ⊤
IsOperand γ t (Some v) = MeansAtOnce γ t v

-- a sign between two numbers or texts gives v
abbrev pub GivesSign : Binary → Value → Value → Value → Type 0
GivesSign Plus a b v = (y z : ℤ) × (a ≡ NumV y) × (b ≡ NumV z) × (v ≡ NumV (clamp (y +ℤ z)))
GivesSign Minus a b v = (y z : ℤ) × (a ≡ NumV y) × (b ≡ NumV z) × (v ≡ NumV (clamp (y -ℤ z)))
GivesSign AtMost a b v = (y z : ℤ) × (a ≡ NumV y) × (b ≡ NumV z) × (v ≡ truth (int_le y z))
GivesSign Equal a b v =
    ((y z : ℤ) × (a ≡ NumV y) × (b ≡ NumV z) × (v ≡ truth (same_number y z)))
    ⊎ ((s t : List ℕ) × (a ≡ TextV s) × (b ≡ TextV t) × (v ≡ truth (bytes_eq s t)))
GivesSign o a b v = ⊥

-- a sign gives v, its operands having values by derivations of every height
abbrev pub GivesAtOnce : Env → Binary → Term → Term → Value → Type 0
GivesAtOnce γ o a b v = (u w : Value) × MeansAtOnce γ a u × MeansAtOnce γ b w × GivesSign o u w v

-- δ is γ with two more names, for the halves of what the term stands for
abbrev pub TakesApart : Env → Name → Name → Term → Env → Type 0
TakesApart γ x y e δ = (v : Value) × MeansAtOnce γ e v × (δ ≡ Bind y (second_in v) (Bind x (first_in v) γ))
