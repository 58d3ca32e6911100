-- Functions of a table's rows, which name no table: each row's class is the text that such a function gives for it.
use Rattle.std.specs.Prelude.{List, ℕ, ◌≡◌}
use Rattle.fz_ast.specs.Limits.{IsText}
use Rattle.fz_ast.specs.Terms.{Term, span_of}
use Rattle.fz_ast.specs.Types.{TextT, Ty, UnlimitedT}
use Rattle.linear_types.specs.Inferred.{Has, Inferred, one_part}
use Rattle.linear_types.specs.Rule.{exactly, rule}
use Rattle.linear_types.specs.Sensitivities.{Sensitivities}
use Rattle.linear_types.specs.Typing.{Closed}
use Rattle.metric_law.specs.Means.{Applies, MeansIn}
use Rattle.metric_values.specs.Typed.{TypedFlat}
use Rattle.metric_values.specs.Values.{BangV, Empty, Flat, TextV, Value, value_of}
use Rattle.row_functions.specs.Computed.{computed, given}
use Rattle.run_values.specs.Parts.{text_in}

-- How deep a run may be. It doesn't unfold by itself, since what is said up to depth 128 would unfold 128 times in each goal.
unfoldable pub depth_limit : ℕ
depth_limit = 128

-- t has the type row -> text where no name is in scope
abbrev pub IsRowFunction : Ty → Term → Type 0
IsRowFunction row t = (D : Sensitivities) × (rule Closed t ≡ Has (UnlimitedT row TextT) D)

-- what is inferred of a term that is wanted to be a function of rows: where it has another type, the whole term is at fault
abbrev pub function_rule : Ty → Term → Inferred
function_rule row t = one_part (rule Closed t) (λ A D. exactly (span_of t) A (UnlimitedT row TextT) (Has A D))

-- t is a function, which gives the text s for the row x: both by derivations of at most this height
abbrev pub GivesTextIn : ℕ → Term → Flat → List ℕ → Type 0
GivesTextIn n t x s = (c : Value) × MeansIn n Empty t c × Applies (MeansIn n) c (BangV (value_of x)) (TextV s)

abbrev pub GivesText : Term → Flat → List ℕ → Type 0
GivesText t x s = (n : ℕ) × GivesTextIn n t x s

-- the text that t gives for the row x, where it gives one by derivations within the limit
unfoldable pub row_text : Term → Flat → List ℕ
row_text t x = text_in (given (computed depth_limit) (computed depth_limit Empty t) x)

-- by derivations of at most this height t is a function, and it gives each row of its type its text, which has at most 64 bytes
pub record RunsOnRows (n : ℕ) (row : Ty) (t : Term) : Type 0 where
  pub function : Value
  pub does : MeansIn n Empty t function
  pub gives : (x : Flat) → TypedFlat row x → Applies (MeansIn n) function (BangV (value_of x)) (TextV (row_text t x))
  pub texts : (x : Flat) → TypedFlat row x → IsText (row_text t x)
