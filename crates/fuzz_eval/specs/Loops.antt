-- A function inside whose name a scope is kept from element to element.
use Rattle.fz_ast.specs.Terms.{Term}
use Rattle.fz_ast.specs.declared.term.Arrow.{Arrow}
use Rattle.fz_ast.specs.declared.term.Arrow.TheVariants.{Fun, Fn}
use Rattle.metric_values.specs.Values.{BangV, Bind, Empty, Env, UnitV, Value}
use Rattle.fuzz_eval.specs.Steps.{closure_of}

-- what a function's name stands for while it is applied to the bang of x
abbrev pub bound_element : Arrow → Value → Value
bound_element Fun x = BangV x
bound_element Fn x = x

-- the function with this body, which is meant in the scope inside its own name
abbrev pub function_inside : Arrow → Env → Term → Value
function_inside o Empty e = UnitV
function_inside o (Bind x v γ) e = closure_of o x e γ
