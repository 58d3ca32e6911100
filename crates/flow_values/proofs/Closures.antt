-- A closure whose node is a function's.
use Rattle.fz_ast.specs.Terms.{Term}
use Rattle.metric_values.specs.Values.{Env}
use Rattle.run_values.specs.Parts.{IsClosure, is_fn as fn_closure, is_fun as fun_closure}
use Rattle.flow_values.specs.Views.{IsFunction, function_of, is_fn, is_fun}

pub closure_is : (t : Term) (γ : Env) → IsFunction t → IsClosure (function_of t γ)
closure_is _ γ is_fun = fun_closure
closure_is _ γ is_fn = fn_closure
