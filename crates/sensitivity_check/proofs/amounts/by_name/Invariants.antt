use Rattle.std.proofs.Common.{◌≡◌, ◌<◌, drop, length}
use Rattle.fz_ast.specs.Signature.{IsSignature}
use Rattle.fz_ast.specs.Terms.{Name}
use Rattle.linear_types.specs.Environment.{amount_of}
use Rattle.linear_types.specs.Places.{distances}
use Rattle.linear_types.specs.Program.{sensitivity_to}
use Rattle.sensitivity_check.proofs.amounts.by_name.Given as goal

abbrev pub invariant-loop-i : goal.invariant-loop-i
invariant-loop-i l = record { signature : l.i < length l.sig → IsSignature l.sig; amounts : (x : Name) → amount_of l.env x ≡ sensitivity_to (drop l.i l.sig) (drop l.i (distances l.amounts)) x }
