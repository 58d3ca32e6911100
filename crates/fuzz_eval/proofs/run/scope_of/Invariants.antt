use Rattle.std.proofs.Common.{drop, length, ◌<◌, ◌≡◌, ◌≤◌}
use Rattle.fz_ast.specs.Signature.{IsSignature}
use Rattle.metric_values.specs.Tables.{rows_of}
use Rattle.fuzz_eval.proofs.run.scope_of.Given as goal

abbrev pub invariant-loop-i : goal.invariant-loop-i
invariant-loop-i l = record {
  below : l.i ≤ length l.sig;
  bound : l.scope.means ≡ rows_of (drop l.i l.sig) (drop l.i l.tables);
  signature : l.i < length l.sig → IsSignature l.sig;
}

abbrev pub decreases-loop-i : goal.decreases-loop-i
decreases-loop-i l = l.i
