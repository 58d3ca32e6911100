use Rattle.std.proofs.Common.{◌≡◌, length, drop}
use Rattle.std.specs.Cmp.Lexicographic.{pointwise}
use Rattle.catalog_loading.specs.Fit.{same_column}
use Rattle.catalog_loading.proofs.fitting.are_same_columns.Given as goal

-- those so far are the same
abbrev pub invariant-loop-i : goal.invariant-loop-i
invariant-loop-i l = record {
  long : length l.first ≡ length l.second;
  left : pointwise same_column l.first l.second ≡ pointwise same_column (drop l.i l.first) (drop l.i l.second);
}
