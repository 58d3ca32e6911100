use Rattle.std.proofs.Common.{◌≡◌, ◌+◌, ◌*◌, ◌^◌, pos, neg_ℤ, ◌≤ℤ◌}
use Rattle.generated_run.proofs.Counts.{CountFor}
use Rattle.generated_run.proofs.counting.count_up.Given as goal

-- the first numbers are counted
abbrev pub invariant-loop-number : goal.invariant-loop-number
invariant-loop-number g l = record {
  counts : CountFor l.book.ledger.records l.number l.answered l.exhausted l.sum;
  few : l.answered + l.exhausted ≡ l.number;
  low : neg_ℤ (pos (2 ^ 63 * l.number)) ≤ℤ l.sum;
  high : l.sum ≤ℤ pos (2 ^ 63 * l.number);
}
