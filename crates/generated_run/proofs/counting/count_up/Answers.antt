use Rattle.std.proofs.Common.{◌≡◌, arith, to_z}
use Rattle.std.specs.Int.{w128}
use Rattle.std.specs.Prelude.{◌+ℤ◌}
use Rattle.std.proofs.lemmas.Int.{ints}
use Rattle.generated_run.proofs.Counts.{answered_more, exhausted_more, none_counted}
use Rattle.generated_run.proofs.counting.count_up.Goals as goal
use Rattle.generated_run.proofs.counting.count_up.Goals.{in-Some, in-None}

pub loop-number-init : goal.loop-number-init
loop-number-init g c = record { counts = none_counted c.args.book.now.ledger.records; few = omega arith; low = omega (arith, ints); high = omega (arith, ints) }

pub loop-number-preserved : goal.loop-number-preserved
loop-number-preserved g c = elim c.match-branch-2.branch [
  | in-Some w ↦
      let sum_is : to_z w128 c.match-branch-2.sum-bits ≡ to_z w128 c.loop-number.sum-bits +ℤ w.in-Some.answer = omega (arith, ints) in
      record {
        counts = answered_more c.args.book.now.ledger.records c.loop-number.number _ _ _ c.in_ok-answer.field-0 w.in-Some.answer _ _ _ c.loop-number.invariant.counts c.in_ok-answer.ensures w.in-Some.is
            w.answered-is w.exhausted-is sum_is;
        few = omega (arith, w.answered-is, w.exhausted-is);
        low = omega (arith, ints);
        high = omega (arith, ints);
      }
  | in-None w ↦ record {
    counts = exhausted_more c.args.book.now.ledger.records c.loop-number.number _ _ _ c.in_ok-answer.field-0 _ _ _ c.loop-number.invariant.counts c.in_ok-answer.ensures w.in-None.is
        w.answered-is w.exhausted-is w.sum-is;
    few = omega (arith, w.answered-is, w.exhausted-is);
    low = omega (arith, ints);
    high = omega (arith, ints);
  }
]
