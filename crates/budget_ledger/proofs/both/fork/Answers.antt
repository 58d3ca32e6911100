use Rattle.std.proofs.Common.{◌≡◌, ◌<◌, ◌≤◌, Bool, true, false, length, min, subst, refl}
use Rattle.budget_ledger.proofs.BothJoins.{alike_along, alike_more, fork_at}
use Rattle.budget_ledger.proofs.both.fork.Goals as goal

not_both_tests : (b : Bool) → b ≡ true → b ≡ false → ⊥
not_both_tests b is_true is_false = cc

pub loop-slot-init : goal.loop-slot-init
loop-slot-init c = refl

pub loop-slot-preserved : goal.loop-slot-preserved
loop-slot-preserved c =
    let low : c.loop-slot.slot < min (length c.args.records.now) (length c.args.others.now) = subst (λ n. c.loop-slot.slot < n) c.min-slot-end.ensures c.loop-slot-test.true in
    alike_more c.args.records.now c.args.others.now c.loop-slot.slot _ _ c.loop-slot.invariant low (c.are_same.ensures.0 c.if-not-are_same.false)

pub returns-then-not-are_same-clause-forked : goal.returns-then-not-are_same-clause-forked
returns-then-not-are_same-clause-forked c =
    let low : c.loop-slot.slot < min (length c.args.records.now) (length c.args.others.now) = subst (λ n. c.loop-slot.slot < n) c.min-slot-end.ensures c.loop-slot-test.true in
    fork_at c.args.records.now c.args.others.now c.loop-slot.slot _ _ c.loop-slot.invariant low
    (λ is. not_both_tests c.are_same.result (c.are_same.ensures.1 is) c.if-not-are_same.true)

pub returns-clause-along : goal.returns-clause-along
returns-clause-along c = alike_along c.args.records.now c.args.others.now c.loop-slot.slot
    (subst (λ n. n ≤ c.loop-slot.slot) c.min-slot-end.ensures c.loop-slot-test.false) c.loop-slot.invariant
