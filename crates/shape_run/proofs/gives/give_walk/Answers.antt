use Rattle.std.proofs.Common.{◌+◌, ◌≡◌, ◌∙◌, ap, arith, refl}
use Rattle.std.proofs.lemmas.Bool.{le-leb, lt-leb}
use Rattle.std.specs.Prelude.{false, max, nat_le, true}
use Rattle.shape_law.specs.Shapes.{height_of, walks_of}
use Rattle.shape_law.specs.Walk.{reach_limit, walks_at}
use Rattle.shape_run.proofs.Steps.{to}
use Rattle.shape_run.specs.Tells.{Tells, tally_of}
use Rattle.shape_run.proofs.gives.give_walk.Goals as goal

pub returns-then-reach-gt-REACH-clause-is : goal.returns-then-reach-gt-REACH-clause-is
returns-then-reach-gt-REACH-clause-is c = λ N p h.
    let high = c.height.ensures N p h in
    let deep = c.if-reach-gt-REACH.true in
    let sum = c.saturating_add-reach.ensures in
    let b : nat_le (c.args.here + height_of p) reach_limit ≡ false = lt-leb (c.args.here + height_of p) reach_limit (omega (arith, high, deep, sum)) in
    to (Tells N c.give_ground.new.store.cells.items c.give_ground.new.count c.give_ground.result) (walks_at c.args.here p (tally_of c.args.count.now)) _ (rw b refl) (c.give_ground.ensures.is N)

pub returns-clause-is : goal.returns-clause-is
returns-clause-is c = λ N p h.
    let inside = c.walks-inside.ensures N p h in
    let high = c.height.ensures N p h in
    let counted = c.in-Some.ensures {u = tt} in
    let low = c.if-reach-gt-REACH.false in
    let sum = c.saturating_add-reach.ensures in
    let w : c.in-Some.walks ≡ c.args.count.now.plan.walks + walks_of p + 1 = omega (arith, inside, counted.1) in
    let r : c.saturating_add-reach.result ≡ c.args.here + height_of p = omega (arith, high, low, sum) in
    let m : c.max-count.result ≡ max c.args.count.now.plan.reach (c.args.here + height_of p) = c.max-count.ensures ∙ ap (λ n. max c.args.count.now.plan.reach n) r in
    let b : nat_le (c.args.here + height_of p) reach_limit ≡ true = le-leb (c.args.here + height_of p) reach_limit (omega (arith, r, low)) in
    to (Tells N c.give_ground-2.new.store.cells.items c.give_ground-2.new.count c.give_ground-2.result) (walks_at c.args.here p (tally_of c.args.count.now)) _ (rw (b, w, m) refl) (c.give_ground-2.ensures.is N)
