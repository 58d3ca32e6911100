use Rattle.std.proofs.Common.{◌≡◌, ◌+◌, ◌-◌, ◌≤◌, ℕ, List, length, get_or, map, sym, ap, ◌∙◌, subst, arith, length-append}
use Rattle.std.specs.Prelude.{All}
use Rattle.std.proofs.lemmas.List.{length_push, length-map}
use Rattle.held_sessions.specs.SessionCore.Bundles.{Bundle, handed_on}
use Rattle.script_workers.specs.Crews.{needed}
use Rattle.script_workers.proofs.Shares.{two_needed, half_needed, shares_step, push_cases}
use Rattle.service_workers.proofs.Posted.{doors_step}
use Rattle.service_workers.proofs.crew.hire_all.Goals as goal

pub hire-requires-clause-shares : goal.hire-requires-clause-shares
hire-requires-clause-shares g c = two_needed (c.args.count - c.loop.counter) c.loop.passes.shares (omega (arith, c.loop-test.true)) c.loop.invariant.needs

pub hire-requires-clause-door : goal.hire-requires-clause-door
hire-requires-clause-door g c =
    let I = c.loop.invariant in
    omega (arith, c.loop-test.true, c.requires.doors, ap length I.doors, length-append (map (λ w. w.door) c.loop.crew.items) c.loop.doors.items, length-map c.loop.crew.items (λ w. w.door), I.len)

pub loop-preserved : goal.loop-preserved
loop-preserved g c =
    let I = c.loop.invariant in
    let worker = c.in_ok-hire.field-0 in
    let kept = c.in_ok-hire.ensures.kept in
    let given = c.in_ok-hire.ensures.passes in
    let more = c.push_reserved.ensures.items in
    record {
      len = omega (arith, ap length more, length_push c.loop.crew.items worker, I.len);
      room = omega (arith, c.push_reserved.ensures.capacity, I.room);
      kept = (ap (λ (b : Bundle). b.locks) kept ∙ I.kept.0, ap (λ (b : Bundle). b.knows) kept ∙ I.kept.1);
      needs = subst (λ (shares : List ℕ). All (λ s. needed (c.args.count - (c.loop.counter + 1)) ≤ s) shares) (sym (ap (λ (b : Bundle). b.shares) kept))
          (half_needed (c.args.count - c.loop.counter) (c.args.count - (c.loop.counter + 1)) c.loop.passes.shares (omega (arith, c.loop-test.true)) I.needs);
      hired = λ i d lt. push_cases (λ n w. (w.passes.locks ≡ c.args.passes.now.locks) × (w.passes.knows ≡ map handed_on c.args.passes.now.knows)) c.loop.crew.items _ worker d i more lt (I.hired i d)
          (ap (λ (b : Bundle). b.locks) given ∙ I.kept.0, ap (λ (b : Bundle). b.knows) given ∙ ap (map handed_on) I.kept.1);
      doors = doors_step (λ w. w.door) _ _ _ c.loop.crew.items _ worker I.doors c.in_ok-hire.ensures.door more;
      capacity = c.in_ok-hire.ensures.capacity ∙ I.capacity;
      shares = λ o. shares_step (λ w. get_or w.passes.shares o 0) o _ c.loop.crew.items _ worker c.loop.passes.shares _ more (ap (λ (b : Bundle). b.shares) kept)
          (ap (λ (b : Bundle). get_or b.shares o 0) given) (I.shares o);
    }
