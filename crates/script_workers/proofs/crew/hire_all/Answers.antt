use Rattle.std.proofs.Common.{◌≡◌, ◌+◌, ◌-◌, ◌<◌, ◌≤◌, ℕ, List, length, get_or, map, sym, ap, ◌∙◌, subst, arith}
use Rattle.std.specs.Prelude.{All}
use Rattle.std.proofs.lemmas.List.{length_push}
use Rattle.session_core.specs.Blocks.{script_blocks}
use Rattle.session_core.specs.Bundles.{Bundle, handed_on}
use Rattle.script_workers.specs.Crews.{IsHired, needed}
use Rattle.script_workers.proofs.Shares.{two_needed, half_needed, shares_step, push_cases}
use Rattle.script_workers.proofs.crew.hire_all.Goals as goal

pub hire-requires-clause-shares : goal.hire-requires-clause-shares
hire-requires-clause-shares g c = two_needed (c.args.count - c.loop-index.index) c.loop-index.passes.shares (omega (arith, c.loop-index-test.true)) c.loop-index.invariant.needs

pub loop-index-preserved : goal.loop-index-preserved
loop-index-preserved g c =
    let I = c.loop-index.invariant in
    let worker = c.in_ok-hire.field-0 in
    let kept = c.in_ok-hire.ensures.kept in
    let within : c.loop-index.index < c.args.count = omega (arith, c.loop-index-test.true) in
    let asked = c.in_ok-hire.ensures.hired c.args.count c.loop-index.index (script_blocks c.args.script.now) (c.needs_of_all-needs.ensures c.loop-index.index _ within) in
    let more = c.push_reserved.ensures.items in
    record {
      len = omega (arith, ap length more, length_push c.loop-index.crew.items worker, I.len);
      room = omega (arith, c.push_reserved.ensures.capacity, I.room);
      kept = (ap (λ (b : Bundle). b.locks) kept ∙ I.kept.0, ap (λ (b : Bundle). b.knows) kept ∙ I.kept.1);
      needs = subst (λ (shares : List ℕ). All (λ s. needed (c.args.count - (c.loop-index.index + 1)) ≤ s) shares) (sym (ap (λ (b : Bundle). b.shares) kept))
          (half_needed (c.args.count - c.loop-index.index) (c.args.count - (c.loop-index.index + 1)) c.loop-index.passes.shares (omega (arith, c.loop-index-test.true)) I.needs);
      hired = λ i d lt. push_cases (λ n w. IsHired c.args.count n (script_blocks c.args.script.now) c.args.passes.now w.passes w.texts) c.loop-index.crew.items _ worker d i more lt (I.hired i d)
          (subst (λ (n : ℕ). IsHired c.args.count n (script_blocks c.args.script.now) c.args.passes.now worker.passes worker.texts) (sym I.len)
          (record { locks = asked.locks ∙ I.kept.0; knows = asked.knows ∙ ap (map handed_on) I.kept.1; room = asked.room }));
      shares = λ o. shares_step (λ w. get_or w.passes.shares o 0) o _ c.loop-index.crew.items _ worker c.loop-index.passes.shares _ more (ap (λ (b : Bundle). b.shares) kept)
          (ap (λ (shares : List ℕ). get_or shares o 0) c.in_ok-hire.ensures.shares) (I.shares o);
    }
