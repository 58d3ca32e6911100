use Rattle.std.proofs.Common.{◌≡◌, ap, arith, get_or, length, refl, rules, ◌∙◌}
use Rattle.std.specs.Prelude.{false, ◌&&◌}
use Rattle.std.proofs.lemmas.List.{length-replicate, with_items_is}
use Rattle.std.specs.Vec.{with_items}
use Rattle.flow_values.specs.Computed.{agree}
use Rattle.flow_values.specs.Views.{step_of}
use Rattle.row_kernels.specs.Flows.{AreImaged}
use Rattle.row_kernels.specs.Lanes.{lane_at}
use Rattle.row_kernels.proofs.Passing.{judged}
use Rattle.row_kernels.proofs.flows.judged.Goals as goal

pub stage_lanes-requires-clause-long : goal.stage_lanes-requires-clause-long
stage_lanes-requires-clause-long c = c.in_ok-again.ensures.long c.args.len c.requires.long.lanes

pub returns : goal.returns
returns c =
    let s = step_of c.args.stage.now in
    let p = c.args.passed in
    let n = c.args.len in
    let told : AreImaged s.function n c.in_ok-again.again c.in-Some.told = search rules in
    let t = c.in_ok-there.there in
    let out = c.keep_both.new.out in
    let size : length c.deref_mut.result.now ≡ n = ap length (c.deref_mut.ensures.value ∙ c.in_ok-there.ensures) ∙ length-replicate n false in
    let long : length out ≡ n = c.keep_both.ensures.len ∙ size in
    let kept : (with_items t out).items ≡ out = with_items_is t out (omega (arith, long, ap length c.in_ok-there.ensures, length-replicate n false, t.ok.0)) in
    let heard : c.deref-4.result.now ≡ c.in-Truth.told.value.items = c.deref-4.ensures.value ∙ ap (λ v. v.items) c.deref-3.ensures in
    judged s n c.args.keep p (record { lanes = p.lanes; there = with_items t out }) c.requires.long c.in_ok-again.again c.in-Some.told c.in-Truth.told.value.items
    c.in_ok-again.ensures.each told (λ j. ap (λ l. lane_at l j) c.in-Truth.is) refl (ap length kept ∙ long)
    (λ j lt.
    ap (λ bs. get_or bs j false) kept ∙ c.keep_both.ensures.each j (omega (arith, lt, size))
    ∙ (λ i. get_or (c.deref-2.ensures.value i) j false && agree c.args.keep (get_or (heard i) j false)))
