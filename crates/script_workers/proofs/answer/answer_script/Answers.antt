use Rattle.std.proofs.Common.{rules, ◌≡◌, ◌+◌, ◌++◌, ◌<◌, ◌≤◌, ℕ, List, [], length, get_or, map, take, drop, take_at, sym, refl, ap, ◌∙◌, subst, arith}
use Rattle.std.specs.Prelude.{sum_by, vec_capacity}
use Rattle.session_core.specs.OwnerHouse.House.{house_of}
use Rattle.session_core.specs.OwnerDesk.Passes.{Pass}
use Rattle.session_core.specs.Blocks.{own_blocks, script_blocks}
use Rattle.session_core.specs.Bundles.{Bundle}
use Rattle.session_core.specs.Code.{pass_at, room_for_lines}
use Rattle.script_workers.specs.Texts.{KeepsTexts}
use Rattle.script_workers.specs.Crews.{HasDone, HasRoomFor, HasTakenAll}
use Rattle.script_workers.specs.Starts.{blocks_at}
use Rattle.script_workers.proofs.Brought.{answers, has_worked, sum_same}
use Rattle.script_workers.proofs.Back.{all_back, for_order, handed_passes, none_brought, owner_within, passes_back, same_locks, some_of, whole_enough}
use Rattle.script_workers.proofs.answer.answer_script.Goals as goal

pub hire_all-requires-clause-shares : goal.hire_all-requires-clause-shares
hire_all-requires-clause-shares g c = whole_enough c.args.workers c.args.passes.now.shares c.requires.workers.1 c.requires.shares

pub work-requires-clause-passes : goal.work-requires-clause-passes
work-requires-clause-passes g c κs within = λ i d lt.
    let value = c.deref_mut.ensures.value in
    handed_passes (house_of c.args.house.now) c.args.passes.now.knows _
    (ap (λ w. (get_or w i d).passes.knows) value ∙ (c.in-Ok.ensures.hired i d (omega (arith, lt, ap length value))).knows) c.requires.passes

pub work-requires-clause-room : goal.work-requires-clause-room
work-requires-clause-room g c κs within = λ i d lt.
    let script = script_blocks c.args.script.now in
    let crew = c.deref_mut.result.now in
    let value = c.deref_mut.ensures.value in
    let all : length crew ≡ c.args.workers = ap length value ∙ c.in-Ok.ensures.len in
    let are : blocks_at c.deref.result.now ≡ script = ap blocks_at c.deref.ensures.value ∙ c.in_ok-starts.ensures in
    subst (λ bs. HasRoomFor (length crew) i bs (get_or crew i d).texts) (sym are)
    (subst (λ (n : ℕ). HasRoomFor n i script (get_or crew i d).texts) (sym all)
    (subst (λ w. HasRoomFor c.args.workers i script (get_or w i d).texts) (sym value) (c.in-Ok.ensures.hired i d (omega (arith, lt, ap length value))).room))

pub put_in_order-requires-clause-room : goal.put_in_order-requires-clause-room
put_in_order-requires-clause-room g c =
    let room : (c.in_ok-out.out.items ≡ []) × (sum_by room_for_lines (script_blocks c.args.script.now) ≤ vec_capacity c.in_ok-out.out) = search rules in
    (room.0, subst (λ bs. sum_by room_for_lines bs ≤ vec_capacity c.in_ok-out.out) (sym (ap blocks_at c.deref-in-Ok.ensures.value ∙ c.in_ok-starts.ensures)) room.1)

pub put_in_order-requires-clause-texts : goal.put_in_order-requires-clause-texts
put_in_order-requires-clause-texts g c = λ i d lt.
    let crew = c.work.new.crew in
    let size : length crew ≡ c.hire_all.new.crew.len = search rules in
    let written : take c.hire_all.new.crew.len (crew ++ drop (length crew) c.hire_all.new.crew.items) ≡ crew = take_at crew (drop (length crew) c.hire_all.new.crew.items) c.hire_all.new.crew.len size in
    let seen = c.deref-in-Ok-2.ensures.value ∙ written in
    let same = ap blocks_at c.deref.ensures.value ∙ sym (ap blocks_at c.deref-in-Ok.ensures.value) in
    for_order (λ w. w.texts) (house_of c.args.house.now) (g.S.Streams.given c.args.streams.now) (blocks_at c.deref-in-Ok.result.now) _ _ _ crew i (length c.deref_mut.result.now) d seen c.work.ensures.len
    (subst (λ bs. HasDone (house_of c.args.house.now) (g.S.Streams.given c.args.streams.now) (length c.deref_mut.result.now) i bs (get_or c.deref_mut.result.now i d).passes (get_or crew i d).passes (get_or crew i d).texts) same
    (c.work.ensures.done i d (omega (arith, lt, ap length seen, c.work.ensures.len))))

pub bring_in-requires-clause-all : goal.bring_in-requires-clause-all
bring_in-requires-clause-all g c = λ i d lt.
    let crew = c.work.new.crew in
    let size : length crew ≡ c.hire_all.new.crew.len = search rules in
    let written : take c.hire_all.new.crew.len (crew ++ drop (length crew) c.hire_all.new.crew.items) ≡ crew = take_at crew (drop (length crew) c.hire_all.new.crew.items) c.hire_all.new.crew.len size in
    let value = c.deref_mut.ensures.value in
    let within : i < length c.deref_mut.result.now = omega (arith, lt, ap length written, c.work.ensures.len) in
    same_locks (λ w. w.passes) _ crew c.deref_mut.result.now c.hire_all.new.crew.items i d _ _ c.args.passes.now written refl refl
    (ap (λ (b : Bundle). b.locks) (c.work.ensures.done i d within).stays) value (c.in-Ok.ensures.hired i d (omega (arith, within, ap length value))).locks
    ∙ c.requires.here

pub returns-in-Ok-clause-worked : goal.returns-in-Ok-clause-worked
returns-in-Ok-clause-worked g c =
    let house = house_of c.args.house.now in
    let draws = g.S.Streams.given c.args.streams.now in
    let count = c.args.workers in
    let script = c.args.script.now in
    let main = c.args.passes.now in
    let crew = c.work.new.crew in
    let size : length crew ≡ c.hire_all.new.crew.len = search rules in
    let written : take c.hire_all.new.crew.len (crew ++ drop (length crew) c.hire_all.new.crew.items) ≡ crew = take_at crew (drop (length crew) c.hire_all.new.crew.items) c.hire_all.new.crew.len size in
    let value = c.deref_mut.ensures.value in
    let seen = c.deref-in-Ok-2.ensures.value ∙ written in
    let all : length c.deref_mut.result.now ≡ count = ap length value ∙ c.in-Ok.ensures.len in
    let many : length crew ≡ count = c.work.ensures.len ∙ all in
    let d = some_of crew (omega (arith, many, c.requires.workers.0)) in
    let order = c.put_in_order.ensures.order in
    let are = ap blocks_at c.deref.ensures.value ∙ c.in_ok-starts.ensures in
    let kept = ap blocks_at c.deref-in-Ok.ensures.value ∙ c.in_ok-starts.ensures in
    let long : length main.knows ≡ length c.args.desks.now = c.len-owners.ensures.each_has.1 ∙ ap length c.requires.here in
    has_worked (λ w. w.passes) (λ w. w.texts) house draws count script c.requires.workers.0 main c.bring_in.new.passes crew d many
    (λ i lt.
    let within : i < length c.deref_mut.result.now = omega (arith, lt, all) in
    answers house draws count script main _ i _ _ _ (c.in-Ok.ensures.hired i d (omega (arith, within, ap length value)))
    (subst (λ w. HasDone house draws count i (script_blocks script) (get_or w i d).passes (get_or crew i d).passes (get_or crew i d).texts) value
    (subst (λ (n : ℕ). HasDone house draws n i (script_blocks script) (get_or c.deref_mut.result.now i d).passes (get_or crew i d).passes (get_or crew i d).texts) all
    (subst (λ bs. HasDone house draws (length c.deref_mut.result.now) i bs (get_or c.deref_mut.result.now i d).passes (get_or crew i d).passes (get_or crew i d).texts) are (c.work.ensures.done i d within)))))
    order.0 (order.1 ∙ ap length kept)
    (λ i lt. subst (λ (n : ℕ). KeepsTexts (get_or crew i d).texts (own_blocks n i 0 order.0)) many
    (subst (λ w. KeepsTexts (get_or w i d).texts (own_blocks (length w) i 0 order.0)) seen (order.3 i d (omega (arith, lt, ap length seen, many)))))
    c.put_in_order.new.out.items order.2 (c.bring_in.ensures.len.1 ∙ sym long)
    (λ o owner at. (
      ap (λ (p : Pass). p.own) (c.requires.fresh o owner at),
      subst (λ w. HasTakenAll (pass_at main.knows o) (map (λ x. pass_at x.passes.knows o) w) (pass_at c.bring_in.new.passes.knows o)) written
          (subst (λ (ks : List Pass). HasTakenAll (pass_at ks o) (map (λ x. pass_at x.passes.knows o) (take c.hire_all.new.crew.len (crew ++ drop (length crew) c.hire_all.new.crew.items)))
          (pass_at c.bring_in.new.passes.knows o)) c.in-Ok.ensures.kept.1
          (c.bring_in.ensures.taken o (owner_within house main.knows (length c.args.desks.now) o owner c.requires.passes long at))),
    ))

pub returns-in-Ok-clause-passes : goal.returns-in-Ok-clause-passes
returns-in-Ok-clause-passes g c =
    passes_back (house_of c.args.house.now) c.args.passes.now.knows c.hire_all.new.passes.knows _ (length c.args.desks.now) c.requires.passes c.in-Ok.ensures.kept.1
    (c.len-owners.ensures.each_has.1 ∙ ap length c.requires.here) c.bring_in.ensures.len.1 (λ o lt. (c.bring_in.ensures.taken o lt).opened)

pub returns-in-Err-clause-passes : goal.returns-in-Err-clause-passes
returns-in-Err-clause-passes g c =
    passes_back (house_of c.args.house.now) c.args.passes.now.knows c.hire_all.new.passes.knows _ (length c.args.desks.now) c.requires.passes c.in-Err.ensures.kept.1
    (c.len-owners.ensures.each_has.1 ∙ ap length c.requires.here) c.bring_in-in-Err.ensures.len.1 (λ o lt. (c.bring_in-in-Err.ensures.taken o lt).opened)

pub returns-in-Ok-clause-back : goal.returns-in-Ok-clause-back
returns-in-Ok-clause-back g c =
    let crew = c.work.new.crew in
    let first = c.deref_mut.result.now in
    let size : length crew ≡ c.hire_all.new.crew.len = search rules in
    let written : take c.hire_all.new.crew.len (crew ++ drop (length crew) c.hire_all.new.crew.items) ≡ crew = take_at crew (drop (length crew) c.hire_all.new.crew.items) c.hire_all.new.crew.len size in (
      c.bring_in.ensures.locks ∙ c.in-Ok.ensures.kept.0,
      all_back c.args.passes.now.shares c.hire_all.new.passes.shares c.bring_in.new.passes.shares (length c.args.desks.now) _ _ c.requires.shares (c.len-owners.ensures.each_has.0 ∙ ap length c.requires.here)
          c.bring_in.ensures.len.0 c.in-Ok.ensures.shares c.bring_in.ensures.shares
          (λ o. ap (sum_by (λ w. get_or w.passes.shares o 0)) written
          ∙ sum_same (λ w. get_or w.passes.shares o 0) first crew c.work.ensures.len (λ i d lt. ap (λ (b : Bundle). get_or b.shares o 0) (c.work.ensures.done i d lt).stays)
          ∙ ap (sum_by (λ w. get_or w.passes.shares o 0)) c.deref_mut.ensures.value),
    )

pub returns-in-Err-clause-back : goal.returns-in-Err-clause-back
returns-in-Err-clause-back g c = (
  c.bring_in-in-Err.ensures.locks ∙ c.in-Err.ensures.kept.0,
  all_back c.args.passes.now.shares c.hire_all.new.passes.shares c.bring_in-in-Err.new.passes.shares (length c.args.desks.now) _ _ c.requires.shares
      (c.len-owners.ensures.each_has.0 ∙ ap length c.requires.here) c.bring_in-in-Err.ensures.len.0 c.in-Err.ensures.shares c.bring_in-in-Err.ensures.shares (λ o. refl),
)

pub returns-in-Err-clause-refused : goal.returns-in-Err-clause-refused
returns-in-Err-clause-refused g c = λ o owner at.
    let main = c.args.passes.now in
    let kept = c.in-Err.ensures.kept.1 in
    let fresh = c.requires.fresh o owner at in
    let within = owner_within (house_of c.args.house.now) main.knows (length c.args.desks.now) o owner c.requires.passes (c.len-owners.ensures.each_has.1 ∙ ap length c.requires.here) at in
    let taken = c.bring_in-in-Err.ensures.taken o within in
    let same = ap (λ (ks : List Pass). pass_at ks o) kept in
    let none = none_brought (λ w. w.passes) c.hire_all.new.crew.items main.knows o (pass_at c.hire_all.new.passes.knows o) (pass_at c.bring_in-in-Err.new.passes.knows o)
    (ap (λ (p : Pass). p.own) (same ∙ fresh)) (ap (λ (p : Pass). p.faults) (same ∙ fresh)) (λ i d lt. (c.in-Err.ensures.hired i d lt).knows) taken in
    (taken.opened ∙ ap (λ (p : Pass). p.opened) same, none.0, none.1)
