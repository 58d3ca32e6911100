use Rattle.std.proofs.Common.{◌≡◌, ◌++◌, ◌+◌, ◌<◌, List, length, get_or, map, sym, refl, ap, ◌∙◌, subst, arith}
use Rattle.std.specs.Prelude.{sum_by}
use Rattle.word_streams.specs.Draws.{draws_of}
use Rattle.owner_house.specs.House.{house_of}
use Rattle.owner_desk.specs.Passes.{Pass}
use Rattle.held_sessions.specs.SessionCore.Bundles.{Bundle}
use Rattle.held_sessions.specs.SessionCore.Code.{pass_at}
use Rattle.script_workers.specs.Crews.{HasTakenAll}
use Rattle.script_workers.proofs.Brought.{sum_same}
use Rattle.script_workers.proofs.Back.{all_back, handed_passes, none_brought, owner_within, passes_back, some_of, whole_enough}
use Rattle.service_workers.proofs.Posted.{as_many, others_left, posted_there, room_for, shown_by}
use Rattle.service_workers.proofs.Joined.{all_served, attended_at}
use Rattle.service_workers.proofs.service.serve_all.Goals as goal

pub hire_all-requires-clause-shares : goal.hire_all-requires-clause-shares
hire_all-requires-clause-shares g c = whole_enough c.args.workers c.args.passes.now.shares c.requires.workers.1 c.requires.shares

pub work-requires-clause-passes : goal.work-requires-clause-passes
work-requires-clause-passes g c κs within = λ i d lt.
    handed_passes (house_of c.args.house.now) c.args.passes.now.knows _ (c.in-Ok.ensures.hired i d lt).1 c.requires.passes

pub bring_in-requires-clause-all : goal.bring_in-requires-clause-all
bring_in-requires-clause-all g c = λ i d lt.
    let within : i < length c.hire_all.new.crew.items = omega (arith, lt, c.in-Ok-work.ensures.len) in
    ap (λ (b : Bundle). b.locks) (c.in-Ok-work.ensures.kept i d within) ∙ (c.in-Ok.ensures.hired i d within).0 ∙ c.requires.here

pub bring_in-requires-clause-room : goal.bring_in-requires-clause-room
bring_in-requires-clause-room g c =
    omega (
      arith,
      c.in-Ok-work.ensures.len,
      room_for (λ w. w.door) (shown_by g.O.Doors.coming g.O.Doors.served g.O.Doors.faults) _ _ c.hire_all.new.crew.items c.args.doors.now.cap c.in-Ok.ensures.doors
          (omega (arith, c.args.doors.now.ok.0, c.args.doors.now.ok.1)),
      c.in-Ok.ensures.capacity,
    )

pub bring_in-requires-in-Err-work-clause-all : goal.bring_in-requires-in-Err-work-clause-all
bring_in-requires-in-Err-work-clause-all g c = λ i d lt.
    let same = c.in-Err-work.ensures.refused in
    ap (λ ws. (get_or ws i d).passes.locks) same ∙ (c.in-Ok.ensures.hired i d (omega (arith, lt, ap length same))).0 ∙ c.requires.here

pub bring_in-requires-in-Err-work-clause-room : goal.bring_in-requires-in-Err-work-clause-room
bring_in-requires-in-Err-work-clause-room g c =
    omega (
      arith,
      ap length c.in-Err-work.ensures.refused,
      room_for (λ w. w.door) (shown_by g.O.Doors.coming g.O.Doors.served g.O.Doors.faults) _ _ c.hire_all.new.crew.items c.args.doors.now.cap c.in-Ok.ensures.doors
          (omega (arith, c.args.doors.now.ok.0, c.args.doors.now.ok.1)),
      c.in-Ok.ensures.capacity,
    )

pub bring_in-requires-in-Err-clause-room : goal.bring_in-requires-in-Err-clause-room
bring_in-requires-in-Err-clause-room g c =
    omega (
      arith,
      room_for (λ w. w.door) (shown_by g.O.Doors.coming g.O.Doors.served g.O.Doors.faults) _ _ c.hire_all.new.crew.items c.args.doors.now.cap c.in-Err.ensures.doors
          (omega (arith, c.args.doors.now.ok.0, c.args.doors.now.ok.1)),
      c.in-Err.ensures.capacity,
    )

pub returns-in-Ok-work-clause-service : goal.returns-in-Ok-work-clause-service
returns-in-Ok-work-clause-service g c =
    let house = house_of c.args.house.now in
    let draws = draws_of c.args.streams.now in
    let count = c.args.workers in
    let each = c.args.posting.now.each in
    let main = c.args.passes.now in
    let first = c.hire_all.new.crew.items in
    let crew = c.in-Ok-work.crew.items in
    let rest = c.hire_all.new.doors.items in
    let all : length first ≡ count = c.in-Ok.ensures.len in
    let many : length crew ≡ count = c.in-Ok-work.ensures.len ∙ all in
    let d = some_of crew (omega (arith, many, c.requires.workers.0)) in
    let show = shown_by g.O.Doors.coming g.O.Doors.served g.O.Doors.faults in
    let before = c.in-Ok.ensures.doors in
    let after = c.bring_in.ensures.doors in
    let long : length main.knows ≡ length c.args.desks.now = c.len-owners.ensures.each_has.1 ∙ ap length c.requires.here in
    all_served (λ w. w.passes) (λ w. w.end) house draws count each c.requires.workers.0 main c.bring_in.new.passes crew d many
    (map show c.args.doors.now.items) (map show c.bring_in.new.doors.items)
    (λ i lt.
    let within : i < length first = omega (arith, lt, all) in
    attended_at (λ w. w.passes) (λ w. w.end) (λ w. w.door) show house draws each main.knows c.args.doors.now.items c.bring_in.new.doors.items rest first crew i d before after within (omega (arith, lt, many))
    (c.in-Ok.ensures.hired i d within).1 (c.in-Ok-work.ensures.attended i d within))
    c.bring_in.result c.bring_in.ensures.end (c.bring_in.ensures.len.1 ∙ sym long)
    (omega (arith, all, many, as_many (λ w. w.door) show _ rest crew after, as_many (λ w. w.door) show _ rest first before))
    (others_left (λ w. w.door) show _ rest crew count after many ∙ sym (others_left (λ w. w.door) show _ rest first count before all))
    (λ o owner at. (
      ap (λ (p : Pass). p.own) (c.requires.fresh o owner at),
      subst (λ (ks : List Pass). HasTakenAll (pass_at ks o) (map (λ x. pass_at x.passes.knows o) crew) (pass_at c.bring_in.new.passes.knows o)) c.in-Ok.ensures.kept.1
          (c.bring_in.ensures.taken o (owner_within house main.knows (length c.args.desks.now) o owner c.requires.passes long at)),
    ))

pub returns-in-Ok-work-clause-posted : goal.returns-in-Ok-work-clause-posted
returns-in-Ok-work-clause-posted g c = λ i d lt.
    let first = c.hire_all.new.crew.items in
    let crew = c.in-Ok-work.crew.items in
    let early : i < length first = omega (arith, lt, c.in-Ok.ensures.len) in
    let late : i < length crew = omega (arith, early, c.in-Ok-work.ensures.len) in
    let w = some_of crew (omega (arith, late)) in
    posted_there (λ v. v.door) g.O.Doors.listens g.O.Doors.faults c.args.posting.now.addr.now (c.args.posting.now.port + i) c.args.doors.now.items
    c.bring_in.new.doors.items c.hire_all.new.doors.items first crew i w d c.in-Ok.ensures.doors c.bring_in.ensures.doors early late
    (c.in-Ok-work.ensures.posted i w early)

pub returns-in-Ok-work-clause-passes : goal.returns-in-Ok-work-clause-passes
returns-in-Ok-work-clause-passes g c =
    passes_back (house_of c.args.house.now) c.args.passes.now.knows c.hire_all.new.passes.knows _ (length c.args.desks.now) c.requires.passes c.in-Ok.ensures.kept.1
    (c.len-owners.ensures.each_has.1 ∙ ap length c.requires.here) c.bring_in.ensures.len.1 (λ o lt. (c.bring_in.ensures.taken o lt).opened)

pub returns-in-Err-work-clause-passes : goal.returns-in-Err-work-clause-passes
returns-in-Err-work-clause-passes g c =
    passes_back (house_of c.args.house.now) c.args.passes.now.knows c.hire_all.new.passes.knows _ (length c.args.desks.now) c.requires.passes c.in-Ok.ensures.kept.1
    (c.len-owners.ensures.each_has.1 ∙ ap length c.requires.here) c.bring_in-in-Err-work.ensures.len.1 (λ o lt. (c.bring_in-in-Err-work.ensures.taken o lt).opened)

pub returns-in-Err-clause-passes : goal.returns-in-Err-clause-passes
returns-in-Err-clause-passes g c =
    passes_back (house_of c.args.house.now) c.args.passes.now.knows c.hire_all.new.passes.knows _ (length c.args.desks.now) c.requires.passes c.in-Err.ensures.kept.1
    (c.len-owners.ensures.each_has.1 ∙ ap length c.requires.here) c.bring_in-in-Err.ensures.len.1 (λ o lt. (c.bring_in-in-Err.ensures.taken o lt).opened)

pub returns-in-Ok-work-clause-back : goal.returns-in-Ok-work-clause-back
returns-in-Ok-work-clause-back g c =
    let first = c.hire_all.new.crew.items in (
      c.bring_in.ensures.locks ∙ c.in-Ok.ensures.kept.0,
      all_back c.args.passes.now.shares c.hire_all.new.passes.shares c.bring_in.new.passes.shares (length c.args.desks.now) _ _ c.requires.shares (c.len-owners.ensures.each_has.0 ∙ ap length c.requires.here)
          c.bring_in.ensures.len.0 c.in-Ok.ensures.shares c.bring_in.ensures.shares
          (λ o. sum_same (λ w. get_or w.passes.shares o 0) first c.in-Ok-work.crew.items c.in-Ok-work.ensures.len (λ i d lt. ap (λ (b : Bundle). get_or b.shares o 0) (c.in-Ok-work.ensures.kept i d lt))),
    )

pub returns-in-Err-work-clause-back : goal.returns-in-Err-work-clause-back
returns-in-Err-work-clause-back g c = (
  c.bring_in-in-Err-work.ensures.locks ∙ c.in-Ok.ensures.kept.0,
  all_back c.args.passes.now.shares c.hire_all.new.passes.shares c.bring_in-in-Err-work.new.passes.shares (length c.args.desks.now) _ _ c.requires.shares
      (c.len-owners.ensures.each_has.0 ∙ ap length c.requires.here) c.bring_in-in-Err-work.ensures.len.0 c.in-Ok.ensures.shares c.bring_in-in-Err-work.ensures.shares
      (λ o. ap (sum_by (λ w. get_or w.passes.shares o 0)) c.in-Err-work.ensures.refused),
)

pub returns-in-Err-clause-back : goal.returns-in-Err-clause-back
returns-in-Err-clause-back g c = (
  c.bring_in-in-Err.ensures.locks ∙ c.in-Err.ensures.kept.0,
  all_back c.args.passes.now.shares c.hire_all.new.passes.shares c.bring_in-in-Err.new.passes.shares (length c.args.desks.now) _ _ c.requires.shares
      (c.len-owners.ensures.each_has.0 ∙ ap length c.requires.here) c.bring_in-in-Err.ensures.len.0 c.in-Err.ensures.shares c.bring_in-in-Err.ensures.shares (λ o. refl),
)

pub returns-in-Err-clause-refused : goal.returns-in-Err-clause-refused
returns-in-Err-clause-refused g c = λ o owner at.
    let main = c.args.passes.now in
    let kept = c.in-Err.ensures.kept.1 in
    let fresh = c.requires.fresh o owner at in
    let within = owner_within (house_of c.args.house.now) main.knows (length c.args.desks.now) o owner c.requires.passes (c.len-owners.ensures.each_has.1 ∙ ap length c.requires.here) at in
    let taken = c.bring_in-in-Err.ensures.taken o within in
    let same = ap (λ (ks : List Pass). pass_at ks o) kept in
    let none = none_brought (λ w. w.passes) c.hire_all.new.crew.items main.knows o (pass_at c.hire_all.new.passes.knows o) (pass_at c.bring_in-in-Err.new.passes.knows o)
    (ap (λ (p : Pass). p.own) (same ∙ fresh)) (ap (λ (p : Pass). p.faults) (same ∙ fresh)) (λ i d lt. (c.in-Err.ensures.hired i d lt).1) taken in
    (taken.opened ∙ ap (λ (p : Pass). p.opened) same, none.0, none.1)

pub returns-in-Err-clause-untouched : goal.returns-in-Err-clause-untouched
returns-in-Err-clause-untouched g c = c.bring_in-in-Err.ensures.doors ∙ sym c.in-Err.ensures.doors

pub returns-in-Err-work-clause-refused : goal.returns-in-Err-work-clause-refused
returns-in-Err-work-clause-refused g c = λ o owner at.
    let main = c.args.passes.now in
    let idle = c.in-Err-work.idle.crew.items in
    let same = c.in-Err-work.ensures.refused in
    let kept = c.in-Ok.ensures.kept.1 in
    let fresh = c.requires.fresh o owner at in
    let within = owner_within (house_of c.args.house.now) main.knows (length c.args.desks.now) o owner c.requires.passes (c.len-owners.ensures.each_has.1 ∙ ap length c.requires.here) at in
    let taken = c.bring_in-in-Err-work.ensures.taken o within in
    let seen = ap (λ (ks : List Pass). pass_at ks o) kept in
    let none = none_brought (λ w. w.passes) idle main.knows o (pass_at c.hire_all.new.passes.knows o) (pass_at c.bring_in-in-Err-work.new.passes.knows o)
    (ap (λ (p : Pass). p.own) (seen ∙ fresh)) (ap (λ (p : Pass). p.faults) (seen ∙ fresh))
    (λ i d lt. ap (λ ws. (get_or ws i d).passes.knows) same ∙ (c.in-Ok.ensures.hired i d (omega (arith, lt, ap length same))).1) taken in
    (taken.opened ∙ ap (λ (p : Pass). p.opened) seen, none.0, none.1)

pub returns-in-Err-work-clause-untouched : goal.returns-in-Err-work-clause-untouched
returns-in-Err-work-clause-untouched g c =
    c.bring_in-in-Err-work.ensures.doors ∙ ap (λ ws. map (λ w. w.door) ws ++ c.hire_all.new.doors.items) c.in-Err-work.ensures.refused ∙ sym c.in-Ok.ensures.doors
