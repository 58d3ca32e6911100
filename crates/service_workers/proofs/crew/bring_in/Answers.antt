use Rattle.std.proofs.Common.{◌≡◌, length, get_or, sym, ap, ◌∙◌, arith}
use Rattle.std.proofs.lemmas.List.{length_push}
use Rattle.held_sessions.specs.SessionCore.Code.{pass_at}
use Rattle.script_workers.proofs.Taking.{popped, shares_taken, taken_next}
use Rattle.service_workers.proofs.Posted.{doors_back, worst_step}
use Rattle.service_workers.proofs.crew.bring_in.Goals as goal

pub join-requires : goal.join-requires
join-requires g c =
    let I = c.loop-worker.invariant in
    let rest = c.pop.new.self.items in
    let worker = c.in-Some.worker in
    let p = popped c.args.crew.items c.loop-worker.workers.items rest worker I.front c.in-Some.ensures.items in
    record { here = (I.locks ∙ c.requires.here, ap (λ w. w.passes.locks) (sym p.there) ∙ c.requires.all (length rest) worker p.within) }

pub put_first-requires : goal.put_first-requires
put_first-requires g c =
    let I = c.loop-worker.invariant in
    omega (arith, I.room, ap length c.in-Some.ensures.items, length_push c.pop.new.self.items c.in-Some.worker)

pub loop-worker-preserved : goal.loop-worker-preserved
loop-worker-preserved g c =
    let I = c.loop-worker.invariant in
    let worker = c.in-Some.worker in
    let one = c.join.ensures.taken in
    let p = popped c.args.crew.items c.loop-worker.workers.items c.pop.new.self.items worker I.front c.in-Some.ensures.items in
    let all : length c.loop-worker.passes.locks ≡ length c.args.desks.now = ap length (I.locks ∙ c.requires.here) in
    record {
      locks = one.locks ∙ I.locks;
      front = p.front;
      shares = λ o. shares_taken (λ w. get_or w.passes.shares o 0) _ _ _ _ _ worker p.later (one.shares o) (I.shares o);
      taken = λ o lt. taken_next (λ w. pass_at w.passes.knows o) _ _ _ _ _ worker p.later (I.taken o lt) (one.passes o (omega (arith, all, lt)));
      doors = doors_back (λ w. w.door) _ _ _ _ _ worker p.later c.put_first.ensures.items I.doors;
      room = omega (arith, I.room, ap length c.in-Some.ensures.items, length_push c.pop.new.self.items worker, ap length c.put_first.ensures.items, c.put_first.ensures.capacity);
      end = worst_step (λ w. w.end) _ _ _ _ worker p.later c.worse-end.ensures I.end;
    }
