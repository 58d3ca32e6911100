use Rattle.std.proofs.Common.{◌≡◌, ◌≤◌, length, take, ap, ◌∙◌, arith, rules}
use Rattle.std.proofs.lemmas.List.{length_push, take-append-le}
use Rattle.worker_pool.specs.Gates.{Errand, errand}
use Rattle.worker_pool.proofs.Backs.{came_back, next, rest_front, went_next}
use Rattle.worker_pool.proofs.together.bring_back.Goals as goal

pub agrees-requires : goal.agrees-requires
agrees-requires g c =
    let I = c.loop-thread.invariant in
    let is = next (λ t. errand t.promise.gate.now.id t.promise.work.now t.promise.place t.promise.before.value) c.args.told.now.of c.args.work.now c.args.before.now.value.items c.args.threads.items c.loop-thread.threads.items c.pop.new.self.items c.in-Some.thread I.left c.in-Some.ensures.items (omega (arith, I.len, I.more, c.requires.len))
    (length c.loop-thread.crew.items) c.requires.threads I.len in
    c.join-back.ensures.0 ∙ ap (λ (e : Errand _ _). e.gate) is

pub loop-thread-preserved : goal.loop-thread-preserved
loop-thread-preserved g c =
    let I = c.loop-thread.invariant in
    let before = c.args.before.now.value.items in
    let crew = c.loop-thread.crew.items in
    let thread = c.in-Some.thread in
    let cut = c.in-Some.ensures.items in
    let pushed = c.push_reserved.ensures.items in
    let few : length c.loop-thread.threads.items ≤ length c.args.threads.items = omega (arith, I.len, I.more, c.requires.len) in
    let fewer = ap length cut ∙ length_push c.pop.new.self.items thread in
    let more = ap length pushed ∙ length_push crew c.join-back.result.worker in
    let is = next (λ t. errand t.promise.gate.now.id t.promise.work.now t.promise.place t.promise.before.value) c.args.told.now.of c.args.work.now before c.args.threads.items c.loop-thread.threads.items c.pop.new.self.items thread I.left cut few (length crew) c.requires.threads I.len in
    record {
      left = rest_front (λ t. errand t.promise.gate.now.id t.promise.work.now t.promise.place t.promise.before.value) c.args.told.now.of c.args.work.now before c.args.threads.items c.loop-thread.threads.items c.pop.new.self.items thread I.left cut few;
      len = omega (arith, I.len, fewer, more);
      room = omega (arith, I.room, c.push_reserved.ensures.capacity);
      kept = ap (λ ws. take (length c.args.crew.now.items) ws) pushed ∙ take-append-le (length c.args.crew.now.items) crew _ I.more ∙ I.kept;
      more = omega (arith, I.more, more);
      went = went_next c.args.told.now.value (g.W.Work.does c.args.work.now) (length c.args.crew.now.items) before crew c.push_reserved.new.self.items c.join-back.result.worker pushed I.went
          (came_back g.W.Work.does c.args.told.now.value c.join-back.result.heard.value _ before c.args.work.now c.args.told.now.of (length crew) c.join-back.result.worker is c.agrees.ensures
          c.join-back.ensures.1 (omega (arith, I.len, fewer)));
    }

pub returns-clause-went : goal.returns-clause-went
returns-clause-went g c = λ i d from within.
    let I = c.loop-thread.invariant in
    I.went i d from ((let none : length c.loop-thread.threads.items ≡ 0 = search rules in omega (arith, within, I.len, none)))
