use Rattle.std.proofs.Common.{◌∷◌, refl, sym, ap, subst}
use Rattle.std.specs.Fn.{FnOnceReturnsAtMut}
use Rattle.owner_lock.specs.Views.{IsFreed, MayEnd}
use Rattle.owner_lock.proofs.Keeps.{after, ends, holds, rests_again}
use Rattle.owner_lock.proofs.lock.Owned.with.Goals as goal

pub finish-requires-clause-held : goal.finish-requires-clause-held
finish-requires-clause-held g c =
    let k = g.T.StandsFor in
    let v = c.args.pass.now.seat.me.0 in
    let x = c.slot_mut-state.result.now in
    let y = c.job-result.new.arg2 in
    let h = holds k v _ x c.turn.ensures.took c.slot_mut-state.ensures.value in
    let called : FnOnceReturnsAtMut g.J.FnOnce c.args.job x c.job-result.result y =
    record { shown = _; shows = refl; left = _; met = c.job-result.ensures; leaves = refl } in
    (y, ap (λ cs. (0, y) ∷ cs) h.1, subst (λ u. MayEnd k u y) (sym h.0) (ends k v x y h.2 (c.requires.owes x y c.job-result.result h.2 called)))

pub invariant_of-pass : goal.invariant_of-pass
invariant_of-pass g c =
    let k = g.T.StandsFor in
    let v = c.args.pass.now.seat.me.0 in
    let x = c.slot_mut-state.result.now in
    let y = c.job-result.new.arg2 in
    let h = holds k v _ x c.turn.ensures.took c.slot_mut-state.ensures.value in
    record {
      rests = rests_again k v x y _ c.args.pass.now.rests
          (subst (λ u. IsFreed k u y c.finish.new.seat.me.0) h.0 (c.finish.ensures.freed y (ap (λ cs. (0, y) ∷ cs) h.1)));
      empty = c.finish.ensures.empty;
    }

pub returns-clause-ran : goal.returns-clause-ran
returns-clause-ran g c =
    let k = g.T.StandsFor in
    let v = c.args.pass.now.seat.me.0 in
    let x = c.slot_mut-state.result.now in
    let y = c.job-result.new.arg2 in
    let h = holds k v _ x c.turn.ensures.took c.slot_mut-state.ensures.value in
    let called : FnOnceReturnsAtMut g.J.FnOnce c.args.job x c.job-result.result y =
    record { shown = _; shows = refl; left = _; met = c.job-result.ensures; leaves = refl } in
    (x, y, h.2, called, after k v x y _ (subst (λ u. IsFreed k u y c.finish.new.seat.me.0) h.0 (c.finish.ensures.freed y (ap (λ cs. (0, y) ∷ cs) h.1))))
