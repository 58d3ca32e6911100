use Rattle.std.proofs.Common.{rules, ◌≡◌, ◌+◌, ◌<◌, ℕ, [], ◌∷◌, length, set, refl, sym, ◌∙◌, ap, subst, arith, append-nil}
use Rattle.owner_history.specs.OwnerDesk.Shared.{Shared}
use Rattle.session_core.specs.Bundles.{Bundle, HasTakenIn, bundle_of}
use Rattle.session_core.proofs.Bundles.{bundle_length, lock_at}
use Rattle.session_core.proofs.Joins.{HaveTakenFrom, popped_at, taken_next, taken_none}
use Rattle.session_core.proofs.passes.Passes+D.join.Goals as goal

pub loop-pass-init : goal.loop-pass-init
loop-pass-init g c =
    let mine = c.self.inside.each.items in
    let theirs = c.other.inside.each.items in
    let same : length theirs ≡ length mine = bundle_length theirs c.args.other c.args.desks.now c.other.view_is c.requires.here.1 ∙ sym (bundle_length mine c.args.self.now c.args.desks.now c.self.view_is c.requires.here.0) in
    record {
      taken = subst (λ (b : Bundle). HaveTakenFrom (length theirs) b c.args.other (bundle_of mine)) c.self.view_is
          (subst (λ (b : Bundle). HaveTakenFrom (length theirs) (bundle_of mine) b (bundle_of mine)) c.other.view_is (taken_none mine theirs same));
      gone = [];
      others = append-nil theirs;
    }

pub join-requires : goal.join-requires
join-requires g c =
    let mine = c.loop-pass.self-inside.each.items in
    let theirs = c.other.inside.each.items in
    let I = c.loop-pass.invariant in
    let m = c.len-owner.result in
    let at : m ≡ length c.pop.new.self.items = search rules in
    let popped = popped_at theirs c.loop-pass.others.items c.pop.new.self.items I.gone c.in-Some.pass m I.others c.in-Some.ensures.items at in
    let desk = c.index-desks-owner.result in
    let here = I.taken.locks ∙ c.requires.here.0 in
    let within : m < length mine = omega (arith, popped.1, bundle_length mine (bundle_of mine) c.args.desks.now refl here, bundle_length theirs c.args.other c.args.desks.now c.other.view_is c.requires.here.1) in
    record {
      here = (
        lock_at mine m c.index_mut.result.now c.index_mut.ensures.value desk c.args.desks.now within here c.index-desks-owner.is,
        lock_at theirs m c.in-Some.pass popped.2 desk c.args.desks.now popped.1 (ap (λ (b : Bundle). b.locks) c.other.view_is ∙ c.requires.here.1) c.index-desks-owner.is,
      );
    }

pub loop-pass-preserved : goal.loop-pass-preserved
loop-pass-preserved g c =
    let mine = c.loop-pass.self-inside.each.items in
    let theirs = c.other.inside.each.items in
    let I = c.loop-pass.invariant in
    let m = c.len-owner.result in
    let at : m ≡ length c.pop.new.self.items = search rules in
    let popped = popped_at theirs c.loop-pass.others.items c.pop.new.self.items I.gone c.in-Some.pass m I.others c.in-Some.ensures.items at in
    let here = I.taken.locks ∙ c.requires.here.0 in
    let within : m < length mine = omega (arith, popped.1, bundle_length mine (bundle_of mine) c.args.desks.now refl here, bundle_length theirs c.args.other c.args.desks.now c.other.view_is c.requires.here.1) in
    let p : Shared = c.index_mut.result.now in
    let q : Shared = c.join.new.pass in
    let r : Shared = c.in-Some.pass in
    let joined = c.join.ensures in
    let took : HasTakenIn p.knows r.knows q.knows =
    record { opened = joined.here.1; seen = joined.seen; own = joined.own; apart = joined.apart; faults = joined.faults; failure = joined.failure } in
    let size : length c.loop-pass.others.items ≡ m + 1 = search rules in
    let taken = subst (λ (b : Bundle). HaveTakenFrom (m + 1) c.args.self.now b (bundle_of mine)) (sym c.other.view_is) (subst (λ (k : ℕ). HaveTakenFrom k c.args.self.now c.args.other (bundle_of mine)) size I.taken) in
    let next = taken_next m c.args.self.now theirs mine p q r taken within popped.1 c.index_mut.ensures.value popped.2 joined.here.0 joined.share took in
    record {
      taken = subst (λ (k : ℕ). HaveTakenFrom k c.args.self.now c.args.other (bundle_of (set mine m q))) at
          (subst (λ (b : Bundle). HaveTakenFrom m c.args.self.now b (bundle_of (set mine m q))) c.other.view_is next);
      gone = r ∷ I.gone;
      others = popped.0;
    }
