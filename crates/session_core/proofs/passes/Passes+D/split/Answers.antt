use Rattle.std.proofs.Common.{◌≡◌, ◌+◌, ◌<◌, ◌≤◌, ℕ, suc, List, [], ◌∷◌, ◌++◌, All, length, get_or, map, set, take, sym, ◌∙◌, ap, subst, arith, length-append}
use Rattle.std.proofs.lemmas.List.{get_or-map, length-map, map-append}
use Rattle.std.proofs.lemmas.List.Elements.{All-get_or}
use Rattle.std.proofs.Math.Seq.{take-length, take-suc}
use Rattle.owner_history.specs.OwnerDesk.Shared.{Shared}
use Rattle.session_core.specs.Bundles.{Bundle, bundle_of, given_halves, kept_halves}
use Rattle.session_core.proofs.Bundles.{bundle_given, bundle_kept, bundle_length, given_half, kept_half, split_all, split_at, split_below, split_locks, split_set}
use Rattle.session_core.proofs.passes.Passes+D.split.Goals as goal

pub index_mut-requires : goal.index_mut-requires
index_mut-requires g c = omega (arith, c.loop-owner-test.true, ap length c.loop-owner.invariant.here, length-map c.loop-owner.self-inside.each.items (λ (s : Shared). s.lock))

pub split-requires-clause-share : goal.split-requires-clause-share
split-requires-clause-share g c =
    let items = c.self.inside.each.items in
    let n = c.loop-owner.owner in
    let p : Shared = c.index_mut.result.now in
    let within : n < length items = omega (arith, bundle_length items c.args.self.now c.args.desks.now c.self.view_is c.requires.here, c.loop-owner-test.true) in
    let is : p ≡ get_or items n p = c.index_mut.ensures.value ∙ ap (λ (ps : List Shared). get_or ps n p) c.loop-owner.invariant.mine ∙ split_at n items p in
    let shares = subst (λ (b : Bundle). All (λ (k : ℕ). 2 ≤ k) b.shares) (sym c.self.view_is) c.requires.shares in
    let two = All-get_or (λ (k : ℕ). 2 ≤ k) (bundle_of items).shares n 0 (simp length-map within) shares in
    omega (arith, two, ap (λ (s : Shared). s.share) is, get_or-map (λ (s : Shared). s.share) items n p 0 within)

pub loop-owner-preserved : goal.loop-owner-preserved
loop-owner-preserved g c =
    let items = c.self.inside.each.items in
    let n = c.loop-owner.owner in
    let I = c.loop-owner.invariant in
    let p : Shared = c.index_mut.result.now in
    let q : Shared = c.split.new.pass in
    let other : Shared = c.split.result in
    let within : n < length items = omega (arith, bundle_length items c.args.self.now c.args.desks.now c.self.view_is c.requires.here, c.loop-owner-test.true) in
    let is : p ≡ get_or items n p = c.index_mut.ensures.value ∙ ap (λ (ps : List Shared). get_or ps n p) I.mine ∙ split_at n items p in
    let next : suc n ≡ n + 1 = omega arith in
    let mine : set c.loop-owner.self-inside.each.items n q ≡ split_below (n + 1) items =
    ap (λ (ps : List Shared). set ps n q) I.mine ∙ ap (λ (s : Shared). set (split_below n items) n s) (c.split.ensures.mine ∙ ap kept_half is) ∙ split_set n items p
    ∙ ap (λ k. split_below k items) next in
    record {
      within = omega (arith, c.loop-owner-test.true);
      room = omega (arith, I.room, c.push_reserved.ensures.capacity);
      so_far = ap length c.push_reserved.ensures.items ∙ length-append c.loop-owner.others.items (other ∷ []) ∙ ap (λ k. k + 1) I.so_far;
      here = ap (λ (ps : List Shared). (bundle_of ps).locks) mine ∙ split_locks (n + 1) items ∙ ap (λ (b : Bundle). b.locks) c.self.view_is ∙ c.requires.here;
      mine = mine;
      theirs = c.push_reserved.ensures.items ∙ ap (λ (ps : List Shared). ps ++ other ∷ []) I.theirs
          ∙ ap (λ (s : Shared). map given_half (take n items) ++ s ∷ []) (c.split.ensures.other ∙ ap given_half is)
          ∙ sym (map-append given_half (take n items) (get_or items n p ∷ [])) ∙ ap (λ (ps : List Shared). map given_half ps) (sym (take-suc items n p within))
          ∙ ap (λ k. map given_half (take k items)) next;
    }

pub returns-clause-kept : goal.returns-clause-kept
returns-clause-kept g c =
    let items = c.self.inside.each.items in
    let all : c.loop-owner.owner ≡ length items = omega (arith, bundle_length items c.args.self.now c.args.desks.now c.self.view_is c.requires.here, c.loop-owner-test.false, c.loop-owner.invariant.within) in
    ap bundle_of (c.loop-owner.invariant.mine ∙ ap (λ k. split_below k items) all ∙ split_all items) ∙ bundle_kept items ∙ ap kept_halves c.self.view_is

pub returns-clause-given : goal.returns-clause-given
returns-clause-given g c =
    let items = c.self.inside.each.items in
    let all : c.loop-owner.owner ≡ length items = omega (arith, bundle_length items c.args.self.now c.args.desks.now c.self.view_is c.requires.here, c.loop-owner-test.false, c.loop-owner.invariant.within) in
    ap bundle_of (c.loop-owner.invariant.theirs ∙ ap (λ k. map given_half (take k items)) all ∙ ap (λ (ps : List Shared). map given_half ps) (take-length items)) ∙ bundle_given items ∙ ap given_halves c.self.view_is
