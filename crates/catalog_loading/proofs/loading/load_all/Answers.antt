use Rattle.std.proofs.Common.{◌∙◌, ◌+◌, ◌<◌, ◌≤◌, ℕ, List, [], ◌∷◌, ◌++◌, length, length-append, map, refl, sym, ap, subst, arith}
use Rattle.std.specs.Prelude.{Vec}
use Rattle.std.specs.declared.alloc.Global.{Global}
use Rattle.std.proofs.lemmas.List.{map-append}
use Rattle.part_views.specs.Holding.{Holding}
use Rattle.owner_catalog.specs.Entries.{owner_entry_at}
use Rattle.owner_house.specs.House.{register_with}
use Rattle.catalog_loading.specs.Steps.{one_by_one}
use Rattle.catalog_loading.specs.Loaded.{LoadedOwner, IsLoading, loaded, owner_read}
use Rattle.catalog_loading.specs.Given.{holdings_with, owner_loaded_of}
use Rattle.catalog_loading.specs.declared.stops.Stop.TheVariants.{NoMemory}
use Rattle.catalog_loading.proofs.Holdings.{all_hold, held_more, held_none}
use Rattle.catalog_loading.proofs.Reached.{IsDone, all_done, begun, cut, last_done, next_done, next_stopped, none_yet, one_more, passed, stopped}
use Rattle.catalog_loading.proofs.loading.load_all.Goals as goal

pub loop-owner-init : goal.loop-owner-init
loop-owner-init g c =
    let all = c.args.catalog.now.owners in
    record {
      so_far = [];
      counted = ap length c.new-tables.ensures.items;
      holdings = sym (ap (holdings_with all) c.new-tables.ensures.items ∙ held_none all);
      hashes = ap (map (λ (v : Vec (List ℕ) Global). v.items)) (sym c.new-hashes.ensures.items);
      reached = none_yet _ _ owner_read all;
      same = refl;
      passed = refl;
    }

pub returns-in_err-loaded-clause-step : goal.returns-in_err-loaded-clause-step
returns-in_err-loaded-clause-step g c =
    let all = c.args.catalog.now.owners in
    let within : c.loop-owner.owner < length all = omega (arith, c.loop-owner-test.true, c.owners-owner-end.ensures.owners) in
    passed _ _ _ _ _ _ c.from_residual.result
    (stopped _ _ _ _ _ _ _ _ _ (begun _ _ (loaded c.args.catalog.now)) refl
    (next_stopped _ _ _ _ _ (one_by_one owner_read all) owner_read c.loop-owner.invariant.so_far all c.loop-owner.owner _ _ within c.loop-owner.invariant.reached c.loop-owner.invariant.same c.in_err-loaded.ensures.step))
    c.from_residual.ensures.1

pub returns-in_err-push-clause-step : goal.returns-in_err-push-clause-step
returns-in_err-push-clause-step g c =
    let all = c.args.catalog.now.owners in
    let within : c.loop-owner.owner < length all = omega (arith, c.loop-owner-test.true, c.owners-owner-end.ensures.owners) in
    passed _ _ _ _ _ NoMemory c.from_residual-in_err-push.result
    (stopped _ _ _ _ _ (loaded c.args.catalog.now) (one_by_one owner_read all) _ NoMemory (begun _ _ (loaded c.args.catalog.now)) refl
    (cut _ _ _ _ _ (next_done _ _ _ _ _ (one_by_one owner_read all) owner_read c.loop-owner.invariant.so_far all c.loop-owner.owner _ _ within c.loop-owner.invariant.reached c.loop-owner.invariant.same c.in_ok-loaded.ensures.step)))
    c.from_residual-in_err-push.ensures.1

pub returns-in_err-push-2-clause-step : goal.returns-in_err-push-2-clause-step
returns-in_err-push-2-clause-step g c =
    let all = c.args.catalog.now.owners in
    let within : c.loop-owner.owner < length all = omega (arith, c.loop-owner-test.true, c.owners-owner-end.ensures.owners) in
    passed _ _ _ _ _ NoMemory c.from_residual-in_err-push-2.result
    (stopped _ _ _ _ _ (loaded c.args.catalog.now) (one_by_one owner_read all) _ NoMemory (begun _ _ (loaded c.args.catalog.now)) refl
    (cut _ _ _ _ _ (next_done _ _ _ _ _ (one_by_one owner_read all) owner_read c.loop-owner.invariant.so_far all c.loop-owner.owner _ _ within c.loop-owner.invariant.reached c.loop-owner.invariant.same c.in_ok-loaded.ensures.step)))
    c.from_residual-in_err-push-2.ensures.1

pub loop-owner-preserved : goal.loop-owner-preserved
loop-owner-preserved g c =
    let all = c.args.catalog.now.owners in
    let within : c.loop-owner.owner < length all = omega (arith, c.loop-owner-test.true, c.owners-owner-end.ensures.owners) in
    let entry = owner_entry_at c.args.catalog.now c.loop-owner.owner in
    let one = owner_loaded_of entry c.in_ok-loaded.loaded.tables c.in_ok-loaded.loaded.hashes.items in
    record {
      so_far = c.loop-owner.invariant.so_far ++ one ∷ [];
      counted = ap length c.in_ok-push.ensures.items ∙ length-append c.loop-owner.tables.items (c.in_ok-loaded.loaded.tables ∷ []) ∙ ap (λ n. n + 1) c.loop-owner.invariant.counted;
      holdings = map-append (λ (o : LoadedOwner). o.holding) c.loop-owner.invariant.so_far (one ∷ []) ∙ ap (λ hs. hs ++ one.holding ∷ []) c.loop-owner.invariant.holdings
          ∙ sym (held_more all c.loop-owner.tables.items c.in_ok-loaded.loaded.tables c.loop-owner.owner _ c.loop-owner.invariant.counted within)
          ∙ ap (holdings_with all) (sym c.in_ok-push.ensures.items);
      hashes = map-append (λ (o : LoadedOwner). o.hashes) c.loop-owner.invariant.so_far (one ∷ []) ∙ ap (λ hs. hs ++ one.hashes ∷ []) c.loop-owner.invariant.hashes
          ∙ sym (map-append (λ (v : Vec (List ℕ) Global). v.items) c.loop-owner.hashes.items (c.in_ok-loaded.loaded.hashes ∷ [])) ∙ ap (map (λ (v : Vec (List ℕ) Global). v.items)) (sym c.in_ok-push-2.ensures.items);
      reached = next_done _ _ _ _ _ (one_by_one owner_read all) owner_read c.loop-owner.invariant.so_far all c.loop-owner.owner _ one within c.loop-owner.invariant.reached c.loop-owner.invariant.same c.in_ok-loaded.ensures.step;
      same = c.in_ok-loaded.ensures.same ∙ c.loop-owner.invariant.same;
      passed = c.in_ok-loaded.ensures.passed ∙ c.loop-owner.invariant.passed;
    }

pub returns-clause-step : goal.returns-clause-step
returns-clause-step g c =
    let all = c.args.catalog.now.owners in
    let past : length all ≤ c.loop-owner.owner = omega (arith, c.loop-owner-test.false, c.owners-owner-end.ensures.owners) in
    subst (λ (holdings : List Holding). IsDone (g.F.Files.held c.args.files.now) (g.F.Files.names c.args.files.now) (g.F.Files.names c.loop-owner.files) (loaded c.args.catalog.now)
    (record { register = register_with c.args.catalog.now holdings; hashes = map (λ (v : Vec (List ℕ) Global). v.items) c.loop-owner.hashes.items })) c.loop-owner.invariant.holdings
    (subst (λ (hashes : List (List (List ℕ))). IsDone (g.F.Files.held c.args.files.now) (g.F.Files.names c.args.files.now) (g.F.Files.names c.loop-owner.files) (loaded c.args.catalog.now)
    (record { register = register_with c.args.catalog.now (map (λ (o : LoadedOwner). o.holding) c.loop-owner.invariant.so_far); hashes = hashes })) c.loop-owner.invariant.hashes
    (all_done _ _ _ (loaded c.args.catalog.now) _
    (one_more _ _ _ _ _ _ _ _ _ (begun _ _ (loaded c.args.catalog.now)) refl
    (last_done _ _ _ (one_by_one owner_read all) owner_read c.loop-owner.invariant.so_far all c.loop-owner.owner past c.loop-owner.invariant.reached))))

pub returns-clause-loading : goal.returns-clause-loading
returns-clause-loading g c =
    let all = c.args.catalog.now.owners in
    let past : length all ≤ c.loop-owner.owner = omega (arith, c.loop-owner-test.false, c.owners-owner-end.ensures.owners) in
    subst (λ (holdings : List Holding). IsLoading (record { register = register_with c.args.catalog.now holdings; hashes = map (λ (v : Vec (List ℕ) Global). v.items) c.loop-owner.hashes.items })) c.loop-owner.invariant.holdings
    (subst (λ (hashes : List (List (List ℕ))). IsLoading (record { register = register_with c.args.catalog.now (map (λ (o : LoadedOwner). o.holding) c.loop-owner.invariant.so_far); hashes = hashes })) c.loop-owner.invariant.hashes
    (all_hold _ _ _ c.args.catalog.now c.loop-owner.invariant.so_far c.owners-owner-end.ensures.legal
    (last_done _ _ _ (one_by_one owner_read all) owner_read c.loop-owner.invariant.so_far all c.loop-owner.owner past c.loop-owner.invariant.reached)))
