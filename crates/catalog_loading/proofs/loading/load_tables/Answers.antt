use Rattle.std.proofs.Common.{◌∙◌, ◌<◌, ◌≤◌, [], ◌∷◌, ◌++◌, length, map, refl, sym, ap, subst, arith}
use Rattle.std.proofs.lemmas.List.{map-append}
use Rattle.owner_catalog.specs.Entries.{owner_entry_at}
use Rattle.catalog_loading.specs.Steps.{one_by_one}
use Rattle.catalog_loading.specs.Loaded.{LoadedTable, owner_read, table_read}
use Rattle.catalog_loading.specs.Given.{owner_loaded_of}
use Rattle.catalog_loading.specs.declared.stops.Stop.TheVariants.{NoMemory}
use Rattle.catalog_loading.proofs.Reached.{IsDone, all_done, begun, cut, last_done, next_done, next_stopped, none_yet, one_more, passed, stopped}
use Rattle.catalog_loading.proofs.loading.load_tables.Goals as goal

pub overflow_cast-table-end : goal.overflow_cast-table-end
overflow_cast-table-end g c =
    let few : length (owner_entry_at c.args.catalog.now c.args.owner).tables ≤ 8 = (c.requires.legal.owners c.args.owner _ c.requires.owner).few_tables in
    omega (arith, few, c.tables-table-end.ensures)

pub loop-table-init : goal.loop-table-init
loop-table-init g c =
    let all = (owner_entry_at c.args.catalog.now c.args.owner).tables in
    record {
      so_far = [];
      rows = sym c.new-tables.ensures;
      hashes = sym c.new-hashes.ensures.items;
      reached = none_yet _ _ table_read all;
      same = refl;
      passed = refl;
    }

pub returns-in_err-loaded-clause-step : goal.returns-in_err-loaded-clause-step
returns-in_err-loaded-clause-step g c =
    let owner = owner_entry_at c.args.catalog.now c.args.owner in
    let all = owner.tables in
    let within : c.loop-table.table < length all = omega (arith, c.loop-table-test.true, c.tables-table-end.ensures) in
    passed _ _ _ _ _ _ c.from_residual.result
    (stopped _ _ _ _ _ _ _ _ _ (begun _ _ (owner_read owner)) refl
    (next_stopped _ _ _ _ _ (one_by_one table_read all) table_read c.loop-table.invariant.so_far all c.loop-table.table _ _ within c.loop-table.invariant.reached c.loop-table.invariant.same c.in_err-loaded.ensures.step))
    c.from_residual.ensures.1

pub returns-in_err-push-clause-step : goal.returns-in_err-push-clause-step
returns-in_err-push-clause-step g c =
    let owner = owner_entry_at c.args.catalog.now c.args.owner in
    let all = owner.tables in
    let within : c.loop-table.table < length all = omega (arith, c.loop-table-test.true, c.tables-table-end.ensures) in
    passed _ _ _ _ _ NoMemory c.from_residual-in_err-push.result
    (stopped _ _ _ _ _ (owner_read owner) (one_by_one table_read all) _ NoMemory (begun _ _ (owner_read owner)) refl
    (cut _ _ _ _ _ (next_done _ _ _ _ _ (one_by_one table_read all) table_read c.loop-table.invariant.so_far all c.loop-table.table _ _ within c.loop-table.invariant.reached c.loop-table.invariant.same c.in_ok-loaded.ensures.step)))
    c.from_residual-in_err-push.ensures.1

pub returns-in_err-push-2-clause-step : goal.returns-in_err-push-2-clause-step
returns-in_err-push-2-clause-step g c =
    let owner = owner_entry_at c.args.catalog.now c.args.owner in
    let all = owner.tables in
    let within : c.loop-table.table < length all = omega (arith, c.loop-table-test.true, c.tables-table-end.ensures) in
    passed _ _ _ _ _ NoMemory c.from_residual-in_err-push-2.result
    (stopped _ _ _ _ _ (owner_read owner) (one_by_one table_read all) _ NoMemory (begun _ _ (owner_read owner)) refl
    (cut _ _ _ _ _ (next_done _ _ _ _ _ (one_by_one table_read all) table_read c.loop-table.invariant.so_far all c.loop-table.table _ _ within c.loop-table.invariant.reached c.loop-table.invariant.same c.in_ok-loaded.ensures.step)))
    c.from_residual-in_err-push-2.ensures.1

pub loop-table-preserved : goal.loop-table-preserved
loop-table-preserved g c =
    let owner = owner_entry_at c.args.catalog.now c.args.owner in
    let all = owner.tables in
    let within : c.loop-table.table < length all = omega (arith, c.loop-table-test.true, c.tables-table-end.ensures) in
    let one : LoadedTable = record { rows = c.in_ok-loaded.loaded.rows; hash = c.in_ok-loaded.loaded.hash } in
    record {
      so_far = c.loop-table.invariant.so_far ++ one ∷ [];
      rows = map-append (λ (t : LoadedTable). t.rows) c.loop-table.invariant.so_far (one ∷ []) ∙ ap (λ ts. ts ++ one.rows ∷ []) c.loop-table.invariant.rows ∙ sym c.in_ok-push.ensures.pushed;
      hashes = map-append (λ (t : LoadedTable). t.hash) c.loop-table.invariant.so_far (one ∷ []) ∙ ap (λ hs. hs ++ one.hash ∷ []) c.loop-table.invariant.hashes ∙ sym c.in_ok-push-2.ensures.items;
      reached = next_done _ _ _ _ _ (one_by_one table_read all) table_read c.loop-table.invariant.so_far all c.loop-table.table _ one within c.loop-table.invariant.reached c.loop-table.invariant.same c.in_ok-loaded.ensures.step;
      same = c.in_ok-loaded.ensures.same ∙ c.loop-table.invariant.same;
      passed = c.in_ok-loaded.ensures.passed ∙ c.loop-table.invariant.passed;
    }

pub returns-clause-step : goal.returns-clause-step
returns-clause-step g c =
    let owner = owner_entry_at c.args.catalog.now c.args.owner in
    let all = owner.tables in
    let past : length all ≤ c.loop-table.table = omega (arith, c.loop-table-test.false, c.tables-table-end.ensures) in
    subst (λ rows. IsDone (g.F.Files.held c.args.files.now) (g.F.Files.names c.args.files.now) (g.F.Files.names c.loop-table.files) (owner_read owner)
    (owner_loaded_of owner rows c.loop-table.hashes.items)) c.loop-table.invariant.rows
    (subst (λ hashes. IsDone (g.F.Files.held c.args.files.now) (g.F.Files.names c.args.files.now) (g.F.Files.names c.loop-table.files) (owner_read owner)
    (owner_loaded_of owner (map (λ (t : LoadedTable). t.rows) c.loop-table.invariant.so_far) hashes)) c.loop-table.invariant.hashes
    (all_done _ _ _ (owner_read owner) _ (one_more _ _ _ _ _ _ _ _ _ (begun _ _ (owner_read owner)) refl
    (last_done _ _ _ (one_by_one table_read all) table_read c.loop-table.invariant.so_far all c.loop-table.table past c.loop-table.invariant.reached))))
