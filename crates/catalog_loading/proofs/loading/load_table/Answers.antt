use Rattle.std.proofs.Common.{◌≡◌, ◌∙◌, List, ℕ, refl, sym, ap, subst}
use Rattle.std.specs.Prelude.{Ok}
use Rattle.sha2.specs.Sha256.{sha256}
use Rattle.table_store.specs.Table.{table_in_file}
use Rattle.owner_catalog.specs.Entries.{table_entry_at}
use Rattle.catalog_loading.specs.Steps.{file_read}
use Rattle.catalog_loading.specs.Loaded.{or_refused, table_read}
use Rattle.catalog_loading.specs.Given.{IsRefusedBy}
use Rattle.catalog_loading.proofs.Reached.{IsDone, IsStopped, all_done, begun, decided, one_more, passed, stopped, undecided}
use Rattle.catalog_loading.proofs.loading.load_table.Goals as goal

pub returns-in_err-bytes-clause-step : goal.returns-in_err-bytes-clause-step
returns-in_err-bytes-clause-step g c =
    let table = table_entry_at c.args.catalog.now c.args.owner c.args.table in
    passed _ _ _ _ _ _ c.from_residual.result
    (stopped _ _ _ _ _ _ _ _ _ (begun _ _ (table_read table)) refl
    (subst (λ (name : List ℕ). IsStopped (g.F.Files.held c.args.files.now) (g.F.Files.names c.args.files.now) (g.F.Files.names c.read_file.new.files) (file_read name) c.in_err-bytes.field-0.0)
    c.file-name.ensures c.in_err-bytes.ensures.step)) c.from_residual.ensures.1

pub returns-in_err-rows-clause-step : goal.returns-in_err-rows-clause-step
returns-in_err-rows-clause-step g c =
    let table = table_entry_at c.args.catalog.now c.args.owner c.args.table in
    let bytes = c.in_ok-bytes.bytes.items in
    let read = one_more _ _ _ _ _ _ _ _ _ (begun _ _ (table_read table)) refl
    (subst (λ (name : List ℕ). IsDone (g.F.Files.held c.args.files.now) (g.F.Files.names c.args.files.now) (g.F.Files.names c.read_file.new.files) (file_read name) bytes)
    c.file-name.ensures c.in_ok-bytes.ensures.step) in
    passed _ _ _ _ _ _ c.from_residual-in_err-rows.result
    (stopped _ _ _ _ _ _ _ _ _ read c.in_ok-bytes.ensures.same
    (undecided _ _ _ _
    (subst (λ (name : List ℕ). IsRefusedBy (or_refused name (table_in_file table.columns bytes)) c.in_err-rows.field-0.0) c.file-name.ensures
    (subst (λ columns. IsRefusedBy (or_refused c.file-name.result.now (table_in_file columns bytes)) c.in_err-rows.field-0.0) c.schema.ensures
    (subst (λ (b : List ℕ). IsRefusedBy (or_refused c.file-name.result.now (table_in_file c.schema.result.now b)) c.in_err-rows.field-0.0) c.deref.ensures.value c.in_err-rows.ensures)))))
    c.from_residual-in_err-rows.ensures.1

pub returns-clause-step : goal.returns-clause-step
returns-clause-step g c =
    let table = table_entry_at c.args.catalog.now c.args.owner c.args.table in
    let bytes = c.in_ok-bytes.bytes.items in
    let read = one_more _ _ _ _ _ _ _ _ _ (begun _ _ (table_read table)) refl
    (subst (λ (name : List ℕ). IsDone (g.F.Files.held c.args.files.now) (g.F.Files.names c.args.files.now) (g.F.Files.names c.read_file.new.files) (file_read name) bytes)
    c.file-name.ensures c.in_ok-bytes.ensures.step) in
    let given =
    subst (λ (name : List ℕ). or_refused name (table_in_file table.columns bytes) ≡ Ok c.in_ok-rows.rows) c.file-name.ensures
    (subst (λ columns. or_refused c.file-name.result.now (table_in_file columns bytes) ≡ Ok c.in_ok-rows.rows) c.schema.ensures
    (subst (λ (b : List ℕ). or_refused c.file-name.result.now (table_in_file c.schema.result.now b) ≡ Ok c.in_ok-rows.rows) c.deref.ensures.value c.in_ok-rows.ensures)) in
    let rows = one_more _ _ _ _ _ _ _ _ c.in_ok-rows.rows read c.in_ok-bytes.ensures.same (decided _ _ _ _ given) in
    subst (λ (hash : List ℕ). IsDone (g.F.Files.held c.args.files.now) (g.F.Files.names c.args.files.now) (g.F.Files.names c.read_file.new.files) (table_read table) (record { rows = c.in_ok-rows.rows; hash = hash }))
    (ap sha256 (sym c.as_slice.ensures.value) ∙ sym c.digest-hash.ensures) (all_done _ _ _ (table_read table) _ rows)
