use Rattle.std.proofs.Common.{◌≡◌, ◌∙◌, ◌<◌, ◌≤◌, ℕ, List, [], ◌∷◌, ◌++◌, Some, get_or, length, slice_get, sym, ap, arith}
use Rattle.std.proofs.lemmas.List.{map-id}
use Rattle.std.proofs.lemmas.Iterator.Adapters.{YieldsList-from_vec}
use Rattle.std.proofs.lemmas.Iterator.Consumers.{YieldsList-end, YieldsList-turn}
use Rattle.std.proofs.lemmas.Option.{slice_get-get_or}
use Rattle.metric_values.specs.Tables.{Dataset, IsDataset}
use Rattle.owner_catalog.specs.Catalog.{Catalog, owner_signature}
use Rattle.owner_catalog.specs.Entries.{owner_entry_at}
use Rattle.part_views.specs.Holding.{Holding}
use Rattle.catalog_loading.specs.Given.{AreReadOf, holdings_with}
use Rattle.catalog_loading.proofs.Holdings.{held_length, held_more, held_none, rows_held}
use Rattle.catalog_loading.proofs.registers.divided.Goals as goal

-- the next owner's number and rows
next_owner : (catalog : Catalog) (all so_far : List Dataset) (datasets : List Holding) (rows : Dataset) (number : ℕ) → AreReadOf catalog all
    → datasets ≡ holdings_with catalog.owners so_far → (length so_far < length all) × (rows ≡ get_or all (length so_far) rows) → number ≡ length datasets
    → (number ≡ length so_far) × (number < length catalog.owners) × IsDataset (owner_signature (owner_entry_at catalog number)) rows
next_owner catalog all so_far datasets rows number read are turn is =
    let same : number ≡ length so_far = is ∙ ap length are ∙ held_length catalog.owners so_far (omega (arith, turn.0, read.each_has)) in
    let within : number < length catalog.owners = omega (arith, same, turn.0, read.each_has) in (
      same,
      within,
      rows_held catalog all number rows read within (ap (slice_get all) same ∙ slice_get-get_or all (length so_far) rows turn.0 ∙ ap Some (sym turn.1)),
    )

pub loop-rows-init : goal.loop-rows-init
loop-rows-init c = c.new-datasets.ensures.items ∙ sym (held_none c.args.catalog.now.owners)

pub overflow_cast-owner : goal.overflow_cast-owner
overflow_cast-owner c =
    let yields = YieldsList-from_vec c.args.tables.items c.into_iter-rows-iterator.ensures.into_iter_gives.0 (c.into_iter-rows-iterator.ensures.into_iter_gives.1 ∙ c.args.tables.ok.0) in
    let turn = YieldsList-turn yields c.loop-rows.yielded _ c.loop-rows.yielded_by c.next.result c.next.new.self c.in-Some.rows c.in-Some.is c.next.ensures.steps in
    let next = next_owner c.args.catalog.now _ _ _ _ c.len-owner.result c.requires c.loop-rows.invariant turn (c.len-owner.ensures ∙ c.loop-rows.datasets.ok.0) in
    let few : length c.args.catalog.now.owners ≤ 64 = c.requires.register.catalog.few_owners in
    omega (arith, few, next.1)

pub new-requires-clause-owner : goal.new-requires-clause-owner
new-requires-clause-owner c =
    let yields = YieldsList-from_vec c.args.tables.items c.into_iter-rows-iterator.ensures.into_iter_gives.0 (c.into_iter-rows-iterator.ensures.into_iter_gives.1 ∙ c.args.tables.ok.0) in
    let turn = YieldsList-turn yields c.loop-rows.yielded _ c.loop-rows.yielded_by c.next.result c.next.new.self c.in-Some.rows c.in-Some.is c.next.ensures.steps in
    (next_owner c.args.catalog.now _ _ _ _ c.len-owner.result c.requires c.loop-rows.invariant turn (c.len-owner.ensures ∙ c.loop-rows.datasets.ok.0)).1

pub new-requires-clause-rows : goal.new-requires-clause-rows
new-requires-clause-rows c =
    let yields = YieldsList-from_vec c.args.tables.items c.into_iter-rows-iterator.ensures.into_iter_gives.0 (c.into_iter-rows-iterator.ensures.into_iter_gives.1 ∙ c.args.tables.ok.0) in
    let turn = YieldsList-turn yields c.loop-rows.yielded _ c.loop-rows.yielded_by c.next.result c.next.new.self c.in-Some.rows c.in-Some.is c.next.ensures.steps in
    (next_owner c.args.catalog.now _ _ _ _ c.len-owner.result c.requires c.loop-rows.invariant turn (c.len-owner.ensures ∙ c.loop-rows.datasets.ok.0)).2

pub loop-rows-preserved : goal.loop-rows-preserved
loop-rows-preserved c =
    let yields = YieldsList-from_vec c.args.tables.items c.into_iter-rows-iterator.ensures.into_iter_gives.0 (c.into_iter-rows-iterator.ensures.into_iter_gives.1 ∙ c.args.tables.ok.0) in
    let turn = YieldsList-turn yields c.loop-rows.yielded _ c.loop-rows.yielded_by c.next.result c.next.new.self c.in-Some.rows c.in-Some.is c.next.ensures.steps in
    let owners = c.args.catalog.now.owners in
    let so_far = c.loop-rows.yielded in
    let next = next_owner c.args.catalog.now _ _ _ _ c.len-owner.result c.requires c.loop-rows.invariant turn (c.len-owner.ensures ∙ c.loop-rows.datasets.ok.0) in
    c.in_ok-push.ensures.items ∙ ap (λ hs. hs ++ c.in_ok-dataset.dataset ∷ []) c.loop-rows.invariant
    ∙ ap (λ h. holdings_with owners so_far ++ h ∷ []) c.in_ok-dataset.ensures
    ∙ sym (held_more owners so_far c.in-Some.rows c.len-owner.result _ (sym next.0) next.1)

pub returns-clause-datasets : goal.returns-clause-datasets
returns-clause-datasets c =
    let yields = YieldsList-from_vec c.args.tables.items c.into_iter-rows-iterator.ensures.into_iter_gives.0 (c.into_iter-rows-iterator.ensures.into_iter_gives.1 ∙ c.args.tables.ok.0) in
    let end = YieldsList-end yields c.loop-rows.yielded _ c.loop-rows.yielded_by c.next.result c.next.new.self c.in-None.is c.next.ensures.steps in
    c.loop-rows.invariant ∙ ap (holdings_with c.args.catalog.now.owners) (sym (map-id c.loop-rows.yielded) ∙ end.0)
