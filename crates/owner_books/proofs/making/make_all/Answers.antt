use Rattle.std.proofs.Common.{◌≡◌, ◌∙◌, arith, ap, List, ℕ, subst}
use Rattle.owner_catalog.specs.Catalog.{Catalog}
use Rattle.owner_catalog.specs.Entries.{owner_entry_at}
use Rattle.catalog_loading.specs.Loaded.{owner_name_at}
use Rattle.owner_books.specs.Making.{IsUnmadeStop}
use Rattle.owner_books.proofs.Made.{making_stopped, none_stopped}
use Rattle.owner_books.proofs.making.make_all.Goals as goal

pub returns-in-Err-clause-stop : goal.returns-in-Err-clause-stop
returns-in-Err-clause-stop g c =
    let loading = c.args.opened.now.loading in
    let o = c.loop-owner.owner in
    let name : c.owner_name.result.now ≡ owner_name_at loading o = c.owner_name.ensures ∙ ap (λ (catalog : Catalog). (owner_entry_at catalog o).name) c.catalog.ensures.catalog in
    making_stopped loading c.args.opened.now.key o (g.B.Bay.shelf c.args.bay.now) (g.B.Bay.shelf c.loop-owner.bay) (g.B.Bay.shelf c.make_journal.new.bay)
    c.in-Err.fault c.unmade_stop.result c.loop-owner.invariant.made c.in-Err.ensures.unmade c.make_journal.ensures.others
    (omega (arith, c.loop-owner-test.true, c.len-owner-end.ensures, c.in_ok-headers.ensures.count))
    (subst (λ (n : List ℕ). IsUnmadeStop n c.in-Err.fault c.unmade_stop.result) name c.unmade_stop.ensures)

pub returns-in_err-headers-clause-stop : goal.returns-in_err-headers-clause-stop
returns-in_err-headers-clause-stop g c =
    none_stopped c.args.opened.now.loading c.args.opened.now.key (g.B.Bay.shelf c.args.bay.now) c.in_err-headers.field-0.0 c.from_residual.result
    c.in_err-headers.ensures.memory c.from_residual.ensures.1
