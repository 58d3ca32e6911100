use Rattle.std.proofs.Common.{◌≡◌, ◌∙◌, ap, refl, subst, sym}
use mathlib.Core.Logic.{inl, inr}
use Rattle.std.specs.List.{flat_map}
use Rattle.owner_catalog.specs.Catalog.{Catalog}
use Rattle.query_server.specs.Init.{made_line}
use Rattle.query_server.specs.Work.{to_make}
use Rattle.catalog_loading.specs.declared.stops.Stop.TheVariants.{NoMemory}
use Rattle.query_server.specs.Ends.{Ended, IsEndOf}
use Rattle.query_server.proofs.Disks.{may_stop_same}
use Rattle.query_server.proofs.Ends.{end_passed}
use Rattle.query_server.proofs.Made.{make_stop_end}
use Rattle.query_server.proofs.init.list_made.Goals as goal

pub returns-in_err-lines-clause-end : goal.returns-in_err-lines-clause-end
returns-in_err-lines-clause-end g c = λ script. inr (
  inr (inl (end_passed NoMemory c.from_residual.result c.from_residual.ensures.1)),
  may_stop_same (to_make c.args.opened.now.loading c.args.opened.now.key) (g.B.Bay.shelf c.args.bay.now),
)

pub returns-clause-end : goal.returns-clause-end
returns-clause-end g c = λ script.
    let text : c.in_ok-lines.lines.items ≡ flat_map made_line c.args.opened.now.loading.register.catalog.owners =
    c.in_ok-lines.ensures ∙ ap (λ (catalog : Catalog). flat_map made_line catalog.owners) c.catalog.ensures.catalog in
    inl (inl (refl, text, c.in_ok-make_all.ensures.made))

pub returns-in_err-make_all-clause-end : goal.returns-in_err-make_all-clause-end
returns-in_err-make_all-clause-end g c = λ script.
    let loading = c.args.opened.now.loading in
    let old = g.B.Bay.shelf c.args.bay.now in
    let new = g.B.Bay.shelf c.make_all.new.bay in
    let stop = c.in_err-make_all.field-0.0 in
    subst (λ (end : Ended). IsEndOf (to_make loading c.args.opened.now.key) old new script end) (sym (end_passed stop c.from_residual-in_err-make_all.result c.from_residual-in_err-make_all.ensures.1))
    (make_stop_end loading c.args.opened.now.key old new stop script c.in_err-make_all.ensures.stop)
