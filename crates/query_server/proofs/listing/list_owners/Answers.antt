use Rattle.std.proofs.Common.{◌≡◌, ◌∙◌, sym, subst}
use Rattle.catalog_loading.specs.Loaded.{with_house}
use Rattle.catalog_loading.proofs.Houses.{house_done, house_stopped}
use Rattle.query_server.specs.Ends.{IsEndOf, listed_work}
use Rattle.query_server.specs.declared.listing.Listing.{Listing}
use Rattle.query_server.specs.declared.listing.Listing.TheVariants.{Counted, Made}
use Rattle.query_server.proofs.Ends.{failed_end, passed_end}
use Rattle.query_server.proofs.Ran.{passed_disk}
use Rattle.owner_books.proofs.Stops.{step_no_disk}
use Rattle.query_server.proofs.listing.list_owners.Goals as goal

pub returns-in_err-opened-clause-end : goal.returns-in_err-opened-clause-end
returns-in_err-opened-clause-end g c = λ left.
    passed_end _ left _ _ (g.B.Bay.shelf c.args.bay.now) (with_house (listed_work c.args.listing) c.args.catalog.now c.args.key.now) _ c.from_residual.result
    (house_stopped _ _ _ (listed_work c.args.listing) c.args.catalog.now c.args.key.now _ c.in_err-opened.ensures.step) c.from_residual.ensures.1

pub returns-in-Made-clause-end : goal.returns-in-Made-clause-end
returns-in-Made-clause-end g c = λ left.
    let house = c.in_ok-opened.opened in
    failed_end _ left _ _ _ _ _ (listed_work c.args.listing house.loading house.key) _
    (house_done _ _ _ (listed_work c.args.listing) c.args.catalog.now c.args.key.now _ c.in_ok-opened.ensures.step)
    (λ script. subst (λ (l : Listing). IsEndOf (listed_work l house.loading house.key) (g.B.Bay.shelf c.args.bay.now) (g.B.Bay.shelf c.list_made.new.bay) script c.list_made.result)
    (sym c.in-Made.is) (c.list_made.ensures.end script))

pub returns-clause-end : goal.returns-clause-end
returns-clause-end g c = λ left.
    let house = c.in_ok-opened.opened in
    failed_end _ left _ _ _ _ _ (listed_work c.args.listing house.loading house.key) _
    (house_done _ _ _ (listed_work c.args.listing) c.args.catalog.now c.args.key.now _ c.in_ok-opened.ensures.step)
    (λ script. subst (λ (l : Listing). IsEndOf (listed_work l house.loading house.key) (g.B.Bay.shelf c.args.bay.now) (g.B.Bay.shelf c.list_counted.new.bay) script c.list_counted.result)
    (sym c.in-Counted.is) (c.list_counted.ensures.end script))

pub returns-in_err-opened-clause-disk : goal.returns-in_err-opened-clause-disk
returns-in_err-opened-clause-disk g c = λ line is.
    let stop = c.in_err-opened.field-0.0 in
    step_no_disk _ _ _ (with_house (listed_work c.args.listing) c.args.catalog.now c.args.key.now) stop line
    (house_stopped _ _ _ (listed_work c.args.listing) c.args.catalog.now c.args.key.now _ c.in_err-opened.ensures.step) (passed_disk stop c.from_residual.result line c.from_residual.ensures.1 is)

pub returns-in_err-opened-clause-lost : goal.returns-in_err-opened-clause-lost
returns-in_err-opened-clause-lost g c = λ counted line is.
    let stop = c.in_err-opened.field-0.0 in
    step_no_disk _ _ _ (with_house (listed_work c.args.listing) c.args.catalog.now c.args.key.now) stop line
    (house_stopped _ _ _ (listed_work c.args.listing) c.args.catalog.now c.args.key.now _ c.in_err-opened.ensures.step) (passed_disk stop c.from_residual.result line c.from_residual.ensures.1 is)

pub returns-in-Made-clause-lost : goal.returns-in-Made-clause-lost
returns-in-Made-clause-lost g c = λ counted. let wrong : Made ≡ Counted = sym c.in-Made.is ∙ counted in cc wrong

pub returns-clause-lost : goal.returns-clause-lost
returns-clause-lost g c = λ counted. c.list_counted.ensures.lost
