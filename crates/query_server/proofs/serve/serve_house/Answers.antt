use Rattle.std.proofs.Common.{◌≡◌, ◌∙◌, ◌≤◌, ℕ, List, length, sym, ap, subst, arith}
use Rattle.std.specs.Prelude.{Err}
use Rattle.std.proofs.lemmas.List.{length-map}
use Rattle.word_streams.specs.Draws.{draws_of}
use Rattle.owner_house.specs.House.{Register, house_of}
use Rattle.generated_run.specs.SessionCore.Bundles.{Bundle, bundle_of}
use Rattle.generated_run.specs.SessionCore.Code.{AreFresh, ArePasses}
use Rattle.service_workers.specs.Services.{door_of}
use Rattle.catalog_loading.specs.Loaded.{IsLoading, KeyedHouse, Loading, in_versions, keyed, owners_in}
use Rattle.query_server.specs.Outside.{doors_in}
use Rattle.query_server.specs.Service.{IsServiceEnd}
use Rattle.owner_books.proofs.Bundled.{AreWholeIn, many_known}
use Rattle.catalog_loading.specs.declared.stops.Stop.TheVariants.{Fault}
use Rattle.query_server.proofs.Ends.{end_passed}
use Rattle.owner_books.proofs.Passes.{back_counted}
use Rattle.query_server.proofs.Ran.{few_owners, many_opened, opened_fresh, passed_disk}
use Rattle.query_server.proofs.Served.{served_in, served_no_disk, served_rose, ends_over, on_over, unopened_ends, unopened_faultless, unopened_on}
use Rattle.owner_books.proofs.Stops.{err_same}
use Rattle.query_server.proofs.serve.serve_house.Goals as goal

-- the house that was opened, by what it is
found_lawful : (loading : Loading) (key versions : List ℕ) (opened : KeyedHouse) → opened ≡ keyed (in_versions loading versions) key → IsLoading opened.loading → IsLoading (in_versions loading versions)
found_lawful loading key versions opened is lawful = subst (λ (h : KeyedHouse). IsLoading h.loading) is lawful

pub returns-in_err-desks-clause-end : goal.returns-in_err-desks-clause-end
returns-in_err-desks-clause-end g c = λ script.
    unopened_ends c.args.opened.now.loading c.args.opened.now.key c.args.post.now.workers c.args.post.now.posting.each _ _ script c.in_err-desks.field-0.0 c.from_residual.result
    c.in_err-desks.ensures.stop c.in_err-desks.ensures.left c.from_residual.ensures.1

pub returns-in_err-desks-clause-service : goal.returns-in_err-desks-clause-service
returns-in_err-desks-clause-service g c =
    unopened_on c.args.opened.now.loading c.args.opened.now.key c.args.post.now.workers c.args.post.now.posting.each _ _
    (doors_in g.O.Doors.coming g.O.Doors.served g.O.Doors.faults c.args.doors.now.items) c.in_err-desks.field-0.0 c.from_residual.result c.in_err-desks.ensures.left c.from_residual.ensures.1

pub returns-in_err-desks-clause-cause : goal.returns-in_err-desks-clause-cause
returns-in_err-desks-clause-cause g c = λ is.
    unopened_faultless c.args.opened.now.loading c.args.opened.now.key c.args.post.now.workers c.args.post.now.posting.each _ _ c.in_err-desks.field-0.0
    c.in_err-desks.ensures.stop (err_same c.in_err-desks.field-0.0 Fault c.from_residual.result (end_passed c.in_err-desks.field-0.0 c.from_residual.result c.from_residual.ensures.1) is)

pub returns-in_err-desks-clause-disk : goal.returns-in_err-desks-clause-disk
returns-in_err-desks-clause-disk g c = λ line is.
    c.in_err-desks.ensures.cause line (ap Err (passed_disk c.in_err-desks.field-0.0 c.from_residual.result line c.from_residual.ensures.1 is))

pub serve_over-end-requires-clause-here : goal.serve_over-end-requires-clause-here
serve_over-end-requires-clause-here g c κs _ = ap (λ (b : Bundle). b.locks) c.new-passes.ensures ∙ c.in_ok-desks.ensures.here ∙ sym c.deref.ensures.value

pub serve_over-end-requires-clause-passes : goal.serve_over-end-requires-clause-passes
serve_over-end-requires-clause-passes g c κs _ =
    subst (λ (r : Register). ArePasses (house_of r) c.new-passes.result.knows) (sym c.house-house.ensures.house)
    (subst (λ (b : Bundle). ArePasses (house_of c.open_desks.new.opened.loading.register) b.knows) (sym c.new-passes.ensures) c.in_ok-desks.ensures.house)

pub serve_over-end-requires-clause-fresh : goal.serve_over-end-requires-clause-fresh
serve_over-end-requires-clause-fresh g c κs _ =
    let loading = c.open_desks.new.opened.loading in
    subst (λ (r : Register). AreFresh (house_of r) c.new-passes.result.knows) (sym c.house-house.ensures.house)
    (subst (λ (b : Bundle). AreFresh (house_of loading.register) b.knows) (sym c.new-passes.ensures)
    (opened_fresh loading c.open_desks.new.opened.key c.house-house.ensures.lawful.lawful _ _ (bundle_of c.in_ok-desks.field-0.passes.items).knows c.in_ok-desks.ensures.passes))

pub serve_over-end-requires-clause-shares : goal.serve_over-end-requires-clause-shares
serve_over-end-requires-clause-shares g c κs _ = subst AreWholeIn (sym c.new-passes.ensures) c.in_ok-desks.ensures.whole

pub put_back-requires-clause-here : goal.put_back-requires-clause-here
put_back-requires-clause-here g c κs _ =
    ap (λ (b : Bundle). b.locks) c.into_vec.ensures ∙ c.serve_over-end.ensures.back.0 ∙ ap (λ (b : Bundle). b.locks) c.new-passes.ensures ∙ c.in_ok-desks.ensures.here

pub put_back-requires-clause-whole : goal.put_back-requires-clause-whole
put_back-requires-clause-whole g c κs _ = subst AreWholeIn (sym c.into_vec.ensures) c.serve_over-end.ensures.back.1

pub put_back-requires-clause-few : goal.put_back-requires-clause-few
put_back-requires-clause-few g c κs _ =
    let loading = c.open_desks.new.opened.loading in
    let few = few_owners loading c.open_desks.new.opened.key c.house-house.ensures.lawful.lawful in
    let all = many_opened loading c.open_desks.new.opened.key c.house-house.ensures.lawful.lawful c.house-house.result.now c.into_vec.result.items _ c.into_vec.ensures c.house-house.ensures.house c.serve_over-end.ensures.passes in
    omega (arith, few, all)

pub put_back-requires-clause-known : goal.put_back-requires-clause-known
put_back-requires-clause-known g c κs _ =
    let loading = c.open_desks.new.opened.loading in
    let few = few_owners loading c.open_desks.new.opened.key c.house-house.ensures.lawful.lawful in
    let all = many_opened loading c.open_desks.new.opened.key c.house-house.ensures.lawful.lawful c.house-house.result.now c.into_vec.result.items _ c.into_vec.ensures c.house-house.ensures.house c.serve_over-end.ensures.passes in
    omega (arith, few, all, (c.requires.home 63 (omega arith)).0, c.in_ok-desks.ensures.bay.0)

pub put_back-requires-clause-taken : goal.put_back-requires-clause-taken
put_back-requires-clause-taken g c κs _ = λ o less.
    let loading = c.open_desks.new.opened.loading in
    let all = many_opened loading c.open_desks.new.opened.key c.house-house.ensures.lawful.lawful c.house-house.result.now c.into_vec.result.items _ c.into_vec.ensures c.house-house.ensures.house c.serve_over-end.ensures.passes in
    c.in_ok-desks.ensures.passes.taken o (omega (arith, less, all))

pub returns-clause-end : goal.returns-clause-end
returns-clause-end g c = λ script.
    let found = c.in_ok-desks.ensures.versions in
    let loading = c.open_desks.new.opened.loading in
    let key = c.open_desks.new.opened.key in
    let lawful = c.house-house.ensures.lawful.lawful in
    let house = house_of loading.register in
    let workers = c.args.post.now.workers in
    let each = c.args.post.now.posting.each in
    let doors = doors_in g.O.Doors.coming g.O.Doors.served g.O.Doors.faults c.args.doors.now.items in
    let now = doors_in g.O.Doors.coming g.O.Doors.served g.O.Doors.faults c.serve_over-end.new.doors.items in
    let passes = (bundle_of c.in_ok-desks.field-0.passes.items).knows in
    let new = c.serve_over-end.new.passes in
    let after = c.into_vec.result.items in
    let same : bundle_of after ≡ new = c.into_vec.ensures in
    let all : length (bundle_of after).knows ≡ owners_in loading
    = many_known after ∙ many_opened loading key lawful c.house-house.result.now after new same c.house-house.ensures.house c.serve_over-end.ensures.passes in
    let served = subst (λ (b : Bundle). IsServiceEnd house (draws_of key) workers each doors now b.knows (bundle_of after).knows c.serve_over-end.result) c.new-passes.ensures
    (subst (λ (b : Bundle). IsServiceEnd house (draws_of key) workers each doors now c.new-passes.result.knows b.knows c.serve_over-end.result) (sym same)
    (served_in c.house-house.result.now loading.register c.key.result key workers each doors now _ _ c.serve_over-end.result c.house-house.ensures.house c.key.ensures c.serve_over-end.ensures.end)) in
    ends_over c.args.opened.now.loading c.args.opened.now.key found.0 found.1 (found_lawful c.args.opened.now.loading c.args.opened.now.key found.0 c.open_desks.new.opened found.2 lawful) workers each c.open_desks.new.opened found.2 _ _ _ passes (bundle_of after).knows c.put_back.ensures.back.0 doors now script c.serve_over-end.result c.in_ok-desks.ensures.passes served
    (back_counted after _ _ _ _ all c.put_back.ensures.back.1)

pub returns-clause-service : goal.returns-clause-service
returns-clause-service g c =
    let found = c.in_ok-desks.ensures.versions in
    let loading = c.open_desks.new.opened.loading in
    let key = c.open_desks.new.opened.key in
    let lawful = c.house-house.ensures.lawful.lawful in
    let house = house_of loading.register in
    let workers = c.args.post.now.workers in
    let each = c.args.post.now.posting.each in
    let doors = doors_in g.O.Doors.coming g.O.Doors.served g.O.Doors.faults c.args.doors.now.items in
    let now = doors_in g.O.Doors.coming g.O.Doors.served g.O.Doors.faults c.serve_over-end.new.doors.items in
    let passes = (bundle_of c.in_ok-desks.field-0.passes.items).knows in
    let new = c.serve_over-end.new.passes in
    let after = c.into_vec.result.items in
    let same : bundle_of after ≡ new = c.into_vec.ensures in
    let all : length (bundle_of after).knows ≡ owners_in loading
    = many_known after ∙ many_opened loading key lawful c.house-house.result.now after new same c.house-house.ensures.house c.serve_over-end.ensures.passes in
    let served = subst (λ (b : Bundle). IsServiceEnd house (draws_of key) workers each doors now b.knows (bundle_of after).knows c.serve_over-end.result) c.new-passes.ensures
    (subst (λ (b : Bundle). IsServiceEnd house (draws_of key) workers each doors now c.new-passes.result.knows b.knows c.serve_over-end.result) (sym same)
    (served_in c.house-house.result.now loading.register c.key.result key workers each doors now _ _ c.serve_over-end.result c.house-house.ensures.house c.key.ensures c.serve_over-end.ensures.end)) in
    on_over c.args.opened.now.loading c.args.opened.now.key found.0 found.1 (found_lawful c.args.opened.now.loading c.args.opened.now.key found.0 c.open_desks.new.opened found.2 lawful) workers each c.open_desks.new.opened found.2 _ _ _ passes (bundle_of after).knows c.put_back.ensures.back.0 doors now c.serve_over-end.result c.in_ok-desks.ensures.passes served
    (back_counted after _ _ _ _ all c.put_back.ensures.back.1)

pub returns-clause-bay : goal.returns-clause-bay
returns-clause-bay g c = (
  c.put_back.ensures.owners ∙ c.in_ok-desks.ensures.bay.0,
  omega (arith, c.put_back.ensures.faults, c.in_ok-desks.ensures.bay.1),
)

pub returns-clause-cause : goal.returns-clause-cause
returns-clause-cause g c = λ is.
    let items = c.args.doors.now.items in
    let few : c.args.post.now.workers ≤ length (doors_in g.O.Doors.coming g.O.Doors.served g.O.Doors.faults items)
    = omega (arith, c.requires.workers.1, c.requires.doors, length-map items (λ d. door_of (g.O.Doors.coming d) (g.O.Doors.served d) (g.O.Doors.faults d))) in
    served_rose _ _ _ _ _ _ _ _ c.serve_over-end.result few c.serve_over-end.ensures.end is

pub returns-clause-disk : goal.returns-clause-disk
returns-clause-disk g c = λ line is. served_no_disk _ _ _ _ _ _ _ _ c.serve_over-end.result line c.serve_over-end.ensures.end is

pub returns-clause-lost : goal.returns-clause-lost
returns-clause-lost g c = λ line is. served_no_disk _ _ _ _ _ _ _ _ c.serve_over-end.result line c.serve_over-end.ensures.end is

pub returns-in_err-desks-clause-lost : goal.returns-in_err-desks-clause-lost
returns-in_err-desks-clause-lost g c = λ line is.
    c.in_err-desks.ensures.lost line (ap Err (passed_disk c.in_err-desks.field-0.0 c.from_residual.result line c.from_residual.ensures.1 is))
