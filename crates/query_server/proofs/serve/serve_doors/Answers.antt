use Rattle.catalog_loading.proofs.Houses.{house_done, house_stopped}
use Rattle.query_server.specs.Work.{to_serve}
use Rattle.query_server.specs.Serve.{serve_steps}
use Rattle.query_server.specs.Outside.{doors_in}
use Rattle.query_server.proofs.Doors.{doors_stay}
use Rattle.query_server.proofs.Ends.{failed_end, passed_end}
use Rattle.query_server.proofs.Ran.{passed_disk}
use Rattle.query_server.proofs.Served.{on_stays, on_work, passed_undone, unserved_work}
use Rattle.owner_books.proofs.Stops.{step_no_disk}
use Rattle.query_server.proofs.serve.serve_doors.Goals as goal

pub returns-in_err-opened-clause-end : goal.returns-in_err-opened-clause-end
returns-in_err-opened-clause-end g c = λ left.
    let post = c.args.post.now in
    passed_end _ left _ _ (g.B.Bay.shelf c.args.bay.now) (serve_steps c.args.catalog.now c.args.key.now post.workers post.posting.each) _ c.from_residual.result
    (house_stopped _ _ _ (to_serve post.workers post.posting.each) c.args.catalog.now c.args.key.now _ c.in_err-opened.ensures.step) c.from_residual.ensures.1

pub returns-in_err-opened-clause-service : goal.returns-in_err-opened-clause-service
returns-in_err-opened-clause-service g c = λ left.
    let post = c.args.post.now in
    unserved_work _ left (serve_steps c.args.catalog.now c.args.key.now post.workers post.posting.each) (g.B.Bay.shelf c.args.bay.now)
    (doors_in g.O.Doors.coming g.O.Doors.served g.O.Doors.faults c.args.doors.now.items) c.from_residual.result
    (passed_undone c.in_err-opened.field-0.0 c.from_residual.result c.from_residual.ensures.1)

pub returns-in_err-opened-clause-doors : goal.returns-in_err-opened-clause-doors
returns-in_err-opened-clause-doors g c = doors_stay (doors_in g.O.Doors.coming g.O.Doors.served g.O.Doors.faults c.args.doors.now.items)

pub returns-in_err-opened-clause-disk : goal.returns-in_err-opened-clause-disk
returns-in_err-opened-clause-disk g c = λ line is.
    let post = c.args.post.now in
    let stop = c.in_err-opened.field-0.0 in
    step_no_disk _ _ _ (serve_steps c.args.catalog.now c.args.key.now post.workers post.posting.each) stop line
    (house_stopped _ _ _ (to_serve post.workers post.posting.each) c.args.catalog.now c.args.key.now _ c.in_err-opened.ensures.step) (passed_disk stop c.from_residual.result line c.from_residual.ensures.1 is)

pub returns-clause-end : goal.returns-clause-end
returns-clause-end g c = λ left.
    let post = c.args.post.now in
    let house = c.in_ok-opened.opened in
    failed_end _ left _ _ _ _ (serve_steps c.args.catalog.now c.args.key.now post.workers post.posting.each) (to_serve post.workers post.posting.each house.loading house.key) c.serve_house.result
    (house_done _ _ _ (to_serve post.workers post.posting.each) c.args.catalog.now c.args.key.now _ c.in_ok-opened.ensures.step) c.serve_house.ensures.end

pub returns-clause-service : goal.returns-clause-service
returns-clause-service g c = λ left.
    let post = c.args.post.now in
    let house = c.in_ok-opened.opened in
    on_work _ left _ _ (serve_steps c.args.catalog.now c.args.key.now post.workers post.posting.each) house.loading house.key post.workers post.posting.each _ _ _ _ c.serve_house.result
    (house_done _ _ _ (to_serve post.workers post.posting.each) c.args.catalog.now c.args.key.now _ c.in_ok-opened.ensures.step) c.serve_house.ensures.service

pub returns-clause-doors : goal.returns-clause-doors
returns-clause-doors g c =
    let post = c.args.post.now in
    let house = c.in_ok-opened.opened in
    on_stays house.loading house.key post.workers post.posting.each _ _ _ _ c.serve_house.result c.serve_house.ensures.service

pub returns-in_err-opened-clause-lost : goal.returns-in_err-opened-clause-lost
returns-in_err-opened-clause-lost g c = λ line is.
    let post = c.args.post.now in
    let stop = c.in_err-opened.field-0.0 in
    step_no_disk _ _ _ (serve_steps c.args.catalog.now c.args.key.now post.workers post.posting.each) stop line
    (house_stopped _ _ _ (to_serve post.workers post.posting.each) c.args.catalog.now c.args.key.now _ c.in_err-opened.ensures.step) (passed_disk stop c.from_residual.result line c.from_residual.ensures.1 is)
