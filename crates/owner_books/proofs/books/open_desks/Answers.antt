use Rattle.std.proofs.Common.{◌≡◌, ◌∙◌, ◌<◌, ◌+◌, List, refl, sym, ap, subst, arith}
use Rattle.std.specs.Prelude.{Err}
use Rattle.catalog_loading.specs.declared.stops.Stop.TheVariants.{Disk}
use Rattle.outside_disks.specs.Stored.{HasCountRisen}
use Rattle.owner_desk.specs.Passes.{Pass}
use Rattle.session_core.specs.Bundles.{bundle_of}
use Rattle.catalog_loading.specs.Loaded.{owners_in}
use Rattle.owner_books.specs.Shelves.{AreLost}
use Rattle.owner_books.proofs.Versions.{AreDesks, desk_stopped, desks_house, one_more}
use Rattle.owner_books.proofs.Bundled.{known_last, locks_pushed, many_known, whole_pushed}
use Rattle.owner_books.proofs.Disks.{risen_from}
use Rattle.owner_books.proofs.Passes.{back_counted, no_other_opened, rose_by, some_back, went_still}
use Rattle.owner_books.proofs.Stops.{err_same}
use Rattle.owner_books.proofs.books.open_desks.Goals as goal

pub open_desk-requires-clause-known : goal.open_desk-requires-clause-known
open_desk-requires-clause-known g c κs _ =
    let within : c.loop-owner.owner < 64 = omega (arith, c.loop-owner-test.true, c.loop-owner.auto.owner-end, c.in_ok-headers.ensures.few) in
    omega (arith, (c.requires.home c.loop-owner.owner within).0, c.loop-owner.invariant.owners)

pub put_back-requires-clause-known : goal.put_back-requires-clause-known
put_back-requires-clause-known g c κs _ =
    let within : c.loop-owner.owner < 64 = omega (arith, c.loop-owner-test.true, c.loop-owner.auto.owner-end, c.in_ok-headers.ensures.few) in
    omega (arith, (c.requires.home c.loop-owner.owner within).0, c.loop-owner.invariant.owners, c.loop-owner.invariant.on.on.count, many_known c.loop-owner.passes.items, c.in-Err.ensures.bay.0)

pub returns-in-Err-clause-left : goal.returns-in-Err-clause-left
returns-in-Err-clause-left g c =
    let within : c.loop-owner.owner < owners_in c.args.opened.now.loading = omega (arith, c.loop-owner-test.true, c.loop-owner.auto.owner-end, c.in_ok-headers.ensures.count) in
    let on = c.loop-owner.invariant.on.on in
    some_back _ _ _ c.loop-owner.owner _ _ _ _ _ c.put_back.ensures.back.0 within on c.in-Err.ensures.left (back_counted c.loop-owner.passes.items _ _ _ _ on.count c.put_back.ensures.back.1)

pub returns-in-Err-clause-stop : goal.returns-in-Err-clause-stop
returns-in-Err-clause-stop g c =
    let loading = c.args.opened.now.loading in
    let within : c.loop-owner.owner < owners_in loading = omega (arith, c.loop-owner-test.true, c.loop-owner.auto.owner-end, c.in_ok-headers.ensures.count) in
    let desks = c.loop-owner.invariant.on in
    let old = g.B.Bay.shelf c.args.bay.now in
    let mid = g.B.Bay.shelf c.loop-owner.bay in
    let passes = (bundle_of c.loop-owner.passes.items).knows in
    let back = back_counted c.loop-owner.passes.items _ _ _ _ desks.on.count c.put_back.ensures.back.1 in
    desk_stopped loading c.args.opened.now.key c.loop-owner.owner old mid (g.B.Bay.shelf c.open_desk.new.bay) (g.B.Bay.shelf c.put_back.new.bay) c.loop-owner.opened passes
    c.put_back.ensures.back.0 c.in-Err.stop desks back within
    (no_other_opened _ _ c.loop-owner.owner _ _ _ _ passes c.put_back.ensures.back.0 desks.on c.in-Err.ensures.left back) c.in-Err.ensures.stop

pub returns-in-Err-clause-cause : goal.returns-in-Err-clause-cause
returns-in-Err-clause-cause g c = λ line is.
    let same = err_same c.in-Err.stop (Disk line) _ refl is in
    let rose = c.in-Err.ensures.cause line (ap Err same) in
    let on = c.loop-owner.invariant.on.on in
    rose_by rose
    (risen_from _ _ _ _ c.loop-owner.invariant.faults c.in-Err.ensures.bay.1 (omega (arith, c.put_back.ensures.faults)))
    (went_still HasCountRisen _ _ c.loop-owner.owner _ _ _ _ _ c.put_back.ensures.back.0 on (back_counted c.loop-owner.passes.items _ _ _ _ on.count c.put_back.ensures.back.1))

pub returns-in-Err-clause-lost : goal.returns-in-Err-clause-lost
returns-in-Err-clause-lost g c = λ line is.
    let same = err_same c.in-Err.stop (Disk line) _ refl is in
    let rose = c.in-Err.ensures.lost line (ap Err same) in
    let on = c.loop-owner.invariant.on.on in
    rose_by rose
    (risen_from _ _ _ _ c.loop-owner.invariant.faults c.in-Err.ensures.bay.1 (omega (arith, c.put_back.ensures.faults)))
    (went_still AreLost _ _ c.loop-owner.owner _ _ _ _ _ c.put_back.ensures.back.0 on (back_counted c.loop-owner.passes.items _ _ _ _ on.count c.put_back.ensures.back.1))

pub loop-owner-preserved : goal.loop-owner-preserved
loop-owner-preserved g c =
    let loading = c.args.opened.now.loading in
    let key = c.args.opened.now.key in
    let owner = c.loop-owner.owner in
    let pass = c.in-Ok.pass in
    let pushed = c.push_reserved-in-Ok.ensures.items in
    let few : owner < 64 = omega (arith, c.loop-owner-test.true, c.loop-owner.auto.owner-end, c.in_ok-headers.ensures.few) in
    record {
      on = subst (λ (ps : List Pass). AreDesks loading key (owner + 1) (g.B.Bay.shelf c.args.bay.now) (g.B.Bay.shelf c.open_desk.new.bay) c.set_version.new.self ps) (sym (known_last _ _ _ pushed))
          (one_more loading key owner (g.B.Bay.shelf c.args.bay.now) (g.B.Bay.shelf c.loop-owner.bay) c.loop-owner.opened (bundle_of c.loop-owner.passes.items).knows c.loop-owner.invariant.on
          c.in-Ok.version (g.B.Bay.shelf c.open_desk.new.bay) c.set_version.new.self pass.knows few c.set_version.ensures c.in-Ok.ensures.taken c.in-Ok.ensures.desk.2);
      here = locks_pushed _ _ _ _ _ _ pushed c.push_reserved.ensures.items c.loop-owner.invariant.here c.in-Ok.ensures.desk.0;
      whole = whole_pushed _ _ _ pushed c.loop-owner.invariant.whole c.in-Ok.ensures.desk.1;
      room = (omega (arith, c.loop-owner.invariant.room.0, c.push_reserved-in-Ok.ensures.capacity), omega (arith, c.loop-owner.invariant.room.1, c.push_reserved.ensures.capacity));
      owners = c.in-Ok.ensures.bay.0 ∙ c.loop-owner.invariant.owners;
      faults = omega (arith, c.in-Ok.ensures.bay.1, c.loop-owner.invariant.faults);
    }

pub returns-clause-house : goal.returns-clause-house
returns-clause-house g c =
    let all : c.loop-owner.owner ≡ owners_in c.args.opened.now.loading = omega (arith, c.loop-owner-test.false, c.loop-owner.auto.owner-end, c.in_ok-headers.ensures.count) in
    desks_house c.args.opened.now.loading c.args.opened.now.key c.loop-owner.owner (g.B.Bay.shelf c.args.bay.now) (g.B.Bay.shelf c.loop-owner.bay) c.loop-owner.opened (bundle_of c.loop-owner.passes.items).knows
    c.loop-owner.invariant.on c.in_ok-headers.ensures.lawful.lawful all
