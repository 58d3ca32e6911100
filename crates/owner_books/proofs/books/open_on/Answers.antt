use Rattle.std.proofs.Common.{refl, subst}
use mathlib.Core.Logic.{inr}
use Rattle.catalog_loading.specs.declared.stops.Stop.TheVariants.{Disk}
use Rattle.owner_books.specs.Books.{IsBothFaultStop}
use Rattle.owner_books.proofs.Back.{changed_here}
use Rattle.owner_books.proofs.Disks.{some_rose}
use Rattle.owner_books.proofs.Stops.{err_same, faulted, shelf_stopped}
use Rattle.owner_books.proofs.books.open_on.Goals as goal

pub returns-in-Err-clause-stop : goal.returns-in-Err-clause-stop
returns-in-Err-clause-stop g c =
    shelf_stopped c.args.name.now c.args.entry c.args.header.now _ _ _ _ c.in-Err.fault c.both_stop.result c.in-Ok.ensures.given
    (changed_here c.args.owner _ _ _ c.put_back.ensures.home) c.in-Err.ensures.refused c.in-Err.ensures.left c.both_stop.ensures

pub returns-in-Err-clause-cause : goal.returns-in-Err-clause-cause
returns-in-Err-clause-cause g c = λ line is.
    let same = err_same c.both_stop.result (Disk line) _ refl is in
    let lost = c.in-Err.ensures.cause (faulted c.args.name.now c.in-Err.fault line (subst (IsBothFaultStop c.args.name.now c.in-Err.fault) same c.both_stop.ensures)) in
    inr (some_rose c.args.owner _ _ _ _ c.in-Ok.ensures.given (changed_here c.args.owner _ _ _ c.put_back.ensures.home) lost)
