use Rattle.std.proofs.Common.{◌≡◌, [], subst}
use Rattle.owner_lock.specs.Passes.{known}
use Rattle.owner_desk.specs.Shared.{Shared, opened_in}
use Rattle.owner_desk.proofs.Calls.{closed_failure, closed_fault, closed_later, closed_records, closed_untouched}
use Rattle.owner_desk.proofs.desk.Desk+D.close.Goals as goal

pub returns-clause-records : goal.returns-clause-records
returns-clause-records g c =
    let v = known c.pass.inside.ticket in
    rw (c.into_book.ensures.book, ← c.pass.view_is) (closed_records (opened_in v.fixed) v c.close.result c.pass.invariant c.close.ensures)

pub returns-clause-closed : goal.returns-clause-closed
returns-clause-closed g c =
    let v = known c.pass.inside.ticket in
    rw (c.into_book.ensures.book, ← c.pass.view_is) (closed_fault (opened_in v.fixed) v c.close.result c.pass.invariant c.close.ensures)

pub returns-clause-failure : goal.returns-clause-failure
returns-clause-failure g c =
    let v = known c.pass.inside.ticket in
    rw (c.into_book.ensures.book, ← c.pass.view_is) (closed_failure (opened_in v.fixed) v c.close.result c.pass.invariant c.close.ensures)

pub returns-clause-later : goal.returns-clause-later
returns-clause-later g c =
    let v = known c.pass.inside.ticket in
    rw (c.into_book.ensures.book, ← c.pass.view_is) (closed_later (opened_in v.fixed) v c.close.result c.pass.invariant c.close.ensures)

pub returns-clause-untouched : goal.returns-clause-untouched
returns-clause-untouched g c =
    let v = known c.pass.inside.ticket in
    subst (λ (p : Shared). p.knows.own ≡ [] → p.knows.faults ≡ [] → c.into_book.result.storage ≡ p.knows.opened.storage) c.pass.view_is
    (closed_untouched (opened_in v.fixed) v c.close.result c.pass.invariant c.close.ensures c.into_book.result c.into_book.ensures.book c.into_book.ensures.sole)
