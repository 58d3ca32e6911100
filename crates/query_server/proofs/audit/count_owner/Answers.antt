use Rattle.std.proofs.Common.{◌≡◌, Option, Some, refl, sym, ap, subst}
use Rattle.outside_disks.specs.Stored.{Stored}
use Rattle.catalog_loading.specs.Loaded.{entry_in, header_in}
use Rattle.owner_catalog.specs.Entries.{owner_entry_at}
use Rattle.owner_books.specs.Books.{shown_by}
use Rattle.owner_books.specs.Opened.{IsOpened}
use Rattle.owner_books.proofs.Back.{changed_here, changed_to}
use Rattle.owner_books.proofs.Disks.{shown_still}
use Rattle.query_server.proofs.Counted.{counted_as}
use Rattle.owner_books.proofs.Passes.{book_back, book_stands}
use Rattle.owner_books.proofs.Stops.{book_opened}
use Rattle.owner_books.proofs.Twins.{counts_same}
use Rattle.query_server.proofs.audit.count_owner.Goals as goal

pub returns-in_err-counted-clause-left : goal.returns-in_err-counted-clause-left
returns-in_err-counted-clause-left g c =
    let version = c.in_ok-book.book.storage.header.version in
    book_back (entry_in c.args.opened.now.loading c.args.owner version) (header_in c.args.opened.now.loading c.args.opened.now.key c.args.owner version) c.args.owner (g.B.Bay.shelf c.args.bay.now) _ _ c.in_ok-book.book c.in_ok-book.ensures.book c.in_ok-book.ensures.taken
    (changed_to _ _ _ _ _ _ refl c.into_disks.ensures.stored c.put_back.ensures.home)

pub returns-clause-left : goal.returns-clause-left
returns-clause-left g c =
    let version = c.in_ok-book.book.storage.header.version in
    book_back (entry_in c.args.opened.now.loading c.args.owner version) (header_in c.args.opened.now.loading c.args.opened.now.key c.args.owner version) c.args.owner (g.B.Bay.shelf c.args.bay.now) _ _ c.in_ok-book.book c.in_ok-book.ensures.book c.in_ok-book.ensures.taken
    (changed_to _ _ _ _ _ _ refl c.into_disks.ensures.stored c.put_back.ensures.home)

pub returns-clause-still : goal.returns-clause-still
returns-clause-still g c =
    let version = c.in_ok-book.book.storage.header.version in
    let book = c.in_ok-book.book in
    let old = g.B.Bay.shelf c.args.bay.now in
    let now = changed_here c.args.owner (Some (shown_by book)) (g.B.Bay.shelf c.open_book.new.bay) (g.B.Bay.shelf c.put_back.new.self)
    (changed_to _ _ _ _ _ _ refl c.into_disks.ensures.stored c.put_back.ensures.home) in
    shown_still c.args.owner old (g.B.Bay.shelf c.put_back.new.self) (shown_by book) now
    (λ before was. book_stands (entry_in c.args.opened.now.loading c.args.owner version) (header_in c.args.opened.now.loading c.args.opened.now.key c.args.owner version) before (old c.args.owner) book was
    c.in_ok-book.ensures.book)

pub returns-clause-counted : goal.returns-clause-counted
returns-clause-counted g c =
    let new = c.in_ok-book.ensures.book in
    let book = c.in_ok-book.book in
    let version = book.storage.header.version in
    let entry = entry_in c.args.opened.now.loading c.args.owner version in
    let header = header_in c.args.opened.now.loading c.args.opened.now.key c.args.owner version in
    let old = g.B.Bay.shelf c.args.bay.now c.args.owner in
    let now = changed_here c.args.owner (Some (shown_by book)) (g.B.Bay.shelf c.open_book.new.bay) (g.B.Bay.shelf c.put_back.new.self)
    (changed_to _ _ _ _ _ _ refl c.into_disks.ensures.stored c.put_back.ensures.home) in (
      version,
      book.ledger.found,
      subst (λ (s : Option Stored). IsOpened entry header old s book.ledger.found) (sym now) (book_opened entry header old (shown_by book) book new (counts_same (shown_by book).twins)),
      counted_as _ _ _ _ _ _ _ _ new.of_entry (ap (λ catalog. owner_entry_at catalog c.args.owner) c.catalog.ensures.catalog) new.fresh c.in_ok-counted.ensures,
    )
