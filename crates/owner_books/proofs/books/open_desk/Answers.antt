use Rattle.std.proofs.Common.{refl, sym, subst}
use Rattle.budget_ledger.specs.Account.{Account}
use Rattle.catalog_loading.specs.Loaded.{entry_in, header_in}
use Rattle.owner_books.specs.Books.{IsNewBook}
use Rattle.owner_books.proofs.Back.{changed_to}
use Rattle.owner_books.proofs.Passes.{book_back}
use Rattle.owner_books.proofs.books.open_desk.Goals as goal

-- no memory for the lock
pub returns-in-Err-clause-left : goal.returns-in-Err-clause-left
returns-in-Err-clause-left g c =
    let loading = c.args.opened.now.loading in
    let key = c.args.opened.now.key in
    let o = c.args.owner in
    let old = g.B.Bay.shelf c.args.bay.now in
    let version = c.in_ok-book.book.storage.header.version in
    book_back (entry_in loading o version) (header_in loading key o version) o old _ _ c.in-Err.book
    (subst (λ (b : Account). IsNewBook (entry_in loading o version) (header_in loading key o version) (old o) b) (sym c.in-Err.ensures.refused) c.in_ok-book.ensures.book) c.in_ok-book.ensures.taken
    (changed_to _ _ _ _ _ _ refl c.into_disks.ensures.stored c.put_back.ensures.home)
