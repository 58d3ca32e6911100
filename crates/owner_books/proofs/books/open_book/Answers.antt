use Rattle.std.proofs.Common.{◌≡◌, ◌∙◌, ℕ, List, length, sym, ap, subst, arith}
use Rattle.std.specs.Prelude.{IfErr, IfOk}
use Rattle.journal_records.specs.declared.records.Header.{Header}
use Rattle.owner_catalog.specs.Entries.{Catalog, owner_entry_at}
use Rattle.budget_core.specs.Entries.{Entry}
use Rattle.owner_house.specs.House.{entry_of}
use Rattle.catalog_loading.specs.Loaded.{Loading, new_entry, new_header, owner_name_at}
use Rattle.owner_books.specs.Books.{IsNewBook, IsUnopenedStop}
use Rattle.owner_books.proofs.books.open_book.Goals as goal

-- the owner's entry in the catalog, by its number
entry_found : (loading : Loading) (catalog : Catalog) (o : ℕ) (entry : Entry) → catalog ≡ loading.register.catalog → entry ≡ entry_of catalog (owner_entry_at catalog o)
    → entry ≡ new_entry loading o
entry_found loading catalog o entry same is = is ∙ ap (λ (found : Catalog). entry_of found (owner_entry_at found o)) same

pub new_entry-requires : goal.new_entry-requires
new_entry-requires g c = omega (arith, c.requires.owner, ap (λ (catalog : Catalog). length catalog.owners) c.catalog-catalog.ensures.catalog)

pub open_on-requires-clause-budget : goal.open_on-requires-clause-budget
open_on-requires-clause-budget g c κs _ =
    let found = entry_found c.args.opened.now.loading c.catalog-catalog.result.now c.args.owner c.in_ok-entry.entry c.catalog-catalog.ensures.catalog c.in_ok-entry.ensures in
    ap (λ (h : Header). h.budget) c.requires.header ∙ sym (ap (λ (e : Entry). e.budget) found)

pub open_on-requires-clause-capacity : goal.open_on-requires-clause-capacity
open_on-requires-clause-capacity g c κs _ =
    let found = entry_found c.args.opened.now.loading c.catalog-catalog.result.now c.args.owner c.in_ok-entry.entry c.catalog-catalog.ensures.catalog c.in_ok-entry.ensures in
    ap (λ (h : Header). h.capacity) c.requires.header ∙ sym (ap (λ (e : Entry). e.capacity) found)

pub returns-clause-book : goal.returns-clause-book
returns-clause-book g c =
    let loading = c.args.opened.now.loading in
    let old = g.B.Bay.shelf c.args.bay.now c.args.owner in
    let found = entry_found loading c.catalog-catalog.result.now c.args.owner c.in_ok-entry.entry c.catalog-catalog.ensures.catalog c.in_ok-entry.ensures in
    subst (λ (h : Header). IfOk c.open_on.result (λ book. IsNewBook (record (new_entry loading c.args.owner) { version = book.storage.header.version }) (record h { version = book.storage.header.version }) old book)) c.requires.header
    (subst (λ (e : Entry). IfOk c.open_on.result (λ book. IsNewBook (record e { version = book.storage.header.version }) (record c.args.header.now { version = book.storage.header.version }) old book)) found c.open_on.ensures.book)

pub returns-clause-stop : goal.returns-clause-stop
returns-clause-stop g c =
    let loading = c.args.opened.now.loading in
    let owner = c.args.owner in
    let old = g.B.Bay.shelf c.args.bay.now owner in
    let new = g.B.Bay.shelf c.open_on.new.bay owner in
    let named : c.owner_name-name.result.now ≡ owner_name_at loading owner = c.owner_name-name.ensures ∙ ap (λ (catalog : Catalog). (owner_entry_at catalog owner).name) c.catalog-catalog.ensures.catalog in
    let found = entry_found loading c.catalog-catalog.result.now owner c.in_ok-entry.entry c.catalog-catalog.ensures.catalog c.in_ok-entry.ensures in
    subst (λ (n : List ℕ). IfErr c.open_on.result (IsUnopenedStop n (new_entry loading owner) (new_header loading c.args.opened.now.key owner) old new)) named
    (subst (λ (h : Header). IfErr c.open_on.result (IsUnopenedStop c.owner_name-name.result.now (new_entry loading owner) h old new)) c.requires.header
    (subst (λ (e : Entry). IfErr c.open_on.result (IsUnopenedStop c.owner_name-name.result.now e c.args.header.now old new)) found c.open_on.ensures.stop))
