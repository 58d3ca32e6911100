use Rattle.std.proofs.Common.{ℕ, List, sym, subst, arith}
use mathlib.Core.Logic.{inr}
use Rattle.journal_records.specs.declared.records.Header.{Header}
use Rattle.budget_core.specs.Entries.{Entry}
use Rattle.catalog_loading.specs.Loaded.{its_entry, its_header, its_name}
use Rattle.owner_books.specs.Books.{IsNewBook, IsUnopenedStop, TookDisk}
use Rattle.query_server.specs.Ends.{Ended, IsEndOf}
use Rattle.query_server.specs.Grant.{entry_in, header_in}
use Rattle.query_server.specs.Granted.{IsGrantEnd}
use Rattle.owner_books.specs.Shelves.{OneDisk, IsOnlySynced}
use Rattle.query_server.specs.Work.{to_grant}
use Rattle.owner_books.proofs.Back.{changed_to}
use Rattle.query_server.proofs.Ends.{end_passed}
use Rattle.query_server.proofs.Granting.{granted_end, granted_lost, granted_rose, one_risen, unopened_end}
use Rattle.query_server.proofs.grant.grant.Goals as goal

pub returns-in_err-book-clause-end : goal.returns-in_err-book-clause-end
returns-in_err-book-clause-end g c = λ script.
    let one = c.args.opened.now in
    let old = g.B.Bay.shelf c.args.bay.now in
    let new = g.B.Bay.shelf c.open_on.new.bay in
    let stop = c.in_err-book.field-0.0 in
    let disk = subst (λ (o : ℕ). OneDisk o IsOnlySynced old new) c.number-owner.ensures.number c.in_err-book.ensures.left in
    let why = subst (λ (o : ℕ). IsUnopenedStop (its_name one) (its_entry one) (its_header one) (old o) (new o) stop) c.number-owner.ensures.number
    (subst (λ (n : List ℕ). IsUnopenedStop n (its_entry one) (its_header one) (old c.number-owner.result) (new c.number-owner.result) stop) c.name.ensures
    (subst (λ (e : Entry). IsUnopenedStop c.name.result.now e (its_header one) (old c.number-owner.result) (new c.number-owner.result) stop) c.in_ok-entry.ensures
    (subst (λ (h : Header). IsUnopenedStop c.name.result.now c.in_ok-entry.entry h (old c.number-owner.result) (new c.number-owner.result) stop) c.in_ok-header.ensures.header c.in_err-book.ensures.stop))) in
    subst (λ (end : Ended). IsEndOf (to_grant c.args.amount one) old new script end) (sym (end_passed stop c.from_residual-in_err-book.result c.from_residual-in_err-book.ensures.1))
    (unopened_end one c.args.amount old new script stop disk (one_risen one.number IsOnlySynced old new disk) why)

pub returns-clause-end : goal.returns-clause-end
returns-clause-end g c = λ script.
    let one = c.args.opened.now in
    let old = g.B.Bay.shelf c.args.bay.now in
    let mid = g.B.Bay.shelf c.open_on.new.bay in
    let new = g.B.Bay.shelf c.put_back.new.self in
    let book = c.in_ok-book.book in
    let later = c.grant_over-end.new.book in
    let version = book.storage.header.version in
    let is = subst (λ (o : ℕ). IsNewBook (entry_in one version) (header_in one version) (old o) book) c.number-owner.ensures.number
    (subst (λ (e : Entry). IsNewBook (record e { version = version }) (header_in one version) (old c.number-owner.result) book) c.in_ok-entry.ensures
    (subst (λ (h : Header). IsNewBook (record c.in_ok-entry.entry { version = version }) (record h { version = version }) (old c.number-owner.result) book) c.in_ok-header.ensures.header c.in_ok-book.ensures.book)) in
    let took = subst (λ (o : ℕ). TookDisk o old mid) c.number-owner.ensures.number c.in_ok-book.ensures.taken in
    let back = changed_to _ _ _ _ _ _ c.number-owner.ensures.number c.into_disks.ensures.stored c.put_back.ensures.home in
    granted_end one c.args.amount version old mid new book later is took back c.grant_over-end.ensures.went c.grant_over-end.ensures.kept script c.grant_over-end.result
    (subst (λ (n : List ℕ). IsGrantEnd book n c.args.amount c.grant_over-end.result later) c.name-2.ensures c.grant_over-end.ensures.end)

pub returns-clause-disk : goal.returns-clause-disk
returns-clause-disk g c = λ line is_disk.
    let one = c.args.opened.now in
    let old = g.B.Bay.shelf c.args.bay.now in
    let mid = g.B.Bay.shelf c.open_on.new.bay in
    let new = g.B.Bay.shelf c.put_back.new.self in
    let book = c.in_ok-book.book in
    let later = c.grant_over-end.new.book in
    let version = book.storage.header.version in
    let is = subst (λ (o : ℕ). IsNewBook (entry_in one version) (header_in one version) (old o) book) c.number-owner.ensures.number
    (subst (λ (e : Entry). IsNewBook (record e { version = version }) (header_in one version) (old c.number-owner.result) book) c.in_ok-entry.ensures
    (subst (λ (h : Header). IsNewBook (record c.in_ok-entry.entry { version = version }) (record h { version = version }) (old c.number-owner.result) book) c.in_ok-header.ensures.header c.in_ok-book.ensures.book)) in
    let took = subst (λ (o : ℕ). TookDisk o old mid) c.number-owner.ensures.number c.in_ok-book.ensures.taken in
    let back = changed_to _ _ _ _ _ _ c.number-owner.ensures.number c.into_disks.ensures.stored c.put_back.ensures.home in
    let lawful = c.number-owner.ensures.lawful in
    inr (granted_rose one c.args.amount version old mid new book later is took back c.grant_over-end.ensures.went c.grant_over-end.ensures.kept c.grant_over-end.result line
    (c.requires.home one.number (omega (arith, lawful.known, lawful.catalog.few_owners))).1 is_disk
    (subst (λ (n : List ℕ). IsGrantEnd book n c.args.amount c.grant_over-end.result later) c.name-2.ensures c.grant_over-end.ensures.end))

-- The owner's disk is one of those that the bay has.
pub open_on-requires-clause-known : goal.open_on-requires-clause-known
open_on-requires-clause-known g c κs _ =
    let one = c.number-owner.ensures.lawful in
    (c.requires.home c.number-owner.result (omega (arith, c.number-owner.ensures.number, one.known, one.catalog.few_owners))).0

pub returns-clause-lost : goal.returns-clause-lost
returns-clause-lost g c = λ line is_disk.
    let one = c.args.opened.now in
    let old = g.B.Bay.shelf c.args.bay.now in
    let mid = g.B.Bay.shelf c.open_on.new.bay in
    let new = g.B.Bay.shelf c.put_back.new.self in
    let book = c.in_ok-book.book in
    let later = c.grant_over-end.new.book in
    let version = book.storage.header.version in
    let is = subst (λ (o : ℕ). IsNewBook (entry_in one version) (header_in one version) (old o) book) c.number-owner.ensures.number
    (subst (λ (e : Entry). IsNewBook (record e { version = version }) (header_in one version) (old c.number-owner.result) book) c.in_ok-entry.ensures
    (subst (λ (h : Header). IsNewBook (record c.in_ok-entry.entry { version = version }) (record h { version = version }) (old c.number-owner.result) book) c.in_ok-header.ensures.header c.in_ok-book.ensures.book)) in
    let took = subst (λ (o : ℕ). TookDisk o old mid) c.number-owner.ensures.number c.in_ok-book.ensures.taken in
    let back = changed_to _ _ _ _ _ _ c.number-owner.ensures.number c.into_disks.ensures.stored c.put_back.ensures.home in
    let lawful = c.number-owner.ensures.lawful in
    inr (granted_lost one c.args.amount version old mid new book later is took back c.grant_over-end.ensures.went c.grant_over-end.ensures.kept c.grant_over-end.result line
    (c.requires.home one.number (omega (arith, lawful.known, lawful.catalog.few_owners))).1 is_disk
    (subst (λ (n : List ℕ). IsGrantEnd book n c.args.amount c.grant_over-end.result later) c.name-2.ensures c.grant_over-end.ensures.end))
