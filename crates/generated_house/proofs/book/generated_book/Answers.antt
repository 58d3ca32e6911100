use Rattle.std.proofs.Common.{◌≡◌, ◌∙◌, ◌*◌, ap, arith}
use Rattle.outside_disks.specs.Shown.{told}
use Rattle.journal_records.specs.Encoding.{newest_version}
use Rattle.budget_core.specs.Entries.{Entry}
use Rattle.budget_ledger.specs.Account.{Storage}
use Rattle.generated_house.specs.Sizes.{budget_for, capacity_for, journal_version}
use Rattle.generated_house.proofs.Books.{entry_is, header_lawful, header_with, opened}
use Rattle.generated_house.proofs.book.generated_book.Goals as goal

pub init-requires-clause-valid : goal.init-requires-clause-valid
init-requires-clause-valid c =
    let version : c.version.result ≡ journal_version = c.version.ensures ∙ ap (λ (e : Entry). e.version) c.with_version-entry.ensures in
    header_lawful _ _ _ (omega (arith, c.budget.ensures, c.capacity.ensures.valid.budget)) (omega (arith, c.capacity.ensures.capacity, c.capacity.ensures.valid.capacity))
    (omega (arith, version), omega (arith, version))

pub init-requires-clause-grown : goal.init-requires-clause-grown
init-requires-clause-grown c =
    let version : c.version.result ≡ journal_version = c.version.ensures ∙ ap (λ (e : Entry). e.version) c.with_version-entry.ensures in
    omega (arith, version)

pub returns-in-Ok-open-clause-ledger : goal.returns-in-Ok-open-clause-ledger
returns-in-Ok-open-clause-ledger c =
    let budget_is : c.from.result * 1000000 ≡ budget_for c.args.asks = omega (arith, c.from.ensures, c.paid_of.ensures) in
    let capacity_is : 2 * c.args.asks ≡ capacity_for c.args.asks = omega arith in
    let plain = c.new.ensures ∙ entry_is c.args.asks _ _ _ _ newest_version budget_is capacity_is c.new-keys.ensures.items c.in_ok-limits.ensures.items in
    let same = c.with_version-entry.ensures ∙ ap (λ (e : Entry). record e { version = journal_version }) plain in
    let version : c.version.result ≡ journal_version = c.version.ensures ∙ ap (λ (e : Entry). e.version) c.with_version-entry.ensures in
    let alike = ap (λ (s : Storage). s.header) c.in-Ok-open.ensures.fresh.1 in
    opened c.args.asks _ (header_with c.budget.result c.capacity.result c.version.result) c.in-Ok-open.book.storage.header c.in-Ok-open.book.ledger _ (told c.init.new.disk) c.in-Ok-open.book.storage.trace _ same version alike
    c.in_ok-disk.ensures.told c.in-Ok.ensures.made c.in-Ok-open.ensures.found c.in-Ok-open.ensures.fresh.0
