-- What isn't refused.
use Rattle.std.proofs.Common.{◌≡◌, ◌⊎◌, ℕ, List, refl, sym, ◌∙◌, subst, inl, inr}
use Rattle.journal_records.specs.declared.records.Record.{Record}
use Rattle.journal_records.specs.declared.records.Header.{Header}
use Rattle.budget_journal.specs.declared.opening.OpenFault.{OpenFault}
use Rattle.budget_journal.specs.declared.opening.OpenFault.TheVariants.{NotInitialised, Changed, Damaged, DiskFault, NoMemory}
use Rattle.budget_journal.specs.Areas.{version_in}
use Rattle.budget_journal.specs.Journals.{Stands}
use Rattle.budget_journal.proofs.Gates.{head-version}
use Rattle.budget_journal.proofs.One.{stands-one, refused-for-others}
use Rattle.budget_core.specs.Entries.{Entry}
use Rattle.budget_core.specs.Legal.{IsHistory, IsFirstAstray}
use Rattle.budget_ledger.specs.Opened.{IsBookFault}

-- records each of which may follow are refused for the disk or for want of memory alone
pub book_stands : (header : Header) (records : List Record) (bytes : List ℕ) → Stands header records bytes → (entry : Entry) → entry.version ≡ header.version → IsHistory entry records
    → (fault : OpenFault) → IsBookFault entry header bytes fault → (fault ≡ DiskFault) ⊎ (fault ≡ NoMemory)
book_stands header records bytes stands entry version history (Damaged k) (inl journal) = refused-for-others header records bytes stands (Damaged k) journal
book_stands header records bytes stands entry version history (Damaged k) (inr (others, other, first)) =
    let named : version_in bytes ≡ header.version = head-version header bytes stands.head in
    let there : Stands header others bytes = subst (λ (v : ℕ). Stands (record header { version = v }) others bytes) named other in
    let same : others ≡ records = stands-one header others records bytes there stands in
    let first_here : IsFirstAstray entry others k = subst (λ (v : ℕ). IsFirstAstray (record entry { version = v }) others k) (named ∙ sym version) first in
    let here : IsFirstAstray entry records k = subst (λ (rs : List Record). IsFirstAstray entry rs k) same first_here in
    absurd (here.astray.2 (history.follows k here.astray.0 here.astray.1))
book_stands header records bytes stands entry version history (NotInitialised n) is = refused-for-others header records bytes stands (NotInitialised n) is
book_stands header records bytes stands entry version history (Changed kept found) is = refused-for-others header records bytes stands (Changed kept found) is
book_stands header records bytes stands entry version history DiskFault is = inl refl
book_stands header records bytes stands entry version history NoMemory is = inr refl
