-- a journal that is opened isn't refused
use Rattle.std.proofs.Common.{◌≡◌, ◌⊎◌, ℕ, List, Some, inl, inr}
use Rattle.journal_records.specs.declared.records.Header.{Header}
use Rattle.journal_records.specs.declared.records.Record.{Record}
use Rattle.budget_journal.specs.declared.opening.OpenFault.TheVariants as open_fault
use Rattle.budget_journal.specs.Journals.{Stands}
use Rattle.budget_core.specs.Entries.{Entry}
use Rattle.budget_core.specs.Legal.{IsHistory}
use Rattle.budget_ledger.proofs.Standing.{book_stands}
use Rattle.owner_books.specs.Opened.{IsOneUnopened}
use Rattle.owner_books.specs.declared.refusals.JournalRefusal.{JournalRefusal}
use Rattle.owner_books.specs.declared.refusals.JournalRefusal.TheVariants.{Uninitialised, Changed, Damaged, Exists, Forked}

not_length : (n : ℕ) → (open_fault.NotInitialised n ≡ open_fault.DiskFault) ⊎ (open_fault.NotInitialised n ≡ open_fault.NoMemory) → ⊥
not_length n (inl is) = cc
not_length n (inr is) = cc

not_header : (kept found : List ℕ) → (open_fault.Changed kept found ≡ open_fault.DiskFault) ⊎ (open_fault.Changed kept found ≡ open_fault.NoMemory) → ⊥
not_header kept found (inl is) = cc
not_header kept found (inr is) = cc

not_slot : (k : ℕ) → (open_fault.Damaged k ≡ open_fault.DiskFault) ⊎ (open_fault.Damaged k ≡ open_fault.NoMemory) → ⊥
not_slot k (inl is) = cc
not_slot k (inr is) = cc

module _ (entry : Entry) (header : Header) (records : List Record) (bytes : List ℕ) where
  -- Bytes that stand for records which may follow one another aren't refused.
  pub not_refused : (refusal : JournalRefusal) → Stands header records bytes → entry.version ≡ header.version → IsHistory entry records → IsOneUnopened entry header (Some bytes) refusal → ⊥
  not_refused (Uninitialised n) stands same history is = not_length n (book_stands header records bytes stands entry same history (open_fault.NotInitialised n) is)
  not_refused Changed stands same history (kept, found, is) =
      not_header kept found (book_stands header records bytes stands entry same history (open_fault.Changed kept found) is)
  not_refused (Damaged k) stands same history is = not_slot k (book_stands header records bytes stands entry same history (open_fault.Damaged k) is)
  not_refused (Exists n) stands same history is = is
  not_refused (Forked k) stands same history is = is
