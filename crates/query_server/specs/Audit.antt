-- `audit`: the records in the owners' journals are counted.
use Rattle.std.specs.Prelude.{◌≡◌, ◌⊎◌, true, false, ℕ, List, None, ◌++◌, codes, decimal}
use Rattle.std.specs.List.{enumerate_from, flat_map}
use Rattle.journal_records.specs.declared.records.Record.{Record}
use Rattle.budget_core.specs.Answers.{counts_of}
use Rattle.budget_core.specs.Cost.{cost_of, budget_of}
use Rattle.budget_core.specs.Entries.{Entry}
use Rattle.owner_catalog.specs.Entries.{OwnerEntry}
use Rattle.generated_run.specs.SessionCore.Transcript.{Journals}
use Rattle.catalog_loading.specs.Steps.{FileStep}
use Rattle.catalog_loading.specs.Loaded.{Loading, with_house, owners_in, entry_at, in_versions}
use Rattle.query_server.specs.Work.{Work, to_count}
use Rattle.query_server.specs.Duty.{Duty, Kind}
use Rattle.owner_books.specs.Shelves.{Shelf, EachDisk, IsOnlySynced}
use Rattle.owner_books.specs.Opened.{AreOpened, IsDiskNamed}
use Rattle.query_server.specs.Duty.{IsRefusalDue}
use Rattle.query_server.specs.declared.end.Status.{Status}
use Rattle.query_server.specs.declared.end.Status.TheVariants.{Done, JournalRefused}

-- CATALOG, then KEY, then the tables of all owners
abbrev pub audit_steps : (catalog key : List ℕ) → FileStep Work
audit_steps catalog key = with_house to_count catalog key

abbrev pub audit_kind : (catalog key : List ℕ) → Kind
audit_kind catalog key = record { steps = audit_steps catalog key; source = false; disks = true; doors = false; program = false }

-- the line of an owner with this budget's entry and these records, which may have raised it
abbrev pub counted_line : Entry → OwnerEntry → List Record → List ℕ
counted_line entry owner records =
    owner.name ++ codes " reservations " ++ decimal (counts_of records).reservations ++ codes " answered " ++ decimal (counts_of records).answered
    ++ codes " exhausted " ++ decimal (counts_of records).exhausted ++ codes " lost " ++ decimal (counts_of records).lost
    ++ codes " spent " ++ decimal (cost_of entry records) ++ codes " budget " ++ decimal (budget_of entry records) ++ codes "\n"

-- the lines of all owners, in order
abbrev pub counted_text : Loading → (found : Journals) → List ℕ
counted_text loading found = flat_map (λ numbered. counted_line (entry_at loading numbered.0) numbered.1 (found numbered.0))
    (enumerate_from 0 loading.register.catalog.owners)

-- What is due to `audit`: the line of the journal that is refused; or where all are opened, what their records come to. Nothing
-- is written to any disk.
abbrev pub IsCountDue : Loading → (key : List ℕ) → (old new : Shelf) → (status : Status) → (text : List ℕ) → Type 0
IsCountDue loading key old new status text =
    IsRefusalDue loading key old new status text
    ⊎ ((versions : List ℕ) × (found : Journals) × AreOpened loading key old new versions found × (status ≡ Done)
    × (text ≡ counted_text (in_versions loading versions) found)
    × EachDisk (owners_in loading) (λ _. IsOnlySynced) old new)

abbrev pub audit_duty : Loading → (key : List ℕ) → Duty
audit_duty loading key = record {
  due = λ old new script. IsCountDue loading key old new;
  may_stop = EachDisk (owners_in loading) (λ _. IsOnlySynced);
  names_disk = IsDiskNamed loading key;
  statuses = λ status. (status ≡ Done) ⊎ (status ≡ JournalRefused);
  admits = None;
}
