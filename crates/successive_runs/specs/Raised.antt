-- What a grant leaves of the owner's journal.
use Rattle.std.specs.Prelude.{◌≡◌, ◌⊎◌, ℕ, List, [], ◌∷◌, Some, IfSome}
use Rattle.outside_disks.specs.Disks.{Leaves, Passes, WhereTold, noted}
use Rattle.outside_disks.specs.Stored.{Stored}
use Rattle.outside_disks.specs.Disks.Step.{Synced}
use Rattle.journal_records.specs.declared.records.Header.{Header}
use Rattle.journal_records.specs.declared.records.Record.{Record}
use Rattle.budget_journal.specs.Journals.{Stands}
use Rattle.budget_core.specs.Entries.{Entry}
use Rattle.catalog_loading.specs.Loaded.{KeyedOwner}
use Rattle.query_server.specs.Grant.{entry_in, header_in}
use Rattle.query_server.specs.Shelves.{Shelf}
use Rattle.successive_runs.specs.Life.{AreGranted}

-- A file stands for these records, or for them and the grant of this amount, which the owner may make.
abbrev pub IsRaisedFrom : Entry → Header → (found : List Record) → (amount : ℕ) → (bytes : List ℕ) → Type 0
IsRaisedFrom entry header found amount bytes =
    (left : List Record) × Stands header left bytes × ((left ≡ found) ⊎ AreGranted entry found (amount ∷ []) left)

-- So does each file that a stop may have left since the owner's journal was opened with these records, and each that a stop leaves now.
abbrev pub LeavesRaised : KeyedOwner → (version : ℕ) → (found : List Record) → (amount : ℕ) → (old new : Shelf) → Type 0
LeavesRaised one version found amount old new = (before after : Stored) → old one.number ≡ Some before → new one.number ≡ Some after →
    WhereTold (Passes (IsRaisedFrom (entry_in one version) (header_in one version) found amount)) (noted Synced before.trace) after.trace
    × IfSome after.trace (Leaves (IsRaisedFrom (entry_in one version) (header_in one version) found amount))
