-- Why a book isn't opened.
use Rattle.std.specs.Prelude.{◌⊎◌, ℕ, List}
use Rattle.journal_records.specs.declared.records.Record.{Record}
use Rattle.journal_records.specs.declared.records.Header.{Header}
use Rattle.budget_journal.specs.declared.opening.OpenFault.{OpenFault}
use Rattle.budget_journal.specs.declared.opening.OpenFault.TheVariants.{NotInitialised, Changed, Damaged, DiskFault, NoMemory}
use Rattle.budget_journal.specs.Areas.{version_in}
use Rattle.budget_journal.specs.Journals.{as_found, Stands, IsOpenFault}
use Rattle.budget_core.specs.Entries.{Entry}
use Rattle.budget_core.specs.Legal.{IsFirstAstray}

-- the entry for a journal in these bytes: in the version that they name
abbrev pub entry_found : Entry → List ℕ → Entry
entry_found entry bytes = record entry { version = version_in bytes }

-- Why these bytes aren't a book of this entry: as a journal they aren't opened, or they stand for records of which one may not
-- follow those before it.
abbrev pub IsBookFault : Entry → Header → List ℕ → OpenFault → Type 0
IsBookFault entry header bytes (Damaged k) = IsOpenFault header bytes (Damaged k)
    ⊎ ((records : List Record) × Stands (as_found header bytes) records bytes × IsFirstAstray (entry_found entry bytes) records k)
IsBookFault entry header bytes (NotInitialised n) = IsOpenFault header bytes (NotInitialised n)
IsBookFault entry header bytes (Changed kept found) = IsOpenFault header bytes (Changed kept found)
IsBookFault entry header bytes DiskFault = IsOpenFault header bytes DiskFault
IsBookFault entry header bytes NoMemory = IsOpenFault header bytes NoMemory
