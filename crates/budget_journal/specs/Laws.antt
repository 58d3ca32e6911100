-- The laws of a journal.
use Rattle.std.specs.Prelude.{◌≡◌, ◌⊎◌, ℕ, suc, ◌+◌, ◌*◌, ◌^◌, ◌<◌, ◌≤◌, List, length}
use Rattle.journal_records.specs.declared.records.Record.{Record}
use Rattle.journal_records.specs.declared.records.Header.{Header}
use Rattle.budget_journal.specs.declared.opening.OpenFault.{OpenFault}
use Rattle.budget_journal.specs.declared.opening.OpenFault.TheVariants.{DiskFault, NoMemory}
use Rattle.budget_journal.specs.declared.form.Form.{Form}
use Rattle.budget_journal.specs.declared.form.Form.TheVariants.{One, Many}
use Rattle.budget_journal.specs.Areas.{version_in, form_in, area_slots, area_begin, IsArea, IsLastArea, HasGates, IsStray, live_area}
use Rattle.budget_journal.specs.Journals.{Stands, IsOpenFault}
use Rattle.budget_journal.specs.Growth.{HasFront}

abbrev pub AreasLieApart : Type 0
AreasLieApart = (form : Form) (capacity area later : ℕ) → area < later
    → area_begin form capacity area + 64 * area_slots form capacity area ≤ area_begin form capacity later

-- All areas before one have 64 * (2 ^ area - 1) slots.
abbrev pub AreasBeginThere : Type 0
AreasBeginThere = (capacity area : ℕ) → IsArea Many capacity area → area_begin Many capacity area + 4096 ≡ 128 + 4096 * 2 ^ area

abbrev pub OneLastArea : Type 0
OneLastArea = (form : Form) (capacity area other : ℕ) → IsLastArea form capacity area → IsLastArea form capacity other → area ≡ other

abbrev pub LiveByGates : Type 0
LiveByGates = (capacity area n : ℕ) (bytes : List ℕ) → capacity < 2 ^ 32 → HasGates capacity area bytes
    → (live_area bytes ≡ area) × (IsStray capacity bytes n → ⊥)

-- In version 1 the file is as long as all slots.
abbrev pub OneIsWhole : Type 0
OneIsWhole = (header : Header) (records : List Record) (bytes : List ℕ) → Stands header records bytes → form_in bytes ≡ One
    → (live_area bytes ≡ 0) × (length bytes ≡ 128 + 64 * header.capacity)

-- With many areas what stands behind the live one plays no part.
abbrev pub TheFrontCounts : Type 0
TheFrontCounts = (header : Header) (records : List Record) (bytes others : List ℕ) → Stands header records bytes → form_in bytes ≡ Many
    → HasFront (area_begin Many header.capacity (suc (live_area bytes))) bytes others → Stands header records others

abbrev pub RefusedStandsForNone : Type 0
RefusedStandsForNone = (header : Header) (records : List Record) (bytes : List ℕ) (fault : OpenFault) → Stands header records bytes
    → IsOpenFault header bytes fault → (fault ≡ DiskFault) ⊎ (fault ≡ NoMemory)

-- The version of bytes that stand for records is their header's, and one of 1, 2 and 3.
abbrev pub VersionIsFound : Type 0
VersionIsFound = (header : Header) (records : List Record) (bytes : List ℕ) → Stands header records bytes → version_in bytes ≡ header.version
