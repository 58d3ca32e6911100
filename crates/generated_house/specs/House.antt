-- The house that a seed and a number of asks give.
use Rattle.std.specs.Prelude.{ℕ, zero, suc, ◌+◌, ◌*◌, ◌%◌, List, [], ◌∷◌, ◌++◌, codes, map, replicate, slice_set, ℤ, pos}
use Rattle.fz_ast.specs.declared.row.Column.TheVariants.{Num}
use Rattle.metric_values.specs.Values.{Flat, NumF}
use Rattle.journal_records.specs.Encoding.{newest_version}
use Rattle.budget_core.specs.Entries.{Entry}
use Rattle.owner_catalog.specs.Entries.{Catalog, OwnerEntry, TableEntry, owner_signature}
use Rattle.owner_catalog.specs.Limits.{owner_limit}
use Rattle.part_views.specs.Holding.{Holding}
use Rattle.owner_house.specs.Owner.{Owner}
use Rattle.owner_house.specs.House.{House, Register, entry_of, house_of, owner_of, register_by}
use Rattle.generated_house.specs.Sizes.{budget_for, capacity_for, journal_version, row_count}

-- the first rows' numbers
unfoldable pub numbers_below : (seed n : ℕ) → List ℤ
numbers_below seed zero = []
numbers_below seed (suc n) = numbers_below seed n ++ pos ((seed + 31 * n) % 100) ∷ []

-- the table's rows
abbrev pub rows_of_seed : ℕ → List Flat
rows_of_seed seed = map NumF (numbers_below seed row_count)

abbrev pub people : TableEntry
people = record { name = codes "people"; file = codes "people"; columns = record { name = codes "number"; kind = Num } ∷ [] }

abbrev pub owner_for : (asks : ℕ) → OwnerEntry
owner_for asks = record {
  name = codes "gen";
  budget = budget_for asks;
  capacity = capacity_for asks;
  tables = people ∷ [];
  partitions = [];
  limits = [];
  text = [];
}

-- one analyst, who asks, and one owner
abbrev pub catalog_for : (asks : ℕ) → Catalog
catalog_for asks = record { analysts = codes "ann" ∷ []; owners = owner_for asks ∷ []; text = [] }

abbrev pub holding_for : (seed asks : ℕ) → Holding
holding_for seed asks = record { tables = owner_signature (owner_for asks); rows = rows_of_seed seed ∷ []; partitions = [] }

-- the one owner's journal is of version 2, and there are no others
abbrev pub versions_held : List ℕ
versions_held = slice_set (replicate owner_limit newest_version) 0 journal_version

abbrev pub register_for : (seed asks : ℕ) → Register
register_for seed asks = register_by (catalog_for asks) (holding_for seed asks ∷ []) versions_held

abbrev pub house_for : (seed asks : ℕ) → House
house_for seed asks = house_of (register_for seed asks)

-- what is kept of the owner's budget
abbrev pub entry_for : (asks : ℕ) → Entry
entry_for asks = record (entry_of (catalog_for asks) (owner_for asks)) { version = journal_version }

-- the one owner, number 0
abbrev pub the_owner : (seed asks : ℕ) → Owner
the_owner seed asks = owner_of (catalog_for asks) ((owner_for asks, holding_for seed asks), journal_version)
