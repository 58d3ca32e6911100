-- What the row's files are read as.
use Rattle.std.specs.Prelude.{◌≡◌, ℕ, pos, List, [], ◌∷◌, ◌++◌, codes, replicate, Some, None}
use Rattle.budget_journal.specs.Journals.{Stands}
use Rattle.fz_ast.specs.declared.row.Column.TheVariants.{Num}
use Rattle.metric_values.specs.Values.{Flat, NumF}
use Rattle.owner_catalog.specs.Catalog.{Catalog, OwnerEntry, TableEntry}
use Rattle.catalog_loading.specs.Loaded.{KeyedOwner, LoadedOwner, LoadedTable, Loading, header_of, loading_with, owner_with, table_with}
use Rattle.query_server.specs.Shelves.{Shelf, both_on, bytes_on}
use Rattle.catalog_loading.specs.Files.{Contents}
use Rattle.worked_row.specs.Row.{catalog_text, table_text}

abbrev pub zeros : List ℕ
zeros = replicate 32 0

abbrev pub people : TableEntry
people = record { name = codes "people"; file = codes "people.csv"; columns = (record { name = codes "age"; kind = Num }) ∷ [] }

abbrev pub census : OwnerEntry
census = record {
  name = codes "census";
  budget = 10000000;
  capacity = 100;
  tables = people ∷ [];
  partitions = [];
  limits = [];
  text = codes "{\"budget\":10000000,\"capacity\":100,\"name\":\"census\",\"partitions\":[],\"tables\":[{\"columns\":[{\"name\":\"age\",\"type\":\"num\"}],"
      ++ codes "\"file\":\"people.csv\",\"name\":\"people\"}]}";
}

abbrev pub catalog : Catalog
catalog = record {
  analysts = codes "ann" ∷ codes "bob" ∷ [];
  owners = census ∷ [];
  text = codes "[\"ann\",\"bob\"]";
}

abbrev pub rows : List Flat
rows = NumF (pos 20) ∷ NumF (pos 30) ∷ NumF (pos 40) ∷ []

abbrev pub loaded_table : LoadedTable
loaded_table = table_with rows table_text

abbrev pub loaded_owner : LoadedOwner
loaded_owner = owner_with census (loaded_table ∷ [])

abbrev pub loading : Loading
loading = loading_with catalog (loaded_owner ∷ [])

-- the owner alone, as a grant reads it
abbrev pub one : KeyedOwner
one = record { catalog = catalog; number = 0; hashes = loaded_owner.hashes; key = zeros }

-- the catalog, its table and the key of zeros
abbrev pub AreRowFiles : Contents → Type 0
AreRowFiles held =
    (held (codes "cat.json") ≡ Some catalog_text) × (held (codes "people.csv") ≡ Some table_text) × (held (codes "key") ≡ Some zeros)

-- the owner's journal was made on one disk for these files and this key, and has no records yet
abbrev pub IsJournalMade : Shelf → Type 0
IsJournalMade shelf = (bytes : List ℕ) × (bytes_on shelf 0 ≡ Some bytes) × (both_on shelf 0 ≡ None) × Stands (header_of loading zeros 0) [] bytes
