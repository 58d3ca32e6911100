-- Catalogs at their limits and one past them, worked out by hand from the rules.
use Rattle.std.proofs.Common.{◌≡◌, ◌+◌, ◌/◌, ◌%◌, ℕ, List, [], ◌∷◌, ◌++◌, map, replicate, Result, Ok, codes, refl}
use Rattle.std.specs.List.{range_with_len}
use Rattle.serde_json.specs.Data.{Data}
use Rattle.fz_ast.specs.declared.row.Column.TheVariants.{Text}
use Rattle.owner_catalog.specs.declared.fault.CatalogFault.{CatalogFault}
use Rattle.owner_catalog.specs.declared.fault.FaultKind.TheVariants.{Kind, Count, Double, Form}
use Rattle.owner_catalog.specs.declared.fault.Member.TheVariants as at
use Rattle.owner_catalog.specs.Entries.{TableEntry, PartitionEntry, OwnerEntry, Catalog, table_name, partition_name, owner_name}
use Rattle.owner_catalog.specs.Fault.{◌>>=◌, bad, place}
use Rattle.owner_catalog.specs.Catalog.{catalog_in_file, json_in, owner_in, partition_in, table_in}
use Rattle.owner_catalog.proofs.OnLiterals.{on_literals}

-- what a text is, read as some part of a catalog
abbrev read_as : {A : Type 0} → (Data → Result A CatalogFault) → List ℕ → Result A CatalogFault
read_as part bytes = json_in bytes >>= part

-- so many names of two letters: AA, AB, .., AZ, BA, ..
abbrev names : ℕ → List (List ℕ)
names n = map (λ k. (65 + k / 26) ∷ (65 + k % 26) ∷ []) (range_with_len 0 n)

-- ---- their texts in JSON

abbrev between_commas : List (List ℕ) → List ℕ
between_commas [] = []
between_commas (x ∷ []) = x
between_commas (x ∷ y ∷ ys) = x ++ codes "," ++ between_commas (y ∷ ys)

abbrev quoted : List ℕ → List ℕ
quoted name = codes "\"" ++ name ++ codes "\""

abbrev table_text : (name file : List ℕ) → List ℕ
table_text name file = codes "{\"name\":" ++ quoted name ++ codes ",\"file\":" ++ quoted file ++ codes ",\"columns\":[{\"name\":\"c\",\"type\":\"text\"}]}"

abbrev partition_text : (name : List ℕ) (keys : List (List ℕ)) → List ℕ
partition_text name keys =
    codes "{\"name\":" ++ quoted name ++ codes ",\"table\":\"AA\",\"column\":\"c\",\"keys\":[" ++ between_commas (map quoted keys) ++ codes "]}"

abbrev owner_text : (name : List ℕ) (tables partitions : List (List ℕ)) → List ℕ
owner_text name tables partitions =
    codes "{\"name\":" ++ quoted name ++ codes ",\"budget\":1,\"capacity\":2,\"tables\":["
    ++ between_commas (map (λ table. table_text table (codes "f")) tables) ++ codes "],\"partitions\":["
    ++ between_commas (map (λ partition. partition_text partition (names 1)) partitions) ++ codes "]}"

abbrev catalog_text : (analysts owners : List (List ℕ)) → List ℕ
catalog_text analysts owners =
    codes "{\"analysts\":[" ++ between_commas (map quoted analysts) ++ codes "],\"owners\":["
    ++ between_commas (map (λ owner. owner_text owner (names 1) []) owners) ++ codes "]}"

abbrev table_with : (name file : List ℕ) → TableEntry
table_with name file = record { name = name; file = file; columns = record { name = codes "c"; kind = Text } ∷ [] }

-- ---- a table

table_name_of_32 : read_as (table_in 3 1) (table_text (replicate 32 97) (codes "f")) ≡ Ok (table_with (replicate 32 97) (codes "f"))
unfolding on_literals
table_name_of_32 = refl

table_name_of_33 : read_as (table_in 3 1) (table_text (replicate 33 97) (codes "f")) ≡ bad Form (place at.TableName 3 1 0)
unfolding on_literals
table_name_of_33 = refl

file_of_255 : read_as (table_in 3 1) (table_text (codes "t") (replicate 255 97)) ≡ Ok (table_with (codes "t") (replicate 255 97))
unfolding on_literals
file_of_255 = refl

file_of_256 : read_as (table_in 3 1) (table_text (codes "t") (replicate 256 97)) ≡ bad Form (place at.File 3 1 0)
unfolding on_literals
file_of_256 = refl

-- ---- a partition

abbrev of_keys : List (List ℕ) → Result PartitionEntry CatalogFault
of_keys keys = read_as (partition_in 3 (table_with (codes "AA") (codes "f") ∷ []) 1) (partition_text (codes "p") keys)

keys_250 : of_keys (names 250) ≡ Ok (record { name = codes "p"; table = 0; column = 0; keys = names 250 })
unfolding on_literals
keys_250 = refl

-- 4,000 keys pass the count, and the second repeats the first
keys_4000 : of_keys (replicate 4000 (codes "k")) ≡ bad Double (place at.Key 3 1 1)
unfolding on_literals
keys_4000 = refl

keys_4001 : of_keys (replicate 4001 (codes "k")) ≡ bad Count (place at.Keys 3 1 0)
unfolding on_literals
keys_4001 = refl

-- ---- an owner

abbrev named_in : OwnerEntry → List (List ℕ) × List (List ℕ)
named_in owner = (map table_name owner.tables, map partition_name owner.partitions)

eight_tables_and_partitions : read_as (λ d. owner_in [] 3 d >>= λ owner. Ok (named_in owner)) (owner_text (codes "o") (names 8) (names 8))
    ≡ Ok (names 8, names 8)
unfolding on_literals
eight_tables_and_partitions = refl

nine_tables : read_as (owner_in [] 3) (owner_text (codes "o") (names 9) []) ≡ bad Count (place at.Tables 3 0 0)
unfolding on_literals
nine_tables = refl

nine_partitions : read_as (owner_in [] 3) (owner_text (codes "o") (names 1) (names 9)) ≡ bad Count (place at.Partitions 3 0 0)
unfolding on_literals
nine_partitions = refl

-- a number of more than 64 bits is no whole one
budget_of_65_bits : read_as (owner_in [] 3) (codes "{\"name\":\"o\",\"budget\":18446744073709551616,\"capacity\":2,\"tables\":[],\"partitions\":[]}")
    ≡ bad Kind (place at.Budget 3 0 0)
unfolding on_literals
budget_of_65_bits = refl

-- ---- a whole file

abbrev analysts_and_owners : Catalog → List (List ℕ) × List (List ℕ)
analysts_and_owners catalog = (catalog.analysts, map owner_name catalog.owners)

full_catalog : (catalog_in_file (catalog_text (names 64) (names 64)) >>= λ catalog. Ok (analysts_and_owners catalog)) ≡ Ok (names 64, names 64)
unfolding on_literals
full_catalog = refl

analysts_65 : catalog_in_file (catalog_text (names 65) (names 64)) ≡ bad Count (place at.Analysts 0 0 0)
unfolding on_literals
analysts_65 = refl

owners_65 : catalog_in_file (catalog_text (names 64) (names 65)) ≡ bad Count (place at.Owners 0 0 0)
unfolding on_literals
owners_65 = refl
