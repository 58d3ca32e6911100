-- Catalogs and their first faults, worked out by hand from the rules.
use Rattle.std.proofs.Common.{◌≡◌, ◌^◌, ℕ, List, [], ◌∷◌, ◌++◌, Result, Ok, codes, refl}
use Rattle.serde_json.specs.Data.{Data}
use Rattle.fz_ast.specs.declared.row.Column.TheVariants.{Num, Text}
use Rattle.table_store.specs.Schema.{NamedColumn}
use Rattle.owner_catalog.specs.declared.fault.CatalogFault.{CatalogFault}
use Rattle.owner_catalog.specs.declared.fault.FaultKind.TheVariants.{Syntax, Kind, Missing, Unknown, Count, Range, Form, Double, NoSuch}
use Rattle.owner_catalog.specs.declared.fault.Member.TheVariants as at
use Rattle.owner_catalog.specs.Entries.{TableEntry, OwnerEntry}
use Rattle.owner_catalog.specs.Fault.{◌>>=◌, bad, place}
use Rattle.owner_catalog.specs.Catalog.{catalog_in_file, column_in, json_in, owner_in, partition_in, table_in}
use Rattle.owner_catalog.proofs.OnLiterals.{on_literals}

-- what a text is, read as some part of a catalog
abbrev read_as : {A : Type 0} → (Data → Result A CatalogFault) → List ℕ → Result A CatalogFault
read_as part bytes = json_in bytes >>= part

abbrev num : List ℕ → NamedColumn
num name = record { name = name; kind = Num }

abbrev text : List ℕ → NamedColumn
text name = record { name = name; kind = Text }

abbrev a_column : NamedColumn
a_column = num (codes "a")

abbrev a_table : TableEntry
a_table = record { name = codes "t"; file = codes "f"; columns = a_column ∷ [] }

abbrev an_owner : (budget capacity : ℕ) → List ℕ → OwnerEntry
an_owner budget capacity compact =
    record { name = codes "o"; budget = budget; capacity = capacity; tables = a_table ∷ []; partitions = []; limits = []; text = compact }

-- ---- a column: column 2 of table 1 of owner 3

-- members may stand in any order
column : read_as (column_in 3 1 2) (codes "{\"type\":\"num\",\"name\":\"age\"}") ≡ Ok (record { name = codes "age"; kind = Num })
unfolding on_literals
column = refl

-- a column's name may be a reserved word
text_column : read_as (column_in 3 1 2) (codes "{\"name\":\"fun\",\"type\":\"text\"}") ≡ Ok (record { name = codes "fun"; kind = Text })
unfolding on_literals
text_column = refl

column_kind : read_as (column_in 3 1 2) (codes "[\"name\"]") ≡ bad Kind (place at.Column 3 1 2)
unfolding on_literals
column_kind = refl

-- the first that is missing counts
column_lacks_both : read_as (column_in 3 1 2) (codes "{}") ≡ bad Missing (place at.ColumnName 3 1 2)
unfolding on_literals
column_lacks_both = refl

-- what is missing counts before what is unknown, wherever it stands
column_missing_before_unknown : read_as (column_in 3 1 2) (codes "{\"name\":\"age\",\"a\":0}") ≡ bad Missing (place at.ColumnType 3 1 2)
unfolding on_literals
column_missing_before_unknown = refl

-- what is unknown counts before the members
column_unknown : read_as (column_in 3 1 2) (codes "{\"a\":0,\"name\":7,\"type\":7}") ≡ bad (Unknown (codes "a")) (place at.Column 3 1 2)
unfolding on_literals
column_unknown = refl

-- of several that are unknown the first by their names' bytes counts, wherever it stands
column_unknown_several : read_as (column_in 3 1 2) (codes "{\"z\":0,\"name\":7,\"b\":0,\"type\":7,\"Z\":0,\"names\":0}")
    ≡ bad (Unknown (codes "Z")) (place at.Column 3 1 2)
unfolding on_literals
column_unknown_several = refl

-- a name is known whole and by its case
column_unknown_longer : read_as (column_in 3 1 2) (codes "{\"names\":0,\"name\":7,\"type\":7,\"type \":0}") ≡ bad (Unknown (codes "names")) (place at.Column 3 1 2)
unfolding on_literals
column_unknown_longer = refl

-- an empty name is unknown, too
column_unknown_empty : read_as (column_in 3 1 2) (codes "{\"type\":7,\"\":0,\"name\":7,\" \":0}") ≡ bad (Unknown []) (place at.Column 3 1 2)
unfolding on_literals
column_unknown_empty = refl

column_name_kind : read_as (column_in 3 1 2) (codes "{\"name\":7,\"type\":\"x\"}") ≡ bad Kind (place at.ColumnName 3 1 2)
unfolding on_literals
column_name_kind = refl

column_name_form : read_as (column_in 3 1 2) (codes "{\"name\":\"1age\",\"type\":\"x\"}") ≡ bad Form (place at.ColumnName 3 1 2)
unfolding on_literals
column_name_form = refl

column_name_empty : read_as (column_in 3 1 2) (codes "{\"name\":\"\",\"type\":\"num\"}") ≡ bad Form (place at.ColumnName 3 1 2)
unfolding on_literals
column_name_empty = refl

column_name_of_32 : read_as (column_in 3 1 2) (codes "{\"name\":\"a23456789_123456789_123456789_12\",\"type\":\"num\"}")
    ≡ Ok (record { name = codes "a23456789_123456789_123456789_12"; kind = Num })
unfolding on_literals
column_name_of_32 = refl

column_name_of_33 : read_as (column_in 3 1 2) (codes "{\"name\":\"a23456789_123456789_123456789_123\",\"type\":\"num\"}")
    ≡ bad Form (place at.ColumnName 3 1 2)
unfolding on_literals
column_name_of_33 = refl

column_type_kind : read_as (column_in 3 1 2) (codes "{\"name\":\"age\",\"type\":null}") ≡ bad Kind (place at.ColumnType 3 1 2)
unfolding on_literals
column_type_kind = refl

-- another text is no type
column_type_form : read_as (column_in 3 1 2) (codes "{\"name\":\"age\",\"type\":\"number\"}") ≡ bad Form (place at.ColumnType 3 1 2)
unfolding on_literals
column_type_form = refl

column_type_case : read_as (column_in 3 1 2) (codes "{\"name\":\"age\",\"type\":\"Num\"}") ≡ bad Form (place at.ColumnType 3 1 2)
unfolding on_literals
column_type_case = refl

-- of a member that stands twice the last one counts
last_member_counts : read_as (column_in 3 1 2) (codes "{\"name\":7,\"type\":\"num\",\"name\":\"age\"}") ≡ Ok (record { name = codes "age"; kind = Num })
unfolding on_literals
last_member_counts = refl

-- ---- a table: table 1 of owner 3

table : read_as (table_in 3 1) (codes "{\"name\":\"t\",\"file\":\"f\",\"columns\":[{\"name\":\"a\",\"type\":\"num\"}]}")
    ≡ Ok (record { name = codes "t"; file = codes "f"; columns = a_column ∷ [] })
unfolding on_literals
table = refl

table_kind : read_as (table_in 3 1) (codes "\"t\"") ≡ bad Kind (place at.Table 3 1 0)
unfolding on_literals
table_kind = refl

table_missing : read_as (table_in 3 1) (codes "{\"columns\":7,\"name\":7}") ≡ bad Missing (place at.File 3 1 0)
unfolding on_literals
table_missing = refl

table_unknown : read_as (table_in 3 1) (codes "{\"columns\":7,\"name\":7,\"file\":7,\"size\":1}") ≡ bad (Unknown (codes "size")) (place at.Table 3 1 0)
unfolding on_literals
table_unknown = refl

table_name_kind : read_as (table_in 3 1) (codes "{\"name\":1,\"file\":\"\",\"columns\":[{\"name\":\"a\",\"type\":\"num\"}]}")
    ≡ bad Kind (place at.TableName 3 1 0)
unfolding on_literals
table_name_kind = refl

table_name_form : read_as (table_in 3 1) (codes "{\"name\":\"a b\",\"file\":\"\",\"columns\":[{\"name\":\"a\",\"type\":\"num\"}]}")
    ≡ bad Form (place at.TableName 3 1 0)
unfolding on_literals
table_name_form = refl

-- a table's name is no reserved word, but may hold one
table_name_reserved : read_as (table_in 3 1) (codes "{\"name\":\"union\",\"file\":\"f\",\"columns\":[{\"name\":\"a\",\"type\":\"num\"}]}")
    ≡ bad Form (place at.TableName 3 1 0)
unfolding on_literals
table_name_reserved = refl

table_name_near : read_as (table_in 3 1) (codes "{\"name\":\"unions\",\"file\":\"f\",\"columns\":[{\"name\":\"a\",\"type\":\"num\"}]}")
    ≡ Ok (record { name = codes "unions"; file = codes "f"; columns = a_column ∷ [] })
unfolding on_literals
table_name_near = refl

table_file_kind : read_as (table_in 3 1) (codes "{\"name\":\"t\",\"file\":[],\"columns\":[]}") ≡ bad Kind (place at.File 3 1 0)
unfolding on_literals
table_file_kind = refl

table_file_empty : read_as (table_in 3 1) (codes "{\"name\":\"t\",\"file\":\"\",\"columns\":[]}") ≡ bad Form (place at.File 3 1 0)
unfolding on_literals
table_file_empty = refl

-- no control byte, but a space and 0x7F
table_file_control : read_as (table_in 3 1) (codes "{\"name\":\"t\",\"file\":\"a\\u001fb\",\"columns\":[{\"name\":\"a\",\"type\":\"num\"}]}")
    ≡ bad Form (place at.File 3 1 0)
unfolding on_literals
table_file_control = refl

table_file_space : read_as (table_in 3 1) (codes "{\"name\":\"t\",\"file\":\" \\u007f\",\"columns\":[{\"name\":\"a\",\"type\":\"num\"}]}")
    ≡ Ok (record { name = codes "t"; file = (32 ∷ 127 ∷ []); columns = a_column ∷ [] })
unfolding on_literals
table_file_space = refl

table_columns_kind : read_as (table_in 3 1) (codes "{\"name\":\"t\",\"file\":\"f\",\"columns\":{}}") ≡ bad Kind (place at.Columns 3 1 0)
unfolding on_literals
table_columns_kind = refl

table_columns_none : read_as (table_in 3 1) (codes "{\"name\":\"t\",\"file\":\"f\",\"columns\":[]}") ≡ bad Count (place at.Columns 3 1 0)
unfolding on_literals
table_columns_none = refl

table_columns_16 : read_as (table_in 3 1) (codes "{\"name\":\"t\",\"file\":\"f\",\"columns\":[{\"name\":\"a\",\"type\":\"num\"},{\"name\":\"b\",\"type\":\""
    ++ codes "num\"},{\"name\":\"c\",\"type\":\"num\"},{\"name\":\"d\",\"type\":\"num\"},{\"name\":\"e\",\"type\":\"num"
    ++ codes "\"},{\"name\":\"f\",\"type\":\"num\"},{\"name\":\"g\",\"type\":\"num\"},{\"name\":\"h\",\"type\":\"num\"}"
    ++ codes ",{\"name\":\"i\",\"type\":\"num\"},{\"name\":\"j\",\"type\":\"num\"},{\"name\":\"k\",\"type\":\"num\"},{"
    ++ codes "\"name\":\"l\",\"type\":\"num\"},{\"name\":\"m\",\"type\":\"num\"},{\"name\":\"n\",\"type\":\"num\"},{\"n"
    ++ codes "ame\":\"o\",\"type\":\"num\"},{\"name\":\"p\",\"type\":\"num\"}]}") ≡ Ok (record {
      name = codes "t";
      file = codes "f";
      columns =
          num (codes "a") ∷ num (codes "b") ∷ num (codes "c") ∷ num (codes "d") ∷ num (codes "e") ∷ num (codes "f")
          ∷ num (codes "g") ∷ num (codes "h") ∷ num (codes "i") ∷ num (codes "j") ∷ num (codes "k") ∷ num (codes "l")
          ∷ num (codes "m") ∷ num (codes "n") ∷ num (codes "o") ∷ num (codes "p") ∷ [];
    })
unfolding on_literals
table_columns_16 = refl

-- the count comes before the items
table_columns_17 : read_as (table_in 3 1) (codes "{\"name\":\"t\",\"file\":\"f\",\"columns\":[0,0,0,0,0,0,0,0,0,0,0,0,0,0,0,0,0]}")
    ≡ bad Count (place at.Columns 3 1 0)
unfolding on_literals
table_columns_17 = refl

-- the first item with a fault counts
table_column_fault : read_as (table_in 3 1) (codes "{\"name\":\"t\",\"file\":\"f\",\"columns\":[{\"name\":\"a\",\"type\":\"num\"},{\"name\":\"b\",\"type\":\""
    ++ codes "x\"},7]}") ≡ bad Form (place at.ColumnType 3 1 1)
unfolding on_literals
table_column_fault = refl

-- an item that repeats one before it is at fault at its place ..
table_column_double : read_as (table_in 3 1) (codes "{\"name\":\"t\",\"file\":\"f\",\"columns\":[{\"name\":\"a\",\"type\":\"num\"},{\"name\":\"b\",\"type\":\""
    ++ codes "num\"},{\"name\":\"a\",\"type\":\"text\"},7]}") ≡ bad Double (place at.Column 3 1 2)
unfolding on_literals
table_column_double = refl

-- .. after its own faults
column_own_first : read_as (table_in 3 1) (codes "{\"name\":\"t\",\"file\":\"f\",\"columns\":[{\"name\":\"a\",\"type\":\"num\"},{\"name\":\"a\",\"type\":\""
    ++ codes "x\"}]}") ≡ bad Form (place at.ColumnType 3 1 1)
unfolding on_literals
column_own_first = refl

-- ---- a partition: partition 1 of owner 3, over the tables `t`, of a number `n` and a text `c`, and `u`, of a text `c`

abbrev tables : List TableEntry
tables =
    record { name = codes "t"; file = codes "f"; columns = num (codes "n") ∷ text (codes "c") ∷ [] } ∷
    record { name = codes "u"; file = codes "f"; columns = text (codes "c") ∷ [] } ∷ []

partition : read_as (partition_in 3 tables 1) (codes "{\"name\":\"p\",\"table\":\"t\",\"column\":\"c\",\"keys\":[\"A\",\"B\"]}")
    ≡ Ok (record { name = codes "p"; table = 0; column = 1; keys = codes "A" ∷ codes "B" ∷ [] })
unfolding on_literals
partition = refl

partition_of_second : read_as (partition_in 3 tables 1) (codes "{\"name\":\"p\",\"table\":\"u\",\"column\":\"c\",\"keys\":[\"A\",\"B\"]}")
    ≡ Ok (record { name = codes "p"; table = 1; column = 0; keys = codes "A" ∷ codes "B" ∷ [] })
unfolding on_literals
partition_of_second = refl

partition_kind : read_as (partition_in 3 tables 1) (codes "0") ≡ bad Kind (place at.Partition 3 1 0)
unfolding on_literals
partition_kind = refl

partition_missing : read_as (partition_in 3 tables 1) (codes "{\"name\":\"p\",\"table\":\"t\",\"x\":0,\"y\":0}")
    ≡ bad Missing (place at.PartitionColumn 3 1 0)
unfolding on_literals
partition_missing = refl

partition_unknown : read_as (partition_in 3 tables 1) (codes "{\"name\":\"p\",\"table\":7,\"column\":7,\"keys\":7,\"z\":0}")
    ≡ bad (Unknown (codes "z")) (place at.Partition 3 1 0)
unfolding on_literals
partition_unknown = refl

partition_name_form : read_as (partition_in 3 tables 1) (codes "{\"name\":\"-\",\"table\":7,\"column\":\"c\",\"keys\":[\"A\",\"B\"]}")
    ≡ bad Form (place at.PartitionName 3 1 0)
unfolding on_literals
partition_name_form = refl

partition_table_kind : read_as (partition_in 3 tables 1) (codes "{\"name\":\"p\",\"table\":7,\"column\":7,\"keys\":[\"A\",\"B\"]}")
    ≡ bad Kind (place at.PartitionTable 3 1 0)
unfolding on_literals
partition_table_kind = refl

partition_no_table : read_as (partition_in 3 tables 1) (codes "{\"name\":\"p\",\"table\":\"v\",\"column\":7,\"keys\":[\"A\",\"B\"]}")
    ≡ bad NoSuch (place at.PartitionTable 3 1 0)
unfolding on_literals
partition_no_table = refl

partition_column_kind : read_as (partition_in 3 tables 1) (codes "{\"name\":\"p\",\"table\":\"t\",\"column\":7,\"keys\":7}")
    ≡ bad Kind (place at.PartitionColumn 3 1 0)
unfolding on_literals
partition_column_kind = refl

partition_no_column : read_as (partition_in 3 tables 1) (codes "{\"name\":\"p\",\"table\":\"t\",\"column\":\"d\",\"keys\":7}")
    ≡ bad NoSuch (place at.PartitionColumn 3 1 0)
unfolding on_literals
partition_no_column = refl

-- a column of numbers is no such column, and neither is another table's
partition_of_numbers : read_as (partition_in 3 tables 1) (codes "{\"name\":\"p\",\"table\":\"t\",\"column\":\"n\",\"keys\":[\"A\",\"B\"]}")
    ≡ bad NoSuch (place at.PartitionColumn 3 1 0)
unfolding on_literals
partition_of_numbers = refl

partition_of_other_table : read_as (partition_in 3 tables 1) (codes "{\"name\":\"p\",\"table\":\"u\",\"column\":\"n\",\"keys\":[\"A\",\"B\"]}")
    ≡ bad NoSuch (place at.PartitionColumn 3 1 0)
unfolding on_literals
partition_of_other_table = refl

keys_kind : read_as (partition_in 3 tables 1) (codes "{\"name\":\"p\",\"table\":\"t\",\"column\":\"c\",\"keys\":\"A\"}")
    ≡ bad Kind (place at.Keys 3 1 0)
unfolding on_literals
keys_kind = refl

keys_none : read_as (partition_in 3 tables 1) (codes "{\"name\":\"p\",\"table\":\"t\",\"column\":\"c\",\"keys\":[]}") ≡ bad Count (place at.Keys 3 1 0)
unfolding on_literals
keys_none = refl

key_kind : read_as (partition_in 3 tables 1) (codes "{\"name\":\"p\",\"table\":\"t\",\"column\":\"c\",\"keys\":[\"A\",7]}")
    ≡ bad Kind (place at.Key 3 1 1)
unfolding on_literals
key_kind = refl

key_empty : read_as (partition_in 3 tables 1) (codes "{\"name\":\"p\",\"table\":\"t\",\"column\":\"c\",\"keys\":[\"\"]}")
    ≡ bad Form (place at.Key 3 1 0)
unfolding on_literals
key_empty = refl

key_space : read_as (partition_in 3 tables 1) (codes "{\"name\":\"p\",\"table\":\"t\",\"column\":\"c\",\"keys\":[\"A\",\"a b\"]}")
    ≡ bad Form (place at.Key 3 1 1)
unfolding on_literals
key_space = refl

key_delete : read_as (partition_in 3 tables 1) (codes "{\"name\":\"p\",\"table\":\"t\",\"column\":\"c\",\"keys\":[\"\\u007f\"]}")
    ≡ bad Form (place at.Key 3 1 0)
unfolding on_literals
key_delete = refl

key_signs : read_as (partition_in 3 tables 1) (codes "{\"name\":\"p\",\"table\":\"t\",\"column\":\"c\",\"keys\":[\"!~\",\"\\u00e9\"]}")
    ≡ Ok (record { name = codes "p"; table = 0; column = 1; keys = codes "!~" ∷ (195 ∷ 169 ∷ []) ∷ [] })
unfolding on_literals
key_signs = refl

key_of_64 : read_as (partition_in 3 tables 1) (codes "{\"name\":\"p\",\"table\":\"t\",\"column\":\"c\",\"keys\":[\"kkkkkkkkkkkkkkkkkkkkkkkkkkkkkkkkkkkkkkkkkkkk"
    ++ codes "kkkkkkkkkkkkkkkkkkkk\"]}")
    ≡ Ok (record { name = codes "p"; table = 0; column = 1; keys = codes "kkkkkkkkkkkkkkkkkkkkkkkkkkkkkkkkkkkkkkkkkkkkkkkkkkkkkkkkkkkkkkkk" ∷ [] })
unfolding on_literals
key_of_64 = refl

key_of_65 : read_as (partition_in 3 tables 1) (codes "{\"name\":\"p\",\"table\":\"t\",\"column\":\"c\",\"keys\":[\"kkkkkkkkkkkkkkkkkkkkkkkkkkkkkkkkkkkkkkkkkkkk"
    ++ codes "kkkkkkkkkkkkkkkkkkkkk\"]}") ≡ bad Form (place at.Key 3 1 0)
unfolding on_literals
key_of_65 = refl

key_double : read_as (partition_in 3 tables 1) (codes "{\"name\":\"p\",\"table\":\"t\",\"column\":\"c\",\"keys\":[\"A\",\"B\",\"A\",\"a b\"]}")
    ≡ bad Double (place at.Key 3 1 2)
unfolding on_literals
key_double = refl

-- ---- an owner: owner 3

-- the compact text has the members in the order of their bytes
owner : read_as (owner_in (codes "ann" ∷ []) 3) (codes "{\"name\":\"o\",\"budget\":1,\"capacity\":2,\"tables\":[{\"name\":\"t\",\"file\":\"f\",\"columns\":[{\"na"
    ++ codes "me\":\"a\",\"type\":\"num\"}]}],\"partitions\":[]}")
    ≡ Ok (an_owner (1) (2) (codes "{\"budget\":1,\"capacity\":2,\"name\":\"o\",\"partitions\":[],\"tables\":[{\"columns\":[{\"name\":\"a\","
    ++ codes "\"type\":\"num\"}],\"file\":\"f\",\"name\":\"t\"}]}"))
unfolding on_literals
owner = refl

-- blanks and the order of members in the file change nothing of it
owner_with_blanks : read_as (owner_in (codes "ann" ∷ []) 3) (codes "{\"name\": \"o\",\n \"budget\": 1,\n \"capacity\": 2,\n \"tables\": [{\"name\": \"t\",\n \"file\": \"f\","
    ++ codes "\n \"columns\": [{\"name\": \"a\",\n \"type\": \"num\"}]}],\n \"partitions\": []}")
    ≡ Ok (an_owner (1) (2) (codes "{\"budget\":1,\"capacity\":2,\"name\":\"o\",\"partitions\":[],\"tables\":[{\"columns\":[{\"name\":\"a\","
    ++ codes "\"type\":\"num\"}],\"file\":\"f\",\"name\":\"t\"}]}"))
unfolding on_literals
owner_with_blanks = refl

owner_kind : read_as (owner_in (codes "ann" ∷ []) 3) (codes "null") ≡ bad Kind (place at.Owner 3 0 0)
unfolding on_literals
owner_kind = refl

owner_missing : read_as (owner_in (codes "ann" ∷ []) 3) (codes "{\"name\":7,\"capacity\":7,\"tables\":7,\"a\":7}") ≡ bad Missing (place at.Budget 3 0 0)
unfolding on_literals
owner_missing = refl

owner_missing_last : read_as (owner_in (codes "ann" ∷ []) 3) (codes "{\"name\":7,\"budget\":7,\"capacity\":7,\"tables\":7,\"a\":7}")
    ≡ bad Missing (place at.Partitions 3 0 0)
unfolding on_literals
owner_missing_last = refl

owner_unknown : read_as (owner_in (codes "ann" ∷ []) 3) (codes "{\"name\":7,\"budget\":7,\"capacity\":7,\"tables\":7,\"partitions\":7,\"a\":7}")
    ≡ bad (Unknown (codes "a")) (place at.Owner 3 0 0)
unfolding on_literals
owner_unknown = refl

owner_name : read_as (owner_in (codes "ann" ∷ []) 3) (codes "{\"name\":\"o-o\",\"budget\":0,\"capacity\":2,\"tables\":[{\"name\":\"t\",\"file\":\"f\",\"columns\":[{\""
    ++ codes "name\":\"a\",\"type\":\"num\"}]}],\"partitions\":[]}") ≡ bad Form (place at.OwnerName 3 0 0)
unfolding on_literals
owner_name = refl

budget_none : read_as (owner_in (codes "ann" ∷ []) 3) (codes "{\"name\":\"o\",\"budget\":0,\"capacity\":0,\"tables\":[{\"name\":\"t\",\"file\":\"f\",\"columns\":[{\"na"
    ++ codes "me\":\"a\",\"type\":\"num\"}]}],\"partitions\":[]}") ≡ bad Range (place at.Budget 3 0 0)
unfolding on_literals
budget_none = refl

budget_most : read_as (owner_in (codes "ann" ∷ []) 3) (codes "{\"name\":\"o\",\"budget\":1000000000000000000,\"capacity\":2,\"tables\":[{\"name\":\"t\",\"file\":\"f\","
    ++ codes "\"columns\":[{\"name\":\"a\",\"type\":\"num\"}]}],\"partitions\":[]}")
    ≡ Ok (an_owner (10 ^ 18) (2) (codes "{\"budget\":1000000000000000000,\"capacity\":2,\"name\":\"o\",\"partitions\":[],\"tables\":[{\"columns\":"
    ++ codes "[{\"name\":\"a\",\"type\":\"num\"}],\"file\":\"f\",\"name\":\"t\"}]}"))
unfolding on_literals
budget_most = refl

budget_over : read_as (owner_in (codes "ann" ∷ []) 3) (codes "{\"name\":\"o\",\"budget\":1000000000000000001,\"capacity\":2,\"tables\":[{\"name\":\"t\",\"file\":\"f\","
    ++ codes "\"columns\":[{\"name\":\"a\",\"type\":\"num\"}]}],\"partitions\":[]}") ≡ bad Range (place at.Budget 3 0 0)
unfolding on_literals
budget_over = refl

-- a number of 64 bits is a whole one, and no other is
budget_greatest_whole : read_as (owner_in (codes "ann" ∷ []) 3) (codes "{\"name\":\"o\",\"budget\":18446744073709551615,\"capacity\":2,\"tables\":[{\"name\":\"t\",\"file\":\"f\""
    ++ codes ",\"columns\":[{\"name\":\"a\",\"type\":\"num\"}]}],\"partitions\":[]}") ≡ bad Range (place at.Budget 3 0 0)
unfolding on_literals
budget_greatest_whole = refl

budget_negative : read_as (owner_in (codes "ann" ∷ []) 3) (codes "{\"name\":\"o\",\"budget\":-1,\"capacity\":2,\"tables\":[{\"name\":\"t\",\"file\":\"f\",\"columns\":[{\"n"
    ++ codes "ame\":\"a\",\"type\":\"num\"}]}],\"partitions\":[]}") ≡ bad Kind (place at.Budget 3 0 0)
unfolding on_literals
budget_negative = refl

budget_text : read_as (owner_in (codes "ann" ∷ []) 3) (codes "{\"name\":\"o\",\"budget\":\"1\",\"capacity\":2,\"tables\":[{\"name\":\"t\",\"file\":\"f\",\"columns\":[{"
    ++ codes "\"name\":\"a\",\"type\":\"num\"}]}],\"partitions\":[]}") ≡ bad Kind (place at.Budget 3 0 0)
unfolding on_literals
budget_text = refl

capacity_one : read_as (owner_in (codes "ann" ∷ []) 3) (codes "{\"name\":\"o\",\"budget\":1,\"capacity\":1,\"tables\":0,\"partitions\":[]}")
    ≡ bad Range (place at.Capacity 3 0 0)
unfolding on_literals
capacity_one = refl

capacity_most : read_as (owner_in (codes "ann" ∷ []) 3) (codes "{\"name\":\"o\",\"budget\":1,\"capacity\":262144,\"tables\":[{\"name\":\"t\",\"file\":\"f\",\"columns\":["
    ++ codes "{\"name\":\"a\",\"type\":\"num\"}]}],\"partitions\":[]}")
    ≡ Ok (an_owner (1) (262144) (codes "{\"budget\":1,\"capacity\":262144,\"name\":\"o\",\"partitions\":[],\"tables\":[{\"columns\":[{\"name\":\""
    ++ codes "a\",\"type\":\"num\"}],\"file\":\"f\",\"name\":\"t\"}]}"))
unfolding on_literals
capacity_most = refl

capacity_over : read_as (owner_in (codes "ann" ∷ []) 3) (codes "{\"name\":\"o\",\"budget\":1,\"capacity\":262145,\"tables\":[{\"name\":\"t\",\"file\":\"f\",\"columns\":["
    ++ codes "{\"name\":\"a\",\"type\":\"num\"}]}],\"partitions\":[]}") ≡ bad Range (place at.Capacity 3 0 0)
unfolding on_literals
capacity_over = refl

tables_kind : read_as (owner_in (codes "ann" ∷ []) 3) (codes "{\"name\":\"o\",\"budget\":1,\"capacity\":2,\"tables\":{},\"partitions\":{}}")
    ≡ bad Kind (place at.Tables 3 0 0)
unfolding on_literals
tables_kind = refl

tables_none : read_as (owner_in (codes "ann" ∷ []) 3) (codes "{\"name\":\"o\",\"budget\":1,\"capacity\":2,\"tables\":[],\"partitions\":[]}")
    ≡ bad Count (place at.Tables 3 0 0)
unfolding on_literals
tables_none = refl

tables_nine : read_as (owner_in (codes "ann" ∷ []) 3) (codes "{\"name\":\"o\",\"budget\":1,\"capacity\":2,\"tables\":[0,0,0,0,0,0,0,0,0],\"partitions\":[]}")
    ≡ bad Count (place at.Tables 3 0 0)
unfolding on_literals
tables_nine = refl

-- eight are not too many, so the first of them counts
tables_eight : read_as (owner_in (codes "ann" ∷ []) 3) (codes "{\"name\":\"o\",\"budget\":1,\"capacity\":2,\"tables\":[0,0,0,0,0,0,0,0],\"partitions\":[]}")
    ≡ bad Kind (place at.Table 3 0 0)
unfolding on_literals
tables_eight = refl

table_double : read_as (owner_in (codes "ann" ∷ []) 3) (codes "{\"name\":\"o\",\"budget\":1,\"capacity\":2,\"tables\":[{\"name\":\"t\",\"file\":\"f\",\"columns\":[{\"na"
    ++ codes "me\":\"a\",\"type\":\"num\"}]},{\"name\":\"t\",\"file\":\"g\",\"columns\":[{\"name\":\"a\",\"type\":\"num"
    ++ codes "\"}]}],\"partitions\":[]}") ≡ bad Double (place at.Table 3 1 0)
unfolding on_literals
table_double = refl

partitions_kind : read_as (owner_in (codes "ann" ∷ []) 3) (codes "{\"name\":\"o\",\"budget\":1,\"capacity\":2,\"tables\":[{\"name\":\"t\",\"file\":\"f\",\"columns\":[{\"na"
    ++ codes "me\":\"a\",\"type\":\"num\"}]}],\"partitions\":0}") ≡ bad Kind (place at.Partitions 3 0 0)
unfolding on_literals
partitions_kind = refl

partitions_nine : read_as (owner_in (codes "ann" ∷ []) 3) (codes "{\"name\":\"o\",\"budget\":1,\"capacity\":2,\"tables\":[{\"name\":\"t\",\"file\":\"f\",\"columns\":[{\"na"
    ++ codes "me\":\"a\",\"type\":\"num\"}]}],\"partitions\":[0,0,0,0,0,0,0,0,0]}") ≡ bad Count (place at.Partitions 3 0 0)
unfolding on_literals
partitions_nine = refl

partitions_eight : read_as (owner_in (codes "ann" ∷ []) 3) (codes "{\"name\":\"o\",\"budget\":1,\"capacity\":2,\"tables\":[{\"name\":\"t\",\"file\":\"f\",\"columns\":[{\"na"
    ++ codes "me\":\"a\",\"type\":\"num\"}]}],\"partitions\":[0,0,0,0,0,0,0,0]}") ≡ bad Kind (place at.Partition 3 0 0)
unfolding on_literals
partitions_eight = refl

partition_double : read_as (owner_in (codes "ann" ∷ []) 3) (codes "{\"name\":\"o\",\"budget\":1,\"capacity\":2,\"tables\":[{\"name\":\"t\",\"file\":\"f\",\"columns\":[{\"na"
    ++ codes "me\":\"a\",\"type\":\"text\"}]}],\"partitions\":[{\"name\":\"p\",\"table\":\"t\",\"column\":\"a\",\"keys"
    ++ codes "\":[\"A\"]},{\"name\":\"p\",\"table\":\"t\",\"column\":\"a\",\"keys\":[\"A\"]}]}") ≡ bad Double (place at.Partition 3 1 0)
unfolding on_literals
partition_double = refl

owner_with_partition : read_as (owner_in (codes "ann" ∷ []) 3) (codes "{\"name\":\"o\",\"budget\":1,\"capacity\":2,\"tables\":[{\"name\":\"t\",\"file\":\"f\",\"columns\":[{\"na"
    ++ codes "me\":\"a\",\"type\":\"text\"}]}],\"partitions\":[{\"name\":\"p\",\"table\":\"t\",\"column\":\"a\",\"keys"
    ++ codes "\":[\"A\"]}]}") ≡ Ok (record {
      name = codes "o";
      budget = 1;
      capacity = 2;
      tables = record { name = codes "t"; file = codes "f"; columns = text (codes "a") ∷ [] } ∷ [];
      partitions = record { name = codes "p"; table = 0; column = 0; keys = codes "A" ∷ [] } ∷ [];
      limits = [];
      text = codes "{\"budget\":1,\"capacity\":2,\"name\":\"o\",\"partitions\":[{\"column\":\"a\",\"keys\":[\"A\"],\"name\":"
          ++ codes "\"p\",\"table\":\"t\"}],\"tables\":[{\"columns\":[{\"name\":\"a\",\"type\":\"text\"}],\"file\":\"f\",\"na"
          ++ codes "me\":\"t\"}]}";
    })
unfolding on_literals
owner_with_partition = refl

-- ---- a whole file

catalog : catalog_in_file (codes "{\"analysts\":[\"ann\"],\"owners\":[{\"name\":\"o\",\"budget\":1,\"capacity\":2,\"tables\":[{\"name\":\"t"
    ++ codes "\",\"file\":\"f\",\"columns\":[{\"name\":\"a\",\"type\":\"num\"}]}],\"partitions\":[]}]}")
    ≡ Ok (record {
      analysts = codes "ann" ∷ [];
      owners = an_owner 1 2 (codes "{\"budget\":1,\"capacity\":2,\"name\":\"o\",\"partitions\":[],\"tables\":[{\"columns\":[{\"name\":\"a\","
          ++ codes "\"type\":\"num\"}],\"file\":\"f\",\"name\":\"t\"}]}") ∷ [];
      text = codes "[\"ann\"]";
    })
unfolding on_literals
catalog = refl

empty : catalog_in_file (codes "") ≡ bad Syntax (place at.Catalog 0 0 0)
unfolding on_literals
empty = refl

half : catalog_in_file (codes "{\"analysts\":") ≡ bad Syntax (place at.Catalog 0 0 0)
unfolding on_literals
half = refl

two_values : catalog_in_file (codes "{}{}") ≡ bad Syntax (place at.Catalog 0 0 0)
unfolding on_literals
two_values = refl

-- bytes that are no UTF-8
no_text : catalog_in_file ((255 ∷ [])) ≡ bad Syntax (place at.Catalog 0 0 0)
unfolding on_literals
no_text = refl

catalog_kind : catalog_in_file (codes "[]") ≡ bad Kind (place at.Catalog 0 0 0)
unfolding on_literals
catalog_kind = refl

catalog_missing : catalog_in_file (codes "{\"owners\":0,\"a\":0}") ≡ bad Missing (place at.Analysts 0 0 0)
unfolding on_literals
catalog_missing = refl

catalog_unknown : catalog_in_file (codes "{\"owners\":0,\"analysts\":0,\"z\":0}") ≡ bad (Unknown (codes "z")) (place at.Catalog 0 0 0)
unfolding on_literals
catalog_unknown = refl

analysts_kind : catalog_in_file (codes "{\"owners\":0,\"analysts\":0}") ≡ bad Kind (place at.Analysts 0 0 0)
unfolding on_literals
analysts_kind = refl

analysts_none : catalog_in_file (codes "{\"analysts\":[],\"owners\":0}") ≡ bad Count (place at.Analysts 0 0 0)
unfolding on_literals
analysts_none = refl

analysts_65 : catalog_in_file (codes "{\"analysts\":[0,0,0,0,0,0,0,0,0,0,0,0,0,0,0,0,0,0,0,0,0,0,0,0,0,0,0,0,0,0,0,0,0,0,0,0,0,0,0,0,0,0,0,0,0,"
    ++ codes "0,0,0,0,0,0,0,0,0,0,0,0,0,0,0,0,0,0,0,0],\"owners\":[{\"name\":\"o\",\"budget\":1,\"capacity\":2,\"tables"
    ++ codes "\":[{\"name\":\"t\",\"file\":\"f\",\"columns\":[{\"name\":\"a\",\"type\":\"num\"}]}],\"partitions\":[]}]}")
    ≡ bad Count (place at.Analysts 0 0 0)
unfolding on_literals
analysts_65 = refl

analysts_64 : catalog_in_file (codes "{\"analysts\":[0,0,0,0,0,0,0,0,0,0,0,0,0,0,0,0,0,0,0,0,0,0,0,0,0,0,0,0,0,0,0,0,0,0,0,0,0,0,0,0,0,0,0,0,0,"
    ++ codes "0,0,0,0,0,0,0,0,0,0,0,0,0,0,0,0,0,0,0],\"owners\":[{\"name\":\"o\",\"budget\":1,\"capacity\":2,\"tables\""
    ++ codes ":[{\"name\":\"t\",\"file\":\"f\",\"columns\":[{\"name\":\"a\",\"type\":\"num\"}]}],\"partitions\":[]}]}")
    ≡ bad Kind (place at.Analyst 0 0 0)
unfolding on_literals
analysts_64 = refl

analyst_form : catalog_in_file (codes "{\"analysts\":[\"ann\",\"b b\"],\"owners\":[{\"name\":\"o\",\"budget\":1,\"capacity\":2,\"tables\":[{\"na"
    ++ codes "me\":\"t\",\"file\":\"f\",\"columns\":[{\"name\":\"a\",\"type\":\"num\"}]}],\"partitions\":[]}]}") ≡ bad Form (place at.Analyst 0 1 0)
unfolding on_literals
analyst_form = refl

analyst_double : catalog_in_file (codes "{\"analysts\":[\"ann\",\"bob\",\"ann\"],\"owners\":[{\"name\":\"o\",\"budget\":1,\"capacity\":2,\"tables"
    ++ codes "\":[{\"name\":\"t\",\"file\":\"f\",\"columns\":[{\"name\":\"a\",\"type\":\"num\"}]}],\"partitions\":[]}]}")
    ≡ bad Double (place at.Analyst 0 2 0)
unfolding on_literals
analyst_double = refl

owners_kind : catalog_in_file (codes "{\"analysts\":[\"ann\"],\"owners\":{}}") ≡ bad Kind (place at.Owners 0 0 0)
unfolding on_literals
owners_kind = refl

owners_none : catalog_in_file (codes "{\"analysts\":[\"ann\"],\"owners\":[]}") ≡ bad Count (place at.Owners 0 0 0)
unfolding on_literals
owners_none = refl

owners_65 : catalog_in_file (codes "{\"analysts\":[\"ann\"],\"owners\":[0,0,0,0,0,0,0,0,0,0,0,0,0,0,0,0,0,0,0,0,0,0,0,0,0,0,0,0,0,0,0,0,0,0,0,"
    ++ codes "0,0,0,0,0,0,0,0,0,0,0,0,0,0,0,0,0,0,0,0,0,0,0,0,0,0,0,0,0,0]}") ≡ bad Count (place at.Owners 0 0 0)
unfolding on_literals
owners_65 = refl

owners_64 : catalog_in_file (codes "{\"analysts\":[\"ann\"],\"owners\":[0,0,0,0,0,0,0,0,0,0,0,0,0,0,0,0,0,0,0,0,0,0,0,0,0,0,0,0,0,0,0,0,0,0,0,"
    ++ codes "0,0,0,0,0,0,0,0,0,0,0,0,0,0,0,0,0,0,0,0,0,0,0,0,0,0,0,0,0]}") ≡ bad Kind (place at.Owner 0 0 0)
unfolding on_literals
owners_64 = refl

owner_double : catalog_in_file (codes "{\"analysts\":[\"ann\"],\"owners\":[{\"name\":\"o\",\"budget\":1,\"capacity\":2,\"tables\":[{\"name\":\"t"
    ++ codes "\",\"file\":\"f\",\"columns\":[{\"name\":\"a\",\"type\":\"num\"}]}],\"partitions\":[]},{\"name\":\"o\",\""
    ++ codes "budget\":2,\"capacity\":2,\"tables\":[{\"name\":\"t\",\"file\":\"f\",\"columns\":[{\"name\":\"a\",\"type"
    ++ codes "\":\"num\"}]}],\"partitions\":[]}]}") ≡ bad Double (place at.Owner 1 0 0)
unfolding on_literals
owner_double = refl

second_owner : catalog_in_file (codes "{\"analysts\":[\"ann\"],\"owners\":[{\"name\":\"o\",\"budget\":1,\"capacity\":2,\"tables\":[{\"name\":\"t"
    ++ codes "\",\"file\":\"f\",\"columns\":[{\"name\":\"a\",\"type\":\"num\"}]}],\"partitions\":[]},{\"name\":\"q\",\""
    ++ codes "budget\":0,\"capacity\":2,\"tables\":[{\"name\":\"t\",\"file\":\"f\",\"columns\":[{\"name\":\"a\",\"type"
    ++ codes "\":\"num\"}]}],\"partitions\":[]}]}") ≡ bad Range (place at.Budget 1 0 0)
unfolding on_literals
second_owner = refl
