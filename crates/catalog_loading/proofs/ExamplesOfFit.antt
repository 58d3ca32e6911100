-- worked examples of entries that fit, and of such that don't: by tables and columns alone
use Rattle.std.proofs.Common.{◌≡◌, ℕ, List, [], ◌∷◌, ◌++◌, refl}
use Rattle.std.specs.Prelude.{Result, Ok, Err, codes}
use Rattle.fz_ast.specs.declared.row.Column.TheVariants.{Num, Text}
use Rattle.table_store.specs.Schema.{NamedColumn}
use Rattle.owner_catalog.specs.Catalog.{OwnerEntry, PartitionEntry, TableEntry}
use Rattle.catalog_loading.specs.Fit.{if_fitting}

abbrev a : List ℕ
a = codes "a"

abbrev b : List ℕ
b = codes "b"

abbrev c : List ℕ
c = codes "c"

abbrev num : List ℕ → NamedColumn
num name = record { name = name; kind = Num }

abbrev text : List ℕ → NamedColumn
text name = record { name = name; kind = Text }

abbrev table : (name file : List ℕ) → List NamedColumn → TableEntry
table name file columns = record { name = name; file = file; columns = columns }

abbrev owner : (budget : ℕ) → List PartitionEntry → List TableEntry → OwnerEntry
owner budget partitions tables = record { name = a; budget = budget; capacity = 2; tables = tables; partitions = partitions; limits = []; text = [] }

-- an owner of two tables, and another of these
abbrev fit_with : List TableEntry → Result OwnerEntry (List ℕ)
fit_with tables = if_fitting (owner 1 [] (table a a (num a ∷ text b ∷ []) ∷ table b b (num a ∷ []) ∷ [])) a (Ok (owner 1 [] tables))

abbrev same : List TableEntry
same = table a c (num a ∷ text b ∷ []) ∷ table b c (num a ∷ []) ∷ []

-- files, budgets and partitions may differ
other_files : fit_with same ≡ Ok (owner 1 [] same)
other_files = refl

other_budget : if_fitting (owner 1 [] same) a (Ok (owner 2 (record { name = a; table = 0; column = 1; keys = c ∷ [] } ∷ []) same))
    ≡ Ok (owner 2 (record { name = a; table = 0; column = 1; keys = c ∷ [] } ∷ []) same)
other_budget = refl

-- and no name, no kind, no order and no number
other_table_name : fit_with (table a a (num a ∷ text b ∷ []) ∷ table c b (num a ∷ []) ∷ []) ≡ Err a
other_table_name = refl

other_column_name : fit_with (table a a (num a ∷ text c ∷ []) ∷ table b b (num a ∷ []) ∷ []) ≡ Err a
other_column_name = refl

other_kind : fit_with (table a a (num a ∷ num b ∷ []) ∷ table b b (num a ∷ []) ∷ []) ≡ Err a
other_kind = refl

columns_swapped : fit_with (table a a (text b ∷ num a ∷ []) ∷ table b b (num a ∷ []) ∷ []) ≡ Err a
columns_swapped = refl

tables_swapped : fit_with (table b b (num a ∷ []) ∷ table a a (num a ∷ text b ∷ []) ∷ []) ≡ Err a
tables_swapped = refl

one_column_more : fit_with (table a a (num a ∷ text b ∷ []) ∷ table b b (num a ∷ num b ∷ []) ∷ []) ≡ Err a
one_column_more = refl

one_table_less : fit_with (table a a (num a ∷ text b ∷ []) ∷ []) ≡ Err a
one_table_less = refl

one_table_more : fit_with (same ++ table c c (num a ∷ []) ∷ []) ≡ Err a
one_table_more = refl
