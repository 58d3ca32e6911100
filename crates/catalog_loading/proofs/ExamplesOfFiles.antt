-- A worked table file: its SHA-256 is of all its bytes, the byte order mark that its rows are read without among them.
use Rattle.std.proofs.Common.{◌≡◌, ℕ, List, [], ◌∷◌, Some, Result, Ok, codes, pos, refl}
use Rattle.csv.specs.Machine.{next_record}
use Rattle.csv.specs.Reading.{records_from, strip_bom}
use Rattle.fz_ast.specs.declared.row.Column.TheVariants.{Num}
use Rattle.metric_values.specs.Values.{NumF}
use Rattle.sha2.specs.Sha256.{sha256}
use Rattle.table_store.specs.Cell.{cell_number}
use Rattle.table_store.specs.Table.{cells_from, rows_from, table_in_file}
use Rattle.owner_catalog.specs.Entries.{TableEntry}
use Rattle.catalog_loading.specs.Files.{always}
use Rattle.catalog_loading.specs.Loaded.{LoadedTable, table_read}
use Rattle.catalog_loading.specs.Steps.{◌>>=◌}

abbrev ages : TableEntry
ages = record { name = codes "people"; file = codes "people.csv"; columns = record { name = codes "age"; kind = Num } ∷ [] }

-- what is loaded where the file has these bytes
abbrev loaded_from : List ℕ → Result LoadedTable (List ℕ)
loaded_from bytes = (table_read ages (always (λ name. Some bytes))).given

without_a_mark : loaded_from (codes "age\n7\n") ≡ Ok (record { rows = NumF (pos 7) ∷ []; hash = sha256 (codes "age\n7\n") })
unfolding ◌>>=◌ table_in_file next_record records_from strip_bom rows_from cells_from cell_number
without_a_mark = refl

with_a_mark : loaded_from (239 ∷ 187 ∷ 191 ∷ codes "age\n7\n") ≡ Ok (record { rows = NumF (pos 7) ∷ []; hash = sha256 (239 ∷ 187 ∷ 191 ∷ codes "age\n7\n") })
unfolding ◌>>=◌ table_in_file next_record records_from strip_bom rows_from cells_from cell_number
with_a_mark = refl
