-- Files and their tables, worked out by hand.
use Rattle.std.proofs.Common.{◌≡◌, ℕ, zero, suc, List, [], ◌∷◌, ◌++◌, arith, Ok, Err, Some, ℤ, None, pos, negsuc, codes, refl}
use Rattle.std.proofs.lemmas.Int.{ints}
use Rattle.csv.specs.Machine.{next_record}
use Rattle.csv.specs.Reading.{records_from, strip_bom}
use Rattle.fz_ast.specs.Limits.{IsNumber}
use Rattle.fz_ast.specs.Rows.{row_type}
use Rattle.fz_ast.specs.Types.{NumT, TensorT, TextT}
use Rattle.fz_ast.specs.declared.row.Column.TheVariants.{Num, Text}
use Rattle.metric_values.specs.Values.{Flat, NumF, PairF, TextF, UnitF}
use Rattle.table_store.specs.Cell.{cell_number, cell_value, longest_text}
use Rattle.table_store.specs.Groups.{rows_with}
use Rattle.table_store.specs.Schema.{NamedColumn, most_columns, row_of_schema}
use Rattle.table_store.specs.Table.{cells_from, most_rows, row_of_cells, rows_from, table_in_file}
use Rattle.table_store.specs.declared.TableFault.TheVariants.{BadHeader, BadRecord, BadCell, TooManyRows}

abbrev ages : List NamedColumn
ages = record { name = codes "age"; kind = Num } ∷ []

abbrev people : List NamedColumn
people = record { name = codes "name"; kind = Text } ∷ record { name = codes "age"; kind = Num } ∷ record { name = codes "town"; kind = Text } ∷ []

abbrev person : List ℕ → ℤ → List ℕ → Flat
person name age town = PairF (TextF name) (PairF (NumF age) (TextF town))

abbrev bytes_64 : List ℕ
bytes_64 = codes "0123456789abcdef0123456789abcdef0123456789abcdef0123456789abcdef"

abbrev bytes_65 : List ℕ
bytes_65 = bytes_64 ++ codes "."

abbrev towns : List NamedColumn
towns = record { name = codes "town"; kind = Text } ∷ []

-- so many characters of two bytes
abbrev two_bytes : ℕ → List ℕ
two_bytes zero = []
two_bytes (suc n) = 195 ∷ 169 ∷ two_bytes n

-- one column: the number of each row
one_column :
    (table_in_file ages (codes "age\n20\n30\n40\n") ≡ Ok (NumF (pos 20) ∷ NumF (pos 30) ∷ NumF (pos 40) ∷ []))
    × (table_in_file ages (codes "age") ≡ Ok [])
unfolding table_in_file next_record records_from strip_bom rows_from cells_from cell_number
one_column = (refl, refl)

-- ends of lines, quotes, empty lines, and a last line with no end
ends_of_lines :
    (table_in_file ages (codes "\r\nage\r\n\"20\"\r\n\n-3") ≡ Ok (NumF (pos 20) ∷ NumF (negsuc 2) ∷ []))
    × (table_in_file ages (codes "\"age\"\n20\n") ≡ Ok (NumF (pos 20) ∷ []))
unfolding table_in_file next_record records_from strip_bom rows_from cells_from cell_number
ends_of_lines = (refl, refl)

-- one or two byte order marks are taken off, a third is part of the header, and one elsewhere is part of its cell
marks :
    (table_in_file ages (239 ∷ 187 ∷ 191 ∷ codes "age\n7") ≡ Ok (NumF (pos 7) ∷ []))
    × (table_in_file ages (239 ∷ 187 ∷ 191 ∷ 239 ∷ 187 ∷ 191 ∷ codes "age\n7\n") ≡ Ok (NumF (pos 7) ∷ []))
    × (table_in_file ages (239 ∷ 187 ∷ 191 ∷ 239 ∷ 187 ∷ 191 ∷ 239 ∷ 187 ∷ 191 ∷ codes "age\n7\n") ≡ Err BadHeader)
    × (table_in_file ages (239 ∷ 187 ∷ 191 ∷ []) ≡ Err BadHeader)
    × (table_in_file ages (codes "age\n" ++ 239 ∷ 187 ∷ 191 ∷ codes "7\n") ≡ Err (BadCell 0 0))
unfolding table_in_file next_record records_from strip_bom rows_from cells_from cell_number
marks = (refl, refl, refl, refl, refl)

-- the header is the names, letter by letter, without blanks, in order, and no more
headers :
    (table_in_file ages [] ≡ Err BadHeader)
    × (table_in_file ages (codes "ages\n20\n") ≡ Err BadHeader)
    × (table_in_file ages (codes " age\n20\n") ≡ Err BadHeader)
    × (table_in_file ages (codes "Age\n20\n") ≡ Err BadHeader)
    × (table_in_file ages (codes "\n\n20\n") ≡ Err BadHeader)
    × (table_in_file ages (codes "age,name\n20,a\n") ≡ Err BadHeader)
unfolding table_in_file next_record records_from strip_bom rows_from cells_from cell_number
headers = (refl, refl, refl, refl, refl, refl)

headers_of_three :
    (table_in_file people (codes "name,age,town\n") ≡ Ok [])
    × (table_in_file people (codes "name,town,age\n") ≡ Err BadHeader)
    × (table_in_file people (codes "name,age\n") ≡ Err BadHeader)
    × (table_in_file people (codes "name,age,town,\n") ≡ Err BadHeader)
    × (table_in_file people (codes "name;age;town\n") ≡ Err BadHeader)
unfolding table_in_file next_record records_from strip_bom rows_from cells_from cell_number
headers_of_three = (refl, refl, refl, refl, refl)

-- three columns: a row is the first cell paired with those behind it
three_columns : table_in_file people (codes "name,age,town\nann,30,oslo\n,-4,\n")
    ≡ Ok (person (codes "ann") (pos 30) (codes "oslo") ∷ person [] (negsuc 3) [] ∷ [])
unfolding table_in_file next_record records_from strip_bom rows_from cells_from cell_number
three_columns = refl

-- separators, ends of lines and doubled quotes in quoted fields are bytes of the text, and so is any byte
quoted_texts :
    (table_in_file people (codes "name,age,town\n\"a,b\",\"7\",\"x\"\"y\r\nz\"\n") ≡ Ok (person (codes "a,b") (pos 7) (codes "x\"y\r\nz") ∷ []))
    × (table_in_file people (codes "name,age,town\n" ++ 255 ∷ 0 ∷ codes ",7, 30\n") ≡ Ok (person (255 ∷ 0 ∷ []) (pos 7) (codes " 30") ∷ []))
unfolding table_in_file next_record records_from strip_bom rows_from cells_from cell_number
quoted_texts = (refl, refl)

-- the first fault counts: of the rows, then of the number of fields, then of the cells
first_fault :
    (table_in_file ages (codes "age\n20\n30,\nx\n") ≡ Err (BadRecord 1))
    × (table_in_file ages (codes "age\n20\n3x\n4,5\n") ≡ Err (BadCell 1 0))
    × (table_in_file ages (codes "age\n\"\"\n") ≡ Err (BadCell 0 0))
    × (table_in_file ages (codes "age\n1.5\n") ≡ Err (BadCell 0 0))
    × (table_in_file people (codes "name,age,town\nann,x\n") ≡ Err (BadRecord 0))
    × (table_in_file people (codes "name,age,town\nann,x,oslo,\n") ≡ Err (BadRecord 0))
    × (table_in_file people (codes "name,age,town\nann,1,b\nann,oslo,x\n") ≡ Err (BadCell 1 1))
unfolding table_in_file next_record records_from strip_bom rows_from cells_from cell_number
first_fault = (refl, refl, refl, refl, refl, refl, refl)

bad_cells_in_order :
    (cells_from 5 0 (Text ∷ Num ∷ Num ∷ []) (bytes_65 ∷ codes "x" ∷ codes "y" ∷ []) ≡ Err (BadCell 5 0))
    × (cells_from 5 0 (Text ∷ Num ∷ Num ∷ []) (bytes_64 ∷ codes "x" ∷ codes "y" ∷ []) ≡ Err (BadCell 5 1))
    × (cells_from 5 0 (Text ∷ Num ∷ Num ∷ []) (codes "a" ∷ codes "1" ∷ codes "y" ∷ []) ≡ Err (BadCell 5 2))
unfolding cells_from cell_number
bad_cells_in_order = (refl, refl, refl)

-- limits
limits :
    (most_rows ≡ 1048576)
    × (most_columns ≡ 16)
    × (longest_text ≡ 64)
limits = (refl, refl, refl)

-- 2^20 rows: the last is read, and the row behind it is one too many unless it has another fault
last_row :
    (rows_from (Num ∷ []) 1048575 ((codes "7" ∷ []) ∷ []) ≡ Ok (NumF (pos 7) ∷ []))
    × (rows_from (Num ∷ []) 1048575 ((codes "7" ∷ []) ∷ (codes "8" ∷ []) ∷ []) ≡ Err TooManyRows)
    × (rows_from (Num ∷ []) most_rows ((codes "7" ∷ codes "8" ∷ []) ∷ []) ≡ Err (BadRecord most_rows))
    × (rows_from (Num ∷ []) most_rows ((codes "x" ∷ []) ∷ []) ≡ Err (BadCell most_rows 0))
unfolding rows_from cells_from cell_number
last_row = (refl, refl, refl, refl)

-- texts of 64 and of 65 bytes, and of none
long_texts :
    (cell_value Text bytes_64 ≡ Some (TextF bytes_64))
    × (cell_value Text bytes_65 ≡ None)
    × (cell_value Text [] ≡ Some (TextF []))
    × (cell_value Text (codes "30") ≡ Some (TextF (codes "30")))
    × (cell_value Num (codes "30") ≡ Some (NumF (pos 30)))
    × (cell_value Num (codes "a") ≡ None)
unfolding cell_number
long_texts = (refl, refl, refl, refl, refl, refl)

-- bytes count and not characters: of 0xC3 0xA9, which is one character, 32 are within the limit and 33 aren't
long_characters :
    (cell_value Text (two_bytes 32) ≡ Some (TextF (two_bytes 32)))
    × (cell_value Text (two_bytes 33) ≡ None)
    × (table_in_file towns (codes "town\n" ++ two_bytes 33 ++ codes "\n") ≡ Err (BadCell 0 0))
unfolding table_in_file next_record records_from strip_bom rows_from cells_from cell_number
long_characters = (refl, refl, refl)

-- numbers: a minus, leading zeros, both limits
numbers :
    (cell_number (codes "0") ≡ Some (pos 0))
    × (cell_number (codes "9") ≡ Some (pos 9))
    × (cell_number (codes "-9") ≡ Some (negsuc 8))
    × (cell_number (codes "-0") ≡ Some (pos 0))
    × (cell_number (codes "007") ≡ Some (pos 7))
    × (cell_number (codes "-007") ≡ Some (negsuc 6))
    × (cell_number (codes "1125899906842624") ≡ Some (pos 1125899906842624))
    × (cell_number (codes "1125899906842625") ≡ None)
    × (cell_number (codes "-1125899906842624") ≡ Some (negsuc 1125899906842623))
    × (cell_number (codes "-1125899906842625") ≡ None)
    × (cell_number (codes "-000000000000000000000000000000000001125899906842624") ≡ Some (negsuc 1125899906842623))
unfolding cell_number
numbers = (refl, refl, refl, refl, refl, refl, refl, refl, refl, refl, refl)

-- and what is none
nearly_numbers :
    (cell_number [] ≡ None)
    × (cell_number (codes "+7") ≡ None)
    × (cell_number (codes "-") ≡ None)
    × (cell_number (codes " 7") ≡ None)
    × (cell_number (codes "7 ") ≡ None)
    × (cell_number (codes "1.5") ≡ None)
    × (cell_number (codes "/") ≡ None)
    × (cell_number (codes ":") ≡ None)
    × (cell_number (codes "7-") ≡ None)
    × (cell_number (codes "--7") ≡ None)
    × (cell_number (codes "-+7") ≡ None)
    × (cell_number (codes "+-7") ≡ None)
    × (cell_number (178 ∷ []) ≡ None)
unfolding cell_number
nearly_numbers = (refl, refl, refl, refl, refl, refl, refl, refl, refl, refl, refl, refl, refl)

-- the type of rows, and rows of no, one and two cells
row_types :
    (row_of_schema ages ≡ NumT)
    × (row_of_schema people ≡ TensorT TextT (TensorT NumT TextT))
    × (row_of_cells [] ≡ UnitF)
    × (row_of_cells (NumF (pos 1) ∷ []) ≡ NumF (pos 1))
    × (row_of_cells (NumF (pos 1) ∷ TextF [] ∷ []) ≡ PairF (NumF (pos 1)) (TextF []))
unfolding row_type
row_types = (refl, refl, refl, refl, refl)

-- the rows with a text: in whichever column, as often as they stand there, and never a number
rows_by_text :
    (rows_with 0 (codes "ny") (TextF (codes "ny") ∷ TextF (codes "n") ∷ TextF (codes "ny") ∷ []) ≡ 0 ∷ 2 ∷ [])
    × (rows_with 1 (codes "ny") (PairF (NumF (pos 1)) (TextF (codes "ny")) ∷ PairF (NumF (pos 2)) (TextF (codes "nyc")) ∷ []) ≡ 0 ∷ [])
    × (rows_with 0 (codes "1") (NumF (pos 1) ∷ []) ≡ [])
    × (rows_with 0 [] (TextF [] ∷ []) ≡ 0 ∷ [])
rows_by_text = (refl, refl, refl, refl)

-- numbers of a cell are from -2^50 to 2^50
ends : (IsNumber (pos 1125899906842624)) × (IsNumber (negsuc 1125899906842623))
ends = ((omega (arith, ints), omega (arith, ints)), (omega (arith, ints), omega (arith, ints)))

past_the_ends : (IsNumber (pos 1125899906842625) → ⊥) × (IsNumber (negsuc 1125899906842624) → ⊥)
past_the_ends = ((λ is. omega (arith, ints, is.1)), (λ is. omega (arith, ints, is.0)))
