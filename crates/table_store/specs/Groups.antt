-- The rows of a table that have a text in a column.
use Rattle.std.specs.Prelude.{ℕ, ◌+◌, Bool, false, List, [], ◌∷◌, map, bytes_eq, if◌then◌else◌}
use Rattle.std.specs.Borrow.{Bor}
use Rattle.metric_values.specs.Cells.{cell_at}
use Rattle.metric_values.specs.Values.{Flat, TextF}

-- whether a cell is this text
abbrev pub has_text : List ℕ → Flat → Bool
has_text text (TextF cell) = bytes_eq cell text
has_text text cell = false

-- the numbers of the rows whose cell in a column is this text, where the rows are numbered from one on
abbrev pub rows_with_from : (row column : ℕ) (text : List ℕ) → List Flat → List ℕ
rows_with_from row column text [] = []
rows_with_from row column text (x ∷ rows) =
    if has_text text (cell_at column x) then row ∷ rows_with_from (row + 1) column text rows else rows_with_from (row + 1) column text rows

abbrev pub rows_with : (column : ℕ) (text : List ℕ) → List Flat → List ℕ
rows_with column text rows = rows_with_from 0 column text rows

-- texts that are borrowed
abbrev pub texts_of : List (Bor (List ℕ)) → List (List ℕ)
texts_of texts = map (λ text. text.now) texts
