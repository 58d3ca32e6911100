-- What each row adds to the rows behind it.
use Rattle.std.proofs.Common.{◌≡◌, ◌≢◌, ◌⊎◌, ◌+◌, ◌<◌, ◌≤◌, ◌∙◌, ℕ, Bool, true, false, List, [], ◌∷◌, ◌++◌, length, map, nat_eq, Some, Result, Ok, Err, Bor, append_assoc, append-nil, refl, inl, inr, sym, ap, arith}
use Rattle.std.specs.Prelude.{nat_lt}
use Rattle.std.proofs.lemmas.List.{length-map}
use Rattle.csv.specs.Reading.{expected_len}
use Rattle.csv.specs.declared.reader.Reader.{Reader}
use Rattle.fz_ast.specs.declared.row.Column.{Column}
use Rattle.metric_values.specs.Columns.{rows_of_columns}
use Rattle.metric_values.specs.Values.{Flat}
use Rattle.metric_values.specs.declared.column.Column.{Column as Cells}
use Rattle.table_store.specs.Growth.{AddsRow, HasRow, ReadsRow, kind_of}
use Rattle.table_store.specs.Reader.{HasRead, IsUnderHeader, IsUneven, TakesRecord, records_left}
use Rattle.table_store.specs.Table.{before_rest, cells_from, most_rows, row_of_cells, rows_from}
use Rattle.table_store.specs.declared.TableFault.{TableFault}
use Rattle.table_store.specs.declared.TableFault.TheVariants.{BadRecord, TooManyRows}

pub either : (P Q R : Type 0) → (Q → R) → P ⊎ Q → P ⊎ R
either P Q R f (inl p) = inl p
either P Q R f (inr q) = inr (f q)

pub at_end : (found : Bool) (a b : Reader (Bor (List ℕ))) (f : List (List ℕ)) → HasRead found a b f → found ≡ false → records_left a ≡ []
at_end true a b f read none = cc none
at_end false a b f read none = read

pub at_record : (found : Bool) (a b : Reader (Bor (List ℕ))) (f : List (List ℕ)) → HasRead found a b f → found ≡ true → TakesRecord a b f
at_record true a b f read some = read
at_record false a b f read some = cc some

rows_from-none : (kinds : List Column) (row : ℕ) (records : List (List (List ℕ))) → records ≡ [] → rows_from kinds row records ≡ Ok []
unfolding rows_from
rows_from-none kinds row records e = rw e refl

rows_from-uneven : (kinds : List Column) (row : ℕ) (a : Reader (Bor (List ℕ))) → IsUneven a → expected_len a ≡ Some (length kinds)
    → rows_from kinds row (records_left a) ≡ Err (BadRecord row)
unfolding rows_from
rows_from-uneven kinds row a u wide =
    let same : u.expected ≡ length kinds = let e : Some u.expected ≡ Some (length kinds) = sym u.expects ∙ wide in cc in
    let other : length u.fields ≢ length kinds = λ e. u.uneven (same ∙ sym e) in
    let test : nat_eq (length u.fields) (length kinds) ≡ false = grind arith in
    rw (u.next, test) refl

rows_from-bad_cell : (kinds : List Column) (row : ℕ) (fields : List (List ℕ)) (rest : List (List (List ℕ))) (fault : TableFault) → length fields ≡ length kinds
    → cells_from row 0 kinds fields ≡ Err fault → rows_from kinds row (fields ∷ rest) ≡ Err fault
unfolding rows_from
rows_from-bad_cell kinds row fields rest fault even e =
    let test : nat_eq (length fields) (length kinds) ≡ true = grind arith in
    rw (test, e) refl

rows_from-too_many : (kinds : List Column) (row : ℕ) (fields : List (List ℕ)) (rest : List (List (List ℕ))) (cells : List Flat) → length fields ≡ length kinds
    → cells_from row 0 kinds fields ≡ Ok cells → most_rows ≤ row → rows_from kinds row (fields ∷ rest) ≡ Err TooManyRows
unfolding rows_from
rows_from-too_many kinds row fields rest cells even e late =
    let test : nat_eq (length fields) (length kinds) ≡ true = grind arith in
    let room : nat_lt row most_rows ≡ false = grind arith in
    rw (test, e, room) refl

rows_from-row : (kinds : List Column) (row : ℕ) (fields : List (List ℕ)) (rest : List (List (List ℕ))) (cells : List Flat) → length fields ≡ length kinds
    → cells_from row 0 kinds fields ≡ Ok cells → row < most_rows
    → rows_from kinds row (fields ∷ rest) ≡ before_rest (Ok (row_of_cells cells)) (rows_from kinds (row + 1) rest)
unfolding rows_from
rows_from-row kinds row fields rest cells even e early =
    let test : nat_eq (length fields) (length kinds) ≡ true = grind arith in
    let room : nat_lt row most_rows ≡ true = grind arith in
    rw (test, e, room) refl

-- what comes of rows that were read and of those behind them
abbrev pub behind : List Flat → Result (List Flat) TableFault → Result (List Flat) TableFault
behind rows (Err fault) = Err fault
behind rows (Ok more) = Ok (rows ++ more)

pub behind-nil : (rest : Result (List Flat) TableFault) → behind [] rest ≡ rest
behind-nil (Err fault) = refl
behind-nil (Ok more) = refl

pub behind-more : (rows : List Flat) (row : Flat) (rest : Result (List Flat) TableFault)
    → behind rows (before_rest (Ok row) rest) ≡ behind (rows ++ row ∷ []) rest
behind-more rows row (Err fault) = refl
behind-more rows row (Ok more) = ap Ok (sym (append_assoc rows (row ∷ []) more))

-- one more row that was read
pub row_behind : (kinds : List Column) (row : ℕ) (from to : Reader (Bor (List ℕ))) (old new : List Cells) (all : Result (List Flat) TableFault)
    → map kind_of old ≡ kinds
    → ReadsRow row from to old new → all ≡ behind (rows_of_columns old) (rows_from kinds row (records_left from))
    → all ≡ behind (rows_of_columns new) (rows_from kinds (row + 1) (records_left to))
row_behind kinds row from to old new all same r e =
    let even : length r.fields ≡ length kinds = r.even ∙ sym (length-map old kind_of) ∙ ap length same in
    let written : cells_from row 0 kinds r.fields ≡ Ok r.adds.cells = ap (λ (ks : List Column). cells_from row 0 ks r.fields) (sym same) ∙ r.adds.written in
    let next = rows_from-row kinds row r.fields (records_left to) r.adds.cells even written r.room in
    e ∙ ap (λ (rs : List (List (List ℕ))). behind (rows_of_columns old) (rows_from kinds row rs)) r.left ∙ ap (behind (rows_of_columns old)) next
    ∙ behind-more (rows_of_columns old) (row_of_cells r.adds.cells) (rows_from kinds (row + 1) (records_left to))
    ∙ ap (λ (rows : List Flat). behind rows (rows_from kinds (row + 1) (records_left to))) (sym r.adds.rows)

pub row_read : (found : Bool) (row : ℕ) (from to : Reader (Bor (List ℕ))) (old new : List Cells) → HasRow found row from to old new → found ≡ true
    → ReadsRow row from to old new
row_read true row from to old new h e = h
row_read false row from to old new h e = cc e

pub no_row : (found : Bool) (row : ℕ) (from to : Reader (Bor (List ℕ))) (old new : List Cells) → HasRow found row from to old new → found ≡ false
    → (records_left from ≡ []) × (new ≡ old)
no_row true row from to old new h e = cc e
no_row false row from to old new h e = h

pub behind-end : (kinds : List Column) (row : ℕ) (records : List (List (List ℕ))) (rows : List Flat) → records ≡ []
    → behind rows (rows_from kinds row records) ≡ Ok rows
behind-end kinds row records rows e = ap (behind rows) (rows_from-none kinds row records e) ∙ ap Ok (append-nil rows)

-- what is at fault in the next record
module _ (row : ℕ) (a b : Reader (Bor (List ℕ))) (columns : List Cells) (stands : IsUnderHeader (length columns) a) where
  pub uneven_row : IsUneven a → rows_from (map kind_of columns) row (records_left a) ≡ Err (BadRecord row)
  uneven_row u = rows_from-uneven (map kind_of columns) row a u (stands.wide ∙ ap Some (sym (length-map columns kind_of)))

  module _ (fields : List (List ℕ)) (t : TakesRecord a b fields) where
    pub even_row : length fields ≡ length columns
    even_row = rw stands.wide at t.even

    pub bad_row : (fault : TableFault) → cells_from row 0 (map kind_of columns) fields ≡ Err fault
        → rows_from (map kind_of columns) row (records_left a) ≡ Err fault
    bad_row fault e =
        ap (rows_from (map kind_of columns) row) t.left
        ∙ rows_from-bad_cell (map kind_of columns) row fields (records_left b) fault (even_row ∙ sym (length-map columns kind_of)) e

    pub late_row : (new : List Cells) → AddsRow row fields columns new → most_rows ≤ row
        → rows_from (map kind_of columns) row (records_left a) ≡ Err TooManyRows
    late_row new adds late =
        ap (rows_from (map kind_of columns) row) t.left
        ∙ rows_from-too_many (map kind_of columns) row fields (records_left b) adds.cells (even_row ∙ sym (length-map columns kind_of)) adds.written late

    pub good_row : (new : List Cells) → AddsRow row fields columns new → row < most_rows → ReadsRow row a b columns new
    good_row new adds early = record {
      fields = fields;
      left = t.left;
      stands = record { stands = t.stands; wide = t.expects ∙ ap Some even_row };
      even = even_row;
      adds = adds;
      room = early;
    }
