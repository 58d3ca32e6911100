-- What a reader of csv over a slice has left to read.
use Rattle.std.specs.Prelude.{◌≡◌, ◌≢◌, ℕ, ◌+◌, Bool, true, false, List, [], ◌∷◌, length, Option, Some, IsSome, IfSome}
use Rattle.std.specs.Option.{option_map_or}
use Rattle.std.specs.Borrow.{Bor}
use Rattle.csv.specs.Machine.{ends_at_end}
use Rattle.csv.specs.Reading.{Ready, default_config, expected_len, is_flexible, reader_config, reader_state, reader_trim, records_from, source_of}
use Rattle.csv.specs.declared.reader.Reader.{Reader}
use Rattle.csv.specs.declared.reader.Trim.TheVariants as trim

-- the bytes that a slice has left
abbrev pub bytes_left : Bor (List ℕ) → Option (List ℕ)
bytes_left slice = Some slice.now

-- the records that a reader has left
abbrev pub records_left : Reader (Bor (List ℕ)) → List (List (List ℕ))
records_left reader = option_map_or (λ text. records_from default_config (length text + 1) (reader_state reader) text) (source_of bytes_left reader) []

-- a reader at csv's defaults but for the header, which stands between two records
pub record IsBetweenRecords (reader : Reader (Bor (List ℕ))) : Type 0 where
  pub plain : reader_trim reader ≡ trim.None
  pub ready : Ready reader
  pub defaults : reader_config reader ≡ default_config
  pub strict : is_flexible reader ≡ false
  pub known : IsSome (source_of bytes_left reader)
  pub between : ends_at_end (reader_state reader) ≡ false

-- the same, where a record of this many fields was read
pub record IsUnderHeader (width : ℕ) (reader : Reader (Bor (List ℕ))) : Type 0 where
  pub stands : IsBetweenRecords reader
  pub wide : expected_len reader ≡ Some width

-- A reader took a record, the first of those that were left: it has as many fields as the reader expects.
pub record TakesRecord (old new : Reader (Bor (List ℕ))) (fields : List (List ℕ)) : Type 0 where
  pub left : records_left old ≡ fields ∷ records_left new
  pub stands : IsBetweenRecords new
  pub even : IfSome (expected_len old) (λ width. length fields ≡ width)
  pub expects : expected_len new ≡ Some (length fields)

-- what a read of the next record found: a record, or the end
abbrev pub HasRead : (found : Bool) → (old new : Reader (Bor (List ℕ))) → List (List ℕ) → Type 0
HasRead true old new fields = TakesRecord old new fields
HasRead false old new fields = records_left old ≡ []

-- the next record has another number of fields than a reader expects
pub record IsUneven (reader : Reader (Bor (List ℕ))) : Type 0 where
  pub fields : List (List ℕ)
  pub rest : List (List (List ℕ))
  pub next : records_left reader ≡ fields ∷ rest
  pub expected : ℕ
  pub expects : expected_len reader ≡ Some expected
  pub uneven : expected ≢ length fields
