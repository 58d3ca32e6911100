-- What a cell of a table writes.
use Rattle.std.specs.Prelude.{ℕ, ◌+◌, ◌-◌, ◌*◌, ◌^◌, List, [], ◌∷◌, length, Option, Some, None, ℤ, pos, neg_ℤ}
use Rattle.std.specs.Prelude.{◌&&◌, ◌==◌, nat_lt, nat_le, if◌then◌else◌, option_map}
use Rattle.std.specs.Str.{all_ascii_digits}
use Rattle.fz_ast.specs.Limits.{greatest_number}
use Rattle.fz_ast.specs.declared.row.Column.{Column}
use Rattle.fz_ast.specs.declared.row.Column.TheVariants.{Num, Text}
use Rattle.metric_values.specs.Values.{Flat, NumF, TextF}

-- how many bytes a text may have
abbrev pub longest_text : ℕ
longest_text = 64

-- the number that decimal digits write: each counts ten to the power of how many stand behind it
abbrev pub decimal_value : List ℕ → ℕ
decimal_value [] = 0
decimal_value (digit ∷ rest) = (digit - 48) * 10 ^ length rest + decimal_value rest

-- the number of one digit or more, and of nothing else, where it isn't too great
abbrev pub magnitude_of : List ℕ → Option ℕ
magnitude_of digits =
    if all_ascii_digits digits && nat_lt 0 (length digits) && nat_le (decimal_value digits) greatest_number
    then Some (decimal_value digits) else None

-- the number of a cell: its digits, perhaps behind a minus
unfoldable pub cell_number : List ℕ → Option ℤ
cell_number [] = None
cell_number (byte ∷ rest) =
    if byte == 45 then option_map (λ n. neg_ℤ (pos n)) (magnitude_of rest)
    else option_map pos (magnitude_of (byte ∷ rest))

-- what a cell of a column of this kind holds: a number, or the bytes themselves where they aren't too many
abbrev pub cell_value : Column → List ℕ → Option Flat
cell_value Num cell = option_map NumF (cell_number cell)
cell_value Text cell = if nat_le (length cell) longest_text then Some (TextF cell) else None
