-- The limits of tables.
use Rattle.std.specs.Prelude.{◌^◌, ℕ}

-- what the number of rows stays below
abbrev pub rows_below : ℕ
rows_below = 2 ^ 32

-- what the number of columns stays below
abbrev pub columns_below : ℕ
columns_below = 2 ^ 16
