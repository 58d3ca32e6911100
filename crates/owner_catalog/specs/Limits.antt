-- How many owners a catalog may have, and tables an owner. Those of an owner's budget are its entry's, and a partition has no more keys
-- than a view has parts.
use Rattle.std.specs.Prelude.{ℕ}

abbrev pub owner_limit : ℕ
owner_limit = 64

abbrev pub table_limit : ℕ
table_limit = 8

-- the most bytes of a name, of a file's name, and of a key
abbrev pub name_limit : ℕ
name_limit = 32

abbrev pub file_name_limit : ℕ
file_name_limit = 255

abbrev pub key_limit : ℕ
key_limit = 64
