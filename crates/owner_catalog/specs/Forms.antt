-- The forms of names, file names and keys.
use Rattle.std.specs.Prelude.{ℕ, List, [], ◌∷◌, length, Bool, not, ◌&&◌, ◌==◌, nat_lt, nat_le, bytes_eq}
use Rattle.std.specs.List.{list_any}
use Rattle.fz_lexer.specs.Bytes.{begins, every_byte, is_letter, is_name_byte}
use Rattle.fz_lexer.specs.Words.{spelling}
use Rattle.fz_lexer.specs.declared.token.Word.{Word}
use Rattle.fz_lexer.specs.declared.token.Word.TheVariants.{Fun, Fn, Let, In, Case, Of, Inl, Inr, If, Then, Else, Fst, Snd, True, False, Num, Text}
use Rattle.fz_lexer.specs.declared.token.Word.TheVariants.{Unit, Bool as BoolWord, Bag, Inf, Size, Sum, Clip, Least, Greatest, Map, Filter, Split}
use Rattle.fz_lexer.specs.declared.token.Word.TheVariants.{Union, Do, Release, At}
use Rattle.owner_catalog.specs.Limits.{name_limit, file_name_limit, key_limit}
use Rattle.owner_catalog.specs.declared.text.Form.{Form}
use Rattle.owner_catalog.specs.declared.text.Form.TheVariants.{Name, TableName, FileName, Key}

abbrev pub reserved_words : List Word
reserved_words =
    Fun ∷ Fn ∷ Let ∷ In ∷ Case ∷ Of ∷ Inl ∷ Inr ∷ If ∷ Then ∷ Else ∷ Fst ∷ Snd ∷ True ∷ False ∷ Num ∷ Text ∷ Unit ∷ BoolWord ∷ Bag ∷ Inf ∷
    Size ∷ Sum ∷ Clip ∷ Least ∷ Greatest ∷ Map ∷ Filter ∷ Split ∷ Union ∷ Do ∷ Release ∷ At ∷ []

unfoldable pub is_reserved : List ℕ → Bool
is_reserved text = list_any (λ word. bytes_eq text (spelling word)) reserved_words

-- a letter or `_`, then letters, digits and `_`, 32 bytes at most: the form of a name in a program
unfoldable pub is_catalog_name : List ℕ → Bool
is_catalog_name text = begins is_letter text && every_byte is_name_byte text && nat_le (length text) name_limit

-- a table's name stands in programs, so it is no reserved word
unfoldable pub is_table_name : List ℕ → Bool
is_table_name text = is_catalog_name text && not (is_reserved text)

-- from 0x20 on, as each byte of a character beyond ASCII is; 0x7F may stand in a file's name
unfoldable pub is_file_byte : ℕ → Bool
is_file_byte byte = nat_le 32 byte

unfoldable pub is_file_name : List ℕ → Bool
is_file_name text = every_byte is_file_byte text && nat_le 1 (length text) && nat_le (length text) file_name_limit

-- no space, no control byte and no 0x7F
unfoldable pub is_key_byte : ℕ → Bool
is_key_byte byte = nat_lt 32 byte && not (byte == 127)

unfoldable pub is_key : List ℕ → Bool
is_key text = every_byte is_key_byte text && nat_le 1 (length text) && nat_le (length text) key_limit

abbrev pub has_form : Form → List ℕ → Bool
has_form Name text = is_catalog_name text
has_form TableName text = is_table_name text
has_form FileName text = is_file_name text
has_form Key text = is_key text

-- the bytes that may stand in each
abbrev pub is_byte_of : Form → ℕ → Bool
is_byte_of Name byte = is_name_byte byte
is_byte_of TableName byte = is_name_byte byte
is_byte_of FileName byte = is_file_byte byte
is_byte_of Key byte = is_key_byte byte
