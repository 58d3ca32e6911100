-- The forms of names, files' names and keys: each byte, the limits in bytes, and the words that programs reserve.
use Rattle.std.proofs.Common.{◌≡◌, ℕ, zero, suc, List, [], ◌∷◌, ◌++◌, ◌&&◌, ◌∙◌, not, nat_le, length, true, false, map, replicate, Result, Ok, codes, refl, ap, sym, inr, true≢false}
use Rattle.std.specs.List.{range_with_len}
use Rattle.std.proofs.lemmas.Bool.{leb-true}
use Rattle.serde_json.specs.Data.{Data}
use Rattle.fz_ast.specs.declared.row.Column.TheVariants.{Text}
use Rattle.fz_lexer.specs.Bytes.{begins, every_byte, is_letter, is_name_byte}
use Rattle.fz_lexer.specs.Words.{spelling}
use Rattle.fz_lexer.specs.Tokens.{IsNameToken}
use Rattle.fz_lexer.specs.declared.token.Kind.TheVariants.{Name}
use Rattle.fz_lexer.specs.declared.token.Word.{Word}
use Rattle.fz_lexer.specs.declared.token.Word.TheVariants.{Fun, Fn, Let, In, Case, Of, Inl, Inr, If, Then, Else, Fst, Snd, True, False, Num, Text as TextWord, Unit as UnitWord, Bool as BoolWord, Bag, Inf, Size, Sum, Clip, Least, Greatest, Map, Filter, Split, Union, Do, Release, At}
use Rattle.owner_catalog.specs.Forms.{is_catalog_name, is_file_byte, is_file_name, is_key, is_key_byte, is_reserved, is_table_name}
use Rattle.owner_catalog.specs.Fault.{◌>>=◌, bad, place}
use Rattle.owner_catalog.specs.Catalog.{catalog_in_file, json_in, owner_in, partition_in, table_in}
use Rattle.sha2.specs.Sha256.{sha256}
use Rattle.owner_catalog.specs.Digest.{digest_of}
use Rattle.owner_catalog.specs.Entries.{Catalog, OwnerEntry, TableEntry, partition_name}
use Rattle.owner_catalog.specs.declared.fault.CatalogFault.{CatalogFault}
use Rattle.owner_catalog.specs.declared.fault.FaultKind.TheVariants.{Form}
use Rattle.owner_catalog.specs.declared.fault.Member.TheVariants as at
use Rattle.owner_catalog.proofs.Laws.{both_true}
use Rattle.owner_catalog.proofs.OnLiterals.{on_literals}

-- ---- bytes

-- no control byte, no space and no 0x7F
key_bytes : map is_key_byte (range_with_len 0 256) ≡ replicate 33 false ++ replicate 94 true ++ false ∷ replicate 128 true
unfolding is_key_byte
key_bytes = refl

-- no control byte
file_bytes : map is_file_byte (range_with_len 0 256) ≡ replicate 32 false ++ replicate 224 true
unfolding is_file_byte
file_bytes = refl

-- ---- limits, which count bytes and not characters: 0xC3 0xA9 is one character

abbrev two_bytes : ℕ → List ℕ
two_bytes zero = []
two_bytes (suc n) = 195 ∷ 169 ∷ two_bytes n

keys_of_characters : map is_key (two_bytes 32 ∷ two_bytes 33 ∷ (97 ∷ two_bytes 32) ∷ replicate 64 97 ∷ replicate 65 97 ∷ []) ≡ true ∷ false ∷ false ∷ true ∷ false ∷ []
unfolding on_literals
keys_of_characters = refl

files_of_characters : map is_file_name (two_bytes 127 ∷ two_bytes 128 ∷ (97 ∷ two_bytes 127) ∷ replicate 255 97 ∷ replicate 256 97 ∷ []) ≡ true ∷ false ∷ true ∷ true ∷ false ∷ []
unfolding on_literals
files_of_characters = refl

-- read from a catalog's text
abbrev read_as : {A : Type 0} → (Data → Result A CatalogFault) → List ℕ → Result A CatalogFault
read_as part bytes = json_in bytes >>= part

abbrev tables : List TableEntry
tables = record { name = codes "t"; file = codes "f"; columns = record { name = codes "c"; kind = Text } ∷ [] } ∷ []

abbrev partition_of : (name key : List ℕ) → List ℕ
partition_of name key = codes "{\"name\":\"" ++ name ++ codes "\",\"table\":\"t\",\"column\":\"c\",\"keys\":[\"" ++ key ++ codes "\"]}"

abbrev table_of : (name file : List ℕ) → List ℕ
table_of name file = codes "{\"name\":\"" ++ name ++ codes "\",\"file\":\"" ++ file ++ codes "\",\"columns\":[{\"name\":\"c\",\"type\":\"text\"}]}"

key_of_33_characters : read_as (partition_in 3 tables 1) (partition_of (codes "p") (two_bytes 33)) ≡ bad Form (place at.Key 3 1 0)
unfolding on_literals
key_of_33_characters = refl

key_with_a_control_byte : read_as (partition_in 3 tables 1) (partition_of (codes "p") (codes "a\\u001f")) ≡ bad Form (place at.Key 3 1 0)
unfolding on_literals
key_with_a_control_byte = refl

file_of_128_characters : read_as (table_in 3 1) (table_of (codes "t") (two_bytes 128)) ≡ bad Form (place at.File 3 1 0)
unfolding on_literals
file_of_128_characters = refl

-- ---- words that programs reserve

abbrev all_reserved : List (List ℕ)
all_reserved =
    codes "fun" ∷ codes "fn" ∷ codes "let" ∷ codes "in" ∷ codes "case" ∷ codes "of" ∷ codes "inl" ∷ codes "inr" ∷ codes "if" ∷ codes "then" ∷ codes "else" ∷
    codes "fst" ∷ codes "snd" ∷ codes "true" ∷ codes "false" ∷ codes "num" ∷ codes "text" ∷ codes "unit" ∷ codes "bool" ∷ codes "bag" ∷ codes "inf" ∷
    codes "size" ∷ codes "sum" ∷ codes "clip" ∷ codes "least" ∷ codes "greatest" ∷ codes "map" ∷ codes "filter" ∷ codes "split" ∷ codes "union" ∷
    codes "do" ∷ codes "release" ∷ codes "at" ∷ []

no_tables_names : map is_table_name all_reserved ≡ replicate 33 false
unfolding on_literals
no_tables_names = refl

-- each may be another's name
others_names : map is_catalog_name all_reserved ≡ replicate 33 true
unfolding on_literals
others_names = refl

partition_named_fun : (read_as (partition_in 3 tables 1) (partition_of (codes "fun") (codes "fun")) >>= λ p. Ok (partition_name p)) ≡ Ok (codes "fun")
unfolding on_literals
partition_named_fun = refl

owner_named_fun : (read_as (owner_in [] 3) (codes "{\"name\":\"fun\",\"budget\":1,\"capacity\":2,\"tables\":[" ++ table_of (codes "t") (codes "f") ++ codes "],\"partitions\":[]}")
    >>= λ (owner : OwnerEntry). Ok owner.name) ≡ Ok (codes "fun")
unfolding on_literals
owner_named_fun = refl

analyst_named_fun : (catalog_in_file (codes "{\"analysts\":[\"fun\"],\"owners\":[{\"name\":\"o\",\"budget\":1,\"capacity\":2,\"tables\":["
    ++ table_of (codes "t") (codes "f") ++ codes "],\"partitions\":[]}]}") >>= λ (catalog : Catalog). Ok catalog.analysts) ≡ Ok (codes "fun" ∷ [])
unfolding on_literals
analyst_named_fun = refl

-- each word of the language is reserved
each_word_is_reserved : (word : Word) → is_reserved (spelling word) ≡ true
unfolding is_reserved spelling
each_word_is_reserved Fun = refl
each_word_is_reserved Fn = refl
each_word_is_reserved Let = refl
each_word_is_reserved In = refl
each_word_is_reserved Case = refl
each_word_is_reserved Of = refl
each_word_is_reserved Inl = refl
each_word_is_reserved Inr = refl
each_word_is_reserved If = refl
each_word_is_reserved Then = refl
each_word_is_reserved Else = refl
each_word_is_reserved Fst = refl
each_word_is_reserved Snd = refl
each_word_is_reserved True = refl
each_word_is_reserved False = refl
each_word_is_reserved Num = refl
each_word_is_reserved TextWord = refl
each_word_is_reserved UnitWord = refl
each_word_is_reserved BoolWord = refl
each_word_is_reserved Bag = refl
each_word_is_reserved Inf = refl
each_word_is_reserved Size = refl
each_word_is_reserved Sum = refl
each_word_is_reserved Clip = refl
each_word_is_reserved Least = refl
each_word_is_reserved Greatest = refl
each_word_is_reserved Map = refl
each_word_is_reserved Filter = refl
each_word_is_reserved Split = refl
each_word_is_reserved Union = refl
each_word_is_reserved Do = refl
each_word_is_reserved Release = refl
each_word_is_reserved At = refl

-- so a table's name is one name token, which programs may write
reserved_by : (text : List ℕ) (word : Word) → text ≡ spelling word → is_reserved text ≡ true
reserved_by text word is = ap is_reserved is ∙ each_word_is_reserved word

not_reserved : (text : List ℕ) → not (is_reserved text) ≡ true → is_reserved text ≡ true → ⊥
not_reserved text free reserved = true≢false (sym free ∙ ap not reserved)

a_table_s_name_is_a_token : (text : List ℕ) → is_table_name text ≡ true → IsNameToken text [] (Name text)
unfolding is_table_name is_catalog_name
a_table_s_name_is_a_token text h =
    let whole = both_true (is_catalog_name text) (not (is_reserved text)) h in
    let short = both_true (begins is_letter text && every_byte is_name_byte text) (nat_le (length text) 32) whole.0 in
    let bytes = both_true (begins is_letter text) (every_byte is_name_byte text) short.0 in
    record {
      first = bytes.0;
      every = bytes.1;
      ends = refl;
      short = leb-true _ _ short.1;
      is = inr (λ word is. not_reserved text whole.1 (reserved_by text word is), refl);
    }

-- ---- what a digest is taken of

abbrev an_owner : OwnerEntry
an_owner = record { name = codes "o"; budget = 1; capacity = 2; tables = tables ++ tables; partitions = []; limits = []; text = codes "{o}" }

abbrev two_owners : Catalog
two_owners = record { analysts = codes "ann" ∷ []; owners = record an_owner { text = codes "{n}" } ∷ an_owner ∷ []; text = codes "[a]" }

-- key, analysts, owner and tables, in this order
digest_in_order : digest_of two_owners 1 (replicate 32 7) (replicate 32 9 ∷ replicate 32 8 ∷ [])
    ≡ sha256 (replicate 32 7 ++ codes "[a]" ++ 10 ∷ [] ++ codes "{o}" ++ 10 ∷ [] ++ replicate 32 9 ++ replicate 32 8)
digest_in_order = refl
