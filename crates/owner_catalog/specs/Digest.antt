-- What an owner's digest is taken of.
use Rattle.std.specs.Prelude.{ℕ, List, [], ◌∷◌, ◌++◌}
use Rattle.std.specs.List.{concat}
use Rattle.sha2.specs.Sha256.{sha256}
use Rattle.owner_catalog.specs.Entries.{Catalog, owner_entry_at}

abbrev pub line_end : List ℕ
line_end = 10 ∷ []

-- what stands before the digests of the tables
abbrev pub digest_head : Catalog → (owner : ℕ) → (key : List ℕ) → List ℕ
digest_head catalog o key = key ++ catalog.text ++ line_end ++ (owner_entry_at catalog o).text ++ line_end

-- the digest of an owner: of the key, the analysts' text, the owner's text, each with an LF, and the digests of the table files
abbrev pub digest_of : Catalog → (owner : ℕ) → (key : List ℕ) → (tables : List (List ℕ)) → List ℕ
digest_of catalog o key tables = sha256 (digest_head catalog o key ++ concat tables)
