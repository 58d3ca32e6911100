-- The signature that an owner's tables stand for.
use Rattle.std.proofs.Common.{◌≡◌, ◌≤◌, ◌<◌, ◌+◌, ◌&&◌, ◌∙◌, ℕ, zero, suc, false, not, nat_le, List, [], ◌∷◌, ◌++◌, map, take, length, get_or, bytes_eq, sym, ap, arith}
use Rattle.std.specs.List.{IsDistinct}
use Rattle.std.proofs.lemmas.Bool.{leb-true}
use Rattle.std.proofs.lemmas.List.{get_or-map, map-append, take_more, length-map}
use Rattle.std.proofs.lemmas.List.Elements.{All-from_recursion}
use Rattle.std.proofs.lemmas.Map.Keys.{IsDistinct-head, IsDistinct-tail}
use Rattle.fz_ast.specs.Signature.{IsFresh}
use Rattle.owner_catalog.specs.Forms.{is_catalog_name, is_reserved, is_table_name}
use Rattle.fz_lexer.specs.Bytes.{begins, every_byte, is_letter, is_name_byte}
use Rattle.owner_catalog.specs.Entries.{TableEntry, table_name, table_type_of}
use Rattle.owner_catalog.specs.Lawful.{IsTableEntry}
use Rattle.owner_catalog.proofs.Laws.{both_true}

-- a table's name fits where programs hold names
pub name_fits : (table : TableEntry) → IsTableEntry table → length table.name ≤ 32
unfolding is_table_name is_catalog_name
name_fits table h =
    let plain = both_true (is_catalog_name table.name) (not (is_reserved table.name)) h.name in
    leb-true _ _ (both_true (begins is_letter table.name && every_byte is_name_byte table.name) (nat_le (length table.name) 32) plain.0).1

-- a table's name is none of those before it
pub fresh_at : (tables : List TableEntry) (i : ℕ) (x : TableEntry) → IsDistinct bytes_eq (map table_name tables) → i < length tables → x ≡ get_or tables i x
    → IsFresh x.name (map table_type_of (take i tables))
fresh_at [] i x distinct low is = absurd (omega arith)
fresh_at (t ∷ ts) zero x distinct low is = tt
fresh_at (t ∷ ts) (suc i) x distinct low is =
    let low_here : i < length ts = omega arith in
    let low_names : i < length (map table_name ts) = rw (length-map ts table_name) low_here in
    let apart = All-from_recursion (λ y. bytes_eq t.name y ≡ false) (map table_name ts) (IsDistinct-head bytes_eq t.name (map table_name ts) distinct)
    i x.name low_names in
    let there : get_or (map table_name ts) i x.name ≡ x.name = get_or-map table_name ts i x x.name low_here ∙ ap table_name (sym is) in
    (rw there at apart, fresh_at ts i x (IsDistinct-tail bytes_eq t.name (map table_name ts) distinct) low_here is)

-- one table more
pub signature_more : (tables : List TableEntry) (i : ℕ) (x : TableEntry) → i < length tables → x ≡ get_or tables i x
    → map table_type_of (take i tables) ++ table_type_of x ∷ [] ≡ map table_type_of (take (i + 1) tables)
signature_more tables i x low is =
    sym (ap (map table_type_of) (take_more tables i x low ∙ ap (λ y. take i tables ++ y ∷ []) (sym is)) ∙ map-append table_type_of (take i tables) (x ∷ []))
