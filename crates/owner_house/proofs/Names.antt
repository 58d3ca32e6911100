-- names of a catalog can be said in a reply, and the place of one
use Rattle.std.proofs.Common.{◌≡◌, ℕ, Bool, true, false, List, [], ◌∷◌, Option, Some, None, length, map, ◌<◌, ◌==◌, bytes_eq, get_or, refl, sym, subst, eqb-true}
use Rattle.std.specs.Prelude.{IfSome, IsTrue, not, ◌&&◌, nat_le}
use Rattle.std.specs.List.{position, list_all, All}
use Rattle.std.proofs.lemmas.List.Elements.{All-head, All-tail}
use Rattle.std.proofs.lemmas.Bool.{and_parts, and_from}
use Rattle.std.proofs.lemmas.List.Quantifiers.{position-Some}
use Rattle.fz_lexer.specs.Bytes.{begins, every_byte, is_letter, is_digit, is_name_byte}
use Rattle.wire_lines.specs.Lines.{lf, space}
use Rattle.wire_lines.specs.Name.{is_name}
use Rattle.owner_catalog.specs.Forms.{is_catalog_name}
use Rattle.owner_catalog.specs.Entries.{TableEntry, table_type_of}
use Rattle.owner_catalog.specs.Lawful.{IsCatalogName, IsTableEntry}
use Rattle.owner_house.specs.Names.{AreNames}
use Rattle.owner_house.proofs.Signed.{table_named}
use Rattle.metric_values.proofs.Elements.{text_is}

-- a byte of a name parts no words and no lines
abbrev parts_nothing : ℕ → Bool
parts_nothing b = not (b == space) && not (b == lf)

byte_said : (b : ℕ) → is_name_byte b ≡ true → parts_nothing b ≡ true
unfolding is_name_byte is_letter is_digit
byte_said b named = here (b == space) refl (b == lf) refl
  where
    of_space : is_name_byte space ≡ true → ⊥
    of_space h = cc (h)

    of_lf : is_name_byte lf ≡ true → ⊥
    of_lf h = cc (h)

    here : (s : Bool) → (b == space) ≡ s → (l : Bool) → (b == lf) ≡ l → (not s && not l) ≡ true
    here true is l other = absurd (of_space (subst (λ (k : ℕ). is_name_byte k ≡ true) (eqb-true b space is) named))
    here false other true is = absurd (of_lf (subst (λ (k : ℕ). is_name_byte k ≡ true) (eqb-true b lf is) named))
    here false other false another = refl

bytes_said : (text : List ℕ) → every_byte is_name_byte text ≡ true → list_all parts_nothing text ≡ true
bytes_said [] named = refl
bytes_said (b ∷ text) named =
    let parts = and_parts (is_name_byte b) (every_byte is_name_byte text) named in
    and_from (parts_nothing b) (list_all parts_nothing text) (byte_said b parts.0) (bytes_said text parts.1)

-- A catalog's name can be said in a reply.
pub sayable : (text : List ℕ) → is_catalog_name text ≡ true → IsTrue (is_name text)
unfolding is_catalog_name
sayable text named =
    let begun : Bool = begins is_letter text in
    let every : Bool = every_byte is_name_byte text in
    let few : Bool = nat_le (length text) 32 in
    let parts = and_parts (begun && every) few named in
    let rest = and_parts begun every parts.0 in
    and_from few (list_all parts_nothing text) parts.1 (bytes_said text rest.1)

-- The names of a catalog's tables can be said in a reply.
pub tables_said : (tables : List TableEntry) → All IsTableEntry tables → AreNames (map table_type_of tables)
tables_said [] all = tt
tables_said (t ∷ tables) all = (sayable t.name (table_named t (All-head IsTableEntry t tables all)), tables_said tables (All-tail IsTableEntry t tables all))

pub found_within : (names : List (List ℕ)) (name : List ℕ) (place : ℕ) → position (λ other. bytes_eq name other) names ≡ Some place → place < length names
found_within names name place at = (position-Some (λ other. bytes_eq name other) names place [] at).0

-- a name that is found is one of them
pub found_passes : (names : List (List ℕ)) (name : List ℕ) (place : ℕ) → All IsCatalogName names → position (λ other. bytes_eq name other) names ≡ Some place → IsTrue (is_name name)
found_passes names name place all at =
    let found = position-Some (λ other. bytes_eq name other) names place [] at in
    let same : name ≡ get_or names place [] = text_is name (get_or names place []) found.1 in
    subst (λ (bytes : List ℕ). IsTrue (is_name bytes)) (sym same) (sayable (get_or names place []) (all place [] found.0))

pub found_said : (names : List (List ℕ)) (name : List ℕ) (found : Option ℕ) → All IsCatalogName names → found ≡ position (λ other. bytes_eq name other) names → IfSome found (λ place. IsTrue (is_name name))
found_said names name None all is = tt
found_said names name (Some place) all is = found_passes names name place all (sym is)
