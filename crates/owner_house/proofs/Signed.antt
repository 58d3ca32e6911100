-- the tables of a catalog's owner are a signature
use Rattle.std.proofs.Common.{◌≡◌, ℕ, ◌≤◌, Bool, true, false, List, [], ◌∷◌, map, length, bytes_eq, refl, sym, subst, leb-true}
use Rattle.std.specs.Prelude.{not, ◌&&◌, nat_le}
use Rattle.std.specs.List.{IsDistinct, AllByRecursion}
use Rattle.std.proofs.lemmas.Bool.{and_parts}
use Rattle.std.proofs.lemmas.List.Elements.{recursion_from_All}
use Rattle.fz_ast.specs.declared.row.Column.{Column}
use Rattle.fz_ast.specs.declared.row.Column.TheVariants.{Num, Text}
use Rattle.fz_lexer.specs.Bytes.{begins, every_byte, is_letter, is_name_byte}
use Rattle.fz_ast.specs.Limits.{TypeLimits}
use Rattle.fz_ast.specs.Rows.{column_type, row_type}
use Rattle.fz_ast.specs.Signature.{IsFresh, IsSignature}
use Rattle.fz_ast.proofs.RowTypes.{row_flat, row_formed}
use Rattle.metric_values.proofs.Elements.{text_is}
use Rattle.table_store.specs.Schema.{column_kind}
use Rattle.owner_catalog.specs.Entries.{TableEntry, OwnerEntry, table_name, table_type_of, owner_signature}
use Rattle.owner_catalog.specs.Forms.{is_catalog_name, is_reserved, is_table_name}
use Rattle.owner_catalog.specs.Lawful.{IsTableEntry, IsOwner}

column_limits : (c : Column) → TypeLimits (column_type c)
column_limits Num = tt
column_limits Text = tt

row_limits : (cs : List Column) → TypeLimits (row_type cs)
unfolding row_type
row_limits [] = tt
row_limits (c ∷ []) = column_limits c
row_limits (c ∷ (d ∷ ds)) = (column_limits c, row_limits (d ∷ ds))

other_way : (x y : List ℕ) → bytes_eq x y ≡ false → bytes_eq y x ≡ false
other_way x y differ = here (bytes_eq y x) refl
  where
    here : (b : Bool) → bytes_eq y x ≡ b → bytes_eq y x ≡ false
    here false is = is
    here true is =
        let same : y ≡ x = text_is y x is in
        let no : bytes_eq y y ≡ false = subst (λ (k : List ℕ). bytes_eq k y ≡ false) (sym same) differ in
        let yes : bytes_eq y y ≡ true = subst (λ (k : List ℕ). bytes_eq y k ≡ true) (sym same) is in
        absurd (cc (no, yes))

fresh : (name : List ℕ) (tables : List TableEntry) → AllByRecursion (λ other. bytes_eq name other ≡ false) (map table_name tables) → IsFresh name (map table_type_of tables)
fresh name [] h = tt
fresh name (table ∷ tables) h = (other_way name table.name h.0, fresh name tables h.1)

-- a table's name is a name, and short
pub table_named : (table : TableEntry) → IsTableEntry table → is_catalog_name table.name ≡ true
unfolding is_table_name
table_named table of = (and_parts (is_catalog_name table.name) (not (is_reserved table.name)) of.name).0

short : (name : List ℕ) → is_catalog_name name ≡ true → length name ≤ 32
unfolding is_catalog_name
short name named = leb-true (length name) 32 (and_parts (begins is_letter name && every_byte is_name_byte name) (nat_le (length name) 32) named).1

signed : (tables : List TableEntry) → AllByRecursion IsTableEntry tables → IsDistinct bytes_eq (map table_name tables) → IsSignature (map table_type_of tables)
unfolding IsDistinct
signed [] of distinct = tt
signed (table ∷ tables) of distinct = (
  short table.name (table_named table of.0),
  fresh table.name tables distinct.0,
  row_flat (map column_kind table.columns),
  row_formed (map column_kind table.columns),
  row_limits (map column_kind table.columns),
  signed tables of.1 distinct.1,
)

-- An owner's tables are a signature.
pub signature_signed : (owner : OwnerEntry) → IsOwner owner → IsSignature (owner_signature owner)
signature_signed owner of = signed owner.tables (recursion_from_All IsTableEntry owner.tables of.tables) of.distinct_tables
