-- entries that fit are of the same tables
use Rattle.std.proofs.Common.{◌≡◌, ◌∙◌, ℕ, Bool, true, false, cond, List, [], ◌∷◌, map, Option, refl, sym, ap, bytes_eq}
use Rattle.std.specs.Prelude.{Result, Ok, Err}
use Rattle.std.specs.Cmp.Lexicographic.{pointwise, same_text}
use Rattle.std.proofs.lemmas.Bool.{and_parts}
use Rattle.fz_ast.specs.Rows.{row_type}
use Rattle.fz_ast.specs.Signature.{Signature, TableType}
use Rattle.fz_ast.specs.declared.row.Column.{Column}
use Rattle.fz_ast.specs.declared.row.Column.TheVariants.{Num, Text}
use Rattle.table_store.specs.Schema.{NamedColumn, column_kind, row_of_schema}
use Rattle.owner_catalog.specs.Catalog.{Catalog, IsCatalog, OwnerEntry, TableEntry, owner_signature}
use Rattle.owner_catalog.specs.Entries.{table_type_of}
use Rattle.catalog_loading.specs.Files.{Contents}
use Rattle.catalog_loading.specs.Loaded.{catalog_read, entry_named}
use Rattle.catalog_loading.specs.Fit.{fitting, if_fitting, same_column, same_kind, same_table}
use Rattle.catalog_loading.proofs.Reached.{IsDone, any_reads}
use Rattle.catalog_loading.proofs.Loaded.{catalog_lawful}

same_bytes : (xs ys : List ℕ) → bytes_eq xs ys ≡ true → xs ≡ ys
same_bytes xs ys is = same_text xs ys (sym is)

kinds_same : (one other : Column) → same_kind one other ≡ true → one ≡ other
kinds_same Num Num is = refl
kinds_same Num Text is = cc
kinds_same Text Num is = cc
kinds_same Text Text is = refl

columns_same : (xs ys : List NamedColumn) → pointwise same_column xs ys ≡ true → map column_kind xs ≡ map column_kind ys
columns_same [] [] is = refl
columns_same [] (y ∷ ys) is = cc
columns_same (x ∷ xs) [] is = cc
columns_same (x ∷ xs) (y ∷ ys) is =
    let both = and_parts (same_column x y) (pointwise same_column xs ys) is in
    let one = and_parts (bytes_eq x.name y.name) (same_kind x.kind y.kind) both.0 in
    ap (λ (kind : Column). kind ∷ map column_kind xs) (kinds_same x.kind y.kind one.1) ∙ ap (λ (kinds : List Column). y.kind ∷ kinds) (columns_same xs ys both.1)

table_same : (x y : TableEntry) → same_table x y ≡ true → table_type_of x ≡ table_type_of y
table_same x y is =
    let both = and_parts (bytes_eq x.name y.name) (pointwise same_column x.columns y.columns) is in
    ap (λ (name : List ℕ). record { name = name; row = row_of_schema x.columns }) (same_bytes x.name y.name both.0)
    ∙ ap (λ (kinds : List Column). record { name = y.name; row = row_type kinds }) (columns_same x.columns y.columns both.1)

tables_same : (xs ys : List TableEntry) → pointwise same_table xs ys ≡ true → map table_type_of xs ≡ map table_type_of ys
tables_same [] [] is = refl
tables_same [] (y ∷ ys) is = cc
tables_same (x ∷ xs) [] is = cc
tables_same (x ∷ xs) (y ∷ ys) is =
    let both = and_parts (same_table x y) (pointwise same_table xs ys) is in
    ap (λ (table : TableType). table ∷ map table_type_of xs) (table_same x y both.0) ∙ ap (λ (tables : Signature). table_type_of y ∷ tables) (tables_same xs ys both.1)

if_same : (entry : OwnerEntry) (name : List ℕ) (found : Result OwnerEntry (List ℕ)) (other : OwnerEntry) → if_fitting entry name found ≡ Ok other → owner_signature other ≡ owner_signature entry
if_same entry name (Err refused) other is = cc
if_same entry name (Ok found) other is = here (pointwise same_table entry.tables found.tables) refl is
  where
    here : (b : Bool) → pointwise same_table entry.tables found.tables ≡ b → cond b (Ok found) (Err name) ≡ Ok other → owner_signature other ≡ owner_signature entry
    here true same is = let it : found ≡ other = cc in sym (tables_same entry.tables found.tables same ∙ ap owner_signature it)
    here false same is = cc

pub same_signature : (entry : OwnerEntry) (catalog : Catalog) (name : List ℕ) (other : OwnerEntry) → fitting entry catalog name ≡ Ok other → owner_signature other ≡ owner_signature entry
same_signature entry catalog name other is = if_same entry name (entry_named catalog name) other is

-- A catalog that was opened keeps the rules.
pub opened_lawful : (held : Option Contents) (old new : List (List ℕ)) (name : List ℕ) (catalog : Catalog) → IsDone held old new (catalog_read name) catalog → IsCatalog catalog
opened_lawful held old new name catalog is =
    let some = any_reads held in
    let one = is some.0 some.1 in
    catalog_lawful name one.0 catalog one.2.given
