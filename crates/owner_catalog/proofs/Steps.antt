-- A fault of a part is the fault of the whole.
use Rattle.std.proofs.Common.{◌≡◌, ◌⊎◌, ◌<◌, ◌∙◌, ℕ, List, [], inl, inr, Bool, true, false, Some, None, Result, Ok, Err, refl, get_or, map, length, ap, sym}
use Rattle.std.proofs.lemmas.List.{get_or-map}
use Rattle.owner_catalog.specs.Entries.{TableEntry, table_columns}
use Rattle.std.specs.Str.{IsUtf8, is_utf8}
use Rattle.std.proofs.lemmas.Str.{IsUtf8-from_is_utf8, is_utf8-from_IsUtf8}
use Rattle.serde_json.specs.Data.{Data}
use Rattle.serde_json.specs.Read.{read}
use Rattle.owner_catalog.specs.Catalog.{json_in}
use Rattle.owner_catalog.specs.Fault.{place}
use Rattle.owner_catalog.specs.declared.fault.FaultKind.TheVariants.{Syntax}
use Rattle.owner_catalog.specs.declared.fault.Member.TheVariants.{Catalog}
use Rattle.owner_catalog.specs.declared.fault.CatalogFault.{CatalogFault}
use Rattle.owner_catalog.specs.declared.fault.CatalogFault.TheVariants.{Bad, NoMemory}

pub or_fault : {A B : Type 0} {part : Result A CatalogFault} (whole : Result B CatalogFault) {fault : CatalogFault}
    → (fault ≡ NoMemory) ⊎ (part ≡ Err fault) → (part ≡ Err fault → whole ≡ Err fault) → (fault ≡ NoMemory) ⊎ (whole ≡ Err fault)
or_fault whole (inl none) step = inl none
or_fault whole (inr is) step = inr (step is)

-- the columns of a table of some number
pub columns_at : (tables : List TableEntry) (t : ℕ) (table : TableEntry) → t < length tables → table ≡ get_or tables t table
    → get_or (map table_columns tables) t [] ≡ table.columns
columns_at tables t table low is = get_or-map table_columns tables t table [] low ∙ ap table_columns (sym is)

pub json_ok : (bytes : List ℕ) (d : Data) → IsUtf8 bytes × (read bytes ≡ Some d) → json_in bytes ≡ Ok d
unfolding json_in
json_ok bytes d h = rw (is_utf8-from_IsUtf8 bytes h.0) (rw h.1 refl)

pub json_bad : (bytes : List ℕ) → (IsUtf8 bytes → read bytes ≡ None) → json_in bytes ≡ Err (Bad Syntax (place Catalog 0 0 0))
unfolding json_in
json_bad bytes none = by (is_utf8 bytes) refl
  where
    by : (b : Bool) → is_utf8 bytes ≡ b → json_in bytes ≡ Err (Bad Syntax (place Catalog 0 0 0))
    by true e = rw e (rw (none (IsUtf8-from_is_utf8 bytes e)) refl)
    by false e = rw e refl
