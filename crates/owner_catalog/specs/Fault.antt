-- How the parts of a catalog are read from JSON, and which of several faults counts.
use Rattle.std.specs.Prelude.{ℕ, List, [], ◌∷◌, ◌++◌, length, Bool, not, ◌&&◌, nat_le, bytes_eq, if◌then◌else◌, Option, Some, None, option_and_then}
use Rattle.std.specs.Prelude.{option_map, ◌||◌, is_some, unwrap_or, Result, Ok, Err, ⊤}
use Rattle.std.specs.List.{find, list_any}
use Rattle.serde_json.specs.Data.{Data, null, Items, no_items, item, Members, no_members, member}
use Rattle.serde_json.specs.Find.{get, as_array, as_number, as_object, as_str, as_u64}
use Rattle.owner_catalog.specs.Members.{may_lack, member_name}
use Rattle.owner_catalog.specs.declared.fault.CatalogFault.{CatalogFault}
use Rattle.owner_catalog.specs.declared.fault.CatalogFault.TheVariants.{Bad}
use Rattle.owner_catalog.specs.declared.fault.FaultKind.{FaultKind}
use Rattle.owner_catalog.specs.declared.fault.FaultKind.TheVariants.{Kind, Missing, Unknown, Count, Range, Form, Double}
use Rattle.owner_catalog.specs.declared.fault.Member.{Member}
use Rattle.owner_catalog.specs.declared.fault.Place.{Place}

-- The place of a member or an item: the number of the owner, that of the owner's table or partition (or of an analyst), and
-- that of the table's column or the partition's key, each from 0 and 0 where there is none.
abbrev pub place : Member → (owner item sub_item : ℕ) → Place
place whose o i s = record { member = whose; owner = o; item = i; sub_item = s }

-- the same place, at another member
abbrev pub here : Place → Member → Place
here at m = place m at.owner at.item at.sub_item

abbrev pub bad : {A : Type 0} → FaultKind → Place → Result A CatalogFault
bad what at = Err (Bad what at)

-- what is there, or a fault where nothing is
abbrev pub or_bad : {A : Type 0} → FaultKind → Place → Option A → Result A CatalogFault
or_bad what at None = bad what at
or_bad what at (Some x) = Ok x

-- what comes next, unless there was a fault: the first one counts
infixl 10 ◌>>=◌
abbrev pub ◌>>=◌ : {A B : Type 0} → Result A CatalogFault → (A → Result B CatalogFault) → Result B CatalogFault
(Err fault) >>= next = Err fault
(Ok x) >>= next = next x

-- a text of some form
unfoldable pub formed_text_in : (List ℕ → Bool) → Place → Data → Result (List ℕ) CatalogFault
formed_text_in has_form at d = do
  text ← or_bad Kind at (as_str d)
  if has_form text then Ok text else bad Form at

-- a whole number within limits
unfoldable pub bounded_number_in : (least most : ℕ) → Place → Data → Result ℕ CatalogFault
bounded_number_in least most at d = do
  number ← or_bad Kind at (option_and_then as_u64 (as_number d))
  if nat_le least number && nat_le number most then Ok number else bad Range at

-- the value of a member that an object has
abbrev pub the : Member → Data → Data
the m d = unwrap_or (get (member_name m) d) null

-- an object has a member, or may lack it
abbrev pub has_or_may_lack : Data → Member → Bool
has_or_may_lack d m = may_lack m || is_some (get (member_name m) d)

-- the first of some members that an object lacks, and may not lack
abbrev pub first_missing : List Member → Data → Option Member
first_missing expected d = find (λ m. not (has_or_may_lack d m)) expected

-- the names of an object's members, in the order of their bytes
abbrev pub names_of : Members → List (List ℕ)
names_of no_members = []
names_of (member name d ms) = name ∷ names_of ms

abbrev pub is_known : List Member → List ℕ → Bool
is_known expected name = list_any (λ m. bytes_eq name (member_name m)) expected

-- the first member beyond some that an object has
abbrev pub first_unknown : List Member → Members → Option (List ℕ)
first_unknown expected ms = find (λ name. not (is_known expected name)) (names_of ms)

-- no member is missing, or the fault at the first that is
abbrev pub none_missing : (Member → Place) → Option Member → Result ⊤ CatalogFault
none_missing at None = Ok tt
none_missing at (Some m) = bad Missing (at m)

-- there is no member beyond, or the fault of the first, which names it
abbrev pub none_unknown : Place → Option (List ℕ) → Result ⊤ CatalogFault
none_unknown at None = Ok tt
none_unknown at (Some name) = bad (Unknown name) at

-- An object with just these members: it is an object, then lacks none of them that it may not lack in the order of the table, then
-- has none beyond them in the order of their names' bytes.
unfoldable pub object_in : List Member → (whole : Member) → (Member → Place) → Data → Result ⊤ CatalogFault
object_in expected whole at d = do
  members ← or_bad Kind (at whole) (as_object d)
  none ← none_missing at (first_missing expected d)
  none_unknown (at whole) (first_unknown expected members)

abbrev pub data_of : Items → List Data
data_of no_items = []
data_of (item d ds) = d ∷ data_of ds

-- the items of a list, of which there are so many
unfoldable pub counted_in : (least most : ℕ) → Place → Data → Result (List Data) CatalogFault
counted_in least most whole d = do
  items ← or_bad Kind whole (option_map data_of (as_array d))
  if nat_le least (length items) && nat_le (length items) most then Ok items else bad Count whole

-- The items that follow those that were read. Each is read by its number, which is how many stand before it, and then is to
-- have another name than all before it.
unfoldable pub items_from : {A : Type 0} → (A → List ℕ) → (ℕ → Place) → (ℕ → Data → Result A CatalogFault) → List A → List Data → Result (List A) CatalogFault
items_from name at read before [] = Ok before
items_from name at read before (d ∷ ds) = do
  x ← read (length before) d
  if list_any (λ y. bytes_eq (name x) (name y)) before then bad Double (at (length before)) else items_from name at read (before ++ x ∷ []) ds

-- a list of so many items: its count first, then its items in order
unfoldable pub list_in : {A : Type 0} → (least most : ℕ) → Place → (A → List ℕ) → (ℕ → Place) → (ℕ → Data → Result A CatalogFault) → Data
    → Result (List A) CatalogFault
list_in least most whole name at read d = do
  items ← counted_in least most whole d
  items_from name at read [] items

-- what a member holds that an object may lack: what is read of its value, and something else where the object lacks it
abbrev pub optional_in : {A : Type 0} → A → (Data → Result A CatalogFault) → Option Data → Result A CatalogFault
optional_in without read None = Ok without
optional_in without read (Some d) = read d
