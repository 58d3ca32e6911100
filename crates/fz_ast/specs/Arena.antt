-- Types that are stored once each, and the forms by which they are found.
use Rattle.std.specs.Prelude.{◌≡◌, ℕ, ◌<◌, ◌≤◌, List, [], ◌∷◌, ◌++◌, length, if◌then◌else◌}
use Rattle.std.specs.List.{list_any}
use Rattle.std.proofs.Common.{get_or}
use Rattle.fz_ast.specs.Types.{Ty, same_type}
use Rattle.fz_ast.specs.TypeNodes.{type_at, type_of, IsKnownType}
use Rattle.fz_ast.specs.declared.types.TypeForm.{TypeForm}

-- U is T, and more types after it
abbrev pub Grows : List Ty → List Ty → Type 0
Grows T U = (more : List Ty) × (U ≡ T ++ more)

-- T, and A after it where T lacks it
abbrev pub with_type : List Ty → Ty → List Ty
with_type T A = if list_any (same_type A) T then T else T ++ A ∷ []

-- no type has two numbers
abbrev pub AreDistinct : List Ty → Type 0
AreDistinct T = (i j : ℕ) → i < length T → j < length T → type_at T i ≡ type_at T j → i ≡ j

-- type number k is of this form, with parts before it
pub record IsFormOf (T : List Ty) (k : ℕ) (form : TypeForm) : Type 0 where
  pub known : IsKnownType k form
  pub is : type_at T k ≡ type_of (type_at T) form

-- what an arena keeps of its types and their forms, which stand in one order
pub record IsArena (T : List Ty) (forms : List TypeForm) : Type 0 where
  pub distinct : AreDistinct T
  pub few : length T ≤ 4294967296
  pub size : length forms ≡ length T
  pub each : (k : ℕ) (form : TypeForm) → k < length T → IsFormOf T k (get_or forms k form)
