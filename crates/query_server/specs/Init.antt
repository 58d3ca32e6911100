-- `init`: the owners' journals are made.
use Rattle.std.specs.Prelude.{◌≡◌, ◌⊎◌, true, false, ℕ, ◌<◌, ◌≤◌, List, ◌++◌, None, codes, decimal}
use Rattle.std.specs.List.{flat_map}
use Rattle.owner_catalog.specs.Entries.{OwnerEntry}
use Rattle.catalog_loading.specs.Steps.{FileStep}
use Rattle.catalog_loading.specs.Loaded.{Loading, new_header, with_house, owner_name_at, owners_in}
use Rattle.query_server.specs.Work.{Work, to_make}
use Rattle.query_server.specs.Duty.{Duty, Kind}
use Rattle.owner_books.specs.Making.{AreMadeBefore, IsMade, IsMakingNamed, IsNotMade, IsThere, MayBeMadeInPart}
use Rattle.owner_books.specs.Shelves.{Shelf, EachDisk}
use Rattle.owner_books.specs.Refusals.{journal_text}
use Rattle.query_server.specs.declared.end.Status.{Status}
use Rattle.query_server.specs.declared.end.Status.TheVariants.{Done, JournalRefused}
use Rattle.owner_books.specs.declared.refusals.JournalRefusal.TheVariants.{Exists}

-- CATALOG, then KEY, then the tables of all owners
abbrev pub init_steps : (catalog key : List ℕ) → FileStep Work
init_steps catalog key = with_house to_make catalog key

abbrev pub init_kind : (catalog key : List ℕ) → Kind
init_kind catalog key = record { steps = init_steps catalog key; source = false; disks = true; doors = false; program = false }

-- the line of an owner
abbrev pub made_line : OwnerEntry → List ℕ
made_line owner = codes "owner " ++ owner.name ++ codes " budget " ++ decimal owner.budget ++ codes " capacity " ++ decimal owner.capacity ++ codes "\n"

-- A journal isn't made where the disk isn't empty, or one of two: its length is said. Those of the owners before it are made.
pub record IsExistingDue (loading : Loading) (key : List ℕ) (old new : Shelf) (status : Status) (text : List ℕ) : Type 0 where
  pub o : ℕ
  pub n : ℕ
  pub known : o < owners_in loading
  pub some : 1 ≤ n
  pub long : IsThere n (old o)
  pub is_status : status ≡ JournalRefused
  pub is_text : text ≡ journal_text (owner_name_at loading o) (Exists n)
  pub disks : AreMadeBefore loading key o IsNotMade old new

-- What is due to `init`: a line for each owner, whose journal is made; or the line of the first whose disk isn't empty.
abbrev pub IsMakingDue : Loading → (key : List ℕ) → (old new : Shelf) → (status : Status) → (text : List ℕ) → Type 0
IsMakingDue loading key old new status text =
    ((status ≡ Done) × (text ≡ flat_map made_line loading.register.catalog.owners)
    × EachDisk (owners_in loading) (λ o. IsMade (new_header loading key o)) old new)
    ⊎ IsExistingDue loading key old new status text

abbrev pub init_duty : Loading → (key : List ℕ) → Duty
init_duty loading key = record {
  due = λ old new script. IsMakingDue loading key old new;
  may_stop = MayBeMadeInPart loading key;
  names_disk = IsMakingNamed loading key;
  statuses = λ status. (status ≡ Done) ⊎ (status ≡ JournalRefused);
  admits = None;
}
