-- files that tell what they hold, hold it at each read
use Rattle.std.proofs.Common.{◌≡◌, ℕ, List, [], ◌∷◌, refl, sym, subst}
use Rattle.std.specs.Prelude.{Result, Ok, Err}
use Rattle.owner_catalog.specs.Catalog.{Catalog, OwnerEntry, TableEntry}
use Rattle.catalog_loading.specs.Files.{Contents, ReadsToCome, always}
use Rattle.catalog_loading.specs.Steps.{FileStep, ◌>>=◌, continued, done, one_by_one}
use Rattle.catalog_loading.specs.Loaded.{catalog_read, key_read, loaded, owner_read, table_read}

-- the reads to come find what the earlier ones found
abbrev pub Keeps : {A : Type 0} → Contents → FileStep A → Type 0
Keeps held step = (step (always held)).rest ≡ always held

keeps_then : {A B : Type 0} (held : Contents) (step : FileStep A) (next : A → FileStep B) → Keeps held step → ((a : A) → Keeps held (next a)) → Keeps held (step >>= next)
unfolding ◌>>=◌
keeps_then {A} {B} held step next first second = here (step (always held)).given
  where
    here : (given : Result A (List ℕ)) → (continued given (step (always held)).names (step (always held)).rest next).rest ≡ always held
    here (Ok a) = subst (λ (rest : ReadsToCome). (next a rest).rest ≡ always held) (sym first) (second a)
    here (Err name) = first

keeps_each : {A B : Type 0} (held : Contents) (step : A → FileStep B) → ((x : A) → Keeps held (step x)) → (xs : List A) → Keeps held (one_by_one step xs)
unfolding one_by_one
keeps_each held step keeps [] = refl
keeps_each held step keeps (x ∷ xs) =
    keeps_then held (step x) (λ y. one_by_one step xs >>= (λ ys. done (y ∷ ys))) (keeps x)
    (λ y. keeps_then held (one_by_one step xs) (λ ys. done (y ∷ ys)) (keeps_each held step keeps xs) (λ ys. refl))

pub keeps_catalog : (held : Contents) (name : List ℕ) → Keeps held (catalog_read name)
keeps_catalog held name = keeps_then held _ _ refl (λ bytes. refl)

pub keeps_key : (held : Contents) (name : List ℕ) → Keeps held (key_read name)
keeps_key held name = keeps_then held _ _ refl (λ bytes. refl)

keeps_table : (held : Contents) (table : TableEntry) → Keeps held (table_read table)
keeps_table held table = keeps_then held _ _ refl (λ bytes. keeps_then held _ _ refl (λ rows. refl))

pub keeps_owner : (held : Contents) (owner : OwnerEntry) → Keeps held (owner_read owner)
keeps_owner held owner = keeps_then held _ _ (keeps_each held table_read (keeps_table held) owner.tables) (λ tables. refl)

pub keeps_loaded : (held : Contents) (catalog : Catalog) → Keeps held (loaded catalog)
keeps_loaded held catalog = keeps_then held _ _ (keeps_each held owner_read (keeps_owner held) catalog.owners) (λ owned. refl)
