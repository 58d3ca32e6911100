-- What steps come to over files that tell what they hold: a script is to be answered in the house of the row.
use Rattle.std.proofs.Common.{◌≡◌, ℕ, List, [], ◌∷◌, ◌++◌, Option, Some, refl, ap, ◌∙◌}
use Rattle.std.specs.Prelude.{Result, Ok, Err, ok_or, codes, length, nat_eq, if◌then◌else◌}
use Rattle.table_store.specs.Table.{table_in_file}
use Rattle.owner_catalog.specs.Catalog.{catalog_in_file}
use Rattle.catalog_loading.specs.Files.{Contents, always, readable}
use Rattle.catalog_loading.specs.Steps.{FileStep, StepOutcome, from, done, file_read, behind, continued, one_by_one, ◌>>=◌}
use Rattle.catalog_loading.specs.Loaded.{catalog_read, key_read, Loading, loaded, loading_with, or_refused, owner_read, owner_with, table_read, table_with, with_house}
use Rattle.query_server.specs.Work.{to_answer}
use Rattle.query_server.specs.Run.{run_steps}
use Rattle.worked_row.specs.Row.{catalog_text, table_text}
use Rattle.worked_row.specs.Held.{catalog, census, loaded_owner, loaded_table, loading, people, rows, zeros}
use Rattle.worked_row.proofs.RowCatalog.{has_catalog as catalog_is_read}
use Rattle.worked_row.proofs.RowTable.{has_rows}

-- a step gives this, and the files tell the same as before
abbrev pub Gives : {A : Type 0} → FileStep A → Contents → A → Type 0
Gives step held a = (names : List (List ℕ)) × (step (always held) ≡ record { given = Ok a; names = names; rest = always held })

pub gives : {A : Type 0} → (held : Contents) (r : Result A (List ℕ)) (a : A) → r ≡ Ok a → Gives (from r) held a
gives {A = A} held r a is = ([], ap (λ (given : Result A (List ℕ)). record { given = given; names = []; rest = always held }) is)

reads : (held : Contents) (name bytes : List ℕ) → held name ≡ Some bytes → readable (Some bytes) ≡ Some bytes → Gives (file_read name) held bytes
reads held name bytes has short = (
  name ∷ [],
  ap (λ (found : Option (List ℕ)). record { given = ok_or (readable found) name; names = name ∷ []; rest = always held }) has
      ∙ ap (λ (found : Option (List ℕ)). record { given = ok_or found name; names = name ∷ []; rest = always held }) short,
)

pub goes_on : {A B : Type 0} → (step : FileStep A) (next : A → FileStep B) (held : Contents) (a : A) (b : B) → Gives step held a → Gives (next a) held b → Gives (step >>= next) held b
unfolding ◌>>=◌
goes_on {A = A} {B = B} step next held a b (names, is) (more, comes) =
    (names ++ more, ap (λ (o : StepOutcome A). continued o.given o.names o.rest next) is ∙ ap (λ (o : StepOutcome B). behind names o) comes)

none : {A B : Type 0} → (step : A → FileStep B) (held : Contents) → Gives (one_by_one step []) held []
unfolding one_by_one
none step held = ([], refl)

one : {A B : Type 0} → (step : A → FileStep B) (held : Contents) (x : A) (y : B) → Gives (step x) held y → Gives (one_by_one step (x ∷ [])) held (y ∷ [])
unfolding one_by_one
one step held x y is =
    goes_on (step x) (λ y. one_by_one step [] >>= (λ ys. done (y ∷ ys))) held y (y ∷ []) is
    (goes_on (one_by_one step []) (λ ys. done (y ∷ ys)) held [] (y ∷ []) (none step held) (gives held (Ok (y ∷ [])) (y ∷ []) refl))

pub catalog_given : (held : Contents) → held (codes "cat.json") ≡ Some catalog_text → Gives (catalog_read (codes "cat.json")) held catalog
catalog_given held has =
    goes_on (file_read (codes "cat.json")) (λ bytes. from (or_refused (codes "cat.json") (catalog_in_file bytes))) held catalog_text catalog
    (reads held (codes "cat.json") catalog_text has refl)
    (gives held (or_refused (codes "cat.json") (catalog_in_file catalog_text)) catalog (ap (λ read. or_refused (codes "cat.json") read) catalog_is_read))

table_given : (held : Contents) → held (codes "people.csv") ≡ Some table_text → Gives (table_read people) held loaded_table
table_given held has =
    goes_on (file_read (codes "people.csv")) (λ bytes. from (or_refused (codes "people.csv") (table_in_file people.columns bytes)) >>= (λ rows. done (table_with rows bytes))) held table_text loaded_table
    (reads held (codes "people.csv") table_text has refl)
    (goes_on (from (or_refused (codes "people.csv") (table_in_file people.columns table_text))) (λ rows. done (table_with rows table_text)) held rows loaded_table
    (gives held (or_refused (codes "people.csv") (table_in_file people.columns table_text)) rows (ap (λ read. or_refused (codes "people.csv") read) has_rows))
    (gives held (Ok loaded_table) loaded_table refl))

pub owner_given : (held : Contents) → held (codes "people.csv") ≡ Some table_text → Gives (owner_read census) held loaded_owner
owner_given held has =
    goes_on (one_by_one table_read census.tables) (λ tables. done (owner_with census tables)) held (loaded_table ∷ []) loaded_owner
    (one table_read held people loaded_table (table_given held has))
    (gives held (Ok loaded_owner) loaded_owner refl)

loaded_given : (held : Contents) → held (codes "people.csv") ≡ Some table_text → Gives (loaded catalog) held loading
loaded_given held has =
    goes_on (one_by_one owner_read catalog.owners) (λ owners. done (loading_with catalog owners)) held (loaded_owner ∷ []) loading
    (one owner_read held census loaded_owner (owner_given held has))
    (gives held (Ok loading) loading refl)

pub key_given : (held : Contents) → held (codes "key") ≡ Some zeros → Gives (key_read (codes "key")) held zeros
key_given held has =
    goes_on (file_read (codes "key")) (λ key. from (if nat_eq (length key) 32 then Ok key else Err (codes "key"))) held zeros zeros
    (reads held (codes "key") zeros has refl)
    (gives held (Ok zeros) zeros refl)

-- whatever is done with the house and the key
pub house_given : {A : Type 0} → (work : Loading → List ℕ → A) (held : Contents) → held (codes "cat.json") ≡ Some catalog_text → held (codes "key") ≡ Some zeros → held (codes "people.csv") ≡ Some table_text
    → Gives (with_house work (codes "cat.json") (codes "key")) held (work loading zeros)
house_given work held has_catalog has_key has_table =
    goes_on (catalog_read (codes "cat.json")) (λ house. key_read (codes "key") >>= (λ bytes. loaded house >>= (λ loading. done (work loading bytes)))) held catalog (work loading zeros)
    (catalog_given held has_catalog)
    (goes_on (key_read (codes "key")) (λ bytes. loaded catalog >>= (λ loading. done (work loading bytes))) held zeros (work loading zeros)
    (key_given held has_key)
    (goes_on (loaded catalog) (λ loading. done (work loading zeros)) held loading (work loading zeros)
    (loaded_given held has_table)
    (gives held (Ok (work loading zeros)) (work loading zeros) refl)))

pub run_given : (held : Contents) → held (codes "cat.json") ≡ Some catalog_text → held (codes "key") ≡ Some zeros → held (codes "people.csv") ≡ Some table_text
    → Gives (run_steps (codes "cat.json") (codes "key") 1) held (to_answer 1 loading zeros)
run_given = house_given (to_answer 1)
