-- worked examples of steps, and of the order of work of each command with the names that it reads
use Rattle.std.proofs.Common.{◌≡◌, ℕ, zero, suc, List, [], ◌∷◌, ◌++◌, Option, Some, None, replicate, refl, ap, ◌∙◌}
use Rattle.std.specs.Prelude.{Result, Ok, Err, codes, pos, ok_or}
use Rattle.fz_ast.specs.declared.row.Column.TheVariants.{Num}
use Rattle.owner_catalog.specs.Catalog.{OwnerEntry, TableEntry, Catalog, owner_signature}
use Rattle.query_server.specs.Work.{usage, Work, to_answer, to_make, to_count, to_check, to_compare, to_grant}
use Rattle.catalog_loading.specs.Files.{ReadsToCome, always, readable, Contents}
use Rattle.catalog_loading.specs.Steps.{StepOutcome, ◌>>=◌, behind, one_by_one, file_read, FileStep, continued}
use Rattle.catalog_loading.specs.Loaded.{KeyedOwner, LoadedTable, LoadedOwner, Loading, key_read, catalog_read, table_read, owner_read, loaded, with_house}
use Rattle.query_server.specs.Run.{run_steps}
use Rattle.query_server.specs.Init.{init_steps}
use Rattle.query_server.specs.Audit.{audit_steps}
use Rattle.query_server.specs.Check.{check_steps}
use Rattle.query_server.specs.Grant.{grant_steps}
use Rattle.query_server.specs.Gap.{gap_steps}
use Rattle.query_server.specs.Due.{files_of, command_steps}
use Rattle.metric_values.specs.Values.{Flat, NumF}
use Rattle.part_views.specs.Holding.{Holding}
use Rattle.command_words.specs.Command.{Command, check, command_of}
use Rattle.command_words.proofs.Plain.{plain_is_tabled}

abbrev a : List ℕ
a = codes "a"

abbrev b : List ℕ
b = codes "b"

-- what each of two reads finds in a file: first these bytes, and then no such file
once : List ℕ → ReadsToCome
once bytes zero name = Some bytes
once bytes (suc n) name = None

abbrev came_to : {A : Type 0} → A → (names : List (List ℕ)) → ReadsToCome → StepOutcome A
came_to x names reads = record { given = Ok x; names = names; rest = reads }

abbrev stopped_at : {A : Type 0} → (name : List ℕ) → (names : List (List ℕ)) → ReadsToCome → StepOutcome A
stopped_at name names reads = record { given = Err name; names = names; rest = reads }

-- a file that is read twice is read by its name twice, and may have changed
read_twice : (file_read a >>= (λ first. file_read a)) (once (1 ∷ [])) ≡ stopped_at a (a ∷ a ∷ []) (λ n name. None)
unfolding ◌>>=◌ once
read_twice = refl

-- nothing is read behind a step that refuses a name
one_refused : one_by_one file_read (a ∷ b ∷ a ∷ []) (once (1 ∷ [])) ≡ stopped_at b (a ∷ b ∷ []) (λ n name. None)
unfolding ◌>>=◌ one_by_one once
one_refused = refl

all_given : (one_by_one file_read (a ∷ b ∷ []) (always (λ name. Some name))) ≡ came_to (a ∷ b ∷ []) (a ∷ b ∷ []) (always (λ name. Some name))
unfolding ◌>>=◌ one_by_one
all_given = refl

-- ---- the order of work: each step is refused where all before it are done

-- over these files a step comes to this, and reads these names
abbrev Comes : {A : Type 0} → FileStep A → Contents → Result A (List ℕ) → (names : List (List ℕ)) → Type 0
Comes step held given names = step (always held) ≡ record { given = given; names = names; rest = always held }

goes_on : {A B : Type 0} → (step : FileStep A) (next : A → FileStep B) (held : Contents) (x : A) (given : Result B (List ℕ)) (names more : List (List ℕ))
    → Comes step held (Ok x) names → Comes (next x) held given more → Comes (step >>= next) held given (names ++ more)
unfolding ◌>>=◌
goes_on {A = A} {B = B} step next held x given names more is comes =
    ap (λ (o : StepOutcome A). continued o.given o.names o.rest next) is ∙ ap (λ (o : StepOutcome B). behind names o) comes

stops : {A B : Type 0} → (step : FileStep A) (next : A → FileStep B) (held : Contents) (name : List ℕ) (names : List (List ℕ))
    → Comes step held (Err name) names → Comes (step >>= next) held (Err name) names
unfolding ◌>>=◌
stops {A = A} step next held name names is = ap (λ (o : StepOutcome A). continued o.given o.names o.rest next) is

abbrev cat : List ℕ
cat = codes "cat.json"

abbrev second : List ℕ
second = codes "cat2.json"

-- the file of a table
abbrev csv : (table : List ℕ) → List ℕ
csv table = table ++ codes ".csv"

abbrev key : List ℕ
key = codes "key"

abbrev program : List ℕ
program = codes "program"

-- an owner of one table in a file, and a catalog of two owners
abbrev table_in : (file : List ℕ) → TableEntry
table_in file = record { name = a; file = file; columns = record { name = a; kind = Num } ∷ [] }

abbrev nobody : List ℕ
nobody = codes "nobody"

abbrev with_table : (name file : List ℕ) → OwnerEntry
with_table name file = record { name = name; budget = 1; capacity = 2; tables = table_in file ∷ []; partitions = []; limits = []; text = [] }

abbrev house_with : List OwnerEntry → Catalog
house_with owners = record { analysts = a ∷ []; owners = owners; text = [] }

abbrev both : Catalog
both = house_with (with_table a (csv a) ∷ with_table b (csv b) ∷ [])

abbrev one : Catalog
one = house_with (with_table a (csv (codes "c")) ∷ [])

abbrev rows : List Flat
rows = NumF (pos 1) ∷ []

abbrev holding : (name file : List ℕ) → Holding
holding name file = record { tables = owner_signature (with_table name file); rows = rows ∷ []; partitions = [] }

-- the SHA-256 of a table's file
abbrev hash : List ℕ
hash = replicate 32 7

abbrev table_loaded : LoadedTable
table_loaded = record { rows = rows; hash = hash }

abbrev owner_held : (name file : List ℕ) → LoadedOwner
owner_held name file = record { holding = holding name file; hashes = hash ∷ [] }

abbrev loading : Loading
loading = record { register = record { catalog = both; holdings = holding a (csv a) ∷ holding b (csv b) ∷ []; versions = replicate 64 3 }; hashes = (hash ∷ []) ∷ (hash ∷ []) ∷ [] }

abbrev HasCatalog : Contents → Type 0
HasCatalog held = Comes (catalog_read cat) held (Ok both) (cat ∷ [])

abbrev HasSecond : Contents → Type 0
HasSecond held = Comes (catalog_read second) held (Ok one) (second ∷ [])

-- a file as a table of these owners: it holds rows, or is refused
abbrev rows_in : (file : List ℕ) → FileStep LoadedTable
rows_in file = table_read (table_in file)

abbrev HasRows : Contents → (file : List ℕ) → Type 0
HasRows held file = Comes (rows_in file) held (Ok table_loaded) (file ∷ [])

abbrev HasNone : Contents → (file : List ℕ) → Type 0
HasNone held file = Comes (rows_in file) held (Err file) (file ∷ [])

-- what an owner of one table holds
held_by : (held : Contents) (name file : List ℕ) → HasRows held file → Comes (owner_read (with_table name file)) held (Ok (owner_held name file)) (file ∷ [])
unfolding one_by_one
held_by held name csv has = goes_on _ _ held _ _ _ _ (goes_on _ _ held _ _ _ _ has (goes_on _ _ held _ _ _ _ refl refl)) refl

unheld_by : (held : Contents) (name file : List ℕ) → HasNone held file → Comes (owner_read (with_table name file)) held (Err file) (file ∷ [])
unfolding one_by_one
unheld_by held name csv has = stops _ _ held _ _ (stops _ _ held _ _ has)

-- the tables of all owners, in order
all_loaded : (held : Contents) → HasRows held (csv a) → HasRows held (csv b)
    → Comes (loaded both) held (Ok loading) ((csv a) ∷ (csv b) ∷ [])
unfolding one_by_one
all_loaded held first second =
    goes_on _ _ held _ _ _ _ (goes_on _ _ held _ _ _ _ (held_by held a (csv a) first)
    (goes_on _ _ held _ _ _ _ (goes_on _ _ held _ _ _ _ (held_by held b (csv b) second) (goes_on _ _ held _ _ _ _ refl refl)) refl)) refl

first_table_refused : (held : Contents) → HasNone held (csv a) → Comes (loaded both) held (Err (csv a)) ((csv a) ∷ [])
unfolding one_by_one
first_table_refused held first = stops _ _ held _ _ (stops _ _ held _ _ (unheld_by held a (csv a) first))

second_table_refused : (held : Contents) → HasRows held (csv a) → HasNone held (csv b)
    → Comes (loaded both) held (Err (csv b)) ((csv a) ∷ (csv b) ∷ [])
unfolding one_by_one
second_table_refused held first second =
    stops _ _ held _ _ (goes_on _ _ held _ _ _ _ (held_by held a (csv a) first) (stops _ _ held _ _ (stops _ _ held _ _ (unheld_by held b (csv b) second))))

all_of_second : (held : Contents) → HasRows held (csv (codes "c")) → Comes (loaded one) held (Ok (record { register = record { catalog = one; holdings = holding a (csv (codes "c")) ∷ []; versions = replicate 64 3 }; hashes = (hash ∷ []) ∷ [] })) ((csv (codes "c")) ∷ [])
unfolding one_by_one
all_of_second held has = goes_on _ _ held _ _ _ _ (goes_on _ _ held _ _ _ _ (held_by held a (csv (codes "c")) has) (goes_on _ _ held _ _ _ _ refl refl)) refl

none_of_second : (held : Contents) → HasNone held (csv (codes "c")) → Comes (loaded one) held (Err (csv (codes "c"))) ((csv (codes "c")) ∷ [])
unfolding one_by_one
none_of_second held none = stops _ _ held _ _ (stops _ _ held _ _ (unheld_by held a (csv (codes "c")) none))

-- a program's file
program_read : (held : Contents) (found : Option (List ℕ)) → held program ≡ found
    → Comes (file_read program) held (ok_or (readable found) program) (program ∷ [])
program_read held found is = ap (λ found. record { given = ok_or (readable found) program; names = program ∷ []; rest = always held }) is

-- `run`, `init`, `audit`: CATALOG, KEY, the tables of all owners
module _ {A : Type 0} (work : Loading → List ℕ → A) (held : Contents) where
  house_catalog : Comes (catalog_read cat) held (Err cat) (cat ∷ []) → Comes (with_house work cat key) held (Err cat) (cat ∷ [])
  house_catalog none = stops _ _ held _ _ none

  house_key : HasCatalog held → Comes (key_read key) held (Err key) (key ∷ []) → Comes (with_house work cat key) held (Err key) (cat ∷ key ∷ [])
  house_key has none = goes_on _ _ held _ _ _ _ has (stops _ _ held _ _ none)

  house_table : (bytes : List ℕ) → HasCatalog held → Comes (key_read key) held (Ok bytes) (key ∷ []) → HasRows held (csv a) → HasNone held (csv b)
      → Comes (with_house work cat key) held (Err (csv b)) (cat ∷ key ∷ (csv a) ∷ (csv b) ∷ [])
  house_table bytes has has_key first none =
      goes_on _ _ held _ _ _ _ has (goes_on _ _ held _ _ _ _ has_key (stops _ _ held _ _ (second_table_refused held first none)))

  house_whole : (bytes : List ℕ) → HasCatalog held → Comes (key_read key) held (Ok bytes) (key ∷ []) → HasRows held (csv a) → HasRows held (csv b)
      → Comes (with_house work cat key) held (Ok (work loading bytes)) (cat ∷ key ∷ (csv a) ∷ (csv b) ∷ [])
  house_whole bytes has has_key first second =
      goes_on _ _ held _ _ _ _ has (goes_on _ _ held _ _ _ _ has_key (goes_on _ _ held _ _ _ _ (all_loaded held first second) refl))

of_run : run_steps cat key 1 ≡ with_house (to_answer 1) cat key
of_run = refl

of_init : init_steps cat key ≡ with_house to_make cat key
of_init = refl

of_audit : audit_steps cat key ≡ with_house to_count cat key
of_audit = refl

-- `check`: CATALOG, OWNER, the tables of all owners, FILE
check_owner : (held : Contents) → HasCatalog held → Comes (check_steps cat nobody program) held (Err nobody) (cat ∷ [])
check_owner held has = goes_on _ _ held _ _ _ _ has (stops _ _ held _ _ refl)

check_table : (held : Contents) → HasCatalog held → HasRows held (csv a) → HasNone held (csv b)
    → Comes (check_steps cat a program) held (Err (csv b)) (cat ∷ (csv a) ∷ (csv b) ∷ [])
check_table held has first none =
    goes_on _ _ held _ _ _ _ has (goes_on _ _ held _ _ _ _ refl (stops _ _ held _ _ (stops _ _ held _ _ (second_table_refused held first none))))

check_file : (held : Contents) → HasCatalog held → HasRows held (csv a) → HasRows held (csv b) → held program ≡ None
    → Comes (check_steps cat a program) held (Err program) (cat ∷ (csv a) ∷ (csv b) ∷ program ∷ [])
check_file held has first second none =
    goes_on _ _ held _ _ _ _ has (goes_on _ _ held _ _ _ _ refl (goes_on _ _ held _ _ _ _ (goes_on _ _ held _ _ _ _ (all_loaded held first second) refl)
    (stops _ _ held _ _ (program_read held None none))))

check_whole : (held : Contents) → HasCatalog held → HasRows held (csv a) → HasRows held (csv b) → held program ≡ Some (codes "1")
    → Comes (check_steps cat b program) held (Ok (to_check (owner_signature (with_table b (csv b))) (codes "1"))) (cat ∷ (csv a) ∷ (csv b) ∷ program ∷ [])
check_whole held has first second file =
    goes_on _ _ held _ _ _ _ has (goes_on _ _ held _ _ _ _ refl (goes_on _ _ held _ _ _ _ (goes_on _ _ held _ _ _ _ (all_loaded held first second) refl)
    (goes_on _ _ held _ _ _ _ (program_read held (Some (codes "1")) file) refl)))

-- `gap`: CATALOG, OWNER, CATALOG2, OWNER in it, the tables of CATALOG, those of CATALOG2, FILE
gap_owner : (held : Contents) → HasCatalog held → Comes (gap_steps cat nobody second program) held (Err nobody) (cat ∷ [])
gap_owner held has = goes_on _ _ held _ _ _ _ has (stops _ _ held _ _ refl)

gap_second_catalog : (held : Contents) → HasCatalog held → Comes (catalog_read second) held (Err second) (second ∷ [])
    → Comes (gap_steps cat a second program) held (Err second) (cat ∷ second ∷ [])
gap_second_catalog held has none = goes_on _ _ held _ _ _ _ has (goes_on _ _ held _ _ _ _ refl (stops _ _ held _ _ none))

-- the owner is unknown in the second catalog alone
gap_second_owner : (held : Contents) → HasCatalog held → HasSecond held → Comes (gap_steps cat b second program) held (Err b) (cat ∷ second ∷ [])
gap_second_owner held has has_second =
    goes_on _ _ held _ _ _ _ has (goes_on _ _ held _ _ _ _ refl (goes_on _ _ held _ _ _ _ has_second (stops _ _ held _ _ refl)))

gap_second_table : (held : Contents) → HasCatalog held → HasSecond held → HasRows held (csv a) → HasRows held (csv b) → HasNone held (csv (codes "c"))
    → Comes (gap_steps cat a second program) held (Err (csv (codes "c"))) (cat ∷ second ∷ (csv a) ∷ (csv b) ∷ (csv (codes "c")) ∷ [])
gap_second_table held has has_second first other none =
    goes_on _ _ held _ _ _ _ has (goes_on _ _ held _ _ _ _ refl (goes_on _ _ held _ _ _ _ has_second (goes_on _ _ held _ _ _ _ refl
    (goes_on _ _ held _ _ _ _ (goes_on _ _ held _ _ _ _ (all_loaded held first other) refl)
    (stops _ _ held _ _ (stops _ _ held _ _ (none_of_second held none)))))))

gap_whole : (held : Contents) → HasCatalog held → HasSecond held → HasRows held (csv a) → HasRows held (csv b) → HasRows held (csv (codes "c"))
    → held program ≡ Some (codes "1")
    → Comes (gap_steps cat a second program) held (Ok (to_compare (owner_signature (with_table a (csv a))) (rows ∷ []) (rows ∷ []) (codes "1")))
    (cat ∷ second ∷ (csv a) ∷ (csv b) ∷ (csv (codes "c")) ∷ program ∷ [])
gap_whole held has has_second first other third file =
    goes_on _ _ held _ _ _ _ has (goes_on _ _ held _ _ _ _ refl (goes_on _ _ held _ _ _ _ has_second (goes_on _ _ held _ _ _ _ refl
    (goes_on _ _ held _ _ _ _ (goes_on _ _ held _ _ _ _ (all_loaded held first other) refl)
    (goes_on _ _ held _ _ _ _ (goes_on _ _ held _ _ _ _ (all_of_second held third) refl)
    (goes_on _ _ held _ _ _ _ (program_read held (Some (codes "1")) file) refl))))))

-- `grant`: CATALOG, OWNER, KEY, that owner's tables alone
grant_catalog : (held : Contents) → Comes (catalog_read cat) held (Err cat) (cat ∷ []) → Comes (grant_steps cat key nobody 5) held (Err cat) (cat ∷ [])
grant_catalog held none = stops _ _ held _ _ none

grant_owner : (held : Contents) → HasCatalog held → Comes (grant_steps cat key nobody 5) held (Err nobody) (cat ∷ [])
grant_owner held has = goes_on _ _ held _ _ _ _ has (stops _ _ held _ _ refl)

grant_key : (held : Contents) → HasCatalog held → Comes (key_read key) held (Err key) (key ∷ []) → Comes (grant_steps cat key b 5) held (Err key) (cat ∷ key ∷ [])
grant_key held has none = goes_on _ _ held _ _ _ _ has (goes_on _ _ held _ _ _ _ refl (stops _ _ held _ _ none))

grant_table : (held : Contents) (bytes : List ℕ) → HasCatalog held → Comes (key_read key) held (Ok bytes) (key ∷ []) → HasNone held (csv b)
    → Comes (grant_steps cat key b 5) held (Err (csv b)) (cat ∷ key ∷ (csv b) ∷ [])
grant_table held bytes has has_key none =
    goes_on _ _ held _ _ _ _ has (goes_on _ _ held _ _ _ _ refl (goes_on _ _ held _ _ _ _ has_key (stops _ _ held _ _ (unheld_by held b (csv b) none))))

-- the second of two owners
abbrev second_keyed : (key : List ℕ) → KeyedOwner
second_keyed key = record { catalog = both; number = 1; hashes = hash ∷ []; key = key }

grant_whole : (held : Contents) (bytes : List ℕ) → HasCatalog held → Comes (key_read key) held (Ok bytes) (key ∷ []) → HasRows held (csv b)
    → Comes (grant_steps cat key b 5) held (Ok (to_grant 5 (second_keyed bytes))) (cat ∷ key ∷ (csv b) ∷ [])
grant_whole held bytes has has_key rows =
    goes_on _ _ held _ _ _ _ has (goes_on _ _ held _ _ _ _ refl (goes_on _ _ held _ _ _ _ has_key (goes_on _ _ held _ _ _ _ (held_by held b (csv b) rows) refl)))

-- faulty words read nothing, and the names of the others are those of their steps
no_words : (held : Contents) → Comes (command_steps None) held (Ok usage) []
no_words held = refl

is_check : command_of (codes "check" ∷ cat ∷ a ∷ program ∷ []) ≡ Some (check cat a program)
is_check = plain_is_tabled (codes "check" ∷ cat ∷ a ∷ program ∷ []) (refl, (refl, (refl, (refl, tt))))

check_words : (held : Contents) → HasCatalog held → HasRows held (csv a) → HasRows held (csv b) → held program ≡ None
    → files_of (codes "check" ∷ cat ∷ a ∷ program ∷ []) (always held) ≡ cat ∷ (csv a) ∷ (csv b) ∷ program ∷ []
unfolding files_of
check_words held has first second none =
    ap (λ (command : Option Command). (command_steps command (always held)).names) is_check
    ∙ ap (λ (o : StepOutcome Work). o.names) (check_file held has first second none)
