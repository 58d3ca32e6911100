-- what a command comes to, by its steps
use Rattle.std.proofs.Common.{◌≡◌, ◌<◌, ℕ, Bool, true, false, List, ◌++◌, length, nat_eq, bytes_eq, if◌then◌else◌, Option, Some, None, refl, sym, ◌∙◌, ap, subst, eqb-true}
use Rattle.std.specs.Prelude.{Result, Ok, Err, ok_or, position}
use Rattle.fz_ast.specs.Signature.{Signature}
use Rattle.metric_values.specs.Tables.{Dataset}
use Rattle.owner_catalog.specs.Catalog.{Catalog, OwnerEntry}
use Rattle.command_words.specs.Command.{Command, init, run, audit, grant, check, gap, serve, gen, derive, judge, command_of}
use Rattle.catalog_loading.specs.Files.{ReadsToCome}
use Rattle.catalog_loading.specs.Steps.{FileStep, ◌>>=◌, continued, done, file_read, from}
use Rattle.owner_catalog.specs.Entries.{owner_entry_at}
use Rattle.catalog_loading.specs.Loaded.{IsKeyedOwner, KeyedOwner, LoadedOwner, Loading, IsKeyedHouse, number_named, owner_read, catalog_read, house_read, key_read, keyed, loaded, entry_named, owner_loaded, with_house, with_owner}
use Rattle.catalog_loading.specs.Fit.{fitting}
use Rattle.query_server.specs.Work.{Work, ended, usage, refused, to_answer, to_make, to_count, to_grant, to_check, to_compare, to_serve, to_generate, of_derivation}
use Rattle.query_server.specs.Run.{run_steps}
use Rattle.query_server.specs.Init.{init_steps}
use Rattle.query_server.specs.Audit.{audit_steps}
use Rattle.query_server.specs.Grant.{grant_steps}
use Rattle.query_server.specs.Check.{check_steps}
use Rattle.query_server.specs.Gap.{gap_steps}
use Rattle.query_server.specs.Serve.{serve_steps}
use Rattle.query_server.specs.Derivation.{task_steps}
use Rattle.derivation_commands.specs.Task.{Subject, Task, derive_steps, judge_steps, subject_read, to_derive, to_judge}
use Rattle.query_server.specs.Due.{work_of, command_steps}
use Rattle.query_server.specs.Promise.{IsHouseOf}
use Rattle.query_server.specs.Service.{IsHouseServed}
use Rattle.query_server.specs.Laws.{WhatIsGrantedIsLawful}
use Rattle.catalog_loading.proofs.Pairs.{inverted}
use Rattle.catalog_loading.proofs.Loaded.{catalog_lawful, loaded_register, owner_loaded_for}
use Rattle.catalog_loading.proofs.Owners.{owner_found}
use Rattle.command_words.proofs.Accepted.{in_range}

-- what the steps to a house gave
pub house_gives : {A : Type 0} (work : Loading → List ℕ → A) (catalog key : List ℕ) (reads : ReadsToCome) (a : A) → (with_house work catalog key reads).given ≡ Ok a
    → (house : Catalog) × (bytes : List ℕ) × (loading : Loading) × ((catalog_read catalog reads).given ≡ Ok house) × ((key_read key (catalog_read catalog reads).rest).given ≡ Ok bytes)
    × ((loaded house (key_read key (catalog_read catalog reads).rest).rest).given ≡ Ok loading) × (work loading bytes ≡ a)
house_gives work catalog key reads a is =
    let house = inverted (catalog_read catalog) (λ house. key_read key >>= (λ bytes. loaded house >>= (λ loading. done (work loading bytes)))) reads a is in
    let bytes = inverted (key_read key) (λ bytes. loaded house.0 >>= (λ loading. done (work loading bytes))) (catalog_read catalog reads).rest a house.2 in
    let loading = inverted (loaded house.0) (λ loading. done (work loading bytes.0)) (key_read key (catalog_read catalog reads).rest).rest a bytes.2 in
    let same : work loading.0 bytes.0 ≡ a = cc in
    (house.0, bytes.0, loading.0, house.1, bytes.1, loading.1, same)

-- What holds of a refused name, and of all that a step's next ones come to, holds of what it comes to with them.
then_cases : {A : Type 0} (P : Work → Type 0) → ((name : List ℕ) → P (refused name)) → (step : FileStep A) (next : A → FileStep Work) → ((a : A) (reads : ReadsToCome) → P (ended (next a reads).given))
    → (reads : ReadsToCome) → P (ended ((step >>= next) reads).given)
unfolding ◌>>=◌
then_cases {A} P by_name step next each reads = here (step reads).given
  where
    here : (given : Result A (List ℕ)) → P (ended (continued given (step reads).names (step reads).rest next).given)
    here (Ok a) = each a (step reads).rest
    here (Err name) = by_name name

-- The work that a command may come to: a refused name, or its own.
pub data ComesTo : Option Command → Work → Type 0 where
  no_command : ComesTo None usage
  refuses : {command : Command} → (name : List ℕ) → ComesTo (Some command) (refused name)
  answers : {catalog name : List ℕ} {workers : ℕ} {loading : Loading} {key : List ℕ} → ComesTo (Some (run catalog name workers)) (to_answer workers loading key)
  makes : {catalog name : List ℕ} {loading : Loading} {key : List ℕ} → ComesTo (Some (init catalog name)) (to_make loading key)
  counts : {catalog name : List ℕ} {loading : Loading} {key : List ℕ} → ComesTo (Some (audit catalog name)) (to_count loading key)
  grants : {catalog key owner : List ℕ} {amount : ℕ} {one : KeyedOwner} → ComesTo (Some (grant catalog key owner amount)) (to_grant amount one)
  checks : {catalog owner file : List ℕ} {tables : Signature} {program : List ℕ} → ComesTo (Some (check catalog owner file)) (to_check tables program)
  compares : {catalog owner second_catalog file : List ℕ} {tables : Signature} {X Y : Dataset} {program : List ℕ}
      → ComesTo (Some (gap catalog owner second_catalog file)) (to_compare tables X Y program)
  serves : {catalog name address : List ℕ} {port workers each : ℕ} {loading : Loading} {key : List ℕ}
      → ComesTo (Some (serve catalog name address port workers each)) (to_serve workers each loading key)
  generates : {seed asks workers : ℕ} → ComesTo (Some (gen seed asks workers)) (to_generate seed asks)
  derives : {catalog owner file : List ℕ} {subject : Subject} → ComesTo (Some (derive catalog owner file)) (of_derivation (to_derive subject))
  judges : {catalog owner file name derivation : List ℕ} {subject : Subject}
      → ComesTo (Some (judge catalog owner file name)) (of_derivation (to_judge subject derivation))

house_comes : (command : Command) (work : Loading → List ℕ → Work) → ((loading : Loading) (key : List ℕ) → ComesTo (Some command) (work loading key))
    → (catalog key : List ℕ) (reads : ReadsToCome) → ComesTo (Some command) (ended (with_house work catalog key reads).given)
house_comes command work by_work catalog key =
    then_cases (ComesTo (Some command)) refuses (catalog_read catalog) _
    (λ house. then_cases (ComesTo (Some command)) refuses (key_read key) _
    (λ bytes. then_cases (ComesTo (Some command)) refuses (loaded house) (λ loading. done (work loading bytes)) (λ loading reads. by_work loading bytes)))

check_comes : (catalog owner file : List ℕ) (reads : ReadsToCome) → ComesTo (Some (check catalog owner file)) (ended (check_steps catalog owner file reads).given)
check_comes catalog owner file =
    let comes = ComesTo (Some (check catalog owner file)) in
    then_cases comes refuses (catalog_read catalog) _
    (λ house. then_cases comes refuses (from (entry_named house owner)) _
    (λ entry. then_cases comes refuses (owner_loaded house owner) _
    (λ holding. then_cases comes refuses (file_read file) (λ program. done (to_check holding.tables program)) (λ program reads. checks))))

grant_comes : (catalog key owner : List ℕ) (amount : ℕ) (reads : ReadsToCome) → ComesTo (Some (grant catalog key owner amount)) (ended (grant_steps catalog key owner amount reads).given)
grant_comes catalog key owner amount =
    let comes = ComesTo (Some (grant catalog key owner amount)) in
    then_cases comes refuses (catalog_read catalog) _
    (λ house. then_cases comes refuses (from (number_named house owner)) _
    (λ number. then_cases comes refuses (key_read key) _
    (λ bytes. then_cases comes refuses (owner_read (owner_entry_at house number))
    (λ loaded. done (to_grant amount (record { catalog = house; number = number; hashes = loaded.hashes; key = bytes }))) (λ loaded reads. grants))))

gap_comes : (catalog owner second_catalog file : List ℕ) (reads : ReadsToCome)
    → ComesTo (Some (gap catalog owner second_catalog file)) (ended (gap_steps catalog owner second_catalog file reads).given)
gap_comes catalog owner second_catalog file =
    let comes = ComesTo (Some (gap catalog owner second_catalog file)) in
    then_cases comes refuses (catalog_read catalog) _
    (λ house. then_cases comes refuses (from (entry_named house owner)) _
    (λ entry. then_cases comes refuses (catalog_read second_catalog) _
    (λ second_house. then_cases comes refuses (from (fitting entry second_house owner)) _
    (λ second_entry. then_cases comes refuses (owner_loaded house owner) _
    (λ holding. then_cases comes refuses (owner_loaded second_house owner) _
    (λ second_holding. then_cases comes refuses (file_read file) (λ program. done (to_compare holding.tables holding.rows second_holding.rows program))
    (λ program reads. compares)))))))

-- what is given doesn't hang on the names that were read
given_alone : (given : Result Task (List ℕ)) (names more : List (List ℕ)) (rest : ReadsToCome)
    → (continued given names rest (λ (task : Task). done (of_derivation task))).given ≡ (continued given more rest (λ (task : Task). done (of_derivation task))).given
given_alone (Ok task) names more rest = refl
given_alone (Err name) names more rest = refl

-- the work of a task is that of what the task's steps give
task_cases : (P : Work → Type 0) → ((name : List ℕ) → P (refused name)) → {A : Type 0} → (step : FileStep A) (next : A → FileStep Task)
    → ((a : A) (reads : ReadsToCome) → P (ended (task_steps (next a) reads).given)) → (reads : ReadsToCome) → P (ended (task_steps (step >>= next) reads).given)
unfolding ◌>>=◌
task_cases P by_name {A} step next each reads = here (step reads).given
  where
    here : (given : Result A (List ℕ)) → P (ended (continued (continued given (step reads).names (step reads).rest next).given
        (continued given (step reads).names (step reads).rest next).names (continued given (step reads).names (step reads).rest next).rest (λ (task : Task). done (of_derivation task))).given)
    here (Ok a) =
        let o = next a (step reads).rest in
        subst (λ (given : Result Work (List ℕ)). P (ended given)) (given_alone o.given o.names ((step reads).names ++ o.names) o.rest) (each a (step reads).rest)
    here (Err name) = by_name name

derive_comes : (catalog owner file : List ℕ) (reads : ReadsToCome)
    → ComesTo (Some (derive catalog owner file)) (ended (task_steps (derive_steps catalog owner file) reads).given)
unfolding ◌>>=◌
derive_comes catalog owner file =
    let comes = ComesTo (Some (derive catalog owner file)) in
    task_cases comes refuses (subject_read catalog owner file) (λ subject. done (to_derive subject)) (λ subject reads. derives)

judge_comes : (catalog owner file derivation : List ℕ) (reads : ReadsToCome)
    → ComesTo (Some (judge catalog owner file derivation)) (ended (task_steps (judge_steps catalog owner file derivation) reads).given)
unfolding ◌>>=◌
judge_comes catalog owner file derivation =
    let comes = ComesTo (Some (judge catalog owner file derivation)) in
    task_cases comes refuses (subject_read catalog owner file) _
    (λ subject. task_cases comes refuses (file_read derivation) (λ bytes. done (to_judge subject bytes)) (λ bytes reads. judges))

pub comes_to : (command : Option Command) (reads : ReadsToCome) → ComesTo command (ended (command_steps command reads).given)
comes_to None reads = no_command
comes_to (Some (run catalog key workers)) reads = house_comes _ (to_answer workers) (λ loading bytes. answers) catalog key reads
comes_to (Some (init catalog key)) reads = house_comes _ to_make (λ loading bytes. makes) catalog key reads
comes_to (Some (audit catalog key)) reads = house_comes _ to_count (λ loading bytes. counts) catalog key reads
comes_to (Some (grant catalog key owner amount)) reads = grant_comes catalog key owner amount reads
comes_to (Some (check catalog owner file)) reads = check_comes catalog owner file reads
comes_to (Some (gap catalog owner second_catalog file)) reads = gap_comes catalog owner second_catalog file reads
comes_to (Some (serve catalog key address port workers each)) reads = house_comes _ (to_serve workers each) (λ loading bytes. serves) catalog key reads
comes_to (Some (gen seed asks workers)) reads = generates
comes_to (Some (derive catalog owner file)) reads = derive_comes catalog owner file reads
comes_to (Some (judge catalog owner file derivation)) reads = judge_comes catalog owner file derivation reads

pub work_comes : (words : List (List ℕ)) (reads : ReadsToCome) → ComesTo (command_of words) (work_of words reads)
unfolding work_of
work_comes words reads = comes_to (command_of words) reads

-- the ending of the words that are this command, or none
pub work_by : (words : List (List ℕ)) (reads : ReadsToCome) (command : Option Command) → command_of words ≡ command → work_of words reads ≡ ended (command_steps command reads).given
unfolding work_of
work_by words reads command is = ap (λ c. ended (command_steps c reads).given) is

-- ---- what was loaded

-- a key that was read has 32 bytes
key_by : (name bytes key : List ℕ) (whole : Bool) → nat_eq (length bytes) 32 ≡ whole → (if whole then Ok bytes else Err name) ≡ Ok key → length key ≡ 32
key_by name bytes key true whole is = let same : bytes ≡ key = cc in ap length (sym same) ∙ eqb-true (length bytes) 32 whole
key_by name bytes key false whole is = cc

key_whole : (name : List ℕ) (reads : ReadsToCome) (key : List ℕ) → (key_read name reads).given ≡ Ok key → length key ≡ 32
key_whole name reads key is =
    let read = inverted (file_read name) (λ bytes. from (if nat_eq (length bytes) 32 then Ok bytes else Err name)) reads key is in
    key_by name read.0 key (nat_eq (length read.0) 32) refl read.2

-- what two steps give, put together
both_give : {A B : Type 0} (step : FileStep A) (next : A → FileStep B) (reads : ReadsToCome) (a : A) (b : B) → (step reads).given ≡ Ok a → (next a (step reads).rest).given ≡ Ok b
    → ((step >>= next) reads).given ≡ Ok b
unfolding ◌>>=◌
both_give {A} step next reads a b first second = ap (λ (given : Result A (List ℕ)). (continued given (step reads).names (step reads).rest next).given) first ∙ second

-- A house was read for some work, which tells it.
pub record IsHouseRead (catalog key_name : List ℕ) (reads : ReadsToCome) (loading : Loading) (key : List ℕ) : Type 0 where
  pub is_read : (house_read catalog key_name reads).given ≡ Ok (keyed loading key)
  pub lawful : IsKeyedHouse (keyed loading key)

pub house_of_work : (work : Loading → List ℕ → Work) (catalog key_name : List ℕ) (reads : ReadsToCome) (loading : Loading) (key : List ℕ)
    → ((other : Loading) (bytes : List ℕ) → work other bytes ≡ work loading key → (other ≡ loading) × (bytes ≡ key))
    → (with_house work catalog key_name reads).given ≡ Ok (work loading key) → IsHouseRead catalog key_name reads loading key
house_of_work work catalog key_name reads loading key one is =
    let found = house_gives work catalog key_name reads (work loading key) is in
    let its = one found.2 found.1 found.6 in
    let of_catalog = catalog_lawful catalog reads found.0 found.3 in
    let lawful = loaded_register found.0 (key_read key_name (catalog_read catalog reads).rest).rest found.2 of_catalog found.5 in
    let whole = key_whole key_name (catalog_read catalog reads).rest found.1 found.4 in
    let whole_house : (house_read catalog key_name reads).given ≡ Ok (keyed found.2 found.1)
    = both_give (catalog_read catalog) (λ house. key_read key_name >>= (λ bytes. loaded house >>= (λ given. done (keyed given bytes)))) reads found.0 (keyed found.2 found.1) found.3
    (both_give (key_read key_name) (λ bytes. loaded found.0 >>= (λ given. done (keyed given bytes))) (catalog_read catalog reads).rest found.1 (keyed found.2 found.1) found.4
    (both_give (loaded found.0) (λ given. done (keyed given found.1)) (key_read key_name (catalog_read catalog reads).rest).rest found.2 (keyed found.2 found.1) found.5 refl)) in
    subst (λ (l : Loading). IsHouseRead catalog key_name reads l key) its.0
    (subst (λ (k : List ℕ). IsHouseRead catalog key_name reads found.2 k) its.1
    (record { is_read = whole_house; lawful = record { lawful = lawful.1; whole_key = whole } }))

-- what ended as some work was given as it
given_work : (given : Result Work (List ℕ)) (work : Work) → ((name : List ℕ) → refused name ≡ work → ⊥) → ended given ≡ work → given ≡ Ok work
given_work (Ok ending) work other is = ap Ok is
given_work (Err name) work other is = absurd (other name is)

-- a house is loaded by a `run`, a `serve`, an `init` or an `audit` alone
run_asked : (command : Option Command) (workers : ℕ) (loading : Loading) (key : List ℕ) → ComesTo command (to_answer workers loading key)
    → (catalog : List ℕ) × (name : List ℕ) × (command ≡ Some (run catalog name workers))
run_asked command workers loading key (answers {catalog = catalog} {name = name}) = (catalog, name, refl)

init_asked : (command : Option Command) (loading : Loading) (key : List ℕ) → ComesTo command (to_make loading key) → (catalog : List ℕ) × (name : List ℕ) × (command ≡ Some (init catalog name))
init_asked command loading key (makes {catalog = catalog} {name = name}) = (catalog, name, refl)

audit_asked : (command : Option Command) (loading : Loading) (key : List ℕ) → ComesTo command (to_count loading key) → (catalog : List ℕ) × (name : List ℕ) × (command ≡ Some (audit catalog name))
audit_asked command loading key (counts {catalog = catalog} {name = name}) = (catalog, name, refl)

pub house_by : (words : List (List ℕ)) (reads : ReadsToCome) (workers : ℕ) (loading : Loading) (key : List ℕ) → work_of words reads ≡ to_answer workers loading key → IsHouseOf words reads workers loading key
house_by words reads workers loading key is =
    let asked = run_asked (command_of words) workers loading key (subst (ComesTo (command_of words)) is (work_comes words reads)) in
    let house = house_of_work (to_answer workers) asked.0 asked.1 reads loading key (λ other bytes same. (cc (same), cc (same)))
    (given_work (run_steps asked.0 asked.1 workers reads).given (to_answer workers loading key) (λ name wrong. cc) (sym (work_by words reads _ asked.2) ∙ is)) in
    record { catalog = asked.0; key_name = asked.1; commanded = asked.2; is_read = house.is_read; lawful = house.lawful }

serve_asked : (command : Option Command) (workers each : ℕ) (loading : Loading) (key : List ℕ) → ComesTo command (to_serve workers each loading key)
    → (catalog : List ℕ) × (name : List ℕ) × (address : List ℕ) × (port : ℕ) × (command ≡ Some (serve catalog name address port workers each))
serve_asked command workers each loading key (serves {catalog = catalog} {name = name} {address = address} {port = port}) = (catalog, name, address, port, refl)

pub house_served_by : (words : List (List ℕ)) (reads : ReadsToCome) (workers each : ℕ) (loading : Loading) (key : List ℕ) → work_of words reads ≡ to_serve workers each loading key
    → IsHouseServed words reads workers each loading key
house_served_by words reads workers each loading key is =
    let asked = serve_asked (command_of words) workers each loading key (subst (ComesTo (command_of words)) is (work_comes words reads)) in
    let house = house_of_work (to_serve workers each) asked.0 asked.1 reads loading key (λ other bytes same. (cc (same), cc (same)))
    (given_work (serve_steps asked.0 asked.1 workers each reads).given (to_serve workers each loading key) (λ name wrong. cc) (sym (work_by words reads _ asked.4) ∙ is)) in
    record { catalog = asked.0; key_name = asked.1; address = asked.2; port = asked.3; commanded = asked.4; is_read = house.is_read; lawful = house.lawful }

pub made_lawful : (words : List (List ℕ)) (reads : ReadsToCome) (loading : Loading) (key : List ℕ) → work_of words reads ≡ to_make loading key → IsKeyedHouse (keyed loading key)
made_lawful words reads loading key is =
    let asked = init_asked (command_of words) loading key (subst (ComesTo (command_of words)) is (work_comes words reads)) in
    (house_of_work to_make asked.0 asked.1 reads loading key (λ other bytes same. (cc (same), cc (same)))
    (given_work (init_steps asked.0 asked.1 reads).given (to_make loading key) (λ name wrong. cc) (sym (work_by words reads _ asked.2) ∙ is))).lawful

pub counted_lawful : (words : List (List ℕ)) (reads : ReadsToCome) (loading : Loading) (key : List ℕ) → work_of words reads ≡ to_count loading key → IsKeyedHouse (keyed loading key)
counted_lawful words reads loading key is =
    let asked = audit_asked (command_of words) loading key (subst (ComesTo (command_of words)) is (work_comes words reads)) in
    (house_of_work to_count asked.0 asked.1 reads loading key (λ other bytes same. (cc (same), cc (same)))
    (given_work (audit_steps asked.0 asked.1 reads).given (to_count loading key) (λ name wrong. cc) (sym (work_by words reads _ asked.2) ∙ is))).lawful

-- ---- what a grant is made on

grant_asked : (command : Option Command) (amount : ℕ) (one : KeyedOwner) → ComesTo command (to_grant amount one)
    → (catalog : List ℕ) × (key : List ℕ) × (owner : List ℕ) × (command ≡ Some (grant catalog key owner amount))
grant_asked command amount one (grants {catalog = catalog} {key = key} {owner = owner}) = (catalog, key, owner, refl)

-- What the steps to one owner gave: the catalog, the owner's number, the key and its tables, each read behind the one before.
pub record IsOwnerRead (catalog key_name owner : List ℕ) (reads : ReadsToCome) (one : KeyedOwner) : Type 0 where
  pub tables : LoadedOwner
  pub is_catalog : (catalog_read catalog reads).given ≡ Ok one.catalog
  pub is_number : number_named one.catalog owner ≡ Ok one.number
  pub is_key : (key_read key_name (catalog_read catalog reads).rest).given ≡ Ok one.key
  pub are_tables : (owner_read (owner_entry_at one.catalog one.number) (key_read key_name (catalog_read catalog reads).rest).rest).given ≡ Ok tables
  pub hashes : one.hashes ≡ tables.hashes

pub owner_gives : {A : Type 0} (work : KeyedOwner → A) (catalog key owner : List ℕ) (reads : ReadsToCome) (a : A) → (with_owner work catalog key owner reads).given ≡ Ok a
    → (one : KeyedOwner) × IsOwnerRead catalog key owner reads one × (work one ≡ a)
owner_gives work catalog key owner reads a is =
    let read = (catalog_read catalog reads).rest in
    let house = inverted (catalog_read catalog) _ reads a is in
    let number = inverted (from (number_named house.0 owner)) _ read a house.2 in
    let bytes = inverted (key_read key) _ read a number.2 in
    let tables = inverted (owner_read (owner_entry_at house.0 number.0))
    (λ loaded. done (work (record { catalog = house.0; number = number.0; hashes = loaded.hashes; key = bytes.0 }))) (key_read key read).rest a bytes.2 in
    let same : work (record { catalog = house.0; number = number.0; hashes = tables.0.hashes; key = bytes.0 }) ≡ a = cc in (
      record { catalog = house.0; number = number.0; hashes = tables.0.hashes; key = bytes.0 },
      record { tables = tables.0; is_catalog = house.1; is_number = number.1; is_key = bytes.1; are_tables = tables.1; hashes = refl },
      same,
    )

-- an owner that was found by its name is of the catalog
pub number_known : (catalog : Catalog) (name : List ℕ) (number : ℕ) → number_named catalog name ≡ Ok number → number < length catalog.owners
number_known catalog name number is = here (position (λ (owner : OwnerEntry). bytes_eq name owner.name) catalog.owners) refl is
  where
    here : (place : Option ℕ) → position (λ (owner : OwnerEntry). bytes_eq name owner.name) catalog.owners ≡ place → ok_or place name ≡ Ok number → number < length catalog.owners
    here (Some o) was is = let same : o ≡ number = cc (is) in subst (λ (n : ℕ). n < length catalog.owners) same (owner_found catalog name o was).within
    here None was is = cc (is)

owner_lawful : (catalog key owner : List ℕ) (reads : ReadsToCome) (one : KeyedOwner) → IsOwnerRead catalog key owner reads one → IsKeyedOwner one
owner_lawful catalog key owner reads one read =
    let lawful = catalog_lawful catalog reads one.catalog read.is_catalog in
    let known = number_known one.catalog owner one.number read.is_number in
    let behind = (catalog_read catalog reads).rest in
    record {
      catalog = lawful;
      known = known;
      hashed = ap length read.hashes
          ∙ (owner_loaded_for (owner_entry_at one.catalog one.number) (key_read key behind).rest read.tables (lawful.owners one.number _ known) read.are_tables).hashed;
      whole_key = key_whole key behind one.key read.is_key;
    }

-- the words are a grant's, and its owner was read for them
pub record IsGrantRead (words : List (List ℕ)) (reads : ReadsToCome) (amount : ℕ) (one : KeyedOwner) : Type 0 where
  pub catalog : List ℕ
  pub key_name : List ℕ
  pub owner : List ℕ
  pub commanded : command_of words ≡ Some (grant catalog key_name owner amount)
  pub is_read : IsOwnerRead catalog key_name owner reads one

pub owner_by : (words : List (List ℕ)) (reads : ReadsToCome) (amount : ℕ) (one : KeyedOwner) → work_of words reads ≡ to_grant amount one → IsGrantRead words reads amount one
owner_by words reads amount one is =
    let asked = grant_asked (command_of words) amount one (subst (ComesTo (command_of words)) is (work_comes words reads)) in
    let given = given_work (grant_steps asked.0 asked.1 asked.2 amount reads).given (to_grant amount one) (λ name wrong. cc (wrong)) (sym (work_by words reads _ asked.3) ∙ is) in
    let found = owner_gives (to_grant amount) asked.0 asked.1 asked.2 reads (to_grant amount one) given in
    let same : found.0 ≡ one = cc (found.2) in
    record {
      catalog = asked.0;
      key_name = asked.1;
      owner = asked.2;
      commanded = asked.3;
      is_read = subst (IsOwnerRead asked.0 asked.1 asked.2 reads) same found.1;
    }

pub granted_lawful : WhatIsGrantedIsLawful
granted_lawful words reads amount one is =
    let read = owner_by words reads amount one is in
    let range = in_range words (grant read.catalog read.key_name read.owner amount) read.commanded in
    (owner_lawful read.catalog read.key_name read.owner reads one read.is_read, record { least = range.0; most = range.1 })
