-- what is done with a house changes nothing of how it is read
use Rattle.std.proofs.Common.{◌≡◌, ℕ, List, ◌++◌, Option, refl, sym, ◌∙◌, ap, subst}
use Rattle.std.specs.Prelude.{Result, Ok, Err}
use Rattle.owner_catalog.specs.Entries.{owner_entry_at}
use Rattle.catalog_loading.specs.Files.{Contents, ReadsToCome}
use Rattle.catalog_loading.specs.Steps.{StepOutcome, FileStep, ◌>>=◌, behind, continued, done, from}
use Rattle.catalog_loading.specs.Loaded.{KeyedHouse, KeyedOwner, Loading, catalog_read, house_read, key_read, keyed, keyed_owner_read, loaded, number_named, owner_read, with_house, with_owner}
use Rattle.catalog_loading.specs.Given.{IsStopAt}
use Rattle.catalog_loading.specs.declared.stops.Stop.{Stop}
use Rattle.catalog_loading.specs.declared.stops.Stop.TheVariants.{Usage, Refused, Journal, Disk, Fault, NoMemory}
use Rattle.catalog_loading.proofs.Reached.{IsDone, IsStopped}

abbrev with_value : {A B : Type 0} → (A → B) → Result A (List ℕ) → Result B (List ℕ)
with_value f (Ok a) = Ok (f a)
with_value f (Err name) = Err name

-- an outcome with another value
abbrev valued : {A B : Type 0} → (A → B) → StepOutcome A → StepOutcome B
valued f o = record { given = with_value f o.given; names = o.names; rest = o.rest }

then_valued : {A B C : Type 0} (f : B → C) (step : FileStep A) (next : A → FileStep B) (other : A → FileStep C) → ((a : A) (reads : ReadsToCome) → other a reads ≡ valued f (next a reads))
    → (reads : ReadsToCome) → (step >>= other) reads ≡ valued f ((step >>= next) reads)
unfolding ◌>>=◌
then_valued {A} f step next other same reads = here (step reads).given
  where
    here : (given : Result A (List ℕ)) → continued given (step reads).names (step reads).rest other ≡ valued f (continued given (step reads).names (step reads).rest next)
    here (Ok a) = ap (behind (step reads).names) (same a (step reads).rest)
    here (Err name) = refl

house_valued : {A : Type 0} (work : Loading → List ℕ → A) (catalog key : List ℕ) (reads : ReadsToCome)
    → with_house work catalog key reads ≡ valued (λ (h : KeyedHouse). work h.loading h.key) (house_read catalog key reads)
house_valued {A} work catalog key reads =
    let f : KeyedHouse → A = λ h. work h.loading h.key in
    then_valued f (catalog_read catalog) (λ house. key_read key >>= (λ bytes. loaded house >>= (λ loading. done (keyed loading bytes))))
    (λ house. key_read key >>= (λ bytes. loaded house >>= (λ loading. done (work loading bytes))))
    (λ house. then_valued f (key_read key) (λ bytes. loaded house >>= (λ loading. done (keyed loading bytes))) (λ bytes. loaded house >>= (λ loading. done (work loading bytes)))
    (λ bytes. then_valued f (loaded house) (λ loading. done (keyed loading bytes)) (λ loading. done (work loading bytes)) (λ loading rest. refl))) reads

-- what was read of a house is what is read for any work
pub house_done : {A : Type 0} (held : Option Contents) (old new : List (List ℕ)) (work : Loading → List ℕ → A) (catalog key : List ℕ) (house : KeyedHouse)
    → IsDone held old new (house_read catalog key) house → IsDone held old new (with_house work catalog key) (work house.loading house.key)
house_done {A} held old new work catalog key house is = λ rest told.
    let one = is rest told in
    let f : KeyedHouse → A = λ h. work h.loading h.key in
    let same = house_valued work catalog key one.0 in (
      one.0,
      one.1,
      record {
        given = ap (λ (o : StepOutcome A). o.given) same ∙ ap (with_value f) one.2.given;
        rests = ap (λ (o : StepOutcome A). o.rest) same ∙ one.2.rests;
        names = one.2.names ∙ ap (λ (o : StepOutcome A). old ++ o.names) (sym same);
      },
    )

valued_stop : {A B : Type 0} (f : A → B) (o : StepOutcome A) (old new : List (List ℕ)) (stop : Stop) → IsStopAt o old new stop → IsStopAt (valued f o) old new stop
valued_stop f o old new Usage is = is
valued_stop f o old new (Refused name) is = (ap (with_value f) is.0, is.1)
valued_stop f o old new (Journal line) is = is
valued_stop f o old new (Disk line) is = is
valued_stop f o old new Fault is = is
valued_stop f o old new NoMemory is = is

-- and what stopped it stops any work
pub house_stopped : {A : Type 0} (held : Option Contents) (old new : List (List ℕ)) (work : Loading → List ℕ → A) (catalog key : List ℕ) (stop : Stop)
    → IsStopped held old new (house_read catalog key) stop → IsStopped held old new (with_house work catalog key) stop
house_stopped {A} held old new work catalog key stop is = λ rest told.
    let one = is rest told in
    let f : KeyedHouse → A = λ h. work h.loading h.key in (
      one.0,
      one.1,
      subst (λ (o : StepOutcome A). IsStopAt o old new stop) (sym (house_valued work catalog key one.0)) (valued_stop f (house_read catalog key one.0) old new stop one.2),
    )

-- ---- the same of one owner

owner_valued : {A : Type 0} (work : KeyedOwner → A) (catalog key owner : List ℕ) (reads : ReadsToCome)
    → with_owner work catalog key owner reads ≡ valued work (keyed_owner_read catalog key owner reads)
owner_valued {A} work catalog key owner reads =
    then_valued work (catalog_read catalog) _ _
    (λ house. then_valued work (from (number_named house owner)) _ _
    (λ number. then_valued work (key_read key) _ _
    (λ bytes. then_valued work (owner_read (owner_entry_at house number))
    (λ loaded. done (record { catalog = house; number = number; hashes = loaded.hashes; key = bytes }))
    (λ loaded. done (work (record { catalog = house; number = number; hashes = loaded.hashes; key = bytes }))) (λ loaded rest. refl)))) reads

pub owner_done : {A : Type 0} (held : Option Contents) (old new : List (List ℕ)) (work : KeyedOwner → A) (catalog key owner : List ℕ) (one : KeyedOwner)
    → IsDone held old new (keyed_owner_read catalog key owner) one → IsDone held old new (with_owner work catalog key owner) (work one)
owner_done {A} held old new work catalog key owner one is = λ rest told.
    let read = is rest told in
    let same = owner_valued work catalog key owner read.0 in (
      read.0,
      read.1,
      record {
        given = ap (λ (o : StepOutcome A). o.given) same ∙ ap (with_value work) read.2.given;
        rests = ap (λ (o : StepOutcome A). o.rest) same ∙ read.2.rests;
        names = read.2.names ∙ ap (λ (o : StepOutcome A). old ++ o.names) (sym same);
      },
    )

pub owner_stopped : {A : Type 0} (held : Option Contents) (old new : List (List ℕ)) (work : KeyedOwner → A) (catalog key owner : List ℕ) (stop : Stop)
    → IsStopped held old new (keyed_owner_read catalog key owner) stop → IsStopped held old new (with_owner work catalog key owner) stop
owner_stopped {A} held old new work catalog key owner stop is = λ rest told.
    let read = is rest told in (
      read.0,
      read.1,
      subst (λ (o : StepOutcome A). IsStopAt o old new stop) (sym (owner_valued work catalog key owner read.0)) (valued_stop work (keyed_owner_read catalog key owner read.0) old new stop read.2),
    )
