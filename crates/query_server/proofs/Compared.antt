-- a `gap` is of two datasets of its tables
use Rattle.std.proofs.Common.{◌≡◌, ℕ, ◌<◌, Bool, true, false, cond, List, Option, Some, None, length, slice_get, refl, sym, ◌∙◌, ap, subst, bytes_eq}
use Rattle.std.specs.Prelude.{Result, Ok, Err, ok_or, option_and_then, position}
use Rattle.std.specs.Cmp.Lexicographic.{pointwise}
use Rattle.std.proofs.lemmas.List.Quantifiers.{position-Some}
use Rattle.std.proofs.lemmas.Option.{slice_get-get_or}
use Rattle.fz_ast.specs.Signature.{Signature, IsSignature}
use Rattle.metric_values.specs.Tables.{Dataset, IsDataset}
use Rattle.owner_catalog.specs.Catalog.{Catalog, IsCatalog, owner_signature}
use Rattle.owner_catalog.specs.Entries.{OwnerEntry, owner_entry_at}
use Rattle.part_views.specs.Holding.{Holding}
use Rattle.owner_house.specs.House.{IsHeldBy, Register}
use Rattle.owner_house.proofs.Signed.{signature_signed}
use Rattle.command_words.specs.Command.{Command, gap, command_of}
use Rattle.catalog_loading.specs.Files.{ReadsToCome}
use Rattle.catalog_loading.specs.Steps.{FileStep, ◌>>=◌, continued, done, file_read, from}
use Rattle.catalog_loading.specs.Loaded.{catalog_read, entry_named, holding_in, loaded, owner_loaded}
use Rattle.catalog_loading.specs.Fit.{fitting, if_fitting, same_table}
use Rattle.query_server.specs.Work.{Work, ended, refused, to_compare}
use Rattle.query_server.specs.Gap.{gap_steps}
use Rattle.query_server.specs.Laws.{GapsAreOfDatasets}
use Rattle.catalog_loading.proofs.Pairs.{inverted}
use Rattle.catalog_loading.proofs.Owners.{find_place}
use Rattle.catalog_loading.proofs.Fits.{same_signature}
use Rattle.catalog_loading.proofs.Loaded.{catalog_lawful, loaded_register}
use Rattle.query_server.proofs.Endings.{ComesTo, compares, work_by, work_comes}

-- What holds of a refused name, and of what the next steps come to with what a step gave, holds of both.
then_known : {A : Type 0} (P : Work → Type 0) → ((name : List ℕ) → P (refused name)) → (step : FileStep A) (next : A → FileStep Work) (reads : ReadsToCome)
    → ((a : A) → (step reads).given ≡ Ok a → P (ended (next a (step reads).rest).given)) → P (ended ((step >>= next) reads).given)
unfolding ◌>>=◌
then_known {A} P by_name step next reads by_work = here (step reads).given refl
  where
    here : (given : Result A (List ℕ)) → (step reads).given ≡ given → P (ended (continued given (step reads).names (step reads).rest next).given)
    here (Ok a) is = by_work a is
    here (Err name) is = by_name name

-- the number of an owner that has a holding
placed : (register : Register) (name : List ℕ) (holding : Holding) → holding_in register name ≡ Ok holding
    → (o : ℕ) × (position (λ (owner : OwnerEntry). bytes_eq name owner.name) register.catalog.owners ≡ Some o) × (slice_get register.holdings o ≡ Some holding)
placed register name holding is = here (position (λ (owner : OwnerEntry). bytes_eq name owner.name) register.catalog.owners) refl is
  where
    at : (o : ℕ) (found : Option Holding) → slice_get register.holdings o ≡ found → ok_or found name ≡ Ok holding → slice_get register.holdings o ≡ Some holding
    at o (Some other) was is = let same : other ≡ holding = cc in was ∙ ap Some same
    at o None was is = cc

    here : (place : Option ℕ) → position (λ (owner : OwnerEntry). bytes_eq name owner.name) register.catalog.owners ≡ place → ok_or (option_and_then (slice_get register.holdings) place) name ≡ Ok holding
        → (o : ℕ) × (position (λ (owner : OwnerEntry). bytes_eq name owner.name) register.catalog.owners ≡ Some o) × (slice_get register.holdings o ≡ Some holding)
    here (Some o) was is = (o, was, at o (slice_get register.holdings o) refl is)
    here None was is = cc

named_entry : (catalog : Catalog) (name : List ℕ) (o : ℕ) (entry : OwnerEntry) → position (λ (owner : OwnerEntry). bytes_eq name owner.name) catalog.owners ≡ Some o → entry_named catalog name ≡ Ok entry → owner_entry_at catalog o ≡ entry
named_entry catalog name o entry place is =
    here (ap (λ found. ok_or found name) (find_place (λ (owner : OwnerEntry). bytes_eq name owner.name) catalog.owners o _ place)) is
  where
    here : entry_named catalog name ≡ Ok (owner_entry_at catalog o) → entry_named catalog name ≡ Ok entry → owner_entry_at catalog o ≡ entry
    here at named = cc

-- an entry and what it holds, of a catalog that keeps the rules
record IsKnown (entry : OwnerEntry) (holding : Holding) : Type 0 where
  held : IsHeldBy entry holding
  signed : IsSignature (owner_signature entry)

known : (catalog : Catalog) (name : List ℕ) (reads : ReadsToCome) (entry : OwnerEntry) (holding : Holding) → IsCatalog catalog → entry_named catalog name ≡ Ok entry → (owner_loaded catalog name reads).given ≡ Ok holding → IsKnown entry holding
known catalog name reads entry holding lawful named is =
    let load = inverted (loaded catalog) (λ loading. from (holding_in loading.register name)) reads holding is in
    let loading = loaded_register catalog reads load.0 lawful load.1 in
    let place = placed load.0.register name holding load.2 in
    let at = subst (λ (c : Catalog). position (λ (owner : OwnerEntry). bytes_eq name owner.name) c.owners ≡ Some place.0) loading.0 place.1 in
    let within : place.0 < length catalog.owners = (position-Some (λ (owner : OwnerEntry). bytes_eq name owner.name) catalog.owners place.0 entry at).0 in
    let its : owner_entry_at catalog place.0 ≡ entry = named_entry catalog name place.0 entry at named in
    let there : slice_get load.0.register.catalog.owners place.0 ≡ Some (owner_entry_at catalog place.0) = ap (λ (c : Catalog). slice_get c.owners place.0) loading.0 ∙ slice_get-get_or catalog.owners place.0 _ within in
    subst (λ (e : OwnerEntry). IsKnown e holding) its (record {
      held = loading.1.register.holds place.0 (owner_entry_at catalog place.0) holding there place.2;
      signed = signature_signed (owner_entry_at catalog place.0) (lawful.owners place.0 _ within);
    })

fits_named : (entry : OwnerEntry) (catalog : Catalog) (name : List ℕ) (other : OwnerEntry) → fitting entry catalog name ≡ Ok other → entry_named catalog name ≡ Ok other
fits_named entry catalog name other is = here (entry_named catalog name) refl is
  where
    if_same : (found : OwnerEntry) (b : Bool) → cond b (Ok found) (Err name) ≡ Ok other → (given : Result OwnerEntry (List ℕ)) → given ≡ Ok found → given ≡ Ok other
    if_same found true same given is = is ∙ same
    if_same found false same given is = cc

    here : (found : Result OwnerEntry (List ℕ)) → entry_named catalog name ≡ found → if_fitting entry name found ≡ Ok other → entry_named catalog name ≡ Ok other
    here (Ok found) was is = if_same found (pointwise same_table entry.tables found.tables) is (entry_named catalog name) was
    here (Err wrong) was is = cc

-- what is said of an ending
abbrev IsOfDatasets : Work → Type 0
IsOfDatasets ending = (tables : Signature) (X Y : Dataset) (program : List ℕ) → ending ≡ to_compare tables X Y program → IsSignature tables × IsDataset tables X × IsDataset tables Y

both_known : (entry other : OwnerEntry) (first second : Holding) (bytes : List ℕ) → owner_signature other ≡ owner_signature entry → IsKnown entry first → IsKnown other second → IsOfDatasets (to_compare first.tables first.rows second.rows bytes)
both_known entry other first second bytes same one two tables X Y program is =
    let its : first.tables ≡ tables = cc in
    let rows : first.rows ≡ X = cc in
    let second_rows : second.rows ≡ Y = cc in
    let first_data : IsDataset first.tables first.rows = one.held.rows.dataset in
    let second_data : IsDataset second.tables second.rows = two.held.rows.dataset in
    let second_tables : second.tables ≡ first.tables = two.held.tables ∙ same ∙ sym one.held.tables in (
      subst IsSignature (sym one.held.tables ∙ its) one.signed,
      subst (λ (ts : Signature). IsDataset ts X) its (subst (λ (Z : Dataset). IsDataset first.tables Z) rows first_data),
      subst (λ (ts : Signature). IsDataset ts Y) its (subst (λ (Z : Dataset). IsDataset first.tables Z) second_rows (subst (λ (ts : Signature). IsDataset ts second.rows) second_tables second_data)),
    )

gap_known : (catalog owner second_catalog file : List ℕ) (reads : ReadsToCome) → IsOfDatasets (ended (gap_steps catalog owner second_catalog file reads).given)
gap_known catalog owner second_catalog file reads =
    let by_name : (name : List ℕ) → IsOfDatasets (refused name) = λ name tables X Y program is. cc in
    then_known IsOfDatasets by_name (catalog_read catalog) _ reads
    (λ house opened. then_known IsOfDatasets by_name (from (entry_named house owner)) _ _
    (λ entry named. then_known IsOfDatasets by_name (catalog_read second_catalog) _ _
    (λ second_house second_opened. then_known IsOfDatasets by_name (from (fitting entry second_house owner)) _ _
    (λ other fits. then_known IsOfDatasets by_name (owner_loaded house owner) _ _
    (λ holding loads. then_known IsOfDatasets by_name (owner_loaded second_house owner) _ _
    (λ second_holding second_loads. then_known IsOfDatasets by_name (file_read file) (λ program. done (to_compare holding.tables holding.rows second_holding.rows program)) _
    (λ program read. both_known entry other holding second_holding program (same_signature entry second_house owner other fits)
    (known house owner _ entry holding (catalog_lawful catalog _ house opened) named loads)
    (known second_house owner _ other second_holding (catalog_lawful second_catalog _ second_house second_opened) (fits_named entry second_house owner other fits) second_loads))))))))

-- two datasets are compared by a `gap` alone
gap_asked : (command : Option Command) (tables : Signature) (X Y : Dataset) (program : List ℕ) → ComesTo command (to_compare tables X Y program)
    → (catalog : List ℕ) × (owner : List ℕ) × (second_catalog : List ℕ) × (file : List ℕ) × (command ≡ Some (gap catalog owner second_catalog file))
gap_asked command tables X Y program (compares {catalog = catalog} {owner = owner} {second_catalog = second} {file = file}) = (catalog, owner, second, file, refl)

pub gaps_of_datasets : GapsAreOfDatasets
gaps_of_datasets words reads tables X Y program is =
    let asked = gap_asked (command_of words) tables X Y program (subst (ComesTo (command_of words)) is (work_comes words reads)) in
    gap_known asked.0 asked.1 asked.2 asked.3 reads tables X Y program (sym (work_by words reads _ asked.4) ∙ is)
