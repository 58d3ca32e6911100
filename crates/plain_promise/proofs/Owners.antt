-- what an answered script and a service were to each owner
use Rattle.std.proofs.Common.{◌≡◌, ℕ, ◌<◌, Bool, List, slice_get, Some, subst}
use Rattle.std.specs.Prelude.{IfSome, Option, option_and_then, option_map}
use Rattle.std.proofs.lemmas.Option.{slice_get_within}
use Rattle.word_streams.specs.Draws.{draws_of}
use Rattle.outside_disks.specs.Disks.{seen_of}
use Rattle.outside_disks.specs.Stored.{Stored}
use Rattle.budget_journal.specs.Journals.{Stands}
use Rattle.owner_house.specs.House.{IsOwnerIn, house_of}
use Rattle.owner_house.specs.Owner.{Owner}
use Rattle.owner_house.proofs.Owners.{in_catalog, register_owners}
use Rattle.catalog_loading.specs.Files.{ReadsToCome}
use Rattle.catalog_loading.specs.Loaded.{IsLoading, Loading, header_of, in_versions, owners_in}
use Rattle.owner_books.specs.Opened.{AreOpened, house_in}
use Rattle.owner_books.proofs.Versions.{lawful_in}
use Rattle.query_server.specs.Promise.{IsAnsweredScript}
use Rattle.query_server.specs.declared.end.Status.{Status}
use Rattle.successive_runs.specs.SessionCore.Transcript.{Journals}
use Rattle.successive_runs.specs.Service.{IsServiceDone}
use Rattle.successive_runs.specs.ServiceOver.{Door}
use Rattle.successive_runs.specs.Shelves.{Shelf}
use Rattle.successive_runs.proofs.Files.{disk, speaker}
use Rattle.served_sessions.specs.Services.{held_in}
use Rattle.served_sessions.proofs.Services.{disk as service_disk, speaker as service_speaker}
use Rattle.plain_promise.specs.Calls.{IsCall, file_on, script_call, service_call}

-- the journal that is opened is what the disk holds
opens : (loading : Loading) (key : List ℕ) (old new : Shelf) (versions : List ℕ) (found : Journals) (o : ℕ) (before : Stored) → AreOpened loading key old new versions found → o < owners_in loading → old o ≡ Some before
    → IfSome (file_on before) (Stands (header_of (in_versions loading versions) key o) (found o))
opens loading key old new versions found o before opened within was =
    let its = (opened.each o within).stands in
    subst (λ (shown : Option Stored). IfSome (option_map seen_of (option_and_then (λ (s : Stored). s.trace) shown)) (Stands (header_of (in_versions loading versions) key o) (found o))) was its

module _ (words : List (List ℕ)) (reads : ReadsToCome) (old new : Shelf) (script written : List ℕ) (a : IsAnsweredScript words reads old new script written) (o : ℕ) (owner : Owner)
    (here : slice_get (house_in a.loading a.versions).owners o ≡ Some owner) where
  abbrev lawful : IsLoading (in_versions a.loading a.versions)
  lawful = lawful_in a.loading a.versions a.house.lawful.lawful a.opened.counted

  inside : IsOwnerIn (house_in a.loading a.versions) owner
  inside = register_owners (in_versions a.loading a.versions).register lawful.register o owner here

  pub script_is_call : (before after : Stored) (sent : ℕ → Bool) → old o ≡ Some before → new o ≡ Some after
      → IsCall (draws_of a.key) o owner (header_of (in_versions a.loading a.versions) a.key o) (script_call words reads old new script written a o before after sent)
  script_is_call before after sent was is =
      let loading : Loading = in_versions a.loading a.versions in
      record {
        listed = here;
        lawful = inside;
        speakers = speaker loading a.key a.workers old new a.found script written lawful a.answered o owner before after here was is;
        gathered = a.answered.gathered.owners o owner here;
        shut = a.answered.shut o owner here;
        opens = opens a.loading a.key old new a.versions a.found o before a.opened (in_catalog loading.register lawful.register o (slice_get_within (house_of loading.register).owners o owner here)) was;
        went = disk loading a.key a.workers old new a.found script written lawful a.answered o owner before after here was is;
      }

module _ (words : List (List ℕ)) (reads : ReadsToCome) (old new : Shelf) (doors behind : List Door) (status : Status) (sink sunk : ℕ) (s : IsServiceDone words reads old new doors behind status sink sunk) (o : ℕ) (owner : Owner)
    (here : slice_get (house_in s.loading s.at.versions).owners o ≡ Some owner) where
  abbrev service_lawful : IsLoading (in_versions s.loading s.at.versions)
  service_lawful = lawful_in s.loading s.at.versions s.house.lawful.lawful s.at.opened.counted

  service_inside : IsOwnerIn (house_in s.loading s.at.versions) owner
  service_inside = register_owners (in_versions s.loading s.at.versions).register service_lawful.register o owner here

  pub service_is_call : (before after : Stored) (sent : ℕ → Bool) → old o ≡ Some before → new o ≡ Some after
      → IsCall (draws_of s.key) o owner (header_of (in_versions s.loading s.at.versions) s.key o) (service_call words reads old new doors behind status sink sunk s o before after sent)
  service_is_call before after sent was is =
      let loading : Loading = in_versions s.loading s.at.versions in
      let were = held_in s.loading s.key s.workers s.each old new doors behind s.end s.at in
      record {
        listed = here;
        lawful = service_inside;
        speakers = service_speaker loading s.key s.workers old new s.at.found service_lawful were o owner here;
        gathered = s.at.over.gathered o owner here;
        shut = s.at.over.shut o owner here;
        opens = opens s.loading s.key old new s.at.versions s.at.found o before s.at.opened (in_catalog loading.register service_lawful.register o (slice_get_within (house_of loading.register).owners o owner here)) was;
        went = service_disk loading s.key s.workers old new s.at.found service_lawful were o owner here before after was is;
      }
