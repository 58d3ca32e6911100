-- sessions that were held over passes, and what became of the owners' disks
use Rattle.std.proofs.Common.{◌≡◌, ℕ, ◌≤◌, List, length, Option, refl, sym, ◌∙◌, ap, subst}
use Rattle.std.specs.Prelude.{Err, IsErrAnd, Vec}
use Rattle.std.specs.declared.alloc.Global.{Global}
use mathlib.Core.Logic.{inl, inr}
use Rattle.word_streams.specs.Draws.{draws_of}
use Rattle.budget_ledger.specs.Account.{Account}
use Rattle.owner_desk.specs.Passes.{Pass}
use Rattle.owner_house.specs.House.{House, Register, house_of, owner_at}
use Rattle.generated_run.specs.SessionCore.Code.{found_by, pass_at}
use Rattle.service_workers.proofs.Together.{together}
use Rattle.service_workers.specs.Services.{Door, IsService}
use Rattle.service_workers.specs.declared.posting.Service.{Service}
use Rattle.service_workers.specs.declared.posting.Service.TheVariants.{Served, DoorFault, NoMemory}
use Rattle.catalog_loading.specs.Files.{Contents}
use Rattle.catalog_loading.specs.Steps.{FileStep}
use Rattle.catalog_loading.specs.Loaded.{IsLoading, KeyedHouse, Loading, header_of, entry_at, in_versions, keyed, owners_in}
use Rattle.catalog_loading.proofs.Reached.{IsDone, any_reads}
use Rattle.query_server.specs.Work.{Work, ended, to_serve}
use Rattle.query_server.specs.Due.{ForContents}
use Rattle.owner_books.specs.Shelves.{Shelf, EachDisk, IsOnlySynced}
use Rattle.owner_books.specs.Opened.{house_in}
use Rattle.owner_catalog.specs.Limits.{owner_limit}
use Rattle.query_server.specs.Outside.{DoorsStay, SomeDoorRose}
use Rattle.query_server.specs.Serve.{WereHeld}
use Rattle.query_server.specs.Service.{IsServedEnd, IsServiceAt, IsServiceEnd, IsServiceOn, IsServiceOver}
use Rattle.owner_books.specs.Books.{ArePassesOn, ArePutBack, IsOpenStop, shown_by}
use Rattle.query_server.specs.Ends.{Ended, IsEndOf, status_at, stop_status, text_at}
use Rattle.catalog_loading.specs.declared.stops.Stop.{Stop}
use Rattle.catalog_loading.specs.declared.stops.Stop.TheVariants as stopped
use Rattle.query_server.specs.declared.end.Status.TheVariants as code
use Rattle.query_server.proofs.Contents.{any_left, at_some}
use Rattle.owner_books.proofs.Disks.{nothing_same, nothing_written}
use Rattle.query_server.proofs.Doors.{doors_same, service_rose, service_stays}
use Rattle.query_server.proofs.Ends.{end_passed}
use Rattle.query_server.proofs.Ran.{all_opened, books_closed, closings_of, open_ends, opened_fresh, owner_went, records_of, there, unserved_back}

-- a stop isn't all done
pub stop_undone : (stop : Stop) → stop_status stop ≡ code.Done → ⊥
stop_undone stopped.Usage is = cc is
stop_undone (stopped.Refused name) is = cc is
stop_undone (stopped.Journal line) is = cc is
stop_undone (stopped.Disk line) is = cc is
stop_undone stopped.Fault is = cc is
stop_undone stopped.NoMemory is = cc is

pub passed_undone : (stop : Stop) (result : Ended) → IsErrAnd result (λ e. e ≡ stop) → status_at result ≡ code.Done → ⊥
passed_undone stop result passed done = stop_undone stop (sym (ap status_at (end_passed stop result passed)) ∙ done)

-- how a service ended over a house and a key, by the names that they have elsewhere
pub served_in : (register other : Register) (bytes key : List ℕ) (workers each : ℕ) (before after : List Door) (old new : List Pass) (result : Ended) → register ≡ other → bytes ≡ key
    → IsServiceEnd (house_of register) (draws_of bytes) workers each before after old new result → IsServiceEnd (house_of other) (draws_of key) workers each before after old new result
served_in register other bytes key workers each before after old new result same is served =
    subst (λ (r : Register). IsServiceEnd (house_of r) (draws_of key) workers each before after old new result) same
    (subst (λ (k : List ℕ). IsServiceEnd (house_of register) (draws_of k) workers each before after old new result) is served)

-- a service, by the draws and the end as they are called elsewhere
pub service_as : (house : House) (given draws : ℕ → ℕ → ℕ → ℕ) (workers each : ℕ) (end other : Service) (before after : List Door) (old new : List Pass) → given ≡ draws → end ≡ other
    → IsService house given workers each end before after old new → IsService house draws workers each other before after old new
service_as house given draws workers each end other before after old new drawn same service =
    subst (λ (d : ℕ → ℕ → ℕ → ℕ). IsService house d workers each other before after old new) drawn
    (subst (λ (e : Service). IsService house given workers each e before after old new) same service)

-- doors that are as they were show so
pub same_doors : {A B : Type 0} {x y : A} (seen : A → B) → x ≡ y → seen x ≡ seen y
same_doors seen is = ap seen is

-- a service names no disk at its end
pub served_no_disk : {A : Type 0} (house : House) (draws : ℕ → ℕ → ℕ → ℕ) (workers each : ℕ) (before after : List Door) (old new : List Pass) (result : Ended) (line : Vec ℕ Global)
    → IsServiceEnd house draws workers each before after old new result → result ≡ Err (stopped.Disk line) → A
served_no_disk house draws workers each before after old new result line (inl (Served, service, (lines, ended, none))) is = absurd (cc (ended, is))
served_no_disk house draws workers each before after old new result line (inl (DoorFault, service, ended)) is = absurd (cc (ended, is))
served_no_disk house draws workers each before after old new result line (inl (NoMemory, service, ended)) is = absurd (cc (ended, is))
served_no_disk house draws workers each before after old new result line (inr (ended, none, same)) is = absurd (cc (ended, is))

-- at Fault a door's count rose
pub served_rose : (house : House) (draws : ℕ → ℕ → ℕ → ℕ) (workers each : ℕ) (before after : List Door) (old new : List Pass) (result : Ended) → workers ≤ length before
    → IsServiceEnd house draws workers each before after old new result → result ≡ Err stopped.Fault → SomeDoorRose before after
served_rose house draws workers each before after old new result few (inl (Served, service, (lines, ended, none))) is = absurd (cc (ended, is))
served_rose house draws workers each before after old new result few (inl (DoorFault, service, ended)) is = service_rose house draws workers each before after old new few service
served_rose house draws workers each before after old new result few (inl (NoMemory, service, ended)) is = absurd (cc (ended, is))
served_rose house draws workers each before after old new result few (inr (ended, none, same)) is = absurd (cc (ended, is))

-- no count of a door's falls
pub on_stays : (loading : Loading) (key : List ℕ) (workers each : ℕ) (old new : Shelf) (before after : List Door) (result : Ended)
    → IsServiceOn loading key workers each old new before after result → DoorsStay before after
on_stays loading key workers each old new before after result (inl (service, over, ended)) =
    service_stays (house_in loading over.versions) (draws_of key) workers each service before after over.first over.last over.service
on_stays loading key workers each old new before after result (inr (undone, unserved)) = doors_same before after unserved.1

-- what words come to
pub on_work : (held : Option Contents) (left : Option (List ℕ)) (old new : List (List ℕ)) (steps : FileStep Work) (loading : Loading) (key : List ℕ) (workers each : ℕ) (b a : Shelf) (before after : List Door)
    (result : Ended) → IsDone held old new steps (to_serve workers each loading key) → IsServiceOn loading key workers each b a before after result
    → ForContents held left (λ reads script. IsServiceAt (ended (steps reads).given) b a before after result)
on_work held left old new steps loading key workers each b a before after result is on =
    let some = any_reads held in
    let one = is some.0 some.1 in
    let script = any_left left in
    (one.0, script.0, one.1, script.1, here (ended (steps one.0).given) (ap ended one.2.given) on)
  where
    here : (work : Work) → work ≡ to_serve workers each loading key → IsServiceOn loading key workers each b a before after result → IsServiceAt work b a before after result
    here work same (inl (service, over, end)) = inl (workers, each, loading, key, service, same, over, end)
    here work same (inr unserved) = inr unserved

-- nothing was read or served
pub unserved_work : (held : Option Contents) (left : Option (List ℕ)) (steps : FileStep Work) (shelf : Shelf) (doors : List Door) (result : Ended) → (status_at result ≡ code.Done → ⊥)
    → ForContents held left (λ reads script. IsServiceAt (ended (steps reads).given) shelf shelf doors doors result)
unserved_work held left steps shelf doors result undone =
    at_some held left (λ reads script. IsServiceAt (ended (steps reads).given) shelf shelf doors doors result) (λ reads script. inr (undone, (nothing_same shelf, refl)))

module _ (loading : Loading) (key : List ℕ) (versions : List ℕ) (counted : length versions ≡ owner_limit) (lawful : IsLoading (in_versions loading versions)) (workers each : ℕ) where
  abbrev house_found : Loading
  house_found = in_versions loading versions

  served_over : (old mid new : Shelf) (passes after : List Pass) (books : ℕ → Account) (doors now : List Door) (end : Service)
      → ArePassesOn (entry_at house_found) (header_of house_found key) (owners_in loading) old mid passes → IsService (house_of house_found.register) (draws_of key) workers each end doors now passes after
      → ArePutBack (owners_in loading) after books mid new → IsServiceOver loading key workers each old new doors now end
  served_over old mid new passes after books doors now end on s back =
      let house = house_of house_found.register in
      let fresh = opened_fresh house_found key lawful old mid passes on in
      let closes = books_closed house_found key lawful mid new after books back in
      let records = records_of house_found key lawful books in
      let closed = closings_of house_found key lawful books in
      record {
        versions = versions;
        found = found_by passes;
        opened = all_opened loading key versions counted lawful old mid new passes after books on
            (λ o within. (s.held.owners o (owner_at house o) (there house_found key lawful o within)).0.opened) back;
        first = passes;
        last = after;
        service = s;
        over = record {
          fresh = fresh;
          begun = λ o. refl;
          records = records;
          closed = closed;
          closes = closes;
          gathered = λ o owner at. (together house (draws_of key) workers s.sittings s.lasts passes after records closed fresh s.held closes o owner at).0;
          shut = λ o owner at. (together house (draws_of key) workers s.sittings s.lasts passes after records closed fresh s.held closes o owner at).1;
          disks = record {
            owned = λ o before within at. (
              shown_by (books o),
              back.each o within,
              owner_went house_found key lawful o old before (pass_at passes o) (pass_at after o) (books o) at (on.each o within)
                  (s.held.owners o (owner_at house o) (there house_found key lawful o within)).0.opened (back.gave o within),
            );
            others = λ o past. back.others o past ∙ on.others o past;
          };
        };
      }

  held_over : (old new : Shelf) (doors now : List Door) (end : Service) → (over : IsServiceOver loading key workers each old new doors now end)
      → WereHeld (in_versions loading over.versions) key workers old new over.found
  held_over old new doors now end over = record {
    before = over.first;
    after = over.last;
    sittings = over.service.sittings;
    lasts = over.service.lasts;
    held = over.service.held;
    over = over.over;
  }

  over_ends : (old new : Shelf) (doors now : List Door) (end : Service) (script : List ℕ) (result : Ended) → IsServiceOver loading key workers each old new doors now end → IsServedEnd end result
      → IsEndOf (to_serve workers each loading key) old new script result
  over_ends old new doors now Served script result over (lines, is, none) =
      inl (inr (over.versions, over.found, over.opened, ap status_at is, ap text_at is ∙ none, held_over old new doors now Served over))
  over_ends old new doors now DoorFault script result over is = inr (inl is, inr (over.versions, over.found, over.opened, held_over old new doors now DoorFault over))
  over_ends old new doors now NoMemory script result over is = inr (inr (inl is), inr (over.versions, over.found, over.opened, held_over old new doors now NoMemory over))

  -- How a service ends, once the disks are put back.
  pub service_on : (old mid new : Shelf) (passes after : List Pass) (books : ℕ → Account) (doors now : List Door) (result : Ended)
      → ArePassesOn (entry_at house_found) (header_of house_found key) (owners_in loading) old mid passes → IsServiceEnd (house_of house_found.register) (draws_of key) workers each doors now passes after result
      → ArePutBack (owners_in loading) after books mid new → IsServiceOn loading key workers each old new doors now result
  service_on old mid new passes after books doors now result on (inl (end, s, is)) back = inl (end, served_over old mid new passes after books doors now end on s back, is)
  service_on old mid new passes after books doors now result on (inr (is, none, same)) back =
      inr (λ done. cc (done, ap status_at is), (nothing_written (owners_in loading) old new (unserved_back house_found key lawful old mid new passes after books on none back), same))

  pub service_ends : (old mid new : Shelf) (passes after : List Pass) (books : ℕ → Account) (doors now : List Door) (script : List ℕ) (result : Ended)
      → ArePassesOn (entry_at house_found) (header_of house_found key) (owners_in loading) old mid passes → IsServiceEnd (house_of house_found.register) (draws_of key) workers each doors now passes after result
      → ArePutBack (owners_in loading) after books mid new → IsEndOf (to_serve workers each loading key) old new script result
  service_ends old mid new passes after books doors now script result on (inl (end, s, is)) back =
      over_ends old new doors now end script result (served_over old mid new passes after books doors now end on s back) is
  service_ends old mid new passes after books doors now script result on (inr (is, none, same)) back =
      inr (inr (inl is), inl (unserved_back house_found key lawful old mid new passes after books on none back))

  -- the same by the names that the house has where it was opened
  pub on_over : (opened : KeyedHouse) → opened ≡ keyed house_found key → (old mid new : Shelf) (passes after : List Pass) (books : ℕ → Account) (doors now : List Door) (result : Ended)
      → ArePassesOn (entry_at opened.loading) (header_of opened.loading opened.key) (owners_in opened.loading) old mid passes
      → IsServiceEnd (house_of opened.loading.register) (draws_of opened.key) workers each doors now passes after result → ArePutBack (owners_in opened.loading) after books mid new
      → IsServiceOn loading key workers each old new doors now result
  on_over opened is old mid new passes after books doors now result =
      subst (λ (h : KeyedHouse). ArePassesOn (entry_at h.loading) (header_of h.loading h.key) (owners_in h.loading) old mid passes
      → IsServiceEnd (house_of h.loading.register) (draws_of h.key) workers each doors now passes after result → ArePutBack (owners_in h.loading) after books mid new
      → IsServiceOn loading key workers each old new doors now result) (sym is) (service_on old mid new passes after books doors now result)

  pub ends_over : (opened : KeyedHouse) → opened ≡ keyed house_found key → (old mid new : Shelf) (passes after : List Pass) (books : ℕ → Account) (doors now : List Door) (script : List ℕ) (result : Ended)
      → ArePassesOn (entry_at opened.loading) (header_of opened.loading opened.key) (owners_in opened.loading) old mid passes
      → IsServiceEnd (house_of opened.loading.register) (draws_of opened.key) workers each doors now passes after result → ArePutBack (owners_in opened.loading) after books mid new
      → IsEndOf (to_serve workers each loading key) old new script result
  ends_over opened is old mid new passes after books doors now script result =
      subst (λ (h : KeyedHouse). ArePassesOn (entry_at h.loading) (header_of h.loading h.key) (owners_in h.loading) old mid passes
      → IsServiceEnd (house_of h.loading.register) (draws_of h.key) workers each doors now passes after result → ArePutBack (owners_in h.loading) after books mid new
      → IsEndOf (to_serve workers each loading key) old new script result) (sym is) (service_ends old mid new passes after books doors now script result)

module _ (loading : Loading) (key : List ℕ) (workers each : ℕ) where
  -- the books weren't opened
  pub unopened_ends : (old new : Shelf) (script : List ℕ) (stop : Stop) (result : Ended) → IsOpenStop loading key old new stop → EachDisk (owners_in loading) (λ _. IsOnlySynced) old new → IsErrAnd result (λ e. e ≡ stop)
      → IsEndOf (to_serve workers each loading key) old new script result
  unopened_ends old new script stop result is disks passed =
      subst (IsEndOf (to_serve workers each loading key) old new script) (sym (end_passed stop result passed))
      (open_ends (to_serve workers each loading key) loading key old new script stop (λ text. inl) (λ text named. named) (inl disks) is disks)

  pub unopened_on : (old new : Shelf) (doors : List Door) (stop : Stop) (result : Ended) → EachDisk (owners_in loading) (λ _. IsOnlySynced) old new → IsErrAnd result (λ e. e ≡ stop)
      → IsServiceOn loading key workers each old new doors doors result
  unopened_on old new doors stop result disks passed = inr (passed_undone stop result passed, (nothing_written (owners_in loading) old new disks, refl))

  -- and no door failed
  pub unopened_faultless : {A : Type 0} (old new : Shelf) (stop : Stop) → IsOpenStop loading key old new stop → stop ≡ stopped.Fault → A
  unopened_faultless old new (stopped.Journal line) is fault = absurd (cc fault)
  unopened_faultless old new (stopped.Disk line) is fault = absurd (cc fault)
  unopened_faultless old new stopped.NoMemory is fault = absurd (cc fault)
  unopened_faultless old new stop is fault = absurd is
