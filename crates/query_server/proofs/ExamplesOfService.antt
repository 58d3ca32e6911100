-- worked examples of services and of generated runs
use Rattle.std.specs.Fmt.{digits}
use Rattle.std.proofs.Common.{◌≡◌, ℕ, ◌<◌, ◌≤◌, [], ◌∷◌, refl, subst, Some, None, arith, codes, pos}
use Rattle.std.specs.Prelude.{ℤ, negsuc}
use Rattle.fz_outside.specs.Faults.{HasRisen, last_count}
use Rattle.command_words.specs.Command.{gen, run, serve}
use Rattle.generated_run.specs.declared.counting.Tally.{Tally}
use Rattle.service_workers.specs.Services.{Door, door_at, door_of}
use Rattle.service_workers.specs.declared.posting.Service.TheVariants.{Served, DoorFault, NoMemory}
use Rattle.catalog_loading.specs.Loaded.{Loading}
use Rattle.query_server.specs.Work.{to_serve}
use Rattle.query_server.specs.Outside.{DoorsStay, SomeDoorRose}
use Rattle.query_server.specs.Due.{IsOfDisks, IsOfDoors, IsOfRun}
use Rattle.query_server.specs.Gen.{tally_text}
use Rattle.query_server.specs.Service.{service_status}
use Rattle.query_server.specs.Status.{status_code}
use Rattle.query_server.specs.Valid.{EndsWell}
use Rattle.query_server.specs.declared.end.Status.TheVariants as code

-- what a service takes: the owners' disks and the doors, and nothing of the source; a run takes no door, and a generated run nothing
service_takes_disks : IsOfDisks (Some (serve [] [] [] 1 1 1))
service_takes_disks = refl

service_takes_doors : IsOfDoors (Some (serve [] [] [] 1 1 1))
service_takes_doors = refl

service_leaves_source : IsOfRun (Some (serve [] [] [] 1 1 1)) → ⊥
service_leaves_source takes = cc takes

run_leaves_doors : IsOfDoors (Some (run [] [] 16)) → ⊥
run_leaves_doors takes = cc takes

generated_leaves_disks : IsOfDisks (Some (gen 0 1 1)) → ⊥
generated_leaves_disks takes = cc takes

generated_leaves_doors : IsOfDoors (Some (gen 0 1 1)) → ⊥
generated_leaves_doors takes = cc takes

-- how workers end, and the status of it
served : status_code (service_status Served) ≡ 0
served = refl

door_failed : status_code (service_status DoorFault) ≡ 5
door_failed = refl

had_no_memory : status_code (service_status NoMemory) ≡ 7
had_no_memory = refl

-- where nothing is in the way a service is done; the length of no script ends it
service_done : (loading : Loading) → EndsWell (to_serve 1 1 loading []) code.Done
service_done loading = refl

no_script : (loading : Loading) → EndsWell (to_serve 1 1 loading []) code.ScriptTooLong → ⊥
no_script loading is = cc is

-- the line of a generated run: its sum may be negative
abbrev tally : (over : ℕ) → (sum : ℤ) → Tally
tally over sum = record { asks = 2; answered = 1; exhausted = 0; over = over; spent = 1000000; sum = sum }

a_line : tally_text (tally 1 (pos 1002)) ≡ codes "asks 2 answered 1 exhausted 0 over 1 spent 1000000 sum 1002\n"
unfolding digits
a_line = refl

a_negative_sum : tally_text (tally 0 (negsuc 4)) ≡ codes "asks 2 answered 1 exhausted 0 over 0 spent 1000000 sum -5\n"
unfolding digits
a_negative_sum = refl

-- a door's count that rose, the second one's, and none that did
abbrev door : (faults : ℕ) → Door
door faults = door_of None None faults

second_rose : SomeDoorRose (door 0 ∷ door 3 ∷ []) (door 0 ∷ door 4 ∷ [])
second_rose = (1, omega arith, λ low. (let more : 3 < 4 = omega arith in more))

none_rose : SomeDoorRose (door 2 ∷ []) (door 2 ∷ []) → ⊥
none_rose (i, within, rose) =
    let first : i ≡ 0 = omega (arith, within) in
    let below : 2 < last_count = omega arith in
    let h : 2 < 2 = subst (λ (n : ℕ). HasRisen (door_at (door 2 ∷ []) n).faults (door_at (door 2 ∷ []) n).faults) first rose below in
    omega (arith, h)

-- a door that is lost, and a count that falls
one_door_less : DoorsStay (door 0 ∷ door 0 ∷ []) (door 0 ∷ []) → ⊥
one_door_less stays = let h : 1 ≡ 2 = stays.0 in omega (arith, h)

count_falls : DoorsStay (door 1 ∷ []) (door 0 ∷ []) → ⊥
count_falls stays = let h : 1 ≤ 0 = stays.1 0 (omega arith) in omega (arith, h)
