-- Doors and ends, worked out.
use Rattle.std.proofs.Common.{◌≡◌, ◌≢◌, ℕ, zero, suc, ◌<◌, List, [], ◌∷◌, length, true, false, Option, Some, None, refl, ap, arith}
use mathlib.Core.Logic.{inl, inr}
use Rattle.outside_links.specs.Links.{Connection, shown}
use Rattle.owner_house.specs.House.{House}
use Rattle.service_workers.specs.declared.posting.Service.{Service}
use Rattle.service_workers.specs.declared.posting.Service.TheVariants.{Served, DoorFault, NoMemory}
use Rattle.held_sessions.specs.SessionEnds.{NoMemory as HadNoMemory}
use Rattle.held_sessions.specs.Sittings.{Sitting}
use Rattle.service_workers.specs.Services.{ComesTo, EndsSo, HaveCome, HaveGoneBack, OneWasDropped, door_at, door_of}
use Rattle.service_workers.specs.Code.{end_by, worst_of}

a : Connection
a = shown (Some (98 ∷ [])) (Some []) 0

b : Connection
b = shown (Some []) (Some (99 ∷ [])) 1

-- the first of two has come, both, none
one_came : HaveCome (Some (a ∷ b ∷ [])) (a ∷ []) (Some (b ∷ []))
one_came = refl

both_came : HaveCome (Some (a ∷ b ∷ [])) (a ∷ b ∷ []) (Some [])
both_came = refl

none_came : HaveCome (Some (a ∷ [])) [] (Some (a ∷ []))
none_came = refl

-- where nothing is told any may have come
untold : HaveCome None (a ∷ []) None
untold = refl

-- it isn't still to come
not_twice : HaveCome (Some (a ∷ [])) (a ∷ []) (Some (a ∷ [])) → ⊥
not_twice is = omega (arith, ap coming_count is)
  where
    coming_count : Option (List Connection) → ℕ
    coming_count None = 0
    coming_count (Some connections) = length connections

-- they go back behind those that did earlier
gone_back : HaveGoneBack (Some (b ∷ [])) (a ∷ b ∷ []) (Some (b ∷ a ∷ b ∷ []))
gone_back = refl

-- a connection that was dropped is told before a door's fault, wherever it was
all_well : worst_of (Served ∷ Served ∷ []) ≡ Served
all_well = refl

one_fault : worst_of (Served ∷ DoorFault ∷ Served ∷ []) ≡ DoorFault
one_fault = refl

memory_first : worst_of (NoMemory ∷ DoorFault ∷ []) ≡ NoMemory
memory_first = refl

memory_last : worst_of (DoorFault ∷ NoMemory ∷ []) ≡ NoMemory
memory_last = refl

no_worker : worst_of [] ≡ Served
no_worker = refl

-- the first worker's door failed, the second served all
abbrev ends : ℕ → Service
ends zero = DoorFault
ends (suc i) = Served

come_to_fault : ComesTo 2 ends DoorFault
come_to_fault = (none, 0, omega arith, refl)
  where
    none : (i : ℕ) → i < 2 → ends i ≢ NoMemory
    none zero lt is = cc is
    none (suc i) lt is = cc is

not_served : ComesTo 2 ends Served → ⊥
not_served all = cc (all 0 (omega arith))

not_wanting : ComesTo 2 ends NoMemory → ⊥
not_wanting (zero, lt, is) = cc is
not_wanting (suc i, lt, is) = cc is

module _ (house : House) (draws : ℕ → ℕ → ℕ → ℕ) where
  -- nobody came: a door that failed at once has fewer than were wanted, and its count has risen
  failed_at_once : EndsSo house draws DoorFault 1 [] 3 4
  failed_at_once = ((omega arith, omega arith, λ more. omega arith), tt)

  no_fault : EndsSo house draws DoorFault 1 [] 3 3 → ⊥
  no_fault ends = omega (arith, ends.0.2 (omega arith))

  not_all : EndsSo house draws Served 1 [] 3 3 → ⊥
  not_all ends = omega (arith, ends.0.0)

  -- one of two connections was dropped: that is told, where all were served and where the door failed after it
  module _ (dropped sitting : Sitting house draws) (end : dropped.end ≡ HadNoMemory) where
    all_but_one : EndsSo house draws NoMemory 2 (dropped ∷ sitting ∷ []) 3 3
    all_but_one = (inl (refl, refl), ([], sitting ∷ [], dropped, refl, end))

    then_failed : EndsSo house draws NoMemory 3 (sitting ∷ dropped ∷ []) 3 4
    then_failed = (inr (omega arith, omega arith, λ more. omega arith), (sitting ∷ [], [], dropped, refl, end))

    not_served_whole : EndsSo house draws Served 2 (dropped ∷ sitting ∷ []) 3 3 → ⊥
    not_served_whole ends = ends.1.0 end

  none_dropped : OneWasDropped house draws [] → ⊥
  none_dropped ([], later, dropped, is, end) = omega (arith, ap length is)
  none_dropped (x ∷ earlier, later, dropped, is, end) = omega (arith, ap length is)

-- how a worker's work ended
dropped_is_told : end_by true true ≡ NoMemory
dropped_is_told = refl

all_but_dropped : end_by true false ≡ NoMemory
all_but_dropped = refl

failed_alone : end_by false true ≡ DoorFault
failed_alone = refl

all_served : end_by false false ≡ Served
all_served = refl

-- a place with no door shows nothing
no_door : door_at [] 0 ≡ door_of None None 0
no_door = refl
