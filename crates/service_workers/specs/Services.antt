-- What becomes of doors that workers attend, each its own.
use Rattle.std.specs.Prelude.{◌≡◌, ◌≢◌, ◌⊎◌, ℕ, ◌<◌, ◌≤◌, List, [], ◌∷◌, ◌++◌, length, map, drop, get_or, Option, option_map, None}
use Rattle.std.specs.List.{AllByRecursion}
use Rattle.fz_outside.specs.Faults.{HasRisen}
use Rattle.outside_links.specs.Links.{Connection}
use Rattle.owner_house.specs.House.{House}
use Rattle.owner_desk.specs.Passes.{Pass}
use Rattle.held_sessions.specs.SessionEnds.{NoMemory as HadNoMemory}
use Rattle.held_sessions.specs.Sittings.{Sitting}
use Rattle.held_sessions.specs.Crews.{AreHeldBy}
use Rattle.service_workers.specs.declared.posting.Service.{Service}
use Rattle.service_workers.specs.declared.posting.Service.TheVariants.{Served, DoorFault, NoMemory}

-- What a door shows: the connections that are still to come and those that were handed back, where they are told, and how many of its
-- calls have failed.
pub record Door : Type 0 where
  pub coming : Option (List Connection)
  pub back : Option (List Connection)
  pub faults : ℕ

abbrev pub door_of : Option (List Connection) → Option (List Connection) → ℕ → Door
door_of coming back faults = record { coming = coming; back = back; faults = faults }

-- the door at a place
abbrev pub door_at : List Door → ℕ → Door
door_at doors i = get_or doors i (door_of None None 0)

-- From those that were to come to those that are still to come, these connections have come, in order.
abbrev pub HaveCome : (old : Option (List Connection)) → List Connection → (new : Option (List Connection)) → Type 0
HaveCome old come new = old ≡ option_map (λ later. come ++ later) new

-- From those that had been handed back to those that are handed back now, these connections were added, in order.
abbrev pub HaveGoneBack : (old : Option (List Connection)) → List Connection → (new : Option (List Connection)) → Type 0
HaveGoneBack old back new = new ≡ option_map (λ earlier. earlier ++ back) old

-- What all workers come to: one dropped a connection, or else a door failed, or else all served as many as were wanted.
abbrev pub ComesTo : (count : ℕ) → (ends : ℕ → Service) → Service → Type 0
ComesTo count ends Served = (i : ℕ) → i < count → ends i ≡ Served
ComesTo count ends DoorFault = ((i : ℕ) → i < count → ends i ≢ NoMemory) × (i : ℕ) × (i < count) × (ends i ≡ DoorFault)
ComesTo count ends NoMemory = (i : ℕ) × (i < count) × (ends i ≡ NoMemory)

module _ (house : House) (draws : ℕ → ℕ → ℕ → ℕ) where
  -- None of these sessions was in want of memory.
  abbrev pub HadMemory : List (Sitting house draws) → Type 0
  HadMemory sittings = AllByRecursion (λ sitting. sitting.end ≢ HadNoMemory) sittings

  -- One of these sessions was in want of memory: its connection was dropped.
  abbrev pub OneWasDropped : List (Sitting house draws) → Type 0
  OneWasDropped sittings =
      (earlier later : List (Sitting house draws)) × (dropped : Sitting house draws) × (sittings ≡ earlier ++ dropped ∷ later)
      × (dropped.end ≡ HadNoMemory)

  -- Each that was dropped was left as it was, and so were the passes.
  abbrev pub DroppedAreUntouched : List (Sitting house draws) → Type 0
  DroppedAreUntouched sittings =
      AllByRecursion (λ sitting. sitting.end ≡ HadNoMemory → (sitting.new ≡ sitting.old) × (sitting.after ≡ sitting.before)) sittings

  -- So many sessions were held as were wanted; or fewer, since the door failed.
  abbrev pub AreAll : (each : ℕ) → List (Sitting house draws) → (old new : ℕ) → Type 0
  AreAll each sittings old new = (length sittings ≡ each) × (new ≡ old)

  abbrev pub AreCutShort : (each : ℕ) → List (Sitting house draws) → (old new : ℕ) → Type 0
  AreCutShort each sittings old new = (length sittings < each) × (old ≤ new) × HasRisen old new

  -- How a worker's sessions end: where one was dropped that is told, whether its door failed after it or not.
  abbrev pub EndsSo : Service → (each : ℕ) → List (Sitting house draws) → (old new : ℕ) → Type 0
  EndsSo Served each sittings old new = AreAll each sittings old new × HadMemory sittings
  EndsSo DoorFault each sittings old new = AreCutShort each sittings old new × HadMemory sittings
  EndsSo NoMemory each sittings old new = (AreAll each sittings old new ⊎ AreCutShort each sittings old new) × OneWasDropped sittings

  -- A worker held these sessions at its door: each connection came by it, in this order, and was handed back as its session left it.
  pub record IsAttended (each : ℕ) (end : Service) (sittings : List (Sitting house draws)) (old new : Door) : Type 0 where
    pub come : HaveCome old.coming (map (λ sitting. sitting.old) sittings) new.coming
    pub back : HaveGoneBack old.back (map (λ sitting. sitting.new) sittings) new.back
    pub dropped : DroppedAreUntouched sittings
    pub ends : EndsSo end each sittings old.faults new.faults

  -- So many workers have attended the first doors, each its own, and no other door. Worker i's sessions follow one another, and all
  -- passes were joined then.
  pub record IsService (count each : ℕ) (end : Service) (old new : List Door) (before after : List Pass) : Type 0 where
    pub sittings : ℕ → List (Sitting house draws)
    pub lasts : ℕ → List Pass
    pub held : AreHeldBy house draws count sittings lasts before after
    pub ends : ℕ → Service
    pub doors : (i : ℕ) → i < count → IsAttended each (ends i) (sittings i) (door_at old i) (door_at new i)
    pub end_is : ComesTo count ends end
    pub each_has : length new ≡ length old
    pub others : drop count new ≡ drop count old
