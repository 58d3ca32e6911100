-- What a worker has done: with one connection, and with its door.
use Rattle.std.specs.Prelude.{◌≡◌, ◌⊎◌, ℕ, Bool, true, false, List, [], ◌∷◌}
use Rattle.fz_outside.specs.Faults.{HasRisen}
use Rattle.owner_desk.specs.Passes.{Pass}
use Rattle.owner_house.specs.House.{House}
use Rattle.held_sessions.specs.SessionEndType.{SessionEnd}
use Rattle.held_sessions.specs.SessionEnds.{NoMemory}
use Rattle.held_sessions.specs.Sittings.{Sitting, FollowOn}
use Rattle.service_workers.specs.declared.posting.Service.{Service}
use Rattle.service_workers.specs.declared.posting.Service.TheVariants.{Served, DoorFault, NoMemory as WantsMemory}
use Rattle.service_workers.specs.Services.{Door, HaveCome, HaveGoneBack, IsAttended}

-- A connection came by a door, a session was held on it, and it was handed back.
pub record HasHeld (house : House) (draws : ℕ → ℕ → ℕ → ℕ) (end : SessionEnd) (old new : Door) (before after : List Pass) : Type 0 where
  pub sitting : Sitting house draws
  pub end_is : sitting.end ≡ end
  pub passes : (sitting.before ≡ before) × (sitting.after ≡ after)
  pub come : HaveCome old.coming (sitting.old ∷ []) new.coming
  pub back : HaveGoneBack old.back (sitting.new ∷ []) new.back
  pub faults : new.faults ≡ old.faults
  pub untouched : end ≡ NoMemory → (sitting.new ≡ sitting.old) × (sitting.after ≡ sitting.before)

-- A worker has attended its door.
pub record HasAttended (house : House) (draws : ℕ → ℕ → ℕ → ℕ) (each : ℕ) (end : Service) (old new : Door) (before after : List Pass) :
    Type 0 where
  pub sittings : List (Sitting house draws)
  pub follow : FollowOn house draws before sittings after
  pub attended : IsAttended house draws each end sittings old new

-- A door listens where its worker is posted, or a call of it has failed.
abbrev pub IsPosted : (Listens : Type 0) → (old new : ℕ) → Type 0
IsPosted Listens old new = Listens ⊎ HasRisen old new

-- how a worker's work ended, by whether it dropped a connection and whether its door failed
abbrev pub end_by : (dropped failed : Bool) → Service
end_by true failed = WantsMemory
end_by false true = DoorFault
end_by false false = Served

-- of two ends the one that is told: want of memory before a door's fault
abbrev pub worse_of : Service → Service → Service
worse_of Served other = other
worse_of DoorFault Served = DoorFault
worse_of DoorFault other = other
worse_of WantsMemory other = WantsMemory

-- of all ends
abbrev pub worst_of : List Service → Service
worst_of [] = Served
worst_of (end ∷ ends) = worse_of (worst_of ends) end
