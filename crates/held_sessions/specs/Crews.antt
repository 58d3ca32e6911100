-- Sessions that several workers held, each on passes of its own, which were joined to the first ones in the end.
use Rattle.std.specs.Prelude.{◌≡◌, ℕ, ◌<◌, List, length, map, slice_get, Some}
use Rattle.session_laws.specs.OwnerDesk.Passes.{Pass}
use Rattle.session_laws.specs.OwnerHouse.Owner.{Owner}
use Rattle.session_laws.specs.OwnerHouse.House.{House}
use Rattle.session_laws.specs.SessionCore.Exchanges.{Exchange}
use Rattle.session_laws.specs.SessionCore.Gathered.{part_of}
use Rattle.session_laws.specs.SessionCore.Bundles.{handed_on}
use Rattle.session_laws.specs.SessionCore.Code.{pass_at}
use Rattle.session_laws.specs.SessionCore.Worked.{IsBroughtIn}
use Rattle.held_sessions.specs.Sittings.{Sitting, FollowOn, all_exchanges}

-- So many workers held these sessions, each of them one after another, from what the first passes knew on, which were handed on to it.
-- Among the lines of all sessions each worker has its own. Each owner's pass took in those of all workers, as they were in the end.
pub record AreHeldBy (house : House) (draws : ℕ → ℕ → ℕ → ℕ) (count : ℕ) (sittings : ℕ → List (Sitting house draws))
    (ends : ℕ → List Pass) (before after : List Pass) : Type 0 where
  pub follow : (i : ℕ) → i < count → FollowOn house draws (map handed_on before) (sittings i) (ends i)
  pub exchanges : List Exchange
  pub crew : ℕ → ℕ
  pub crews : (at : ℕ) → crew at < count
  pub parts : (i : ℕ) → i < count → part_of crew i 0 exchanges ≡ all_exchanges house draws (sittings i)
  pub each_has : length after ≡ length before
  pub owners : (o : ℕ) (owner : Owner) → slice_get house.owners o ≡ Some owner
      → (b : IsBroughtIn house draws count crew o exchanges (pass_at before o) (pass_at after o))
      × ((i : ℕ) → i < count → b.ends i ≡ pass_at (ends i) o)
