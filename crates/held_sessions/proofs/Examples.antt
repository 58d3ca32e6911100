-- Workers' sessions, worked out.
use Rattle.std.proofs.Common.{◌≡◌, ℕ, ◌<◌, List, [], ◌∷◌, map, slice_get, Some, refl, sym, subst, arith}
use Rattle.owner_lock.specs.Entries.{Ascends}
use Rattle.session_laws.specs.OwnerHouse.Owner.{Owner}
use Rattle.session_laws.specs.OwnerHouse.House.{House}
use Rattle.session_laws.specs.OwnerDesk.Passes.{Pass}
use Rattle.session_laws.proofs.OwnerHistory.Prefixes.{prefix_self}
use Rattle.session_laws.specs.SessionCore.Gathered.{one_worker}
use Rattle.session_laws.specs.SessionCore.Bundles.{handed_on}
use Rattle.session_laws.specs.SessionCore.Code.{AreFresh, pass_at}
use Rattle.session_laws.specs.SessionCore.Worked.{IsBroughtIn}
use Rattle.held_sessions.specs.Sittings.{Sitting}
use Rattle.held_sessions.specs.Crews.{AreHeldBy}
use Rattle.held_sessions.proofs.Together.{pass_handed}

-- Two workers to whom nobody came: the passes stay as they were.
nobody_came : (house : House) (draws : ℕ → ℕ → ℕ → ℕ) (passes : List Pass) → AreFresh house passes → AreHeldBy house draws 2 (λ i. []) (λ i. map handed_on passes) passes passes
nobody_came house draws passes fresh = record {
  follow = λ i lt. refl;
  exchanges = [];
  crew = one_worker;
  crews = λ at. omega arith;
  parts = λ i lt. refl;
  each_has = refl;
  owners = λ o owner at. (brought o owner at, λ i lt. sym (pass_handed passes o));
}
  where
    brought : (o : ℕ) (owner : Owner) → slice_get house.owners o ≡ Some owner → IsBroughtIn house draws 2 one_worker o [] (pass_at passes o) (pass_at passes o)
    brought o owner at = record {
      opened = refl;
      ends = λ i. handed_on (pass_at passes o);
      workers = λ i lt. record { opened = refl; own = refl; answers = refl; shuts = refl };
      seen = λ i lt. (prefix_self (pass_at passes o).seen, λ failure is. is);
      own = λ weight. omega arith;
      faults = λ weight. omega arith;
      apart = subst (λ (p : Pass). Ascends 0 p.own) (sym (fresh o owner at)) tt;
    }

-- A session on other passes is no worker's first one.
other_passes : (house : House) (draws : ℕ → ℕ → ℕ → ℕ) (count : ℕ) (ends : ℕ → List Pass) (before after : List Pass) (s : Sitting house draws) → 0 < count
    → (s.before ≡ map handed_on before → ⊥) → AreHeldBy house draws count (λ i. s ∷ []) ends before after → ⊥
other_passes house draws count ends before after s some other h = other (h.follow 0 some).0
