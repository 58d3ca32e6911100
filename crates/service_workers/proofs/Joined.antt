-- What all workers held together, by what each of them did.
use Rattle.std.proofs.Common.{◌≡◌, ℕ, zero, suc, ◌+◌, ◌<◌, List, [], ◌∷◌, ◌++◌, length, get_or, drop, map, slice_get, Some, refl, sym, ap, ◌∙◌, subst, arith}
use Rattle.std.specs.Prelude.{sum_by}
use Rattle.std.specs.List.{AllByRecursion}
use Rattle.std.proofs.lemmas.List.{length-map, get_or-map}
use mathlib.Core.List.{IsPrefix}
use Rattle.owner_house.specs.Owner.{Owner}
use Rattle.owner_house.specs.House.{House}
use Rattle.owner_desk.specs.Passes.{Pass}
use Rattle.held_sessions.specs.SessionCore.Exchanges.{Exchange}
use Rattle.held_sessions.specs.SessionCore.Gathered.{StillShut, added_below, part_of}
use Rattle.held_sessions.specs.SessionCore.Bundles.{Bundle, handed_on}
use Rattle.held_sessions.specs.SessionCore.Code.{GoesOn, no_pass, pass_at}
use Rattle.held_sessions.specs.SessionCore.Worked.{IsBroughtIn}
use Rattle.held_sessions.proofs.Assembles.{added_same}
use Rattle.held_sessions.proofs.Dealing.{in_some_order}
use Rattle.held_sessions.specs.Sittings.{Sitting, FollowOn, all_exchanges}
use Rattle.held_sessions.proofs.Rows.{row_served}
use Rattle.held_sessions.proofs.Together.{pass_handed}
use Rattle.script_workers.specs.Crews.{HasTakenAll}
use Rattle.script_workers.proofs.Brought.{sum_added}
use Rattle.script_workers.proofs.Dealt.{chosen}
use Rattle.service_workers.specs.declared.posting.Service.{Service}
use Rattle.service_workers.specs.Services.{Door, IsAttended, IsService, ComesTo, door_at}
use Rattle.service_workers.specs.Code.{HasAttended, worst_of}
use Rattle.service_workers.proofs.Posted.{comes_to, own_door}

all_mapped : {A B : Type 0} (P : B → Type 0) (f : A → B) (xs : List A) (i : ℕ) (d : A) → i < length xs → AllByRecursion P (map f xs) → P (f (get_or xs i d))
all_mapped P f [] i d lt all = absurd (omega (arith, lt))
all_mapped P f (x ∷ xs) zero d lt all = all.0
all_mapped P f (x ∷ xs) (suc i) d lt all = all_mapped P f xs i d (omega (arith, lt)) all.1

-- What a worker did, of the door at its place.
pub attended_at : {A B : Type 0} (pass : A → Bundle) (end : A → Service) (door : A → B) (show : B → Door) (house : House) (draws : ℕ → ℕ → ℕ → ℕ) (each : ℕ) (knows : List Pass) (olds news rest : List B) (first crew : List A)
    (i : ℕ) (d : A) → olds ≡ map door first ++ rest → news ≡ map door crew ++ rest → i < length first → i < length crew → (pass (get_or first i d)).knows ≡ map handed_on knows
    → HasAttended house draws each (end (get_or crew i d)) (show (door (get_or first i d))) (show (door (get_or crew i d))) (pass (get_or first i d)).knows (pass (get_or crew i d)).knows
    → HasAttended house draws each (end (get_or crew i d)) (door_at (map show olds) i) (door_at (map show news) i) (map handed_on knows) (pass (get_or crew i d)).knows
attended_at pass end door show house draws each knows olds news rest first crew i d before after early late handed did =
    subst (λ o. HasAttended house draws each (end (get_or crew i d)) o (door_at (map show news) i) (map handed_on knows) (pass (get_or crew i d)).knows) (sym (own_door door show olds rest first i d before early))
    (subst (λ n. HasAttended house draws each (end (get_or crew i d)) (show (door (get_or first i d))) n (map handed_on knows) (pass (get_or crew i d)).knows) (sym (own_door door show news rest crew i d after late))
    (subst (λ ks. HasAttended house draws each (end (get_or crew i d)) (show (door (get_or first i d))) (show (door (get_or crew i d))) ks (pass (get_or crew i d)).knows) handed did))

module _ {A : Type 0} (pass : A → Bundle) (end : A → Service) (house : House) (draws : ℕ → ℕ → ℕ → ℕ) (count each : ℕ) (some : 0 < count) (main after : Bundle) (crew : List A) (d : A) (size : length crew ≡ count)
    (old new : List Door)
    (did : (i : ℕ) → i < count → HasAttended house draws each (end (get_or crew i d)) (door_at old i) (door_at new i) (map handed_on main.knows) (pass (get_or crew i d)).knows) where
  abbrev lasts : ℕ → List Pass
  lasts i = (pass (get_or crew i d)).knows

  abbrev IsOwn : ℕ → List (Sitting house draws) → Type 0
  IsOwn i sittings = FollowOn house draws (map handed_on main.knows) sittings (lasts i) × IsAttended house draws each (end (get_or crew i d)) sittings (door_at old i) (door_at new i)

  picks : (sittings : ℕ → List (Sitting house draws)) × ((i : ℕ) → i < count → IsOwn i (sittings i))
  picks = chosen IsOwn [] count (λ i lt. let h = did i lt in (h.sittings, (h.follow, h.attended)))

  abbrev parts : ℕ → List Exchange
  parts i = all_exchanges house draws (picks.0 i)

  order : (crew_of : ℕ → ℕ) × (xs : List Exchange) × ((at : ℕ) → crew_of at < count) × ((i : ℕ) → i < count → part_of crew_of i 0 xs ≡ parts i)
  order = in_some_order count parts some

  module _ (o : ℕ) (owner : Owner) (at : slice_get house.owners o ≡ Some owner) (none : (pass_at main.knows o).own ≡ [])
      (taken : HasTakenAll (pass_at main.knows o) (map (λ w. pass_at (pass w).knows o) crew) (pass_at after.knows o)) where
    abbrev last : A → Pass
    last w = pass_at (pass w).knows o

    added : (f : Pass → ℕ) → sum_by f (map last crew) ≡ added_below (λ i. f (pass_at (lasts i) o)) count
    added f =
        sum_added f no_pass (map last crew)
        ∙ ap (added_below (λ i. f (get_or (map last crew) i no_pass))) (length-map crew last ∙ size)
        ∙ added_same (λ i. f (get_or (map last crew) i no_pass)) (λ i. f (pass_at (lasts i) o)) count (λ i lt. ap f (get_or-map last crew i d no_pass (omega (arith, lt, size))))

    brought_in : IsBroughtIn house draws count order.0 o order.1 (pass_at main.knows o) (pass_at after.knows o)
    brought_in = record {
      opened = taken.opened;
      ends = λ i. pass_at (lasts i) o;
      workers = λ i lt. subst (λ xs. GoesOn house draws o xs (handed_on (pass_at main.knows o)) (pass_at (lasts i) o)) (sym (order.3 i lt))
          (subst (λ (p : Pass). GoesOn house draws o (parts i) p (pass_at (lasts i) o)) (pass_handed main.knows o)
          ((row_served house draws (picks.0 i) (map handed_on main.knows) (lasts i) (picks.1 i lt).0).owners o owner at));
      seen = λ i lt. all_mapped (λ (p : Pass). IsPrefix p.seen (pass_at after.knows o).seen × StillShut p.failure (pass_at after.knows o).failure) last crew i d (omega (arith, lt, size)) taken.each;
      own = λ weight. taken.own weight ∙ ap (λ (s : ℕ). sum_by weight (pass_at main.knows o).own + s) (added (λ (p : Pass). sum_by weight p.own));
      faults = λ weight. taken.faults weight ∙ ap (λ (s : ℕ). sum_by weight (pass_at main.knows o).faults + s) (added (λ (p : Pass). sum_by weight p.faults));
      apart = taken.apart (rw none tt);
    }

  pub all_served : (result : Service) → result ≡ worst_of (map end crew) → length after.knows ≡ length main.knows → length new ≡ length old → drop count new ≡ drop count old
      → ((o : ℕ) (owner : Owner) → slice_get house.owners o ≡ Some owner → ((pass_at main.knows o).own ≡ []) × HasTakenAll (pass_at main.knows o) (map (λ w. pass_at (pass w).knows o) crew) (pass_at after.knows o))
      → IsService house draws count each result old new main.knows after.knows
  unfolding brought_in
  all_served result worst long as_many left taken = record {
    sittings = picks.0;
    lasts = lasts;
    held = record {
      follow = λ i lt. (picks.1 i lt).0;
      exchanges = order.1;
      crew = order.0;
      crews = order.2;
      parts = order.3;
      each_has = long;
      owners = λ o owner at. let t = taken o owner at in (brought_in o owner at t.0 t.1, λ i lt. refl);
    };
    ends = λ i. end (get_or crew i d);
    doors = λ i lt. (picks.1 i lt).1;
    end_is = subst (λ (n : ℕ). ComesTo n (λ i. end (get_or crew i d)) result) size (subst (ComesTo (length crew) (λ i. end (get_or crew i d))) (sym worst) (comes_to end d crew));
    each_has = as_many;
    others = left;
  }
