-- what stays of doors
use Rattle.std.proofs.Common.{◌≡◌, ℕ, ◌+◌, ◌-◌, ◌<◌, ◌≤◌, List, length, drop, get_or, None, refl, sym, ◌∙◌, ap, subst, arith}
use Rattle.std.proofs.lemmas.Bool.{cases_lt}
use Rattle.std.proofs.lemmas.List.{get_or-drop}
use mathlib.Core.Logic.{◌⊎◌, inl, inr}
use Rattle.fz_outside.specs.Faults.{HasRisen}
use Rattle.owner_desk.specs.Passes.{Pass}
use Rattle.owner_house.specs.House.{House}
use Rattle.service_workers.specs.Sittings.{Sitting}
use Rattle.service_workers.specs.Services.{Door, EndsSo, IsService, door_at, door_of}
use Rattle.service_workers.specs.declared.posting.Service.{Service}
use Rattle.service_workers.specs.declared.posting.Service.TheVariants.{Served, DoorFault, NoMemory}
use Rattle.query_server.specs.Outside.{DoorsStay, SomeDoorRose}

pub doors_stay : (doors : List Door) → DoorsStay doors doors
doors_stay doors = (refl, λ i within. omega arith)

pub doors_stay_on : (before mid after : List Door) → DoorsStay before mid → DoorsStay mid after → DoorsStay before after
doors_stay_on before mid after first second =
    (second.0 ∙ first.0, λ i within. (let later = second.1 i (omega (arith, within, first.0)) in omega (arith, first.1 i within, later)))

pub doors_same : (before after : List Door) → after ≡ before → DoorsStay before after
doors_same before after same = subst (λ (doors : List Door). DoorsStay before doors) (sym same) (doors_stay before)

-- another command than a `serve` left the doors as they were
pub listens_or_same : {Same Listens Stays : Type 0} → Same ⊎ (Listens × Stays) → Listens ⊎ Same
listens_or_same (inl same) = inr same
listens_or_same (inr (listens, stays)) = inl listens

pub stays_or_same : {T Listens : Type 0} (seen : T → List Door) (old new : T) → (new ≡ old) ⊎ (Listens × DoorsStay (seen old) (seen new)) → DoorsStay (seen old) (seen new)
stays_or_same seen old new (inl same) = doors_same (seen old) (seen new) (ap seen same)
stays_or_same seen old new (inr (listens, stays)) = stays

-- a door behind those that were dropped is as it was
behind_same : (n i : ℕ) (before after : List Door) → drop n after ≡ drop n before → n ≤ i → door_at after i ≡ door_at before i
behind_same n i before after same past =
    let none = door_of None None 0 in
    let place : n + (i - n) ≡ i = omega (arith, past) in
    ap (λ (k : ℕ). get_or after k none) (sym place) ∙ sym (get_or-drop n after (i - n) none) ∙ ap (λ (doors : List Door). get_or doors (i - n) none) same
    ∙ get_or-drop n before (i - n) none ∙ ap (λ (k : ℕ). get_or before k none) place

module _ (house : House) (draws : ℕ → ℕ → ℕ → ℕ) where
  end_stays : (end : Service) (each : ℕ) (sittings : List (Sitting house draws)) (old new : ℕ) → EndsSo house draws end each sittings old new → old ≤ new
  end_stays Served each sittings old new ends = omega (arith, ends.0.1)
  end_stays DoorFault each sittings old new ends = ends.0.1
  end_stays NoMemory each sittings old new (inl all, dropped) = omega (arith, all.1)
  end_stays NoMemory each sittings old new (inr short, dropped) = short.1

  end_rose : (end : Service) (each : ℕ) (sittings : List (Sitting house draws)) (old new : ℕ) → end ≡ DoorFault → EndsSo house draws end each sittings old new → HasRisen old new
  end_rose end each sittings old new is ends = (subst (λ (e : Service). EndsSo house draws e each sittings old new) is ends).0.2

  pub service_stays : (count each : ℕ) (end : Service) (before after : List Door) (old new : List Pass) → IsService house draws count each end before after old new → DoorsStay before after
  service_stays count each end before after old new s = (s.each_has, λ i within. here i (cases_lt i count))
    where
      here : (i : ℕ) → (i < count) ⊎ (count ≤ i) → (door_at before i).faults ≤ (door_at after i).faults
      here i (inl less) = end_stays (s.ends i) each (s.sittings i) _ _ (s.doors i less).ends
      here i (inr past) = let same = ap (λ (door : Door). door.faults) (behind_same count i before after s.others past) in omega (arith, same)

  -- where a door failed, its count rose
  pub service_rose : (count each : ℕ) (before after : List Door) (old new : List Pass) → count ≤ length before → IsService house draws count each DoorFault before after old new → SomeDoorRose before after
  service_rose count each before after old new few s =
      let failed = s.end_is.1 in
      (failed, omega (arith, s.end_is.2, few), end_rose (s.ends failed) each (s.sittings failed) _ _ s.end_is.3 (s.doors failed s.end_is.2).ends)
