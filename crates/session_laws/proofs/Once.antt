-- each new record is one line's
use Rattle.std.proofs.Common.{◌≡◌, ℕ, ◌<◌, ◌≤◌, List, length, drop, slice_get, Some, sym, ◌∙◌, subst, arith}
use Rattle.std.specs.Prelude.{sum_by}
use Rattle.std.specs.List.{flat_map}
use Rattle.std.proofs.lemmas.Bool.{cases_lt}
use Rattle.std.proofs.lemmas.Option.{slice_get_within}
use Rattle.std.proofs.lemmas.List.{length-drop}
use mathlib.Core.Logic.{inl, inr}
use Rattle.journal_records.specs.declared.records.Record.{Record}
use Rattle.session_core.specs.OwnerHouse.Owner.{Owner}
use Rattle.session_core.proofs.OwnerHistory.Prefixes.{prefix_length}
use Rattle.session_core.specs.OwnerHouse.House.{House}
use Rattle.session_core.specs.AnswerPath.Demand.{Demand}
use Rattle.session_core.specs.Meant.{wants}
use Rattle.session_core.specs.Turns.{meant_at}
use Rattle.session_core.specs.Exchanges.{Exchange}
use Rattle.session_laws.proofs.Counting.{at_place, found_in, two_in, numbered_in}
use Rattle.session_laws.proofs.Added.{IsKind}
use Rattle.session_laws.proofs.Standing.{Reserves, told_here, the_owner, kind_by, reserves_by, stand_by, told_at, weighs_at}
use Rattle.session_core.specs.OwnerDesk.Passes.{Told}
use Rattle.session_core.specs.Gathered.{AreGathered}
use Rattle.session_laws.specs.ToldOnce.{IsToldAt, AreToldOnce}

module _ (house : House) (draws : ℕ → ℕ → ℕ → ℕ) (count : ℕ) (crew : ℕ → ℕ) (o : ℕ) (owner : Owner) (found : List Record) (xs : List Exchange) (records : List Record)
    (here : slice_get house.owners o ≡ Some owner) (all : AreGathered house draws count crew o found xs records) where
  pub same_owner : (x : Exchange) (w : Owner) (demand : Demand) → meant_at house x.turn ≡ wants o w demand → w ≡ owner
  same_owner x w demand is = the_owner house o owner here x w demand is

  pub kind_at : (j : ℕ) (x : Exchange) (demand : Demand) → slice_get xs j ≡ Some x → meant_at house x.turn ≡ wants o owner demand → IsKind (draws o) owner found records demand x
  kind_at j x demand at is = kind_by house draws count crew o owner found xs records here all.crews all.workers j x demand at is

  pub reserves_at : (j : ℕ) (z : Told) (t : IsToldAt house o xs j z) → Reserves house draws o owner found records t.x
  reserves_at j z t = reserves_by house draws count crew o owner found xs records here all.crews all.workers j z t

  stand_told : (p : ℕ) (r : Record) (j : ℕ) → IsToldAt house o xs j (p, r) → (length found ≤ p) × (slice_get records p ≡ Some r)
  stand_told p r j t = stand_by house draws count crew o owner found xs records here all.crews all.workers p r j t

  placed_once : (p : ℕ) → length found ≤ p → p < length records → sum_by (at_place p) (flat_map (told_here house o) xs) ≡ 1
  placed_once p le lt =
      all.once (at_place p) ∙ numbered_in (length found) p (drop (length found) records) le
      (omega (arith, le, lt, length-drop (length found) records, prefix_length found records all.begins))

  each_told : (p : ℕ) (r : Record) → length found ≤ p → slice_get records p ≡ Some r → (place : ℕ) × IsToldAt house o xs place (p, r)
  each_told p r le at =
      let one = placed_once p le (slice_get_within records p r at) in
      let f = found_in (told_here house o) (at_place p) xs (omega (arith, one)) in
      let t = told_at house o xs p f.0 f.1 f.2 f.3 in
      let both : Some t.0 ≡ Some r = sym (stand_told p t.0 f.0 t.1).1 ∙ at in
      let same : t.0 ≡ r = cc in
      (f.0, subst (λ (s : Record). IsToldAt house o xs f.0 (p, s)) same t.1)

  not_before : (p : ℕ) (r s : Record) (j k : ℕ) → IsToldAt house o xs j (p, r) → IsToldAt house o xs k (p, s) → j < k → ⊥
  not_before p r s j k t u lt =
      let st = stand_told p r j t in
      let one = placed_once p st.0 (slice_get_within records p r st.1) in
      let two = two_in (told_here house o) (at_place p) xs j k t.x u.x lt t.stands u.stands in
      absurd (omega (arith, one, two, weighs_at house o xs p j r t, weighs_at house o xs p k s u))

  pub told_once : AreToldOnce house o xs found records
  told_once = record {
    each = each_told;
    once = λ p r s j k t u. elim (cases_lt j k) [
      | inl lt ↦ absurd (not_before p r s j k t u lt)
      | inr le ↦ elim (cases_lt k j) [
        | inl lt ↦ absurd (not_before p s r k j u t lt)
        | inr ge ↦ omega (arith, le, ge)
      ]
    ];
    stand = stand_told;
  }
