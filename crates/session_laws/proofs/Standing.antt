-- what a line was told stands in the owner's records
use Rattle.std.proofs.Common.{◌≡◌, ℕ, ◌+◌, ◌<◌, ◌≤◌, Bool, true, false, List, [], length, slice_get, Some, refl, sym, ◌∙◌, ap, subst, arith, eqb-true}
use Rattle.std.specs.Prelude.{if◌then◌else◌, sum_by}
use mathlib.Core.Logic.{inl, inr}
use Rattle.journal_records.specs.declared.records.Record.{Record}
use Rattle.session_core.specs.OwnerHouse.Owner.{Owner}
use Rattle.session_core.specs.AnswerPath.Query.{Query}
use Rattle.session_core.proofs.OwnerHistory.Prefixes.{prefix_trans}
use Rattle.session_core.specs.OwnerHouse.House.{House}
use Rattle.session_core.specs.AnswerPath.Demand.{Demand, asks}
use Rattle.session_core.specs.Meant.{Meant, says, wants}
use Rattle.session_core.specs.Turns.{meant_at}
use Rattle.session_core.specs.Exchanges.{Exchange, is_of}
use Rattle.session_core.specs.Transcript.{first_new}
use Rattle.session_core.proofs.Wants.{wanted_stands}
use Rattle.session_laws.proofs.Counting.{at_place, has_counted, counted_has}
use Rattle.session_laws.proofs.Locals.{lead_at, meets_grow, part_has}
use Rattle.session_laws.proofs.Added.{IsReservedBy, IsKind, kind_met, told_stands}
use Rattle.session_core.specs.OwnerDesk.Passes.{Told}
use Rattle.session_core.specs.OwnerDesk.Answers.{Has}
use Rattle.session_core.specs.Served.{MeetsOnSome}
use Rattle.session_core.specs.Gathered.{part_of, AreAnsweredOn}
use Rattle.session_laws.specs.ToldOnce.{IsToldAt}

module _ (house : House) (draws : ℕ → ℕ → ℕ → ℕ) (o : ℕ) (owner : Owner) (found records : List Record) where
  -- a line that asks the owner, and was told something, reserved
  pub record Reserves (x : Exchange) : Type 0 where
    pub query : Query
    pub meant : meant_at house x.turn ≡ wants o owner (asks query)
    pub by : IsReservedBy (draws o) owner found records query x

-- what a line told of the owner
abbrev pub told_here : House → ℕ → Exchange → List Told
told_here house o x = if is_of o (meant_at house x.turn) then x.told else []

-- the owner that a line asks is this one
pub the_owner : (house : House) (o : ℕ) (owner : Owner) → slice_get house.owners o ≡ Some owner → (x : Exchange) (w : Owner) (demand : Demand) → meant_at house x.turn ≡ wants o w demand → w ≡ owner
the_owner house o owner here x w demand is = let both : Some w ≡ Some owner = sym (wanted_stands house x.turn.who x.turn.line o w demand is) ∙ here in cc

module _ (house : House) (draws : ℕ → ℕ → ℕ → ℕ) (count : ℕ) (crew : ℕ → ℕ) (o : ℕ) (owner : Owner) (found : List Record) (xs : List Exchange) (records : List Record)
    (here : slice_get house.owners o ≡ Some owner) (crews : (at : ℕ) → crew at < count) (answers : AreAnsweredOn house draws count crew o found xs records) where
  -- what each line did that asks the owner
  pub kind_by : (j : ℕ) (x : Exchange) (demand : Demand) → slice_get xs j ≡ Some x → meant_at house x.turn ≡ wants o owner demand → IsKind (draws o) owner found records demand x
  kind_by j x demand at is =
      let w = answers (crew j) (crews j) in
      let same : 0 + j ≡ j = omega arith in
      let p = part_has crew (crew j) 0 xs j x at (ap crew same) in
      let met = lead_at house o (MeetsOnSome (draws o) (first_new found)) (λ u d s y after. meets_grow (draws o) (first_new found) u d s y after)
      found (part_of crew (crew j) 0 xs) w.0 w.2 p.0 x owner demand p.1 is in
      kind_met (draws o) owner found records demand met.known x met.after met.begins (prefix_trans met.after w.0 records met.ends w.1) met.meets

  demanded : (m : Meant) → is_of o m ≡ true → (w : Owner) × (demand : Demand) × (m ≡ wants o w demand)
  demanded (says reply next) is = absurd (cc (is))
  demanded (wants n w demand) is = (w, demand, ap (λ (k : ℕ). wants k w demand) (eqb-true n o is))

  has_none : (z : Told) (told : List Told) → told ≡ [] → Has z told → ⊥
  has_none z told none has = subst (λ (zs : List Told). Has z zs) none has

  pub reserves_by : (j : ℕ) (z : Told) (t : IsToldAt house o xs j z) → Reserves house draws o owner found records t.x
  reserves_by j z t =
      let d = demanded (meant_at house t.x.turn) t.ours in
      let meant : meant_at house t.x.turn ≡ wants o owner d.1 = d.2 ∙ ap (λ (w : Owner). wants o w d.1) (the_owner house o owner here t.x d.0 d.1 d.2) in
      told_by d.1 meant (kind_by j t.x d.1 t.stands meant)
    where
      told_by : (demand : Demand) → meant_at house t.x.turn ≡ wants o owner demand → IsKind (draws o) owner found records demand t.x → Reserves house draws o owner found records t.x
      told_by demand meant (inl none) = absurd (has_none z t.x.told none.0 t.has)
      told_by demand meant (inr (query, is, by)) = record { query = query; meant = meant ∙ ap (λ (d : Demand). wants o owner d) is; by = by }

  pub stand_by : (p : ℕ) (r : Record) (j : ℕ) → IsToldAt house o xs j (p, r) → (length found ≤ p) × (slice_get records p ≡ Some r)
  stand_by p r j t = let made = reserves_by j (p, r) t in told_stands (draws o) owner found records made.query t.x made.by (p, r) t.has

-- a weight at a place is of a line that was told of it
pub told_at : (house : House) (o : ℕ) (xs : List Exchange) (p j : ℕ) (x : Exchange) → slice_get xs j ≡ Some x → 1 ≤ sum_by (at_place p) (told_here house o x) → (r : Record) × IsToldAt house o xs j (p, r)
told_at house o xs p j x at le = either (is_of o (meant_at house x.turn)) refl le
  where
    either : (b : Bool) → is_of o (meant_at house x.turn) ≡ b → 1 ≤ sum_by (at_place p) (if b then x.told else []) → (r : Record) × IsToldAt house o xs j (p, r)
    either true ours le = let has = has_counted p x.told le in (has.0, record { x = x; stands = at; ours = ours; has = has.1 })
    either false others le = absurd (omega (arith, le))

pub weighs_at : (house : House) (o : ℕ) (xs : List Exchange) (p j : ℕ) (r : Record) (t : IsToldAt house o xs j (p, r)) → 1 ≤ sum_by (at_place p) (told_here house o t.x)
weighs_at house o xs p j r t = rw t.ours (counted_has p r t.x.told t.has)
