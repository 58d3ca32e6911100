-- what each line was answered on, among those of several workers
use Rattle.std.proofs.Common.{◌≡◌, ℕ, zero, suc, ◌+◌, ◌<◌, ◌==◌, Bool, true, false, List, [], ◌∷◌, slice_get, Some, refl, sym, ◌∙◌, ap, subst, arith, eq-eqb, add-zero}
use Rattle.std.specs.Prelude.{MatchBool, if◌then◌else◌}
use mathlib.Core.List.{IsPrefix}
use Rattle.journal_records.specs.declared.records.Record.{Record}
use Rattle.session_core.specs.OwnerHouse.Owner.{Owner}
use Rattle.session_core.proofs.OwnerHistory.Prefixes.{prefix_self, prefix_trans}
use Rattle.session_core.proofs.Demands.{met_grows}
use Rattle.session_core.specs.OwnerHouse.House.{House}
use Rattle.session_core.specs.AnswerPath.Demand.{Demand}
use Rattle.session_core.specs.Meant.{Meant, says, wants}
use Rattle.session_core.specs.Turns.{meant_at}
use Rattle.session_core.specs.Exchanges.{Exchange, TurnLeads, Lead}
use Rattle.session_core.specs.Served.{MeetsOnSome}
use Rattle.session_core.specs.Gathered.{part_of}

-- What is known goes on with each line.
pub meets_grow : (draws : ℕ → ℕ → ℕ) (start : ℕ) (owner : Owner) (demand : Demand) (seen : List Record) (x : Exchange) (after : List Record) → MeetsOnSome draws start owner demand seen x after → IsPrefix seen after
meets_grow draws start owner demand seen x after met = met_grows owner draws start seen x.reply x.told after demand met

module _ (house : House) (o : ℕ) (M : Owner → Demand → List Record → Exchange → List Record → Type 0)
    (grows : (owner : Owner) (demand : Demand) (s : List Record) (x : Exchange) (after : List Record) → M owner demand s x after → IsPrefix s after) where
  lead_first : (m : Meant) (seen : List Record) (x : Exchange) (Rest : List Record → Type 0) → TurnLeads house o M m seen x Rest → (after : List Record) × IsPrefix seen after × Rest after
  lead_first (says reply next) seen x Rest h = (seen, prefix_self seen, h)
  lead_first (wants n owner demand) seen x Rest h = here (n == o) h
    where
      here : (b : Bool) → MatchBool b ((after : List Record) × M owner demand seen x after × Rest after) (Rest seen) → (after : List Record) × IsPrefix seen after × Rest after
      here true h = (h.0, grows owner demand seen x h.0 h.1, h.2)
      here false h = (seen, prefix_self seen, h)

  pub lead_grows : (seen : List Record) (xs : List Exchange) (last : List Record) → Lead house o M seen xs last → IsPrefix seen last
  lead_grows seen [] last h = subst (IsPrefix seen) (sym h) (prefix_self seen)
  lead_grows seen (x ∷ xs) last h =
      let f = lead_first (meant_at house x.turn) seen x (λ after. Lead house o M after xs last) h in
      prefix_trans seen f.0 last f.1 (lead_grows f.0 xs last f.2)

  -- a turn that asks this owner
  lead_hit : (m : Meant) (seen : List Record) (x : Exchange) (Rest : List Record → Type 0) (owner : Owner) (demand : Demand) → m ≡ wants o owner demand → TurnLeads house o M m seen x Rest
      → (after : List Record) × M owner demand seen x after × Rest after
  lead_hit m seen x Rest owner demand is h = here (o == o) (eq-eqb o o refl) (subst (λ (k : Meant). TurnLeads house o M k seen x Rest) is h)
    where
      here : (b : Bool) → b ≡ true → MatchBool b ((after : List Record) × M owner demand seen x after × Rest after) (Rest seen) → (after : List Record) × M owner demand seen x after × Rest after
      here true is h = h
      here false is h = absurd (cc (is))

  -- what the line at a place was answered on
  pub record IsMetAt (owner : Owner) (demand : Demand) (seen last : List Record) (x : Exchange) : Type 0 where
    pub known : List Record
    pub after : List Record
    pub begins : IsPrefix seen known
    pub meets : M owner demand known x after
    pub ends : IsPrefix after last

  pub lead_at : (seen : List Record) (xs : List Exchange) (last : List Record) → Lead house o M seen xs last → (k : ℕ) (x : Exchange) (owner : Owner) (demand : Demand) → slice_get xs k ≡ Some x → meant_at house x.turn ≡ wants o owner demand
      → IsMetAt owner demand seen last x
  lead_at seen [] last h k x owner demand at is = absurd (cc (at))
  lead_at seen (y ∷ xs) last h zero x owner demand at is =
      let same : y ≡ x = cc in
      let f = lead_hit (meant_at house y.turn) seen y (λ after. Lead house o M after xs last) owner demand (ap (λ (z : Exchange). meant_at house z.turn) same ∙ is) h in
      record { known = seen; after = f.0; begins = prefix_self seen; meets = subst (λ (z : Exchange). M owner demand seen z f.0) same f.1; ends = lead_grows f.0 xs last f.2 }
  lead_at seen (y ∷ xs) last h (suc k) x owner demand at is =
      let f = lead_first (meant_at house y.turn) seen y (λ after. Lead house o M after xs last) h in
      let rest = lead_at f.0 xs last f.2 k x owner demand at is in
      record { known = rest.known; after = rest.after; begins = prefix_trans seen f.0 rest.known f.1 rest.begins; meets = rest.meets; ends = rest.ends }

  -- and of two lines the later one was answered on what was known behind the earlier one
  pub record IsMetBehind (owner : Owner) (demand : Demand) (other : Demand) (seen last : List Record) (x y : Exchange) : Type 0 where
    pub first : IsMetAt owner demand seen last x
    pub second : IsMetAt owner other first.after last y

  pub lead_two : (seen : List Record) (xs : List Exchange) (last : List Record) → Lead house o M seen xs last → (j k : ℕ) (x y : Exchange) (owner : Owner) (demand other : Demand) → j < k
      → slice_get xs j ≡ Some x → slice_get xs k ≡ Some y → meant_at house x.turn ≡ wants o owner demand → meant_at house y.turn ≡ wants o owner other → IsMetBehind owner demand other seen last x y
  lead_two seen [] last h j k x y owner demand other lt at there is also = absurd (cc (at))
  lead_two seen (z ∷ xs) last h j zero x y owner demand other lt at there is also = absurd (omega (arith, lt))
  lead_two seen (z ∷ xs) last h zero (suc k) x y owner demand other lt at there is also =
      let same : z ≡ x = cc in
      let f = lead_hit (meant_at house z.turn) seen z (λ after. Lead house o M after xs last) owner demand (ap (λ (w : Exchange). meant_at house w.turn) same ∙ is) h in
      record {
        first = record { known = seen; after = f.0; begins = prefix_self seen; meets = subst (λ (w : Exchange). M owner demand seen w f.0) same f.1; ends = lead_grows f.0 xs last f.2 };
        second = lead_at f.0 xs last f.2 k y owner other there also;
      }
  lead_two seen (z ∷ xs) last h (suc j) (suc k) x y owner demand other lt at there is also =
      let f = lead_first (meant_at house z.turn) seen z (λ after. Lead house o M after xs last) h in
      let rest = lead_two f.0 xs last f.2 j k x y owner demand other (omega (arith, lt)) at there is also in
      record {
        first = record { known = rest.first.known; after = rest.first.after; begins = prefix_trans seen f.0 rest.first.known f.1 rest.first.begins; meets = rest.first.meets; ends = rest.first.ends };
        second = rest.second;
      }

-- what is at a place of a worker's is in its part
module _ {X : Type 0} (crew : ℕ → ℕ) (i : ℕ) where
  pub part_has : (at : ℕ) (xs : List X) (k : ℕ) (x : X) → slice_get xs k ≡ Some x → crew (at + k) ≡ i → (m : ℕ) × (slice_get (part_of crew i at xs) m ≡ Some x)
  part_has at [] k x there is = absurd (cc (there))
  part_has at (y ∷ xs) zero x there is = here (crew at == i) (eq-eqb (crew at) i (ap crew (sym (add-zero at)) ∙ is))
    where
      here : (b : Bool) → b ≡ true → (m : ℕ) × (slice_get (if b then y ∷ part_of crew i (at + 1) xs else part_of crew i (at + 1) xs) m ≡ Some x)
      here true hit = (0, there)
      here false miss = absurd (cc (miss))
  part_has at (y ∷ xs) (suc k) x there is =
      let next : at + 1 + k ≡ at + suc k = omega arith in
      let rest = part_has (at + 1) xs k x there (ap crew next ∙ is) in
      here rest.0 rest.1 (crew at == i)
    where
      here : (m : ℕ) → slice_get (part_of crew i (at + 1) xs) m ≡ Some x → (b : Bool) → (n : ℕ) × (slice_get (if b then y ∷ part_of crew i (at + 1) xs else part_of crew i (at + 1) xs) n ≡ Some x)
      here m found true = (suc m, found)
      here m found false = (m, found)
