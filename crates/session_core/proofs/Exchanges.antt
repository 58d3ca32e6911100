-- exchanges one after another, and what each leads to
use Rattle.std.proofs.Common.{ℕ, ◌==◌, Bool, true, false, List, [], ◌∷◌, ◌++◌, subst}
use Rattle.std.specs.Prelude.{MatchBool}
use Rattle.std.specs.List.{AllByRecursion}
use Rattle.owner_history.specs.OwnerHouse.Owner.{Owner}
use Rattle.owner_history.specs.OwnerHouse.House.{House}
use Rattle.owner_history.specs.AnswerPath.Demand.{Demand}
use Rattle.session_core.specs.Meant.{Meant, says, wants}
use Rattle.session_core.specs.Turns.{meant_at}
use Rattle.session_core.specs.Exchanges.{Exchange, TurnLeads, Lead}

pub all_append : {X : Type 0} (P : X → Type 0) (xs ys : List X) → AllByRecursion P xs → AllByRecursion P ys → AllByRecursion P (xs ++ ys)
all_append P [] ys f g = g
all_append P (x ∷ xs) ys f g = (f.0, all_append P xs ys f.1 g)

module _ {S : Type 0} where
  pub turn_map : (house : House) (o : ℕ) (M N : Owner → Demand → S → Exchange → S → Type 0) (m : Meant) (seen : S) (x : Exchange) (P Q : S → Type 0)
      → ((owner : Owner) (demand : Demand) (after : S) → M owner demand seen x after → N owner demand seen x after) → ((u : S) → P u → Q u)
      → TurnLeads house o M m seen x P → TurnLeads house o N m seen x Q
  turn_map house o M N (says reply next) seen x P Q f g h = g seen h
  turn_map house o M N (wants n owner demand) seen x P Q f g h = here (n == o) h
    where
      here : (b : Bool) → MatchBool b ((after : S) × M owner demand seen x after × P after) (P seen) → MatchBool b ((after : S) × N owner demand seen x after × Q after) (Q seen)
      here true h = (h.0, f owner demand h.0 h.1, g h.0 h.2)
      here false h = g seen h

  pub lead_map : (house : House) (o : ℕ) (M N : Owner → Demand → S → Exchange → S → Type 0) → ((owner : Owner) (demand : Demand) (seen : S) (x : Exchange) (after : S) → M owner demand seen x after → N owner demand seen x after)
      → (seen : S) (xs : List Exchange) (last : S) → Lead house o M seen xs last → Lead house o N seen xs last
  lead_map house o M N f seen [] last h = h
  lead_map house o M N f seen (x ∷ xs) last h = turn_map house o M N (meant_at house x.turn) seen x (λ u. Lead house o M u xs last) (λ u. Lead house o N u xs last) (λ owner demand after. f owner demand seen x after)
      (λ u more. lead_map house o M N f u xs last more) h

  -- One run of exchanges after another.
  pub lead_append : (house : House) (o : ℕ) (M : Owner → Demand → S → Exchange → S → Type 0) (seen : S) (xs : List Exchange) (mid : S) (ys : List Exchange) (last : S)
      → Lead house o M seen xs mid → Lead house o M mid ys last → Lead house o M seen (xs ++ ys) last
  lead_append house o M seen [] mid ys last f g = subst (λ (u : S). Lead house o M u ys last) f g
  lead_append house o M seen (x ∷ xs) mid ys last f g = turn_map house o M M (meant_at house x.turn) seen x (λ u. Lead house o M u xs mid) (λ u. Lead house o M u (xs ++ ys) last) (λ owner demand after meets. meets)
      (λ u more. lead_append house o M u xs mid ys last more g) f
