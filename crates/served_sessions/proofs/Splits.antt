-- exchanges up to one of them, and the others
use Rattle.std.proofs.Common.{ℕ, ◌==◌, Bool, true, false, List, [], ◌∷◌, ◌++◌, refl}
use Rattle.std.specs.Prelude.{MatchBool}
use Rattle.owner_house.specs.Owner.{Owner}
use Rattle.owner_house.specs.House.{House}
use Rattle.successive_runs.specs.AnswerPath.Demand.{Demand}
use Rattle.successive_runs.specs.SessionCore.Meant.{Meant, says, wants}
use Rattle.successive_runs.specs.SessionCore.Turns.{meant_at}
use Rattle.successive_runs.specs.SessionCore.Exchanges.{Exchange, TurnLeads, Lead}

module _ {S : Type 0} (house : House) (o : ℕ) (M : Owner → Demand → S → Exchange → S → Type 0) where
  turn_split : (m : Meant) (seen : S) (x : Exchange) (Whole : S → Type 0) (Front : S → S → Type 0) (Rest : S → Type 0)
      → ((u : S) → Whole u → (mid : S) × Front mid u × Rest mid) → TurnLeads house o M m seen x Whole → (mid : S) × TurnLeads house o M m seen x (Front mid) × Rest mid
  turn_split (says reply next) seen x Whole Front Rest f h = f seen h
  turn_split (wants n owner demand) seen x Whole Front Rest f h = here (n == o) h
    where
      here : (b : Bool) → MatchBool b ((after : S) × M owner demand seen x after × Whole after) (Whole seen)
          → (mid : S) × MatchBool b ((after : S) × M owner demand seen x after × Front mid after) (Front mid seen) × Rest mid
      here true h = let r = f h.0 h.2 in (r.0, (h.0, h.1, r.1), r.2)
      here false h = f seen h

  pub lead_split : (seen : S) (xs ys : List Exchange) (last : S) → Lead house o M seen (xs ++ ys) last → (mid : S) × Lead house o M seen xs mid × Lead house o M mid ys last
  lead_split seen [] ys last h = (seen, refl, h)
  lead_split seen (x ∷ xs) ys last h =
      turn_split (meant_at house x.turn) seen x (λ u. Lead house o M u (xs ++ ys) last) (λ mid u. Lead house o M u xs mid) (λ mid. Lead house o M mid ys last) (λ u more. lead_split u xs ys last more) h
