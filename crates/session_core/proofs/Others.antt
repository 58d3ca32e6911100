-- lines that ask other owners
use Rattle.std.proofs.Common.{◌≡◌, ℕ, Bool, false, List, [], ◌∷◌, ◌++◌, slice_get, Some, refl, ◌∙◌, ap, subst, append-nil}
use Rattle.std.specs.Prelude.{MatchBool, if◌then◌else◌}
use Rattle.owner_history.specs.OwnerHouse.Owner.{Owner}
use Rattle.owner_history.specs.OwnerHouse.House.{House}
use Rattle.owner_history.specs.OwnerDesk.Passes.{Pass, Told, first_of_run}
use Rattle.owner_history.specs.AnswerPath.Demand.{Demand}
use Rattle.owner_history.specs.AnswerPath.Shut.{shut_of}
use Rattle.session_core.specs.Meant.{Meant, says, wants}
use Rattle.session_core.specs.Turns.{meant_at}
use Rattle.session_core.specs.Exchanges.{Exchange, TurnLeads, Lead, is_of, told_of, AskOthers}
use Rattle.session_core.specs.Served.{MeetsOnSome, ShutsFor}
use Rattle.session_core.specs.Code.{pass_at, GoesOn, AreServed}

told_others : (house : House) (o : ℕ) (xs : List Exchange) → AskOthers house o xs → told_of house o xs ≡ []
told_others house o [] others = refl
told_others house o (x ∷ xs) others =
    ap (λ (b : Bool). (if b then x.told else []) ++ told_of house o xs) others.0 ∙ told_others house o xs others.1

led_others : {S : Type 0} (house : House) (o : ℕ) (M : Owner → Demand → S → Exchange → S → Type 0) (seen : S) (xs : List Exchange) (last : S)
    → AskOthers house o xs → Lead house o M seen xs last → last ≡ seen
led_others house o M seen [] last others leads = leads
led_others {S} house o M seen (x ∷ xs) last others leads = led_others house o M seen xs last others.1 (behind (meant_at house x.turn) others.0 leads)
  where
    behind : (m : Meant) → is_of o m ≡ false → TurnLeads house o M m seen x (λ after. Lead house o M after xs last) → Lead house o M seen xs last
    behind (says reply next) other h = h
    behind (wants n owner demand) other h =
        subst (λ (b : Bool). MatchBool b ((after : S) × M owner demand seen x after × Lead house o M after xs last) (Lead house o M seen xs last)) other h

pub same_pass : (a b : Pass) → b.opened ≡ a.opened → b.seen ≡ a.seen → b.own ≡ a.own → shut_of b ≡ shut_of a → b ≡ a
same_pass a b opened seen own shut = λ i. record { opened = opened i; seen = seen i; failure = (shut i).failure; own = own i; faults = (shut i).own }

pub others_stay : (house : House) (draws : ℕ → ℕ → ℕ → ℕ) (xs : List Exchange) (before after : List Pass) (o : ℕ) (owner : Owner) → AreServed house draws xs before after → slice_get house.owners o ≡ Some owner
    → AskOthers house o xs → pass_at after o ≡ pass_at before o
others_stay house draws xs before after o owner served at others =
    let goes : GoesOn house draws o xs (pass_at before o) (pass_at after o) = served.owners o owner at in
    same_pass (pass_at before o) (pass_at after o) goes.opened
    (led_others house o (MeetsOnSome (draws o) (first_of_run (pass_at before o))) (pass_at before o).seen xs (pass_at after o).seen others goes.answers)
    (goes.own ∙ ap (λ (ts : List Told). (pass_at before o).own ++ ts) (told_others house o xs others) ∙ append-nil (pass_at before o).own)
    (led_others house o (ShutsFor (draws o)) (shut_of (pass_at before o)) xs (shut_of (pass_at after o)) others goes.shuts)
