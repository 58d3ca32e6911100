-- lines that are met on just the records that were known
use Rattle.std.proofs.Common.{◌≡◌, ℕ, ◌+◌, ◌==◌, Bool, true, false, List, [], ◌∷◌, ◌++◌, length, Some, refl, sym, ◌∙◌, ap, arith, append-nil, append_assoc, length-append}
use Rattle.std.specs.Prelude.{MatchBool, if◌then◌else◌}
use Rattle.std.specs.List.{enumerate_from}
use Rattle.journal_records.specs.declared.records.Outcome.{Outcome}
use Rattle.journal_records.specs.declared.records.Record.{Record}
use Rattle.budget_core.specs.declared.entry.Grant.{Grant}
use Rattle.owner_history.specs.OwnerHouse.House.{House}
use Rattle.owner_history.specs.OwnerDesk.Passes.{Told}
use Rattle.owner_history.specs.AnswerPath.Answered.{outcome_reply}
use Rattle.owner_history.specs.Granted.{told_settlement}
use Rattle.session_core.specs.Meant.{Meant, says, wants}
use Rattle.session_core.specs.Turns.{meant_at}
use Rattle.session_core.specs.Exchanges.{Exchange, TurnLeads, is_of, told_of}
use Rattle.session_core.specs.Transcript.{MeetsExactly, LeadExactly}
use Rattle.session_core.specs.Served.{MeetsOnSome, AnswersOn}
use Rattle.session_core.proofs.Exchanges.{lead_map}
use Rattle.session_core.proofs.Demands.{exactly_met, exactly_adds}

-- They are met on some records that begin with what was known ..
pub answers_on : (house : House) (draws : ℕ → ℕ → ℕ → ℕ) (o start : ℕ) (seen : List Record) (xs : List Exchange) (last : List Record) → LeadExactly house draws o start seen xs last → AnswersOn house draws o start seen xs last
answers_on house draws o start seen xs last h = lead_map house o (MeetsExactly (draws o) start) (MeetsOnSome (draws o) start) (λ owner demand s x after. exactly_met owner (draws o) start demand s x.reply x.told after) seen xs last h

-- .. and what they add stands right behind it, in order.
pub record AddsInOrder (house : House) (o : ℕ) (seen : List Record) (xs : List Exchange) (last : List Record) : Type 0 where
  pub added : List Record
  pub told_is : told_of house o xs ≡ enumerate_from (length seen) added
  pub last_is : last ≡ seen ++ added

numbered_append : (k : ℕ) (xs ys : List Record) → enumerate_from k xs ++ enumerate_from (k + length xs) ys ≡ enumerate_from k (xs ++ ys)
numbered_append k [] ys = ap (λ n. enumerate_from n ys) (omega arith)
numbered_append k (x ∷ xs) ys =
    let far : k + length (x ∷ xs) ≡ k + 1 + length xs = omega arith in
    ap (λ n. enumerate_from k (x ∷ xs) ++ enumerate_from n ys) far ∙ ap (λ (zs : List Told). (k, x) ∷ zs) (numbered_append (k + 1) xs ys)

module _ (house : House) (draws : ℕ → ℕ → ℕ → ℕ) (o start : ℕ) where
  join : (seen after last : List Record) (told more : List Told) → (first : (added : List Record) × (told ≡ enumerate_from (length seen) added) × (after ≡ seen ++ added))
      → (rest : (added : List Record) × (more ≡ enumerate_from (length after) added) × (last ≡ after ++ added)) → (added : List Record) × (told ++ more ≡ enumerate_from (length seen) added) × (last ≡ seen ++ added)
  join seen after last told more (a, told_is, after_is) (b, more_is, last_is) =
      let long : length after ≡ length seen + length a = ap length after_is ∙ length-append seen a in (
        a ++ b,
        ap (λ ts. ts ++ more) told_is ∙ ap (λ ts. enumerate_from (length seen) a ++ ts) (more_is ∙ ap (λ n. enumerate_from n b) long) ∙ numbered_append (length seen) a b,
        last_is ∙ ap (λ rs. rs ++ b) after_is ∙ append_assoc seen a b,
      )

  turn_adds : (m : Meant) (seen : List Record) (x : Exchange) (Rest : List Record → Type 0) (last : List Record) (more : List Told) → TurnLeads house o (MeetsExactly (draws o) start) m seen x Rest
      → ((after : List Record) → Rest after → (added : List Record) × (more ≡ enumerate_from (length after) added) × (last ≡ after ++ added))
      → (added : List Record) × ((if is_of o m then x.told else []) ++ more ≡ enumerate_from (length seen) added) × (last ≡ seen ++ added)
  turn_adds (says reply next) seen x Rest last more h rest = rest seen h
  turn_adds (wants n owner demand) seen x Rest last more h rest = here (n == o) h
    where
      here : (b : Bool) → MatchBool b ((after : List Record) × MeetsExactly (draws o) start owner demand seen x after × Rest after) (Rest seen)
          → (added : List Record) × ((if b then x.told else []) ++ more ≡ enumerate_from (length seen) added) × (last ≡ seen ++ added)
      here true h = join seen h.0 last x.told more (exactly_adds owner (draws o) start demand seen x.reply x.told h.0 h.1) (rest h.0 h.2)
      here false h = rest seen h

  lead_adds : (seen : List Record) (xs : List Exchange) (last : List Record) → LeadExactly house draws o start seen xs last → (added : List Record) × (told_of house o xs ≡ enumerate_from (length seen) added) × (last ≡ seen ++ added)
  lead_adds seen [] last h = ([], refl, h ∙ sym (append-nil seen))
  lead_adds seen (x ∷ xs) last h = turn_adds (meant_at house x.turn) seen x (λ after. LeadExactly house draws o start after xs last) last (told_of house o xs) h (λ after more. lead_adds after xs last more)

  pub adds_in_order : (seen : List Record) (xs : List Exchange) (last : List Record) → LeadExactly house draws o start seen xs last → AddsInOrder house o seen xs last
  adds_in_order seen xs last h = let a = lead_adds seen xs last h in record { added = a.0; told_is = a.1; last_is = a.2 }

-- a grant's reply speaks of its number
pub outcome_said : (grant : Grant) (outcome : Outcome) → told_settlement (outcome_reply grant outcome) ≡ Some (grant.number, outcome)
outcome_said grant outcome = grind arith
