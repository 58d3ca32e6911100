-- what was added where an answer was lost
use Rattle.std.proofs.Common.{◌≡◌, ℕ, [], ◌∷◌, refl, sym, ◌∙◌, ap, inl, inr}
use Rattle.journal_records.specs.declared.records.Outcome.{Outcome}
use Rattle.journal_records.specs.declared.records.Outcome.TheVariants.{Answered, Exhausted, Lost}
use Rattle.journal_records.specs.Records.{settling_back}
use Rattle.budget_core.specs.declared.entry.Grant.{Grant}
use Rattle.budget_core.specs.Ledger.{settlement_for}
use Rattle.budget_core.proofs.Costs.{returned-nothing, kept-unexhausted}
use Rattle.wire_lines.specs.Reply.{refused}
use Rattle.wire_lines.specs.Refusal.{by_number}
use Rattle.wire_lines.specs.declared.refusal.NumberRefusal.TheVariants.{Lost as NoAnswer}
use Rattle.answer_path.specs.Verdict.{program_refused, money_refused, granted}
use Rattle.answer_path.specs.Answered.{granted_record, outcome_reply, IsAsked}
use Rattle.owner_desk.specs.Passes.{records_told}
use Rattle.answer_path.specs.Laws.{LostAreCharged}

-- only a lost outcome is told so, by its grant's number
told_lost : (grant : Grant) (outcome : Outcome) (n : ℕ) → outcome_reply grant outcome ≡ refused (by_number (NoAnswer n)) → (grant.number ≡ n) × (outcome ≡ Lost)
told_lost grant (Answered value) n is = cc
told_lost grant Exhausted n is = cc
told_lost grant Lost n is = (cc is, refl)

pub lost_are_charged : LostAreCharged
unfolding IsAsked
lost_are_charged owner draws start query seen reply told after n (g, begins, inl (program_refused refusal, is, (said, none, rest))) lost = absurd (cc (said, lost))
lost_are_charged owner draws start query seen reply told after n (g, begins, inl (money_refused refusal, is, (_, inl why, (said, none, rest)))) lost = absurd (cc (why, said, lost))
lost_are_charged owner draws start query seen reply told after n (g, begins, inl (money_refused refusal, is, (_, inr (failed_at, low, why), (said, none, rest)))) lost = absurd (cc (why, said, lost))
lost_are_charged owner draws start query seen reply told after n (g, begins, inl (granted asking grant, is, inl two)) lost =
    let h = told_lost grant two.outcome n (sym two.reply_is ∙ lost) in (
      asking,
      grant.taken,
      ap records_told two.told_is ∙ ap (λ (o : Outcome). granted_record asking grant ∷ settlement_for owner.entry two.u grant.number o ∷ []) h.1
          ∙ ap (λ (r : ℕ). granted_record asking grant ∷ settling_back grant.number Lost r ∷ [])
          (returned-nothing owner.entry two.u grant.number Lost (kept-unexhausted owner.entry Lost refl))
          ∙ ap (λ (k : ℕ). granted_record asking (record grant { number = k }) ∷ settling_back k Lost 0 ∷ []) h.0,
    )
lost_are_charged owner draws start query seen reply told after n (g, begins, inl (granted asking grant, is, inr (refusal, said, rest))) lost = absurd (cc (said, lost))
lost_are_charged owner draws start query seen reply told after n (g, begins, inr (said, none, rest)) lost = absurd (cc (said, lost))
