-- Where no other line adds records, a line is answered on those that it saw.
use Rattle.std.proofs.Common.{◌≡◌, ◌⊎◌, ℕ, ◌+◌, List, [], ◌∷◌, ◌++◌, length, refl, sym, ◌∙◌, ap, subst, arith, append-nil, append_assoc, length-append, inl, inr}
use Rattle.std.specs.List.{enumerate_from}
use Rattle.journal_records.specs.declared.records.Record.{Record}
use Rattle.budget_core.specs.Ledger.{settlement_for}
use Rattle.budget_core.specs.Answers.{recalled_from, left_by, mine_by}
use Rattle.wire_lines.specs.Refusal.{no_memory}
use Rattle.wire_lines.specs.Reply.{Replied}
use Rattle.owner_house.specs.Owner.{Owner, signature_of_view}
use Rattle.owner_desk.specs.Passes.{Told, records_told}
use Rattle.owner_desk.proofs.Own.{records_numbered}
use Rattle.answer_path.specs.Query.{Query}
use Rattle.answer_path.specs.Demand.{asks, recalls, balances, spends}
use Rattle.answer_path.specs.Verdict.{Verdict, program_refused, money_refused, granted, IsVerdict}
use Rattle.answer_path.specs.Answered.{granted_record, AddsNothing, IsAnswered, IsUnanswered, IsAskedBy, IsAsked}
use Rattle.answer_path.specs.Standing.{IsRecalled, IsBalance, IsSpending, recall_reply, left_reply, mine_reply}
use Rattle.answer_path.specs.Met.{IsMet, IsMetExactly}
use Rattle.answer_path.specs.Laws.{AloneIsAnswered, AloneIsMet, ExactlyIsMet}

none_left : (w : List Record) → length w ≡ 0 → w ≡ []
none_left [] h = refl
none_left (x ∷ xs) h = absurd (omega arith)

-- a list that ends with two records more has nothing between them
tight : (seen w v g u after : List Record) (r s : Record) → seen ++ w ≡ g → (g ++ r ∷ []) ++ v ≡ u → after ≡ u ++ s ∷ [] → after ≡ seen ++ r ∷ s ∷ [] → g ≡ seen
tight seen w v g u after r s first second third whole =
    let none : w ≡ [] = none_left w (omega (
      arith,
      sym (ap length first) ∙ length-append seen w,
      sym (ap length second) ∙ length-append (g ++ r ∷ []) v,
      length-append g (r ∷ []),
      ap length third ∙ length-append u (s ∷ []),
      ap length whole ∙ length-append seen (r ∷ s ∷ []),
    )) in
    sym first ∙ ap (λ ws. seen ++ ws) none ∙ append-nil seen

tight_two : (seen w v g u after : List Record) (r s : Record) → seen ++ w ≡ g → (g ++ r ∷ []) ++ v ≡ u → after ≡ u ++ s ∷ [] → after ≡ seen ++ r ∷ s ∷ [] → u ≡ seen ++ r ∷ []
tight_two seen w v g u after r s first second third whole =
    let none : v ≡ [] = none_left v (omega (
      arith,
      sym (ap length first) ∙ length-append seen w,
      sym (ap length second) ∙ length-append (g ++ r ∷ []) v,
      length-append g (r ∷ []),
      ap length third ∙ length-append u (s ∷ []),
      ap length whole ∙ length-append seen (r ∷ s ∷ []),
    )) in
    sym second ∙ ap (λ ws. (g ++ r ∷ []) ++ ws) none ∙ append-nil (g ++ r ∷ []) ∙ ap (λ rs. rs ++ r ∷ []) (tight seen w v g u after r s first second third whole)

-- and one that ends with one record more
tight_one : (seen w v g after : List Record) (r : Record) → seen ++ w ≡ g → (g ++ r ∷ []) ++ v ≡ after → after ≡ seen ++ r ∷ [] → g ≡ seen
tight_one seen w v g after r first second whole =
    let none : w ≡ [] = none_left w (omega (
      arith,
      sym (ap length first) ∙ length-append seen w,
      sym (ap length second) ∙ length-append (g ++ r ∷ []) v,
      length-append g (r ∷ []),
      ap length whole ∙ length-append seen (r ∷ []),
    )) in
    sym first ∙ ap (λ ws. seen ++ ws) none ∙ append-nil seen

pub alone_is_answered : AloneIsAnswered
unfolding IsAsked IsAnswered
alone_is_answered owner draws start query seen reply told after (g, begins, inl (program_refused refusal, is, (said, none, rest))) whole =
    let same : g ≡ seen = sym rest ∙ whole ∙ ap (λ ts. seen ++ records_told ts) none ∙ append-nil seen in
    inl (program_refused refusal, subst (λ rs. IsVerdict owner.entry (signature_of_view owner query.view) start rs query (program_refused refusal)) same is, (said, ap records_told none))
alone_is_answered owner draws start query seen reply told after (g, begins, inl (money_refused refusal, is, (told_so, why, (said, none, rest)))) whole =
    let same : g ≡ seen = sym rest ∙ whole ∙ ap (λ ts. seen ++ records_told ts) none ∙ append-nil seen in
    inl (money_refused refusal, subst (λ rs. IsVerdict owner.entry (signature_of_view owner query.view) start rs query (money_refused refusal)) same is, (told_so, why, said, ap records_told none))
alone_is_answered owner draws start query seen reply told after (g, begins, inl (granted asking grant, is, inl two)) whole =
    let last : Record = settlement_for owner.entry two.u grant.number two.outcome in
    let all = whole ∙ ap (λ ts. seen ++ records_told ts) two.told_is in
    let same : g ≡ seen = tight seen begins.0 two.reserved.0 g two.u after (granted_record asking grant) last begins.1 two.reserved.1 two.after_is all in
    let between : two.u ≡ seen ++ granted_record asking grant ∷ []
    = tight_two seen begins.0 two.reserved.0 g two.u after (granted_record asking grant) last begins.1 two.reserved.1 two.after_is all in
    inl (
      granted asking grant,
      subst (λ rs. IsVerdict owner.entry (signature_of_view owner query.view) start rs query (granted asking grant)) same is,
      inl (
        two.outcome,
        two.settled,
        two.reply_is,
        ap records_told two.told_is ∙ ap (λ us. granted_record asking grant ∷ settlement_for owner.entry us grant.number two.outcome ∷ []) between,
      ),
    )
alone_is_answered owner draws start query seen reply told after (g, begins, inl (granted asking grant, is, inr (refusal, said, inl (none, rest)))) whole =
    let same : g ≡ seen = sym rest ∙ whole ∙ ap (λ ts. seen ++ records_told ts) none ∙ append-nil seen in
    inl (granted asking grant, subst (λ rs. IsVerdict owner.entry (signature_of_view owner query.view) start rs query (granted asking grant)) same is, inr (refusal, said, inl (ap records_told none)))
alone_is_answered owner draws start query seen reply told after (g, begins, inl (granted asking grant, is, inr (refusal, said, inr (one, ahead)))) whole =
    let same : g ≡ seen = tight_one seen begins.0 ahead.0 g after (granted_record asking grant) begins.1 ahead.1 (whole ∙ ap (λ ts. seen ++ records_told ts) one) in
    inl (granted asking grant, subst (λ rs. IsVerdict owner.entry (signature_of_view owner query.view) start rs query (granted asking grant)) same is, inr (refusal, said, inr (ap records_told one)))
alone_is_answered owner draws start query seen reply told after (g, begins, inr (said, none, rest)) whole = inr (said, ap records_told none)

-- what it added stands right behind them
placed : (owner : Owner) (draws : ℕ → ℕ → ℕ) (start : ℕ) (query : Query) (seen : List Record) (reply : Replied) (told : List Told) (after : List Record)
    → IsAsked owner draws start query seen reply told after → after ≡ seen ++ records_told told → told ≡ enumerate_from (length seen) (records_told told)
unfolding IsAsked
placed owner draws start query seen reply told after (g, begins, inl (program_refused refusal, is, (said, none, rest))) whole = none ∙ sym (ap (λ ts. enumerate_from (length seen) (records_told ts)) none)
placed owner draws start query seen reply told after (g, begins, inl (money_refused refusal, is, (told_so, why, (said, none, rest)))) whole = none ∙ sym (ap (λ ts. enumerate_from (length seen) (records_told ts)) none)
placed owner draws start query seen reply told after (g, begins, inl (granted asking grant, is, inl two)) whole =
    let r : Record = granted_record asking grant in
    let s : Record = settlement_for owner.entry two.u grant.number two.outcome in
    let all : after ≡ seen ++ r ∷ s ∷ [] = whole ∙ ap (λ ts. seen ++ records_told ts) two.told_is in
    let first : length g ≡ length seen = ap length (tight seen begins.0 two.reserved.0 g two.u after r s begins.1 two.reserved.1 two.after_is all) in
    let second : length two.u ≡ length seen + 1 = omega (arith, ap length two.after_is ∙ length-append two.u (s ∷ []), ap length all ∙ length-append seen (r ∷ s ∷ [])) in
    two.told_is ∙ (λ i. (first i, r) ∷ (second i, s) ∷ []) ∙ sym (ap (λ ts. enumerate_from (length seen) (records_told ts)) two.told_is)
placed owner draws start query seen reply told after (g, begins, inl (granted asking grant, is, inr (refusal, said, inl (none, rest)))) whole = none ∙ sym (ap (λ ts. enumerate_from (length seen) (records_told ts)) none)
placed owner draws start query seen reply told after (g, begins, inl (granted asking grant, is, inr (refusal, said, inr (one, ahead)))) whole =
    let r : Record = granted_record asking grant in
    let first : length g ≡ length seen = ap length (tight_one seen begins.0 ahead.0 g after r begins.1 ahead.1 (whole ∙ ap (λ ts. seen ++ records_told ts) one)) in
    one ∙ (λ i. (first i, r) ∷ []) ∙ sym (ap (λ ts. enumerate_from (length seen) (records_told ts)) one)
placed owner draws start query seen reply told after (g, begins, inr (said, none, rest)) whole = none ∙ sym (ap (λ ts. enumerate_from (length seen) (records_told ts)) none)

pub alone_is_met : AloneIsMet
unfolding IsMet IsMetExactly IsRecalled IsBalance IsSpending
alone_is_met owner draws start (asks query) seen reply told after met whole =
    (records_told told, alone_is_answered owner draws start query seen reply told after met whole, placed owner draws start query seen reply told after met whole, whole)
alone_is_met owner draws start (recalls analyst number) seen reply told after ((g, begins, is, rest), none) whole =
    let same : g ≡ seen = sym rest ∙ whole ∙ ap (λ ts. seen ++ records_told ts) none ∙ append-nil seen in
    (subst (λ rs. reply ≡ recall_reply number (recalled_from start rs number analyst)) same is, none, rest ∙ same)
alone_is_met owner draws start balances seen reply told after ((g, begins, is, rest), none) whole =
    let same : g ≡ seen = sym rest ∙ whole ∙ ap (λ ts. seen ++ records_told ts) none ∙ append-nil seen in
    (subst (λ rs. reply ≡ left_reply (left_by owner.entry rs)) same is, none, rest ∙ same)
alone_is_met owner draws start (spends analyst) seen reply told after ((g, begins, is, rest), none) whole =
    let same : g ≡ seen = sym rest ∙ whole ∙ ap (λ ts. seen ++ records_told ts) none ∙ append-nil seen in
    (subst (λ rs. reply ≡ mine_reply (mine_by owner.entry rs analyst)) same is, none, rest ∙ same)

-- what was answered so is asked so
asked_exactly : (owner : Owner) (draws : ℕ → ℕ → ℕ) (start : ℕ) (query : Query) (seen : List Record) (reply : Replied) (told : List Told) (after added : List Record)
    → IsAnswered owner draws start seen query reply added ⊎ IsUnanswered reply added → told ≡ enumerate_from (length seen) added → after ≡ seen ++ added
    → IsAsked owner draws start query seen reply told after
unfolding IsAsked IsAnswered
asked_exactly owner draws start query seen reply told after added answered places whole = (seen, ([], append-nil seen), by answered)
  where
    none_told : added ≡ [] → told ≡ []
    none_told none = places ∙ ap (enumerate_from (length seen)) none

    none_after : added ≡ [] → after ≡ seen
    none_after none = whole ∙ ap (λ rs. seen ++ rs) none ∙ append-nil seen

    by : IsAnswered owner draws start seen query reply added ⊎ IsUnanswered reply added
        → ((verdict : Verdict) × IsVerdict owner.entry (signature_of_view owner query.view) start seen query verdict × IsAskedBy owner draws query verdict seen reply told after)
        ⊎ AddsNothing seen no_memory reply told after
    by (inl (program_refused refusal, is, (said, none))) = inl (program_refused refusal, is, (said, none_told none, none_after none))
    by (inl (money_refused refusal, is, (told_so, why, said, none))) = inl (money_refused refusal, is, (told_so, why, (said, none_told none, none_after none)))
    by (inl (granted asking grant, is, inl (outcome, settles, said, two))) =
        let r : Record = granted_record asking grant in
        let s : Record = settlement_for owner.entry (seen ++ r ∷ []) grant.number outcome in
        let next : length seen + 1 ≡ length (seen ++ r ∷ []) = omega (arith, length-append seen (r ∷ [])) in
        inl (
          granted asking grant,
          is,
          inl (record {
            outcome = outcome;
            u = seen ++ r ∷ [];
            settled = settles;
            reserved = ([], append-nil (seen ++ r ∷ []));
            reply_is = said;
            told_is = places ∙ ap (enumerate_from (length seen)) two ∙ (λ i. (length seen, r) ∷ (next i, s) ∷ []);
            after_is = whole ∙ ap (λ rs. seen ++ rs) two ∙ sym (append_assoc seen (r ∷ []) (s ∷ []));
          }),
        )
    by (inl (granted asking grant, is, inr (refusal, said, inl none))) = inl (granted asking grant, is, inr (refusal, said, inl (none_told none, none_after none)))
    by (inl (granted asking grant, is, inr (refusal, said, inr one))) =
        let r : Record = granted_record asking grant in
        inl (
          granted asking grant,
          is,
          inr (
            refusal,
            said,
            inr (places ∙ ap (enumerate_from (length seen)) one, ([], append-nil (seen ++ r ∷ []) ∙ sym (whole ∙ ap (λ rs. seen ++ rs) one))),
          ),
        )
    by (inr (said, none)) = inr (said, none_told none, none_after none)

pub exactly_is_met : ExactlyIsMet
unfolding IsMet IsMetExactly IsRecalled IsBalance IsSpending
exactly_is_met owner draws start (asks query) seen reply told after (added, answered, places, whole) =
    (asked_exactly owner draws start query seen reply told after added answered places whole, whole ∙ ap (λ rs. seen ++ rs) (sym (ap records_told places ∙ records_numbered (length seen) added)))
exactly_is_met owner draws start (recalls analyst number) seen reply told after (is, none, rest) =
    (((seen, ([], append-nil seen), is, rest), none), rest ∙ sym (ap (λ ts. seen ++ records_told ts) none ∙ append-nil seen))
exactly_is_met owner draws start balances seen reply told after (is, none, rest) =
    (((seen, ([], append-nil seen), is, rest), none), rest ∙ sym (ap (λ ts. seen ++ records_told ts) none ∙ append-nil seen))
exactly_is_met owner draws start (spends analyst) seen reply told after (is, none, rest) =
    (((seen, ([], append-nil seen), is, rest), none), rest ∙ sym (ap (λ ts. seen ++ records_told ts) none ∙ append-nil seen))
