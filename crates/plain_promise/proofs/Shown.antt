-- which records a reply shows that it is made on
use Rattle.std.proofs.Common.{◌≡◌, ℕ, ◌+◌, ◌==◌, nat_le, Bool, true, false, List, [], ◌∷◌, ◌++◌, length, take, Option, Some, None, refl, sym, ◌∙◌, ap, subst}
use Rattle.std.specs.Prelude.{ℤ, if◌then◌else◌}
use mathlib.Core.Logic.{inl, inr}
use mathlib.Core.List.{IsPrefix}
use Rattle.journal_records.specs.declared.records.Outcome.{Outcome}
use Rattle.journal_records.specs.declared.records.Outcome.TheVariants.{Answered, Exhausted, Lost}
use Rattle.journal_records.specs.declared.records.Record.{Record}
use Rattle.journal_records.specs.declared.records.Record.TheVariants.{Reserve}
use Rattle.journal_records.specs.declared.records.Reservation.{Reservation}
use Rattle.journal_records.specs.Records.{settling_back}
use Rattle.budget_core.specs.declared.answers.Recall.{Recall}
use Rattle.budget_core.specs.declared.answers.Recall.TheVariants.{Unknown, NotYours, Answer, Open, Lost as IsLost, Exhausted as IsExhausted}
use Rattle.budget_core.specs.declared.entry.Ask.{Ask}
use Rattle.budget_core.specs.declared.entry.Grant.{Grant}
use Rattle.budget_core.specs.Answers.{recalled_by, recalled_from, standing}
use Rattle.budget_core.specs.Cost.{cost_of, budget_of}
use Rattle.budget_core.specs.Counts.{asker_of, outcome_of}
use Rattle.budget_core.specs.Entries.{Entry, limit_of}
use Rattle.budget_core.specs.Mine.{spent_by}
use Rattle.budget_core.specs.Ledger.{reservation_numbered, returned_by, settlement_for}
use Rattle.budget_core.specs.Legal.{IsHistory, IsReservationAfter}
use Rattle.budget_core.proofs.Numbers.{outcome_of-append-new}
use Rattle.wire_lines.specs.Refusal.{by_disk, by_line, by_money, by_number, by_program, no_memory}
use Rattle.wire_lines.specs.Reply.{Replied, answered, ended, greeted, recalled, refused, remaining, spending}
use Rattle.wire_lines.specs.declared.refusal.MoneyRefusal.{MoneyRefusal}
use Rattle.wire_lines.specs.declared.refusal.MoneyRefusal.TheVariants.{OverBudget as NoBudget, JournalFull, OverShare as NoShare}
use Rattle.wire_lines.specs.declared.refusal.NumberRefusal.TheVariants.{Exhausted as NoNoise, Lost as NoAnswer, Unknown as NoNumber, NotYours as AnotherAnalysts}
use Rattle.owner_desk.specs.Passes.{Told}
use Rattle.owner_house.specs.Owner.{Owner, signature_of_view}
use Rattle.successive_runs.specs.AnswerPath.Answered.{outcome_reply, granted_record, IsAskedBy, IsAsked}
use Rattle.successive_runs.specs.AnswerPath.Demand.{Demand, asks, recalls, balances, spends}
use Rattle.successive_runs.specs.AnswerPath.Met.{IsMet}
use Rattle.successive_runs.specs.AnswerPath.Query.{Query}
use Rattle.successive_runs.specs.AnswerPath.Standing.{IsBalance, IsRecalled, IsSpending, recall_reply}
use Rattle.successive_runs.specs.AnswerPath.Verdict.{Verdict, program_refused, money_refused, granted, IsVerdict}
use Rattle.successive_runs.specs.OwnerHistory.Granted.{told_settlement}
use Rattle.successive_runs.proofs.OwnerHistory.Prefixes.{outcome_prefix, prefix_self, prefix_by, prefix_trans}
use Rattle.query_server.proofs.SessionLaws.Places.{prefix_seam, same_place}
use Rattle.plain_promise.specs.Plain.{IsReservedAt, Shows}
use Rattle.plain_promise.proofs.Verdicts.{says_seen, seen_by}

-- ---- a reply shows one length

reserved_once : (entry : Entry) (R : List Record) (n k m : ℕ) → IsHistory entry R → IsReservedAt R n k → IsReservedAt R n m → k ≡ m
reserved_once entry R n k m h (r, at, is) (s, there, so) =
    let a : IsReservationAfter entry (take k R) r = h.follows k (Reserve r) at in
    let b : IsReservationAfter entry (take m R) s = h.follows m (Reserve s) there in
    same_place R k m r s at there (sym a.numbered ∙ is ∙ sym so ∙ b.numbered)

pub one_length : (entry : Entry) (R : List Record) (reply : Replied) (k m : ℕ) → IsHistory entry R → Shows R reply k → Shows R reply m → k ≡ m
one_length entry R (greeted name) k m h a b = absurd a
one_length entry R (answered n v taken) k m h a b = reserved_once entry R n k m h a b
one_length entry R (recalled n held seen) k m h a b = a ∙ sym b
one_length entry R (remaining spent budget seen) k m h a b = a ∙ sym b
one_length entry R (spending spent limit seen) k m h a b = a ∙ sym b
one_length entry R ended k m h a b = absurd a
one_length entry R (refused (by_line refusal)) k m h a b = absurd a
one_length entry R (refused (by_program refusal)) k m h a b = absurd a
one_length entry R (refused (by_money (NoBudget spent after budget seen))) k m h a b = a ∙ sym b
one_length entry R (refused (by_money (JournalFull used unsettled capacity))) k m h a b = a ∙ sym b
one_length entry R (refused (by_money (NoShare spent after limit seen))) k m h a b = a ∙ sym b
one_length entry R (refused (by_disk refusal)) k m h a b = absurd a
one_length entry R (refused (by_number (NoNoise n))) k m h a b = reserved_once entry R n k m h a b
one_length entry R (refused (by_number (NoAnswer n))) k m h a b = reserved_once entry R n k m h a b
one_length entry R (refused (by_number (NoNumber n seen))) k m h a b = a ∙ sym b
one_length entry R (refused (by_number (AnotherAnalysts n seen))) k m h a b = a ∙ sym b
one_length entry R (refused no_memory) k m h a b = absurd a

-- ---- what replies show

pub money_shows : (R : List Record) (refusal : MoneyRefusal) (k : ℕ) → k ≡ seen_by refusal → Shows R (refused (by_money refusal)) k
money_shows R (NoBudget spent after budget seen) k is = is
money_shows R (JournalFull used unsettled capacity) k is = is
money_shows R (NoShare spent after limit seen) k is = is

pub money_shown : (R : List Record) (refusal : MoneyRefusal) (k : ℕ) → Shows R (refused (by_money refusal)) k → k ≡ seen_by refusal
money_shown R (NoBudget spent after budget seen) k is = is
money_shown R (JournalFull used unsettled capacity) k is = is
money_shown R (NoShare spent after limit seen) k is = is

outcome_shows : (R : List Record) (k : ℕ) (grant : Grant) (outcome : Outcome) → IsReservedAt R grant.number k → Shows R (outcome_reply grant outcome) k
outcome_shows R k grant (Answered value) at = at
outcome_shows R k grant Exhausted at = at
outcome_shows R k grant Lost at = at

outcome_said : (grant : Grant) (outcome : Outcome) → told_settlement (outcome_reply grant outcome) ≡ Some (grant.number, outcome)
outcome_said grant (Answered value) = refl
outcome_said grant Exhausted = refl
outcome_said grant Lost = refl

same_number : (R : List Record) (m n k : ℕ) (o p : Outcome) → ◌≡◌ {A = Option (ℕ × Outcome)} (Some (m, o)) (Some (n, p)) → IsReservedAt R n k → IsReservedAt R m k
same_number R m n k o p said at =
    let pair : ◌≡◌ {A = ℕ × Outcome} (m, o) (n, p) = cc (said) in
    subst (λ (i : ℕ). IsReservedAt R i k) (sym (ap (λ (z : ℕ × Outcome). z.0) pair)) at

-- a reply that tells a number shows where its reservation stands
pub number_shows : (R : List Record) (reply : Replied) (n k : ℕ) (outcome : Outcome) → told_settlement reply ≡ Some (n, outcome) → IsReservedAt R n k → Shows R reply k
number_shows R (answered m v taken) n k outcome said at = same_number R m n k (Answered v) outcome said at
number_shows R (refused (by_number (NoNoise m))) n k outcome said at = same_number R m n k (Exhausted) outcome said at
number_shows R (refused (by_number (NoAnswer m))) n k outcome said at = same_number R m n k (Lost) outcome said at
number_shows R (refused (by_number (NoNumber m seen))) n k outcome said at = absurd (cc (said))
number_shows R (refused (by_number (AnotherAnalysts m seen))) n k outcome said at = absurd (cc (said))
number_shows R (greeted name) n k outcome said at = absurd (cc (said))
number_shows R (recalled m held seen) n k outcome said at = absurd (cc (said))
number_shows R (remaining spent budget seen) n k outcome said at = absurd (cc (said))
number_shows R (spending spent limit seen) n k outcome said at = absurd (cc (said))
number_shows R ended n k outcome said at = absurd (cc (said))
number_shows R (refused (by_line refusal)) n k outcome said at = absurd (cc (said))
number_shows R (refused (by_program refusal)) n k outcome said at = absurd (cc (said))
number_shows R (refused (by_money refusal)) n k outcome said at = absurd (cc (said))
number_shows R (refused (by_disk refusal)) n k outcome said at = absurd (cc (said))
number_shows R (refused no_memory) n k outcome said at = absurd (cc (said))

seen_in : Recall → ℕ
seen_in (Unknown seen) = seen
seen_in (NotYours seen) = seen
seen_in (Answer value seen) = seen
seen_in (Open seen) = seen
seen_in (IsLost seen) = seen
seen_in (IsExhausted seen) = seen

standing_seen : (start number seen : ℕ) (outcome : Option Outcome) → seen_in (standing start number seen outcome) ≡ seen
unfolding seen_in
standing_seen start number seen (Some (Answered value)) = refl
standing_seen start number seen (Some Exhausted) = refl
standing_seen start number seen (Some Lost) = refl
standing_seen start number seen None = here (nat_le start number)
  where
    here : (b : Bool) → seen_in (if b then Open seen else IsLost seen) ≡ seen
    here true = refl
    here false = refl

recalled_seen : (start : ℕ) (g : List Record) (number analyst : ℕ) → seen_in (recalled_from start g number analyst) ≡ length g
unfolding seen_in
recalled_seen start g number analyst = of (asker_of g number)
  where
    of : (asker : Option ℕ) → seen_in (recalled_by start g number analyst asker) ≡ length g
    of None = refl
    of (Some asker) = here (asker == analyst)
      where
        here : (b : Bool) → seen_in (if b then standing start number (length g) (outcome_of g number) else NotYours (length g)) ≡ length g
        here true = standing_seen start number (length g) (outcome_of g number)
        here false = refl

recall_shows : (R : List Record) (number k : ℕ) (recall : Recall) → k ≡ seen_in recall → Shows R (recall_reply number recall) k
unfolding seen_in
recall_shows R number k (Unknown seen) is = is
recall_shows R number k (NotYours seen) is = is
recall_shows R number k (Answer value seen) is = is
recall_shows R number k (Open seen) is = is
recall_shows R number k (IsLost seen) is = is
recall_shows R number k (IsExhausted seen) is = is

module _ (owner : Owner) (draws : ℕ → ℕ → ℕ) (start : ℕ) where
  -- A reply is made on records g, which begin with those seen: as many as it shows, of all that go on from the records after it.
  pub record IsShownOn (reply : Replied) (seen after : List Record) : Type 0 where
    pub g : List Record
    pub on : IsPrefix seen g
    pub ends : IsPrefix g after
    pub shows : (R : List Record) → IsPrefix after R → Shows R reply (length g)

  abbrev two_after : (query : Query) (asking : Ask) (grant : Grant) (g u : List Record) (outcome : Outcome) → IsPrefix (g ++ granted_record asking grant ∷ []) u
      → IsPrefix (g ++ granted_record asking grant ∷ []) (u ++ settlement_for owner.entry u grant.number outcome ∷ [])
  two_after query asking grant g u outcome reserved =
      prefix_trans (g ++ granted_record asking grant ∷ []) u (u ++ settlement_for owner.entry u grant.number outcome ∷ []) reserved (prefix_by u (settlement_for owner.entry u grant.number outcome ∷ []))

  asked_on : (query : Query) (reply : Replied) (seen : List Record) (told : List Told) (after R : List Record) (k : ℕ) → Shows R reply k → IsAsked owner draws start query seen reply told after → IsShownOn reply seen after
  unfolding IsAsked
  asked_on query reply seen told after R k some (g, on, inr lack) = absurd (subst (λ (w : Replied). Shows R w k) lack.0 some)
  asked_on query reply seen told after R k some (g, on, inl (verdict, is, by)) = of verdict is by
    where
      of : (v : Verdict) → IsVerdict owner.entry (signature_of_view owner query.view) start g query v → IsAskedBy owner draws query v g reply told after → IsShownOn reply seen after
      of (program_refused refusal) v by = absurd (subst (λ (w : Replied). Shows R w k) by.0 some)
      of (money_refused refusal) v (said, inl says, by) =
          record {
            g = g;
            on = on;
            ends = subst (λ (w : List Record). IsPrefix g w) (sym by.2) (prefix_self g);
            shows = λ T e. subst (λ (w : Replied). Shows T w (length g)) (sym (by.0 ∙ ap refused says)) (money_shows T refusal (length g) (says_seen owner draws start query g refusal v));
          }
      of (money_refused refusal) v (said, inr (failed_at, above, says), by) = absurd (subst (λ (w : Replied). Shows R w k) (by.0 ∙ ap refused says) some)
      of (granted asking grant) v (inl two) =
          let end : List Record = settlement_for owner.entry two.u grant.number two.outcome ∷ [] in
          let whole : IsPrefix (g ++ granted_record asking grant ∷ []) after
          = subst (λ (w : List Record). IsPrefix (g ++ granted_record asking grant ∷ []) w) (sym two.after_is) (two_after query asking grant g two.u two.outcome two.reserved) in
          record {
            g = g;
            on = on;
            ends = prefix_trans g (g ++ granted_record asking grant ∷ []) after (prefix_by g (granted_record asking grant ∷ [])) whole;
            shows = λ T e.
                let seam = prefix_seam g (granted_record asking grant) T (prefix_trans (g ++ granted_record asking grant ∷ []) after T whole e) in
                subst (λ (w : Replied). Shows T w (length g)) (sym two.reply_is)
                (outcome_shows T (length g) grant two.outcome (reservation_numbered grant.number asking grant.taken, seam.1, refl));
          }
      of (granted asking grant) v (inr (refusal, said, rest)) = absurd (subst (λ (w : Replied). Shows R w k) said some)

  recalled_on : (analyst number : ℕ) (reply : Replied) (seen : List Record) (after : List Record) → IsRecalled start analyst number seen reply after → IsShownOn reply seen after
  unfolding IsRecalled
  recalled_on analyst number reply seen after (g, on, is, same) = record {
    g = g;
    on = on;
    ends = subst (λ (w : List Record). IsPrefix g w) (sym same) (prefix_self g);
    shows = λ T e.
        subst (λ (w : Replied). Shows T w (length g)) (sym is)
        (recall_shows T number (length g) (recalled_from start g number analyst) (sym (recalled_seen start g number analyst)));
  }

  balanced_on : (reply : Replied) (seen : List Record) (after : List Record) → IsBalance owner.entry seen reply after → IsShownOn reply seen after
  unfolding IsBalance
  balanced_on reply seen after (g, on, is, same) = record {
    g = g;
    on = on;
    ends = subst (λ (w : List Record). IsPrefix g w) (sym same) (prefix_self g);
    shows = λ T e. subst (λ (w : Replied). Shows T w (length g)) (sym is) refl;
  }

  spending_on : (analyst : ℕ) (reply : Replied) (seen : List Record) (after : List Record) → IsSpending owner.entry analyst seen reply after → IsShownOn reply seen after
  unfolding IsSpending
  spending_on analyst reply seen after (g, on, is, same) = record {
    g = g;
    on = on;
    ends = subst (λ (w : List Record). IsPrefix g w) (sym same) (prefix_self g);
    shows = λ T e. subst (λ (w : Replied). Shows T w (length g)) (sym is) refl;
  }

  pub shown_on : (demand : Demand) (reply : Replied) (seen : List Record) (told : List Told) (after R : List Record) (k : ℕ) → Shows R reply k → IsMet owner draws start demand seen reply told after → IsShownOn reply seen after
  unfolding IsMet
  shown_on (asks query) reply seen told after R k some met = asked_on query reply seen told after R k some met
  shown_on (recalls analyst number) reply seen told after R k some met = recalled_on analyst number reply seen after met.0
  shown_on balances reply seen told after R k some met = balanced_on reply seen after met.0
  shown_on (spends analyst) reply seen told after R k some met = spending_on analyst reply seen after met.0

  -- a recall says what stands on the records after it
  pub recall_said : (analyst number : ℕ) (reply : Replied) (seen : List Record) (told : List Told) (after : List Record) → IsMet owner draws start (recalls analyst number) seen reply told after
      → (reply ≡ recall_reply number (recalled_from start after number analyst)) × ((R : List Record) → Shows R reply (length after))
  unfolding IsMet IsRecalled
  recall_said analyst number reply seen told after ((g, on, is, same), none) =
      let so : reply ≡ recall_reply number (recalled_from start after number analyst) = is ∙ ap (λ (w : List Record). recall_reply number (recalled_from start w number analyst)) (sym same) in (
        so,
        λ R. subst (λ (w : Replied). Shows R w (length after)) (sym so) (recall_shows R number (length after) (recalled_from start after number analyst) (sym (recalled_seen start after number analyst))),
      )

  -- and a balance
  pub balance_said : (reply : Replied) (seen : List Record) (told : List Told) (after : List Record) → IsMet owner draws start balances seen reply told after
      → reply ≡ remaining (cost_of owner.entry after) (budget_of owner.entry after) (length after)
  unfolding IsMet IsBalance
  balance_said reply seen told after ((g, on, is, same), none) =
      subst (λ (w : List Record). reply ≡ remaining (cost_of owner.entry w) (budget_of owner.entry w) (length w)) (sym same) is

  -- and what an analyst is told of its own spending
  pub spending_said : (analyst : ℕ) (reply : Replied) (seen : List Record) (told : List Told) (after : List Record) → IsMet owner draws start (spends analyst) seen reply told after
      → reply ≡ spending (spent_by owner.entry after analyst) (limit_of owner.entry analyst) (length after)
  unfolding IsMet IsSpending
  spending_said analyst reply seen told after ((g, on, is, same), none) =
      subst (λ (w : List Record). reply ≡ spending (spent_by owner.entry w analyst) (limit_of owner.entry analyst) (length w)) (sym same) is

  -- ---- what a grant leaves

  -- what settles a number settles it, or it was settled before
  settled_some : (u : List Record) (n returned : ℕ) (outcome : Outcome) → (o : Outcome) × (outcome_of (u ++ settling_back n outcome returned ∷ []) n ≡ Some o)
  settled_some u n returned outcome = here (outcome_of u n) refl
    where
      here : (was : Option Outcome) → outcome_of u n ≡ was → (o : Outcome) × (outcome_of (u ++ settling_back n outcome returned ∷ []) n ≡ Some o)
      here None is = (outcome, outcome_of-append-new u n outcome returned is)
      here (Some o) is = (o, outcome_prefix u (u ++ settling_back n outcome returned ∷ []) n o (prefix_by u (settling_back n outcome returned ∷ [])) is)

  -- Number n's reservation stands behind the records g, and the records after it settle it.
  pub record IsGrantedOn (n : ℕ) (reply : Replied) (seen after : List Record) : Type 0 where
    pub g : List Record
    pub reserved : Reservation
    pub on : IsPrefix seen g
    pub stands : IsPrefix (g ++ Reserve reserved ∷ []) after
    pub number : reserved.number ≡ n
    pub outcome : Outcome
    pub settled : outcome_of after n ≡ Some outcome
    pub charged : (v : ℤ) (taken : ℕ) → reply ≡ answered n v taken → reserved.taken ≡ taken

  taken_said : (n taken : ℕ) (v : ℤ) (grant : Grant) (outcome : Outcome) → answered n v taken ≡ outcome_reply grant outcome → grant.taken ≡ taken
  taken_said n taken v grant (Answered value) is = cc (is)
  taken_said n taken v grant Exhausted is = absurd (cc (is))
  taken_said n taken v grant Lost is = absurd (cc (is))

  pub granted_on : (query : Query) (reply : Replied) (n : ℕ) (outcome : Outcome) (seen : List Record) (told : List Told) (after : List Record) → told_settlement reply ≡ Some (n, outcome)
      → IsMet owner draws start (asks query) seen reply told after → IsGrantedOn n reply seen after
  unfolding IsMet IsAsked
  granted_on query reply n outcome seen told after said (g, on, inr lack) = absurd (let both : None ≡ Some (n, outcome) = sym (ap told_settlement lack.0) ∙ said in cc (both))
  granted_on query reply n outcome seen told after said (g, on, inl (verdict, is, by)) = of verdict by
    where
      of : (v : Verdict) → IsAskedBy owner draws query v g reply told after → IsGrantedOn n reply seen after
      of (program_refused refusal) by = absurd (let both : None ≡ Some (n, outcome) = sym (ap told_settlement by.0) ∙ said in cc (both))
      of (money_refused refusal) (word, inl says, by) = absurd (let both : None ≡ Some (n, outcome) = sym (ap told_settlement (by.0 ∙ ap refused says)) ∙ said in cc (both))
      of (money_refused refusal) (word, inr (failed_at, above, says), by) = absurd (let both : None ≡ Some (n, outcome) = sym (ap told_settlement (by.0 ∙ ap refused says)) ∙ said in cc (both))
      of (granted asking grant) (inr (refusal, is, rest)) = absurd (let both : None ≡ Some (n, outcome) = sym (ap told_settlement is) ∙ said in cc (both))
      of (granted asking grant) (inl two) =
          let both : Some (grant.number, two.outcome) ≡ Some (n, outcome) = sym (outcome_said grant two.outcome) ∙ sym (ap told_settlement two.reply_is) ∙ said in
          let pair : (grant.number, two.outcome) ≡ (n, outcome) = cc (both) in
          let number : grant.number ≡ n = ap (λ (z : ℕ × Outcome). z.0) pair in
          let s = settled_some two.u grant.number (returned_by owner.entry two.u grant.number two.outcome) two.outcome in
          record {
            g = g;
            reserved = reservation_numbered grant.number asking grant.taken;
            on = on;
            stands = subst (λ (w : List Record). IsPrefix (g ++ granted_record asking grant ∷ []) w) (sym two.after_is) (two_after query asking grant g two.u two.outcome two.reserved);
            number = number;
            outcome = s.0;
            settled = subst (λ (w : List Record). outcome_of w n ≡ Some s.0) (sym two.after_is)
                (subst (λ (k : ℕ). outcome_of (two.u ++ settlement_for owner.entry two.u grant.number two.outcome ∷ []) k ≡ Some s.0) number s.1);
            charged = λ v taken told_so. taken_said n taken v grant two.outcome (sym told_so ∙ two.reply_is);
          }
