-- lines that add no record
use Rattle.std.proofs.Common.{◌≡◌, ℕ, List, [], ◌++◌, Option, Some, None, refl, sym, ◌∙◌, ap, subst, append-nil, inl, inr}
use mathlib.Core.List.{IsPrefix}
use Rattle.journal_records.specs.declared.records.Outcome.{Outcome}
use Rattle.journal_records.specs.declared.records.Outcome.TheVariants.{Answered, Exhausted, Lost}
use Rattle.journal_records.specs.declared.records.Record.{Record}
use Rattle.budget_core.specs.declared.entry.Grant.{Grant}
use Rattle.budget_ledger.specs.declared.failure.Failure.{Failure}
use Rattle.wire_lines.specs.Reply.{Replied, greeted, answered, recalled, remaining, spending, ended, refused}
use Rattle.wire_lines.specs.Refusal.{by_line, by_program, by_money, by_disk, by_number, no_memory}
use Rattle.wire_lines.specs.declared.refusal.NumberRefusal.TheVariants.{Unknown, NotYours, Exhausted as NoNoise, Lost as NoAnswer}
use Rattle.owner_house.specs.Owner.{Owner}
use Rattle.owner_desk.specs.Passes.{Pass, Told, records_told}
use Rattle.answer_path.specs.Query.{Query}
use Rattle.answer_path.specs.Demand.{Demand, asks, recalls, balances, spends}
use Rattle.answer_path.specs.Verdict.{program_refused, money_refused, granted}
use Rattle.answer_path.specs.Answered.{IsAsked, outcome_reply}
use Rattle.answer_path.specs.Standing.{IsBalance, IsRecalled, IsSpending}
use Rattle.answer_path.specs.Met.{IsMet}
use Rattle.answer_path.specs.Shut.{FailsBy, Shut, ShutsBy, StaysShut, disk_word, shut_of}
use Rattle.answer_path.specs.Idle.{AddsNone, IsAlone, IsShutOut, LeavesBook}
use Rattle.answer_path.specs.Laws.{RefusalsAddNothing, RefusalsLeavePass, RefusalsLeaveRecords}
use Rattle.answer_path.proofs.Alone.{exactly_is_met}
use Rattle.answer_path.proofs.Sole.{closing_same}

-- ---- a query

outcome_adds : (grant : Grant) (outcome : Outcome) → AddsNone (outcome_reply grant outcome) → ⊥
outcome_adds grant (Answered value) none = none
outcome_adds grant Exhausted none = none
outcome_adds grant Lost none = none

none_told : (owner : Owner) (draws : ℕ → ℕ → ℕ) (start : ℕ) (query : Query) (seen : List Record) (reply : Replied) (told : List Told) (after : List Record)
    → IsAsked owner draws start query seen reply told after → AddsNone reply → told ≡ []
unfolding IsAsked
none_told owner draws start query seen reply told after (g, begins, inl (program_refused refusal, is, (said, none, rest))) adds = none
none_told owner draws start query seen reply told after (g, begins, inl (money_refused refusal, is, (told_so, why, (said, none, rest)))) adds = none
none_told owner draws start query seen reply told after (g, begins, inl (granted asking grant, is, inl two)) adds = absurd (outcome_adds grant two.outcome (subst AddsNone two.reply_is adds))
none_told owner draws start query seen reply told after (g, begins, inl (granted asking grant, is, inr (refusal, said, rest))) adds = absurd (subst AddsNone said adds)
none_told owner draws start query seen reply told after (g, begins, inr (said, none, rest)) adds = none

-- where nothing is told, what is known afterwards goes on from what was seen
goes_on : (owner : Owner) (draws : ℕ → ℕ → ℕ) (start : ℕ) (query : Query) (seen : List Record) (reply : Replied) (told : List Told) (after : List Record)
    → IsAsked owner draws start query seen reply told after → told ≡ [] → IsPrefix seen after
unfolding IsAsked
goes_on owner draws start query seen reply told after (g, begins, inl (program_refused refusal, is, (said, none, rest))) nothing = subst (IsPrefix seen) (sym rest) begins
goes_on owner draws start query seen reply told after (g, begins, inl (money_refused refusal, is, (told_so, why, (said, none, rest)))) nothing = subst (IsPrefix seen) (sym rest) begins
goes_on owner draws start query seen reply told after (g, begins, inl (granted asking grant, is, inl two)) nothing = absurd (cc (two.told_is, nothing))
goes_on owner draws start query seen reply told after (g, begins, inl (granted asking grant, is, inr (refusal, said, inl (none, rest)))) nothing = subst (IsPrefix seen) (sym rest) begins
goes_on owner draws start query seen reply told after (g, begins, inl (granted asking grant, is, inr (refusal, said, inr (some, rest)))) nothing = absurd (cc (some, nothing))
goes_on owner draws start query seen reply told after (g, begins, inr (said, none, rest)) nothing = subst (IsPrefix seen) (sym rest) begins

-- such a reply is no word of the disk
no_word : (reply : Replied) → AddsNone reply → disk_word reply ≡ None
no_word (answered number value taken) adds = absurd adds
no_word (refused (by_number (NoNoise number))) adds = absurd adds
no_word (refused (by_number (NoAnswer number))) adds = absurd adds
no_word (refused (by_number (Unknown number seen))) adds = refl
no_word (refused (by_number (NotYours number seen))) adds = refl
no_word (refused (by_disk refusal)) adds = absurd adds
no_word (refused (by_line refusal)) adds = refl
no_word (refused (by_program refusal)) adds = refl
no_word (refused (by_money refusal)) adds = refl
no_word (refused no_memory) adds = refl
no_word (greeted name) adds = refl
no_word (recalled number standing seen) adds = refl
no_word (remaining spent budget seen) adds = refl
no_word (spending spent limit seen) adds = refl
no_word ended adds = refl

-- What a line leaves of the book's shutting: that no append of its own failed.
abbrev FailsNot : List Told → (before after : Shut) → Type 0
FailsNot told before after = StaysShut told before.failure after.failure × (after.own ≡ before.own)

fails_not : (owner : Owner) (draws : ℕ → ℕ → ℕ) (query : Query) (reply : Replied) (told : List Told) (before after : Shut) → AddsNone reply → FailsBy owner draws query (disk_word reply) told before after → FailsNot told before after
fails_not owner draws query reply told before after adds fails = subst (λ (word : Option (Option ℕ)). FailsBy owner draws query word told before after) (no_word reply adds) fails

-- and of one that is told 42, which has seen why the book is shut
abbrev ShutsOut : List Told → (before after : Shut) → Type 0
ShutsOut told before after = (failure : Failure) × (after.failure ≡ Some failure) × FailsNot told before after

shuts_out : (owner : Owner) (draws : ℕ → ℕ → ℕ) (query : Query) (reply : Replied) (told : List Told) (before after : Shut) → IsShutOut reply → FailsBy owner draws query (disk_word reply) told before after → ShutsOut told before after
shuts_out owner draws query reply told before after (failed_at, is) fails =
    let s : FailsBy owner draws query (Some (Some failed_at)) told before after = subst (λ (r : Replied). FailsBy owner draws query (disk_word r) told before after) is fails in
    (s.0, s.1, (s.3, s.4))

-- ---- a pass

module _ (before after : Pass) (told : List Told) (own : after.own ≡ before.own ++ told) where
  same_own : told ≡ [] → after.own ≡ before.own
  same_own none = own ∙ ap (λ (ts : List Told). before.own ++ ts) none ∙ append-nil before.own

  leaves : told ≡ [] → IsPrefix before.seen after.seen → FailsNot told (shut_of before) (shut_of after) → LeavesBook before after
  leaves none begins (stays, faults) = (begins, record { seen = refl; own = same_own none; faults = faults; closed = stays.still })

  -- of one that is told 42
  leaves_out : (failure : Failure) → before.failure ≡ Some failure → (told ≡ [] → IsPrefix before.seen after.seen) → ShutsOut told (shut_of before) (shut_of after) → LeavesBook before after
  leaves_out failure was begins (other, shut, (stays, faults)) =
      let none = stays.adds_nothing failure was in
      leaves none (begins none) (stays, faults)

  -- of the only pass
  module _ (opened : after.opened ≡ before.opened) (was : IsAlone before) (is : IsAlone after) where
    same_seen : told ≡ [] → after.seen ≡ before.seen
    same_seen none =
        is.seen ∙ ap (λ (p : List Record). p ++ records_told after.own) (ap (λ a. a.ledger.found) opened)
        ∙ ap (λ (ts : List Told). before.opened.ledger.found ++ records_told ts) (same_own none) ∙ sym was.seen

    same_failure : after.faults ≡ before.faults → after.failure ≡ before.failure
    same_failure faults = closing_same after.failure before.failure (sym is.shut ∙ faults ∙ was.shut)

    the_same : told ≡ [] → after.faults ≡ before.faults → after ≡ before
    the_same none faults =
        let seen = same_seen none in
        let mine = same_own none in
        let failure = same_failure faults in
        λ i. record { opened = opened i; seen = seen i; failure = failure i; own = mine i; faults = faults i }

    -- a pass that is told 42 had seen the book shut before
    same_out : ShutsOut told (shut_of before) (shut_of after) → after ≡ before
    same_out (failure, shut, (stays, faults)) = the_same (stays.adds_nothing failure (sym (same_failure faults) ∙ shut)) faults

pub add_nothing : RefusalsAddNothing
unfolding IsMet ShutsBy IsRecalled IsBalance IsSpending
add_nothing owner draws (asks query) before after reply told met own shuts (inl adds) =
    let none = none_told owner draws _ query before.seen reply told after.seen met adds in
    leaves before after told own none (goes_on owner draws _ query before.seen reply told after.seen met none) (fails_not owner draws query reply told (shut_of before) (shut_of after) adds shuts.0)
add_nothing owner draws (asks query) before after reply told met own shuts (inr (out, (failure, was))) =
    leaves_out before after told own failure was (goes_on owner draws _ query before.seen reply told after.seen met) (shuts_out owner draws query reply told (shut_of before) (shut_of after) out shuts.0)
add_nothing owner draws (recalls analyst number) before after reply told ((g, begins, said, rest), none) own shuts idle = leaves before after told own none (subst (IsPrefix before.seen) (sym rest) begins) shuts
add_nothing owner draws balances before after reply told ((g, begins, said, rest), none) own shuts idle = leaves before after told own none (subst (IsPrefix before.seen) (sym rest) begins) shuts
add_nothing owner draws (spends analyst) before after reply told ((g, begins, said, rest), none) own shuts idle = leaves before after told own none (subst (IsPrefix before.seen) (sym rest) begins) shuts

pub leave_pass : RefusalsLeavePass
unfolding IsMet ShutsBy
leave_pass owner draws (asks query) before after reply told met own shuts opened was is (inl adds) =
    the_same before after told own opened was is (none_told owner draws _ query before.seen reply told after.seen met adds) (fails_not owner draws query reply told (shut_of before) (shut_of after) adds shuts.0).1
leave_pass owner draws (asks query) before after reply told met own shuts opened was is (inr out) =
    same_out before after told own opened was is (shuts_out owner draws query reply told (shut_of before) (shut_of after) out shuts.0)
leave_pass owner draws (recalls analyst number) before after reply told met own shuts opened was is idle = the_same before after told own opened was is met.1 shuts.1
leave_pass owner draws balances before after reply told met own shuts opened was is idle = the_same before after told own opened was is met.1 shuts.1
leave_pass owner draws (spends analyst) before after reply told met own shuts opened was is idle = the_same before after told own opened was is met.1 shuts.1

-- where demands are met exactly
met_none : (owner : Owner) (draws : ℕ → ℕ → ℕ) (start : ℕ) (demand : Demand) (seen : List Record) (reply : Replied) (told : List Told) (after : List Record)
    → IsMet owner draws start demand seen reply told after → AddsNone reply → told ≡ []
unfolding IsMet
met_none owner draws start (asks query) seen reply told after met adds = none_told owner draws start query seen reply told after met adds
met_none owner draws start (recalls analyst number) seen reply told after met adds = met.1
met_none owner draws start balances seen reply told after met adds = met.1
met_none owner draws start (spends analyst) seen reply told after met adds = met.1

pub leave_records : RefusalsLeaveRecords
leave_records owner draws start demand seen reply told after exactly adds =
    let met = exactly_is_met owner draws start demand seen reply told after exactly in
    let none = met_none owner draws start demand seen reply told after met.0 adds in
    (none, met.1 ∙ ap (λ (ts : List Told). seen ++ records_told ts) none ∙ append-nil seen)
