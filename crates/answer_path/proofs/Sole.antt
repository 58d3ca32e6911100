-- where a book is shut by one pass's own appends alone
use Rattle.std.proofs.Common.{◌≡◌, ℕ, List, [], refl, sym, ap, subst, ◌∙◌, inl, inr, Option, Some, None}
use Rattle.journal_records.specs.declared.records.Record.{Record}
use Rattle.budget_ledger.specs.declared.failure.Failure.{Failure}
use Rattle.wire_lines.specs.Reply.{Replied, greeted, answered, recalled, remaining, spending, ended, refused}
use Rattle.wire_lines.specs.Refusal.{by_line, by_program, by_money, by_disk, by_number, no_memory}
use Rattle.wire_lines.specs.declared.refusal.DiskRefusal.TheVariants.{Closed, Fault}
use Rattle.wire_lines.specs.declared.refusal.NumberRefusal.TheVariants.{Unknown, NotYours, Exhausted as NoNoise, Lost as NoAnswer}
use Rattle.owner_house.specs.Owner.{Owner}
use Rattle.owner_desk.specs.Passes.{Told, closing}
use Rattle.answer_path.specs.Query.{Query}
use Rattle.answer_path.specs.Verdict.{program_refused, money_refused, granted}
use Rattle.answer_path.specs.Answered.{IsAsked}
use Rattle.answer_path.specs.Shut.{Shut, ShutsBy, FailsBy, StaysShut, IsSaidOpen, disk_word}
use Rattle.answer_path.specs.Closing.{Closes, StaysOpen}
use Rattle.answer_path.specs.Laws.{OnePassCloses}

-- what shut a book is known by it as a list
pub closing_same : (a b : Option Failure) → closing a ≡ closing b → a ≡ b
closing_same None None is = refl
closing_same None (Some failure) is = absurd (cc is)
closing_same (Some failure) None is = absurd (cc is)
closing_same (Some failure) (Some other) is = let same : failure ≡ other = cc is in ap (λ (f : Failure). Some f) same

-- a reply to a grant that was settled, or of a number
abbrev IsOfNumber : Replied → Type 0
IsOfNumber (answered number value taken) = Unit {0}
IsOfNumber (refused (by_number refusal)) = Unit {0}
IsOfNumber reply = ⊥

-- to such a reply records were added
adds_some : (owner : Owner) (draws : ℕ → ℕ → ℕ) (start : ℕ) (query : Query) (seen : List Record) (reply : Replied) (told : List Told) (after : List Record)
    → IsAsked owner draws start query seen reply told after → IsOfNumber reply → told ≡ [] → ⊥
unfolding IsAsked
adds_some owner draws start query seen reply told after (g, begins, inl (program_refused refusal, is, (said, none, rest))) of none' = subst IsOfNumber said of
adds_some owner draws start query seen reply told after (g, begins, inl (money_refused refusal, is, (_, inl why, (said, none, rest)))) of none' = subst IsOfNumber (said ∙ ap refused why) of
adds_some owner draws start query seen reply told after (g, begins, inl (money_refused refusal, is, (_, inr (failed_at, low, why), (said, none, rest)))) of none' = subst IsOfNumber (said ∙ ap refused why) of
adds_some owner draws start query seen reply told after (g, begins, inl (granted asking grant, is, inl two)) of none' = absurd (cc (two.told_is, none'))
adds_some owner draws start query seen reply told after (g, begins, inl (granted asking grant, is, inr (refusal, said, rest))) of none' = subst IsOfNumber said of
adds_some owner draws start query seen reply told after (g, begins, inr (said, none, rest)) of none' = subst IsOfNumber said of

module _ (owner : Owner) (draws : ℕ → ℕ → ℕ) (start : ℕ) (query : Query) (seen : List Record) (told : List Told) (after : List Record) (before now : Shut)
    (was : before.own ≡ closing before.failure) (is : now.own ≡ closing now.failure) where
  same : now.own ≡ before.own → now.failure ≡ before.failure
  same own = closing_same now.failure before.failure (sym is ∙ (own ∙ was))

  -- a book that was seen shut gives no such reply
  open_before : (reply : Replied) → IsAsked owner draws start query seen reply told after → IsOfNumber reply → StaysShut told before.failure now.failure → before.failure ≡ None
  open_before reply asked of stays = here before.failure refl
    where
      here : (o : Option Failure) → before.failure ≡ o → before.failure ≡ None
      here None at = at
      here (Some failure) at = absurd (adds_some owner draws start query seen reply told after asked of (stays.adds_nothing failure at))

  stays_open : (reply : Replied) → IsAsked owner draws start query seen reply told after → IsOfNumber reply → StaysShut told before.failure now.failure → now.own ≡ before.own → StaysOpen before.failure now.failure
  stays_open reply asked of stays own = let none = open_before reply asked of stays in (none, same own ∙ none)

  pub closes : (reply : Replied) → IsAsked owner draws start query seen reply told after → FailsBy owner draws query (disk_word reply) told before now → IsSaidOpen reply now.failure → Closes owner draws query reply told before.failure now.failure
  closes (refused (by_disk (Closed failed_at))) asked (failure, shut, count, stays, own) said_open =
      let at : before.failure ≡ Some failure = sym (same own) ∙ shut in
      (failure, at, count, stays.adds_nothing failure at, same own)
  closes (refused (by_disk Fault)) asked (failure, none, shut, pending, own) said_open = (failure, none, shut, pending)
  closes (answered number value taken) asked (stays, own) said_open = stays_open (answered number value taken) asked tt stays own
  closes (refused (by_number (NoNoise number))) asked (stays, own) said_open = stays_open (refused (by_number (NoNoise number))) asked tt stays own
  closes (refused (by_number (NoAnswer number))) asked (stays, own) said_open = stays_open (refused (by_number (NoAnswer number))) asked tt stays own
  closes (refused (by_number (Unknown number seen))) asked (stays, own) said_open = same own
  closes (refused (by_number (NotYours number seen))) asked (stays, own) said_open = same own
  closes (refused (by_line refusal)) asked (stays, own) said_open = same own
  closes (refused (by_program refusal)) asked (stays, own) said_open = same own
  closes (refused (by_money refusal)) asked (stays, own) said_open = (same own, λ low. sym (same own) ∙ said_open low)
  closes (refused no_memory) asked (stays, own) said_open = same own
  closes (greeted name) asked (stays, own) said_open = same own
  closes (recalled number standing seen) asked (stays, own) said_open = same own
  closes (remaining spent budget seen) asked (stays, own) said_open = same own
  closes (spending spent limit seen) asked (stays, own) said_open = same own
  closes ended asked (stays, own) said_open = same own

pub one_pass_closes : OnePassCloses
unfolding ShutsBy
one_pass_closes owner draws start query seen reply told after before now asked shuts was is = closes owner draws start query seen told after before now was is reply asked shuts.0 shuts.1
