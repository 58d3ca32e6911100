-- a demand is met by what its line makes of a pass
use Rattle.std.proofs.Common.{◌≡◌, ℕ, List, [], ◌++◌, refl, sym, ◌∙◌, append-nil}
use Rattle.wire_lines.specs.Reply.{Replied}
use Rattle.owner_house.specs.Owner.{Owner}
use Rattle.owner_desk.specs.Passes.{Pass, Told, first_of_run}
use Rattle.owner_desk.specs.Answers.{PassStays}
use Rattle.answer_path.specs.Query.{Query}
use Rattle.answer_path.specs.Demand.{Demand, asks, recalls, balances, spends}
use Rattle.answer_path.specs.Answered.{IsAsked}
use Rattle.answer_path.specs.Standing.{IsBalance, IsRecalled, IsSpending}
use Rattle.answer_path.specs.Met.{IsMet}
use Rattle.answer_path.specs.Shut.{FailsBy, IsGrantPending, IsSaidOpen, LeavesDue, ShutsBy, disk_word, shut_of}

-- what is promised of a line on a demand
abbrev pub IsLine : Owner → (ℕ → ℕ → ℕ) → Demand → (before : Pass) → Replied → (after : Pass) → Type 0
IsLine owner draws demand before reply after =
    (told : List Told) × IsMet owner draws (first_of_run before) demand before.seen reply told after.seen × (after.own ≡ before.own ++ told)
    × ShutsBy owner draws demand reply told (shut_of before) (shut_of after)

pub asked_line : (owner : Owner) (draws : ℕ → ℕ → ℕ) (query : Query) (before after : Pass) (reply : Replied) (told : List Told)
    → IsAsked owner draws (first_of_run before) query before.seen reply told after.seen → after.own ≡ before.own ++ told
    → FailsBy owner draws query (disk_word reply) told (shut_of before) (shut_of after) → IsSaidOpen reply after.failure → IsLine owner draws (asks query) before reply after
unfolding IsMet ShutsBy
asked_line owner draws query before after reply told asked own shuts said_open = (told, asked, own, (shuts, said_open))

pub asked_due : (owner : Owner) (start : ℕ) (query : Query) (reply : Replied) (told : List Told) (after : Pass)
    → IsGrantPending owner start query reply told after.seen after.failure → LeavesDue owner start (asks query) reply told after.seen after.failure
unfolding LeavesDue
asked_due owner start query reply told after due = due

pub recalled_line : (owner : Owner) (draws : ℕ → ℕ → ℕ) (analyst number : ℕ) (before after : Pass) (reply : Replied)
    → IsRecalled (first_of_run before) analyst number before.seen reply after.seen → PassStays before after.seen after → IsLine owner draws (recalls analyst number) before reply after
unfolding IsMet ShutsBy
recalled_line owner draws analyst number before after reply is stays =
    ([], (is, refl), stays.own ∙ sym (append-nil before.own), (record { still = stays.closed; adds_nothing = λ failure was. refl }, stays.faults))

pub balance_line : (owner : Owner) (draws : ℕ → ℕ → ℕ) (before after : Pass) (reply : Replied)
    → IsBalance owner.entry before.seen reply after.seen → PassStays before after.seen after → IsLine owner draws balances before reply after
unfolding IsMet ShutsBy
balance_line owner draws before after reply is stays =
    ([], (is, refl), stays.own ∙ sym (append-nil before.own), (record { still = stays.closed; adds_nothing = λ failure was. refl }, stays.faults))

pub spending_line : (owner : Owner) (draws : ℕ → ℕ → ℕ) (analyst : ℕ) (before after : Pass) (reply : Replied)
    → IsSpending owner.entry analyst before.seen reply after.seen → PassStays before after.seen after → IsLine owner draws (spends analyst) before reply after
unfolding IsMet ShutsBy
spending_line owner draws analyst before after reply is stays =
    ([], (is, refl), stays.own ∙ sym (append-nil before.own), (record { still = stays.closed; adds_nothing = λ failure was. refl }, stays.faults))

-- nothing is pending after what is no query
pub recalled_due : (owner : Owner) (start analyst number : ℕ) (reply : Replied) (told : List Told) (after : Pass) → LeavesDue owner start (recalls analyst number) reply told after.seen after.failure
unfolding LeavesDue
recalled_due owner start analyst number reply told after = tt

pub balance_due : (owner : Owner) (start : ℕ) (reply : Replied) (told : List Told) (after : Pass) → LeavesDue owner start balances reply told after.seen after.failure
unfolding LeavesDue
balance_due owner start reply told after = tt

pub spending_due : (owner : Owner) (start analyst : ℕ) (reply : Replied) (told : List Told) (after : Pass) → LeavesDue owner start (spends analyst) reply told after.seen after.failure
unfolding LeavesDue
spending_due owner start analyst reply told after = tt
