-- what is told of a number, of the budget, and of what an analyst has spent
use Rattle.std.proofs.Common.{◌≡◌, ℕ, ap, ◌∙◌, refl}
use Rattle.budget_core.specs.Answers.{left_of, mine_of, recalled}
use Rattle.budget_core.specs.Ledger.{Ledger}
use Rattle.budget_core.specs.declared.answers.Left.{Left}
use Rattle.budget_core.specs.declared.answers.Mine.{Mine}
use Rattle.budget_core.specs.declared.answers.Recall.{Recall}
use Rattle.budget_core.specs.declared.answers.Recall.TheVariants.{Unknown, NotYours, Answer, Open, Lost, Exhausted}
use Rattle.wire_lines.specs.Reply.{Replied}
use Rattle.owner_desk.specs.Passes.{Pass, first_of_run}
use Rattle.owner_desk.specs.Answers.{HasLooked, PassStays}
use Rattle.answer_path.specs.Answered.{HasSmallAnswer, IsUnasked}
use Rattle.answer_path.specs.Standing.{IsBalance, IsRecalled, IsSpending, left_reply, mine_reply, recall_reply}

-- where nothing was done to a book, the pass has the records on which it was told
pub stays_so : (before after : Pass) (IsTold : Ledger → Type 0) → HasLooked before IsTold after → PassStays before after.seen after
stays_so before after IsTold (g, begins, told, stays) = record { seen = refl; own = stays.own; faults = stays.faults; closed = stays.closed }

pub is_recalled : (before after : Pass) (recall : Recall) (number analyst : ℕ) (reply : Replied) → HasLooked before (λ ledger. recall ≡ recalled ledger number analyst) after → reply ≡ recall_reply number recall
    → IsRecalled (first_of_run before) analyst number before.seen reply after.seen
unfolding IsRecalled
is_recalled before after recall number analyst reply (g, begins, told, stays) is = (g, begins, is ∙ ap (recall_reply number) told, stays.seen)

pub is_balance : (before after : Pass) (reply : Replied) (left : Left) → HasLooked before (λ ledger. left ≡ left_of ledger) after → reply ≡ left_reply left
    → IsBalance before.opened.ledger.entry before.seen reply after.seen
unfolding IsBalance
is_balance before after reply left (g, begins, told, stays) is = (g, begins, is ∙ ap left_reply told, stays.seen)

pub is_spending : (before after : Pass) (analyst : ℕ) (reply : Replied) (mine : Mine) → HasLooked before (λ ledger. mine ≡ mine_of ledger analyst) after → reply ≡ mine_reply mine
    → IsSpending before.opened.ledger.entry analyst before.seen reply after.seen
unfolding IsSpending
is_spending before after analyst reply mine (g, begins, told, stays) is = (g, begins, is ∙ ap mine_reply told, stays.seen)

-- what is told of a number was asked of the book
pub recall_asked : (number : ℕ) (recall : Recall) → IsUnasked (recall_reply number recall) → ⊥
recall_asked number (Unknown seen) h = h
recall_asked number (NotYours seen) h = h
recall_asked number (Answer value seen) h = h
recall_asked number (Open seen) h = h
recall_asked number (Lost seen) h = h
recall_asked number (Exhausted seen) h = h

-- what is told of a number is no answer that was drawn now
pub recall_small : (number : ℕ) (recall : Recall) → HasSmallAnswer (recall_reply number recall)
recall_small number (Unknown seen) = tt
recall_small number (NotYours seen) = tt
recall_small number (Answer value seen) = tt
recall_small number (Open seen) = tt
recall_small number (Lost seen) = tt
recall_small number (Exhausted seen) = tt
