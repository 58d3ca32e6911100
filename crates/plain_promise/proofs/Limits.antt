-- limits go by an analyst's own records, wherever the promise is kept
use Rattle.std.proofs.Common.{◌≡◌, ℕ, List, take, drop, sym, subst}
use Rattle.std.proofs.lemmas.List.{take-append-drop}
use Rattle.journal_records.specs.declared.records.Record.{Record}
use Rattle.budget_core.specs.declared.entry.Ask.{Ask}
use Rattle.budget_core.specs.Entries.{Entry}
use Rattle.budget_core.specs.Ledger.{is_over_share}
use Rattle.budget_core.specs.Legal.{IsHistory}
use Rattle.budget_core.specs.Mine.{asked_by}
use Rattle.budget_core.proofs.Histories.{history-front}
use Rattle.wire_lines.specs.Reply.{Replied}
use Rattle.owner_house.specs.Owner.{Owner}
use Rattle.successive_runs.specs.AnswerPath.Demand.{Demand}
use Rattle.owner_history.proofs.Shares.{limits_go_by_own}
use Rattle.plain_promise.specs.Plain.{PlainPromise}

-- first records of a history are one
pub history_take : (entry : Entry) (records : List Record) (k : ℕ) → IsHistory entry records → IsHistory entry (take k records)
history_take entry records k h = history-front entry (take k records) (drop k records) (subst (IsHistory entry) (sym (take-append-drop k records)) h)

pub own_records_decide : (owner : Owner) (draws again : ℕ → ℕ → ℕ) (found R begun S : List Record) (opened from : ℕ → ℕ) (worker crew : (run place : ℕ) → ℕ) (Told Said : (run place : ℕ) → Demand → Replied → Type 0)
    → PlainPromise owner draws found R opened worker Told → PlainPromise owner again begun S from crew Said → (j k : ℕ) (ask : Ask) → asked_by (take j R) ask.analyst ≡ asked_by (take k S) ask.analyst
    → is_over_share owner.entry (take j R) ask ≡ is_over_share owner.entry (take k S) ask
own_records_decide owner draws again found R begun S opened from worker crew Told Said p q j k ask same =
    limits_go_by_own owner.entry (take j R) (take k S) ask (history_take owner.entry R j p.legal) (history_take owner.entry S k q.legal) same
