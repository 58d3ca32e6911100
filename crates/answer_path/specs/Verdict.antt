-- The verdict on an ask: it sees no rows, no noise and no answer.
use Rattle.std.specs.Prelude.{◌≡◌, ℕ, List, Result, Ok, Err}
use Rattle.journal_records.specs.declared.records.Record.{Record}
use Rattle.budget_core.specs.Entries.{Entry}
use Rattle.budget_core.specs.declared.entry.Ask.{Ask}
use Rattle.budget_core.specs.declared.entry.Grant.{Grant}
use Rattle.budget_core.specs.declared.entry.ReserveFault.{ReserveFault}
use Rattle.budget_core.specs.declared.entry.ReserveFault.TheVariants.{OverBudget, Full, OverShare}
use Rattle.budget_core.specs.Ledger.{money_verdict}
use Rattle.wire_lines.specs.Refusal.{ProgramRefusal}
use Rattle.wire_lines.specs.declared.refusal.MoneyRefusal.{MoneyRefusal}
use Rattle.wire_lines.specs.declared.refusal.MoneyRefusal.TheVariants.{OverBudget as NoBudget, JournalFull, OverShare as NoShare}
use Rattle.sha2.specs.Sha256.{sha256}
use Rattle.fz_frac.specs.Distance.{Fin, Inf}
use Rattle.fz_ast.specs.Signature.{Signature}
use Rattle.answer_path.specs.Reading.{Reading, IsReading}
use Rattle.answer_path.specs.Admission.{Admission, refused_for, walks_too_much, accepted, admission_of}
use Rattle.answer_path.specs.Query.{Query}

-- an ask is refused for its program, or by the budget, or is granted a reservation
pub data Verdict : Type 0 where
  program_refused : ProgramRefusal → Verdict
  money_refused : MoneyRefusal → Verdict
  granted : Ask → Grant → Verdict

-- what a query of sensitivity p/q asks of the budget; its reservation will carry the SHA-256 of the program's bytes
abbrev pub ask_for : Query → (p q : ℕ) → Ask
ask_for query p q =
    record { analyst = query.analyst; view = query.view; e = query.e; p = p; q = q; digest = sha256 query.program }

abbrev pub money_refusal : ReserveFault → MoneyRefusal
money_refusal (OverBudget spent after budget seen) = NoBudget spent after budget seen
money_refusal (Full used unsettled capacity) = JournalFull used unsettled capacity
money_refusal (OverShare spent after limit seen) = NoShare spent after limit seen

abbrev pub verdict_by_money : Ask → Result Grant ReserveFault → Verdict
verdict_by_money ask (Ok grant) = granted ask grant
verdict_by_money ask (Err fault) = money_refused (money_refusal fault)

-- The budget is asked with the sensitivity of an accepted program. It is finite, so the last case doesn't come. On a program that takes too
-- many walks there is no verdict: such a line is told that memory ran out, and adds nothing (`WalksAreTold`).
abbrev pub IsVerdictBy : Entry → (start : ℕ) → List Record → Query → Admission → Verdict → Type 0
IsVerdictBy entry start records query (refused_for refusal) verdict = verdict ≡ program_refused refusal
IsVerdictBy entry start records query walks_too_much verdict = ⊥
IsVerdictBy entry start records query (accepted e (Fin p q)) verdict =
    verdict ≡ verdict_by_money (ask_for query p q) (money_verdict entry start records (ask_for query p q))
IsVerdictBy entry start records query (accepted e Inf) verdict = ⊥

-- First the program is read and checked over the tables of the query's view, then the budget is asked.
unfoldable pub IsVerdict : Entry → Signature → (start : ℕ) → List Record → Query → Verdict → Type 0
IsVerdict entry tables start records query verdict =
    (reading : Reading) × IsReading query.program reading × IsVerdictBy entry start records query (admission_of tables reading) verdict
