-- a verdict sees no answers
use Rattle.std.proofs.Common.{ℕ, List, sym, ◌∙◌, ap}
use Rattle.journal_records.specs.declared.records.Record.{Record}
use Rattle.budget_core.specs.Bare.{without_answers}
use Rattle.budget_core.proofs.BareLemmas.{money_verdict-without_answers}
use Rattle.budget_core.specs.Entries.{Entry}
use Rattle.fz_frac.specs.Distance.{Fin, Inf}
use Rattle.answer_path.specs.Admission.{Admission, refused_for, walks_too_much, accepted, admission_of}
use Rattle.answer_path.specs.Query.{Query}
use Rattle.answer_path.specs.Verdict.{Verdict, ask_for, verdict_by_money, IsVerdictBy, IsVerdict}
use Rattle.answer_path.specs.Laws.{VerdictsSeeNoAnswers}

admitted_blind : (entry : Entry) (start : ℕ) (records : List Record) (query : Query) (j : Admission) (v : Verdict) → IsVerdictBy entry start (without_answers records) query j v → IsVerdictBy entry start records query j v
admitted_blind entry start records query (refused_for refusal) v is = is
admitted_blind entry start records query (accepted e (Fin p q)) v is = is ∙ ap (verdict_by_money (ask_for query p q)) (money_verdict-without_answers entry start records (ask_for query p q))
admitted_blind entry start records query walks_too_much v is = is
admitted_blind entry start records query (accepted e Inf) v is = is

admitted_seeing : (entry : Entry) (start : ℕ) (records : List Record) (query : Query) (j : Admission) (v : Verdict) → IsVerdictBy entry start records query j v → IsVerdictBy entry start (without_answers records) query j v
admitted_seeing entry start records query (refused_for refusal) v is = is
admitted_seeing entry start records query (accepted e (Fin p q)) v is = is ∙ ap (verdict_by_money (ask_for query p q)) (sym (money_verdict-without_answers entry start records (ask_for query p q)))
admitted_seeing entry start records query walks_too_much v is = is
admitted_seeing entry start records query (accepted e Inf) v is = is

pub verdict_blind : VerdictsSeeNoAnswers
unfolding IsVerdict
verdict_blind entry tables start records query v = (
  λ is. (is.0, is.1, admitted_blind entry start records query (admission_of tables is.0) v is.2),
  λ is. (is.0, is.1, admitted_seeing entry start records query (admission_of tables is.0) v is.2),
)
