-- a program that takes too many walks has no verdict, so its line is told that memory ran out; each other one has one
use Rattle.std.proofs.Common.{◌≡◌, ◌∙◌, ℕ, List, ap, inl, inr, refl, subst, sym}
use Rattle.std.specs.Prelude.{◌⊎◌}
use mathlib.Core.List.{IsPrefix}
use Rattle.journal_records.specs.declared.records.Record.{Record}
use Rattle.budget_core.specs.Entries.{Entry}
use Rattle.budget_core.specs.Ledger.{money_verdict}
use Rattle.fz_frac.specs.Distance.{Distance, Fin, Inf}
use Rattle.fz_frac.specs.Lowest.{lowest}
use Rattle.fz_ast.specs.Signature.{Signature}
use Rattle.fz_ast.specs.Terms.{Term}
use Rattle.linear_types.specs.Program.{Acceptance, Accepted, Faulty, is_endless, sensitivity_of}
use Rattle.shape_law.specs.Walk.{Shaped, Stops, TooManyWalks, WalkOutcome, shape}
use Rattle.wire_lines.specs.Reply.{Replied}
use Rattle.owner_house.specs.Owner.{Owner, signature_of_view}
use Rattle.owner_desk.specs.Passes.{Told}
use Rattle.answer_path.specs.Query.{Query}
use Rattle.answer_path.specs.Demand.{asks}
use Rattle.answer_path.specs.Reading.{Reading, IsReading, nested, read, stuck, unlexed}
use Rattle.answer_path.specs.Admission.{HasTooManyWalks, Admission, TakesTooManyWalks, accepted, admitted_by, admission_of, refused_for, shaped_by, walks_too_much}
use Rattle.answer_path.specs.Verdict.{Verdict, IsVerdict, IsVerdictBy, ask_for, program_refused, verdict_by_money}
use Rattle.answer_path.specs.Answered.{IsAsked}
use Rattle.answer_path.specs.Met.{IsMet}
use Rattle.answer_path.specs.Laws.{WalksAloneHaveNoVerdict, WalksAreTold}
use Rattle.answer_path.proofs.Charged.{accepted_finite}
use Rattle.answer_path.proofs.Existing.{every_reading}
use Rattle.answer_path.proofs.Programs.{accepted_is}
use Rattle.answer_path.proofs.Readings.{one_reading}
use Rattle.answer_path.proofs.Told.{walks_admitted}

pub no_verdict : (entry : Entry) (tables : Signature) (start : ℕ) (records : List Record) (query : Query) → HasTooManyWalks tables query.program → (verdict : Verdict) → IsVerdict entry tables start records query verdict → ⊥
unfolding IsVerdict
no_verdict entry tables start records query (e, reads, walks) verdict (reading, reads', by) =
    let admitted : admission_of tables reading ≡ walks_too_much = ap (admission_of tables) (one_reading query.program reading (read e) reads' reads) ∙ walks_admitted tables e walks in
    subst (λ (j : Admission). IsVerdictBy entry start records query j verdict) admitted by

-- what comes to that takes too many walks
module _ (ts : Signature) where
  shaped_so : (e : Term) (r : Distance) (o : WalkOutcome) → shape ts e ≡ o → shaped_by e (lowest r) o ≡ walks_too_much → shape ts e ≡ TooManyWalks
  shaped_so e r (Shaped s k) p h = absurd (cc h)
  shaped_so e r (Stops fault) p h = absurd (cc h)
  shaped_so e r TooManyWalks p h = p

  term_so : (e : Term) (a : Acceptance) → sensitivity_of ts e ≡ a → admitted_by ts e a ≡ walks_too_much → TakesTooManyWalks ts e
  term_so e (Accepted D r) typed h = (D, r, typed, shaped_so e r (shape ts e) refl h)
  term_so e (Faulty fault) typed h = absurd (cc h)

  pub admitted_so : (program : List ℕ) (reading : Reading) → IsReading program reading → admission_of ts reading ≡ walks_too_much → HasTooManyWalks ts program
  unfolding admission_of
  admitted_so program (unlexed place) reads is = absurd (cc is)
  admitted_so program (stuck token) reads is = absurd (cc is)
  admitted_so program (nested depth) reads is = absurd (cc is)
  admitted_so program (read e) reads is = (e, reads, term_so e (sensitivity_of ts e) refl is)

  -- and what is accepted isn't endless
  endless : (program : List ℕ) (reading : Reading) (e : Term) → IsReading program reading → admission_of ts reading ≡ accepted e Inf → ⊥
  unfolding admission_of
  endless program (unlexed place) e reads is = cc is
  endless program (stuck token) e reads is = cc is
  endless program (nested depth) e reads is = cc is
  endless program (read t) e reads is =
      let finite = accepted_finite ts program t Inf reads (subst (λ (u : Term). admission_of ts (read t) ≡ accepted u Inf) (accepted_is ts t e Inf is).3 is) in cc finite

module _ (entry : Entry) (tables : Signature) (start : ℕ) (records : List Record) (query : Query) where
  verdict_by : (reading : Reading) → IsReading query.program reading → (j : Admission) → admission_of tables reading ≡ j
      → ((verdict : Verdict) × IsVerdict entry tables start records query verdict) ⊎ HasTooManyWalks tables query.program
  unfolding IsVerdict
  verdict_by reading reads (refused_for refusal) is =
      inl (program_refused refusal, (reading, reads, subst (λ (j : Admission). IsVerdictBy entry start records query j (program_refused refusal)) (sym is) refl))
  verdict_by reading reads walks_too_much is = inr (admitted_so tables query.program reading reads is)
  verdict_by reading reads (accepted e Inf) is = absurd (endless tables query.program reading e reads is)
  verdict_by reading reads (accepted e (Fin p q)) is =
      let v = verdict_by_money (ask_for query p q) (money_verdict entry start records (ask_for query p q)) in
      inl (v, (reading, reads, subst (λ (j : Admission). IsVerdictBy entry start records query j v) (sym is) refl))

  some_verdict : ((verdict : Verdict) × IsVerdict entry tables start records query verdict) ⊎ HasTooManyWalks tables query.program
  some_verdict = let r = every_reading query.program in verdict_by r.0 r.1 (admission_of tables r.0) refl

pub walks_alone : WalksAloneHaveNoVerdict
walks_alone entry tables start records query = (some_verdict entry tables start records query, no_verdict entry tables start records query)

pub told_of_walks : WalksAreTold
unfolding IsMet IsAsked
told_of_walks owner draws start query seen reply told after walks (g, begins, inl (verdict, is, by)) =
    absurd (no_verdict owner.entry (signature_of_view owner query.view) start g query walks verdict is)
told_of_walks owner draws start query seen reply told after walks (g, begins, inr (said, none, rest)) = (said, none, subst (IsPrefix seen) (sym rest) begins)
