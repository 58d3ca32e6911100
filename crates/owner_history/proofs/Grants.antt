-- what a verdict that grants says
use Rattle.std.proofs.Common.{◌≡◌, ℕ, List, refl, sym, ap, subst}
use Rattle.std.specs.Prelude.{Result, Ok, Err}
use Rattle.journal_records.specs.declared.records.Record.{Record}
use Rattle.budget_core.specs.declared.entry.Ask.{Ask}
use Rattle.budget_core.specs.declared.entry.Grant.{Grant}
use Rattle.budget_core.specs.declared.entry.ReserveFault.{ReserveFault}
use Rattle.budget_core.specs.Ledger.{money_verdict}
use Rattle.fz_frac.specs.Distance.{Distance, Fin, Inf}
use Rattle.fz_ast.specs.Signature.{Signature}
use Rattle.fz_ast.specs.Terms.{Term}
use Rattle.answer_path.specs.OwnerHouse.Owner.{Owner, signature_of_view}
use Rattle.answer_path.specs.Query.{Query}
use Rattle.answer_path.specs.Program.{IsCharged}
use Rattle.answer_path.specs.Reading.{Reading, unlexed, stuck, nested, read, IsReading}
use Rattle.answer_path.specs.Admission.{Admission, refused_for, walks_too_much, accepted, admission_of}
use Rattle.answer_path.specs.Verdict.{granted, ask_for, verdict_by_money, IsVerdictBy, IsVerdict}
use Rattle.answer_path.proofs.Programs.{accepted_is}

-- a reading that is accepted is of the term that is accepted
pub accepted_as : (ts : Signature) (reading : Reading) (e : Term) (r : Distance) → admission_of ts reading ≡ accepted e r → (reading ≡ read e) × (admission_of ts (read e) ≡ accepted e r)
unfolding admission_of
accepted_as ts (unlexed place) e r is = absurd (cc (is))
accepted_as ts (stuck token) e r is = absurd (cc (is))
accepted_as ts (nested depth) e r is = absurd (cc (is))
accepted_as ts (read t) e r is =
    let same : e ≡ t = (accepted_is ts t e r is).3 in
    (ap read (sym same), subst (λ (u : Term). admission_of ts (read u) ≡ accepted e r) (sym same) is)

-- an ask is granted by its sensitivity in its view and the budget
pub record IsGrantFor (owner : Owner) (start : ℕ) (records : List Record) (query : Query) (asking : Ask) (grant : Grant) : Type 0 where
  pub p : ℕ
  pub q : ℕ
  pub charged : IsCharged (signature_of_view owner query.view) query.program p q
  pub asks : asking ≡ ask_for query p q
  pub money : money_verdict owner.entry start records (ask_for query p q) ≡ Ok grant

money_grants : (ask asking : Ask) (grant : Grant) (money : Result Grant ReserveFault) → granted asking grant ≡ verdict_by_money ask money → (asking ≡ ask) × (money ≡ Ok grant)
money_grants ask asking grant (Ok given) is =
    let one : granted asking grant ≡ granted ask given = is in
    let asks : asking ≡ ask = cc in let gives : given ≡ grant = cc in
    (asks, ap (λ (g : Grant). Ok g) gives)
money_grants ask asking grant (Err fault) is = absurd (cc (is))

pub verdict_grants : (owner : Owner) (start : ℕ) (records : List Record) (query : Query) (asking : Ask) (grant : Grant)
    → IsVerdict owner.entry (signature_of_view owner query.view) start records query (granted asking grant) → IsGrantFor owner start records query asking grant
unfolding IsVerdict
verdict_grants owner start records query asking grant v = here (admission_of (signature_of_view owner query.view) v.0) refl v.2
  where
    here : (j : Admission) → admission_of (signature_of_view owner query.view) v.0 ≡ j → IsVerdictBy owner.entry start records query j (granted asking grant) → IsGrantFor owner start records query asking grant
    here (refused_for refusal) was by = absurd (cc (by))
    here walks_too_much was by = absurd by
    here (accepted e Inf) was by = absurd by
    here (accepted e (Fin p q)) was by =
        let a = accepted_as (signature_of_view owner query.view) v.0 e (Fin p q) was in
        let m = money_grants (ask_for query p q) asking grant (money_verdict owner.entry start records (ask_for query p q)) by in
        record { p = p; q = q; charged = (e, subst (λ (r : Reading). IsReading query.program r) a.0 v.1, a.1); asks = m.0; money = m.1 }
