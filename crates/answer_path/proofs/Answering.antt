-- the steps of `ask`, in the words of the verdict and the reply
use Rattle.std.proofs.Common.{◌≡◌, ℕ, List, [], refl, sym, ◌∙◌, ap, subst, append-nil, inl, inr, Option, Some, None}
use Rattle.std.specs.Prelude.{ℤ, Result, Ok}
use mathlib.Core.List.{IsPrefix}
use Rattle.journal_records.specs.declared.records.Outcome.{Outcome}
use Rattle.journal_records.specs.declared.records.Record.{Record}
use Rattle.journal_records.specs.declared.records.Record.TheVariants.{Reserve}
use Rattle.budget_core.specs.declared.entry.Ask.{Ask}
use Rattle.budget_core.specs.declared.entry.Grant.{Grant}
use Rattle.budget_core.specs.declared.entry.ReserveFault.{ReserveFault}
use Rattle.budget_core.specs.Entries.{Entry}
use Rattle.budget_core.specs.Ledger.{money_verdict, reservation_for, reservation_numbered}
use Rattle.budget_core.proofs.Grants.{grant-number}
use Rattle.fz_ast.specs.Terms.{Term}
use Rattle.metric_law.specs.Means.{Means}
use Rattle.metric_values.specs.Tables.{rows_of}
use Rattle.metric_values.specs.Values.{NumV}
use Rattle.wire_lines.specs.Refusal.{ProgramRefusal}
use Rattle.fz_outside.specs.Draws.{first_draws}
use Rattle.exact_bernoulli.specs.Meter.{draw_limit}
use Rattle.discrete_laplace.specs.Noise.{noise_of}
use Rattle.answer_path.specs.Reading.{read, IsReading}
use Rattle.answer_path.specs.Admission.{Admission, HasValue}
use Rattle.part_views.specs.Holding.{Holding}
use Rattle.owner_house.specs.Owner.{Owner, IsOwnerOf, signature_of_view, rows_of_view}
use Rattle.answer_path.specs.Query.{Query}
use Rattle.answer_path.specs.Program.{IsCharged}
use Rattle.answer_path.specs.Noise.{noise_at, scale_numerator, scale_denominator}
use Rattle.answer_path.specs.Verdict.{program_refused, ask_for, verdict_by_money, IsVerdictBy, IsVerdict}
use Rattle.answer_path.specs.Answered.{HasWorthIn, IsSettledAt, IsSettledBy, granted_record}
use Rattle.answer_path.specs.Code.{IsRefusedFor}

-- the reading of a program that is charged gives the verdict on the budget
pub money_says : (owner : Owner) (start : ℕ) (records : List Record) (query : Query) (p q : ℕ) (money : Result Grant ReserveFault) → IsCharged (signature_of_view owner query.view) query.program p q
    → money_verdict owner.entry start records (ask_for query p q) ≡ money → IsVerdict owner.entry (signature_of_view owner query.view) start records query (verdict_by_money (ask_for query p q) money)
unfolding IsVerdict
money_says owner start records query p q money c is = (
  read c.0,
  c.1,
  subst (λ (j : Admission). IsVerdictBy owner.entry start records query j (verdict_by_money (ask_for query p q) money)) (sym c.2)
      (ap (verdict_by_money (ask_for query p q)) (sym is)),
)

-- a program that is refused
pub program_says : (owner : Owner) (start : ℕ) (records : List Record) (query : Query) (refusal : ProgramRefusal) → IsRefusedFor (signature_of_view owner query.view) query.program refusal
    → IsVerdict owner.entry (signature_of_view owner query.view) start records query (program_refused refusal)
unfolding IsVerdict
program_says owner start records query refusal h = (h.0, h.1, subst (λ (j : Admission). IsVerdictBy owner.entry start records query j (program_refused refusal)) (sym h.2) refl)

pub self : (records : List Record) → IsPrefix records records
self records = ([], append-nil records)

pub granted_is : (entry : Entry) (start : ℕ) (records : List Record) (asking : Ask) (grant : Grant) → money_verdict entry start records asking ≡ Ok grant → granted_record asking grant ≡ reservation_for records asking grant.taken
granted_is entry start records asking grant is = ap (λ n. Reserve (reservation_numbered n asking grant.taken)) (grant-number entry start records asking grant is)

-- what a settlement says of one worth it says of each that the first gives
settlement_map : (A B : ℤ → Type 0) (noise : Option ℤ) (outcome : Outcome) → ((value : ℤ) → A value → B value) → IsSettledAt A noise outcome → IsSettledAt B noise outcome
settlement_map A B None outcome gives is = is
settlement_map A B (Some noise) outcome gives (inl (value, has, is)) = inl (value, gives value has, is)
settlement_map A B (Some noise) outcome gives (inr lost) = inr lost

-- a reservation that is settled by the number of a program's term is settled by the program
pub settled_by_term : (owner : Owner) (draws : ℕ → ℕ → ℕ) (query : Query) (number : ℕ) (e : Term) (outcome : Outcome) → IsReading query.program (read e)
    → IsSettledAt (λ value. Means (rows_of (signature_of_view owner query.view) (rows_of_view owner query.view)) e (NumV value)) (noise_at query.e (draws number)) outcome
    → IsSettledBy owner draws query number outcome
unfolding HasValue
settled_by_term owner draws query number e outcome reads is =
    settlement_map (λ value. Means (rows_of (signature_of_view owner query.view) (rows_of_view owner query.view)) e (NumV value)) (HasWorthIn owner query) (noise_at query.e (draws number)) outcome
    (λ value means. (e, reads, means)) is

-- an owner of this entry and holding
abbrev pub owner_with : List ℕ → Entry → Holding → Owner
owner_with name entry holding = record { name = name; entry = entry; tables = holding.tables; rows = holding.rows; partitions = holding.partitions }

pub owner_is : (entry : Entry) (holding : Holding) (owner : Owner) → IsOwnerOf entry holding owner → owner_with owner.name entry holding ≡ owner
owner_is entry holding owner is =
    ap (λ e. owner_with owner.name e holding) (sym is.entry_is)
    ∙ ap (λ ts. record { name = owner.name; entry = owner.entry; tables = ts; rows = holding.rows; partitions = holding.partitions }) (sym is.tables_are)
    ∙ ap (λ X. record { name = owner.name; entry = owner.entry; tables = owner.tables; rows = X; partitions = holding.partitions }) (sym is.rows_are)
    ∙ ap (λ ps. record owner { partitions = ps }) (sym is.partitions_are)

-- the noise of a number's draws is what the sampler gives for its scale
pub noise_is : (e p q : ℕ) (draws words : ℕ → ℕ) → p ≡ scale_numerator e → q ≡ scale_denominator e → words ≡ draws → noise_at e draws ≡ noise_of p q (first_draws draw_limit words)
unfolding noise_at
noise_is e p q draws words over under same =
    ap (λ (d : ℕ → ℕ). noise_of (scale_numerator e) (scale_denominator e) (first_draws draw_limit d)) (sym same)
    ∙ ap (λ t. noise_of t (scale_denominator e) (first_draws draw_limit words)) (sym over) ∙ ap (λ s. noise_of p s (first_draws draw_limit words)) (sym under)
