use Rattle.std.proofs.Common.{◌≡◌, ◌<◌, ℕ, List, length, refl, subst}
use Rattle.fz_frac.specs.Distance.{Inf}
use Rattle.fz_frac.specs.Sens.{distance_of}
use Rattle.fz_frac.specs.declared.sens.Sens.{Sens}
use Rattle.linear_types.specs.Environment.{amount_of}
use Rattle.linear_types.specs.Laws.{FiniteBelow, sensitivity_at}
use Rattle.linear_types.specs.Places.{distances}
use Rattle.linear_types.specs.Program.{greatest_of, sensitivity_to}
use Rattle.sensitivity_check.proofs.Programs.{bound_holds, checked, not_num, unbounded}
use Rattle.sensitivity_check.proofs.checker.accepted.Goals as goal

pub returns-in-Some-clause-fault : goal.returns-in-Some-clause-fault
returns-in-Some-clause-fault c =
    let f = subst (λ (L : List Sens). (c.in-Some.table < c.len.result) × (sensitivity_at (distances L) c.in-Some.table ≡ Inf) × FiniteBelow (distances L) c.in-Some.table) c.deref.ensures.value c.in-Some.ensures in
    let l : c.in-Some.table < length c.args.sig.now = subst (λ (n : ℕ). c.in-Some.table < n) c.len.ensures f.0 in
    unbounded c.args.sig.now c.args.term.now c.args.arena c.args.judged c.requires.says c.in-Some.table l f.1 f.2

pub returns-in_default-form : goal.returns-in_default-form
returns-in_default-form c =
    let b = subst (λ (L : List Sens). FiniteBelow (distances L) c.len.result) c.deref.ensures.value c.in_default.ensures in
    let below = subst (λ (n : ℕ). FiniteBelow (distances c.args.judged.amounts.items) n) c.len.ensures b in
    record {
      checked = tt;
      fault = rw c.into_types.ensures (not_num c.args.sig.now c.args.term.now c.args.arena c.args.judged c.requires.says c.form.result c.form.ensures.form c.in_default-form.not-Num below);
      bound = tt;
    }

pub returns-in-Ok-clause-checked : goal.returns-in-Ok-clause-checked
returns-in-Ok-clause-checked c =
    let b = subst (λ (L : List Sens). FiniteBelow (distances L) c.len.result) c.deref.ensures.value c.in_default.ensures in
    let below = subst (λ (n : ℕ). FiniteBelow (distances c.args.judged.amounts.items) n) c.len.ensures b in
    let g = subst (λ (L : List Sens). distance_of c.greatest.result ≡ greatest_of (distances L)) c.deref-in-Ok.ensures.value c.greatest.ensures in
    checked c.args.sig.now c.args.term.now c.args.arena c.args.judged c.requires.says (record { sig = c.args.sig; term = c.args.term; sens = c.greatest.result; env = c.in-Ok.env }) refl refl c.in-Num.ensures.form below g
    (λ x. subst (λ (L : List Sens). amount_of c.in-Ok.env x ≡ sensitivity_to c.args.sig.now (distances L) x) c.deref-2.ensures.value (c.in-Ok.ensures.amounts x))

pub returns-in-Ok-clause-bound : goal.returns-in-Ok-clause-bound
returns-in-Ok-clause-bound c =
    let b = subst (λ (L : List Sens). FiniteBelow (distances L) c.len.result) c.deref.ensures.value c.in_default.ensures in
    let below = subst (λ (n : ℕ). FiniteBelow (distances c.args.judged.amounts.items) n) c.len.ensures b in
    let g = subst (λ (L : List Sens). distance_of c.greatest.result ≡ greatest_of (distances L)) c.deref-in-Ok.ensures.value c.greatest.ensures in
    bound_holds c.args.sig.now c.args.term.now c.args.arena c.args.judged c.requires.says c.greatest.result c.in-Ok.ensures.signature c.requires.limits c.in-Num.ensures.form below g
