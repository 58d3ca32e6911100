-- An accepted and planned program has a number of some height, and this number is near those on other datasets.
use Rattle.std.proofs.Common.{◌≡◌, ℕ, ℤ, ◌*◌, ◌/◌, ap, arith, subst, sym}
use Rattle.fz_frac.specs.Distance.{Distance, Fin, Inf, den, ◌⊑◌}
use Rattle.fz_frac.specs.Lowest.{gcd, lowest}
use Rattle.fz_frac.proofs.Laws.{den_of, den_pos, ⊑-refl, ◌⨾◌, ◌⊗◌}
use Rattle.fz_frac.proofs.Lowest.{lowest as lowest_parts}
use Rattle.fz_ast.specs.Limits.{IsNumber, TermLimits}
use Rattle.fz_ast.specs.Signature.{IsSignature, Signature}
use Rattle.fz_ast.specs.Terms.{Term}
use Rattle.metric_law.specs.Means.{HasNumber, Means, MeansIn}
use Rattle.metric_law.proofs.Programs.{program_bound, program_value}
use Rattle.metric_law.proofs.Unique.{same_value}
use Rattle.metric_values.specs.Tables.{Dataset, IsDataset, rows_of}
use Rattle.metric_values.specs.Values.{Env, NumV}
use Rattle.run_values.specs.Parts.{number_in}
use Rattle.sensitivity_check.specs.Answered.{IsChecked}
use Rattle.sensitivity_check.specs.declared.checker.Checked.{Checked}
use Rattle.shape_law.proofs.Programs.{shaped}
use Rattle.shape_run.specs.Plans.{IsPlanOf}
use Rattle.shape_run.specs.Tells.{planned}
use Rattle.shape_run.specs.declared.plan.Plan.{Plan}
use Rattle.fuzz_eval.specs.Run.{IsNearEachOther}

-- lowest terms are the same number
lowest_most : (d : Distance) → d ⊑ lowest d
lowest_most (Fin p q) =
    let l = lowest_parts p (den q) (den_pos q) in
    let n : ℕ = p / gcd p (den q) in
    let d : ℕ = den q / gcd p (den q) in
    let e : p * d ≡ n * den q = crossed (gcd p (den q)) n d p (den q) l.top l.low in
    record { le = rw (den_of d l.pos_d) (omega (arith, e)) }
  where
    crossed : (g n d p q : ℕ) → p ≡ g * n → q ≡ g * d → p * d ≡ n * q
    crossed g n d p q a b = rw (a, b) (omega arith)
lowest_most Inf = ⊑-refl Inf

module _ (ts : Signature) (t : Term) (checked : Checked) (h : IsChecked ts t checked) (s : IsSignature ts) (l : TermLimits t) (X : Dataset) (i : IsDataset ts X) where
  pub has_number : (plan : Plan) → IsPlanOf ts t plan → HasNumber plan.depth (rows_of ts X) t
  has_number plan p = shaped ts t h.D h.r s l h.accepted p.0 (planned plan) p.1 X i

  pub is_number : (z : ℤ) → Means (rows_of ts X) t (NumV z) → IsNumber z
  is_number z m =
      let v = program_value ts t h.D h.r s l h.accepted X i in
      let e : v.0 ≡ z = ap number_in (same_value v.1.0 m.0 (rows_of ts X) t (NumV v.0) (NumV z) v.1.1 m.1) in
      subst IsNumber e v.2

  pub is_near : (z : ℤ) → Means (rows_of ts X) t (NumV z) → IsNearEachOther ts t checked.sens X z
  is_near z m = λ U k.
      let w = program_value ts t h.D h.r s l h.accepted U k in
      let b = program_bound ts t h.D h.r s l h.accepted X U i k z w.0 m w.1 in
      let e = subst (λ d. h.r ⊑ d) (sym h.sens) (lowest_most h.r) in
      (w.0, w.1, w.2, b ⨾ (e ⊗ ⊑-refl _))

pub means_here : (n : ℕ) (γ δ : Env) (t u : Term) (z : ℤ) → γ ≡ δ → t ≡ u → MeansIn n γ t (NumV z) → Means δ u (NumV z)
means_here n γ δ t u z p q m = (n, subst (λ (γ : Env). MeansIn n γ u (NumV z)) p (subst (λ (t : Term). MeansIn n γ t (NumV z)) q m))
