-- what is known of programs that are charged, and of their values
use Rattle.std.proofs.Common.{◌≡◌, ℕ, ◌+◌, ◌*◌, ◌-◌, ◌/◌, ◌%◌, ◌<◌, ◌≤◌, List, sym, ◌∙◌, ap, subst, arith}
use Rattle.std.specs.Prelude.{ℤ}
use Rattle.std.specs.Int.{IsGcd}
use Rattle.std.proofs.Math.Nat.{mod-lt, mod-eq-sub-div-mul, mul-le-mul, le_of_mul-le-mul_left}
use Rattle.partition_charge.specs.declared.view.View.{View}
use Rattle.budget_core.specs.Cost.{charge_of}
use Rattle.fz_frac.specs.Distance.{Distance, Fin, Inf, den, mul, ◌⊑◌}
use Rattle.fz_frac.specs.Lowest.{lowest, gcd}
use Rattle.fz_frac.proofs.Laws.{den_pos, den_of}
use Rattle.fz_frac.proofs.Lowest.{gcd_is, pos_of_IsGcd, pos_low, coprime}
use Rattle.fz_ast.specs.Signature.{Signature, IsSignature}
use Rattle.fz_ast.specs.Terms.{Term}
use Rattle.metric_values.specs.Distances.{gap}
use Rattle.metric_values.specs.Tables.{Dataset, IsDataset, apart}
use Rattle.answer_path.specs.OwnerCatalog.Entries.{PartitionEntry}
use Rattle.answer_path.specs.PartViews.Partitions.{ArePartitions}
use Rattle.answer_path.specs.PartViews.Views.{signature_in, rows_in}
use Rattle.answer_path.specs.Admission.{accepted, admission_of, HasValue}
use Rattle.answer_path.specs.Reading.{read}
use Rattle.answer_path.specs.Program.{IsCharged}
use Rattle.answer_path.proofs.Programs.{accepted_is, same_term}
use Rattle.answer_path.proofs.Charged.{charged_are_bounded}

lowest_halves : (s : Distance) (p q : ℕ) → Fin p q ≡ lowest s → (0 < q) × (gcd p q ≡ 1)
lowest_halves Inf p q is = cc
lowest_halves (Fin a b) p q is =
    let g : ℕ = gcd a (den b) in
    let above : 0 < g = pos_of_IsGcd a (den b) g (den_pos b) (gcd_is a (den b)) in
    let over : a / g ≡ p = cc in
    let under : den b / g ≡ q = cc in
    let low : 0 < den b / g = pos_low a (den b) g (den_pos b) (gcd_is a (den b)) in
    let one : gcd (a / g) (den b / g) ≡ 1 = coprime a (den b) g above (gcd_is a (den b)) in
    (subst (λ n. 0 < n) under low, subst (λ n. gcd n q ≡ 1) over (subst (λ n. gcd (a / g) n ≡ 1) under one))

-- Sensitivities are in lowest terms.
pub charged_lowest : (tables : Signature) (program : List ℕ) (p q : ℕ) → IsCharged tables program p q → (1 ≤ q) × IsGcd p q 1
charged_lowest tables program p q c =
    let i = accepted_is tables c.0 c.0 (Fin p q) c.2 in
    let h = lowest_halves i.1 p q i.4 in
    (omega (arith, h.0), subst (λ (g : ℕ). IsGcd p q g) h.1 (gcd_is p q))

-- A program is charged one sensitivity.
pub one_charge : (tables : Signature) (program : List ℕ) (p q r s : ℕ) → IsCharged tables program p q → IsCharged tables program r s → ◌≡◌ {A = ℕ × ℕ} (p, q) (r, s)
one_charge tables program p q r s c d =
    let same : c.0 ≡ d.0 = same_term program c.0 d.0 c.1 d.1 in
    let both : accepted c.0 (Fin p q) ≡ accepted d.0 (Fin r s) = sym c.2 ∙ ap (λ (e : Term). admission_of tables (read e)) same ∙ d.2 in
    let over : p ≡ r = cc (both) in
    let under : q ≡ s = cc (both) in
    λ i. (over i, under i)

moves : (p q g n : ℕ) → 0 < q → Fin g 1 ⊑ mul (Fin p q) (Fin n 1) → g * q ≤ p * n
moves p q g n above h =
    let same : den q ≡ q = den_of q above in
    let product : den (den q * 1) ≡ q = den_of (den q * 1) (omega (arith, same, above)) ∙ omega (arith, same) in
    let by : g * den (den q * 1) ≤ p * n * 1 = h.le in
    let there : g * q ≤ p * n * 1 = subst (λ k. g * k ≤ p * n * 1) product by in
    omega (arith, there)

-- A program's values on what a view shows of two datasets are at most p/q times as far apart as what it shows.
pub charged_moves : (tables : Signature) (partitions : List PartitionEntry) (rows other : Dataset) (view : View) (program : List ℕ) (p q : ℕ) (y z : ℤ)
    → IsSignature tables → ArePartitions tables partitions → IsDataset tables rows → IsDataset tables other → IsCharged (signature_in tables partitions view) program p q
    → HasValue (signature_in tables partitions view) (rows_in partitions view rows) program y → HasValue (signature_in tables partitions view) (rows_in partitions view other) program z
    → gap y z * q ≤ p * apart (rows_in partitions view rows) (rows_in partitions view other)
charged_moves tables partitions rows other view program p q y z well are first second c f g =
    let low = charged_lowest (signature_in tables partitions view) program p q c in
    moves p q (gap y z) (apart (rows_in partitions view rows) (rows_in partitions view other)) (omega (arith, low.0))
    (charged_are_bounded tables partitions rows other view program p q y z well are first second c f g)

-- rounded up, a charge is at least p/q times epsilon
charge_covers : (e p q : ℕ) → 0 < q → p * e ≤ charge_of e p q * q
charge_covers e p q above =
    let n : ℕ = p * e + (q - 1) in
    let rest : n % q ≡ n - n / q * q = mod-eq-sub-div-mul n q in
    let less : n % q < q = mod-lt n above in
    omega (arith, rest, less, above)

-- Epsilon times how far the values are apart is at most the charge times how far the datasets are.
pub charge_bounds : (e p q g n : ℕ) → 0 < q → g * q ≤ p * n → e * g ≤ charge_of e p q * n
charge_bounds e p q g n above moved =
    let c : ℕ = charge_of e p q in
    let covers : p * e ≤ c * q = charge_covers e p q above in
    let first : e * (g * q) ≤ e * (p * n) = mul-le-mul (omega arith) moved in
    let second : (p * e) * n ≤ (c * q) * n = mul-le-mul covers (omega arith) in
    let whole : q * (e * g) ≤ q * (c * n) = regroup e p q g n c first second in
    le_of_mul-le-mul_left whole above
  where
    regroup : (e p q g n c : ℕ) → e * (g * q) ≤ e * (p * n) → (p * e) * n ≤ (c * q) * n → q * (e * g) ≤ q * (c * n)
    regroup e p q g n c first second = omega (arith, first, second)
