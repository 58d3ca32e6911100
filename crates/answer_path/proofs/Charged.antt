-- what is known of programs that are charged, and of their values in a view
use Rattle.std.proofs.Common.{◌≡◌, ℕ, ◌<◌, ◌^◌, false, List, refl, sym, subst}
use Rattle.std.specs.Int.{IsGcd}
use Rattle.budget_core.specs.Entries.{IsEpsilon}
use Rattle.journal_records.specs.Encoding.{AreChargeTerms}
use Rattle.fz_frac.specs.Distance.{Distance, Fin, Inf}
use Rattle.fz_frac.specs.Lowest.{lowest, gcd}
use Rattle.fz_frac.proofs.Lowest.{gcd_is}
use Rattle.fz_ast.specs.Signature.{Signature}
use Rattle.fz_ast.specs.Terms.{Term}
use Rattle.linear_types.specs.Program.{is_endless}
use Rattle.linear_types.proofs.Scope.{accepted_is_bounded}
use Rattle.part_views.specs.Views.{signature_in, rows_in}
use Rattle.part_views.proofs.Laws.{views_are_datasets}
use Rattle.answer_path.specs.Reading.{read, IsReading}
use Rattle.answer_path.specs.Admission.{accepted, admission_of}
use Rattle.answer_path.specs.Program.{IsCharged}
use Rattle.answer_path.specs.Laws.{ChargedAreBounded, ChargedHaveValues}
use Rattle.answer_path.proofs.Programs.{accepted_are_bounded, accepted_have_values, accepted_is, read_limits}
use Rattle.answer_path.proofs.Ranges.{accepted_in, in_is_narrow}

pub charged_have_values : ChargedHaveValues
charged_have_values tables partitions rows view program p q well divided are c =
    let seen = views_are_datasets tables partitions view rows well divided are in
    accepted_have_values (signature_in tables partitions view) program c.0 c.0 (Fin p q) seen.0 c.1 c.2 (rows_in partitions view rows) seen.1

pub charged_are_bounded : ChargedAreBounded
charged_are_bounded tables partitions rows other view program p q y z well divided are others c has has_other =
    let seen = views_are_datasets tables partitions view rows well divided are in
    let seen_other = views_are_datasets tables partitions view other well divided others in
    accepted_are_bounded (signature_in tables partitions view) program c.0 c.0 (Fin p q) seen.0 c.1 c.2 (rows_in partitions view rows) (rows_in partitions view other) seen.1 seen_other.1 y z has has_other

-- what is charged has halves of 32 bits
pub charged_narrow : (tables : Signature) (program : List ℕ) (p q : ℕ) → IsCharged tables program p q → (p < 2 ^ 32) × (q < 2 ^ 32)
charged_narrow tables program p q c =
    let i = accepted_is tables c.0 c.0 (Fin p q) c.2 in
    in_is_narrow i.1 p q (sym i.4) (accepted_in tables c.0 i.0 i.1 (read_limits program c.0 c.1) i.2)

-- epsilon and a sensitivity in lowest terms
pub terms_of : (e p q : ℕ) → IsEpsilon e → 0 < q → gcd p q ≡ 1 → AreChargeTerms e p q
terms_of e p q epsilon above one = record { above = epsilon.least; most = epsilon.most; positive = above; lowest = subst (λ g. IsGcd p q g) one (gcd_is p q) }

-- An accepted program's sensitivity is finite.
pub accepted_finite : (tables : Signature) (program : List ℕ) (e : Term) (r : Distance) → IsReading program (read e) → admission_of tables (read e) ≡ accepted e r → is_endless r ≡ false
accepted_finite tables program e r reads is =
    let i = accepted_is tables e e r is in
    let b = accepted_is_bounded tables e i.0 i.1 (read_limits program e reads) i.2 in
    subst (λ (d : Distance). is_endless d ≡ false) (sym i.4) (lowest_finite i.1 b.2)
  where
    lowest_finite : (s : Distance) → is_endless s ≡ false → is_endless (lowest s) ≡ false
    lowest_finite (Fin a b) h = refl
    lowest_finite Inf h = h
