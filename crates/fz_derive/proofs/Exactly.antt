-- A program's lines have no fault exactly where they are a derivation, and so what they are judged to be bounds the program.
use Rattle.std.proofs.Common.{◌≡◌, ◌↔◌, ℕ, ◌+◌, ◌≤◌, Bool, List, [], ◌∷◌, ◌++◌, cond, drop, false, length, refl, ap, sym, arith, subst, take, true, ◌∙◌}
use Rattle.std.proofs.lemmas.List.{append-nil, take_all}
use Rattle.std.specs.Prelude.{None, Option, Some}
use Rattle.fz_frac.specs.Distance.{Distance}
use Rattle.fz_ast.specs.Limits.{TermLimits}
use Rattle.fz_ast.specs.Signature.{IsSignature, Signature}
use Rattle.fz_ast.specs.Terms.{Term}
use Rattle.fz_derive.proofs.Counted.{faultless}
use Rattle.fz_derive.proofs.Faultless.{built}
use Rattle.fz_derive.proofs.Segments.{Holds}
use Rattle.fz_derive.proofs.Whole.{derivable_bounded, derivable_value, first_line}
use Rattle.fz_derive.specs.Bound.{HasBound}
use Rattle.fz_derive.specs.Derivable.{Derives, IsDerivable}
use Rattle.derivation_rows.specs.Faults.{fault_in}
use Rattle.fz_derive.specs.Judged.{IsJudged, fault_of, greatest_said, is_bounded, names_of}
use Rattle.derivation_lines.specs.Lines.{Line, line_at}
use Rattle.derivation_rows.specs.Nodes.{nodes_of}

bounded_first : (b : Bool) (o : Option ℕ) → cond b o (Some 0) ≡ None → (b ≡ true) × (o ≡ None)
bounded_first true o h = (refl, h)
bounded_first false o h = cc

pub is_derived : (ts : Signature) (e : Term) (L : List Line) → length L ≡ nodes_of e → fault_of ts e L ≡ None → IsDerivable ts e L
is_derived ts e L n h =
    let b = bounded_first (is_bounded (line_at L 0)) (fault_in L (names_of ts) e 0) h in
    let p = built e L (names_of ts) 0 (omega (arith, n)) b.1 in
    let i : L ≡ line_at L 0 ∷ p.below = sym (take_all (nodes_of e) L (omega (arith, n))) ∙ p.are in
    record { own = line_at L 0; below = p.below; are = i; derives = subst (λ M. Derives (names_of ts) e M) (sym i) p.derives; bounded = b.0 }

pub has_no_fault : (ts : Signature) (e : Term) (L : List Line) → IsDerivable ts e L → fault_of ts e L ≡ None
has_no_fault ts e L d =
    let h : Holds L 0 L = record { before = []; after = []; is = sym (append-nil L); place = refl } in
    let b : is_bounded (line_at L 0) ≡ true = ap is_bounded (first_line L d.own d.below d.are) ∙ d.bounded in
    ap (λ c. cond c (fault_in L (names_of ts) e 0) (Some 0)) b ∙ (faultless d.derives).none L 0 h

pub derivable_has_bound : (ts : Signature) (e : Term) (L : List Line) → IsSignature ts → TermLimits e → IsDerivable ts e L → HasBound ts e (greatest_said (line_at L 0).says)
derivable_has_bound ts e L s t d = record { value = derivable_value ts e L s t d; bound = derivable_bounded ts e L s t d }

pub judged_has_bound : (ts : Signature) (e : Term) (bytes : List ℕ) (r : Distance) → IsSignature ts → TermLimits e → IsJudged ts e bytes r → HasBound ts e r
judged_has_bound ts e bytes r s t j = subst (λ d. HasBound ts e d) (sym j.greatest) (derivable_has_bound ts e j.lines s t (is_derived ts e j.lines j.all j.right))
