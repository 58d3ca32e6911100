-- What is judged of a program, its lines being read and its nodes walked over.
use Rattle.std.proofs.Common.{◌≡◌, ℕ, ◌<◌, ◌≤◌, refl, sym, ap, ◌∙◌, List, length, IfOk, inl, inr}
use Rattle.std.specs.Prelude.{Result, Ok, Err, IfErr, IsErrAnd, Option, Some, None, cond, min}
use Rattle.std.proofs.lemmas.List.{length-map}
use Rattle.std.proofs.lemmas.Result.{err_from_is_err_and}
use Rattle.fz_ast.proofs.Arenas.{grows_trans}
use Rattle.fz_ast.specs.Arena.{Grows}
use Rattle.fz_ast.specs.Signature.{IsSignature, Signature}
use Rattle.fz_ast.specs.Limits.{TermLimits}
use Rattle.fz_ast.specs.Terms.{Term}
use Rattle.fz_ast.specs.Types.{Ty}
use Rattle.fz_frac.specs.Distance.{Fin}
use Rattle.fz_frac.specs.declared.frac.Frac.{Frac}
use Rattle.term_meanings.specs.Scopes.{Context}
use Rattle.fz_derive.specs.Answered.{ExplainsJudge, ExplainsPlace}
use Rattle.fz_derive.specs.Bound.{HasBound}
use Rattle.derivation_rows.specs.Faults.{fault_in}
use Rattle.derivation_lines.specs.Held.{line_in, lines_in}
use Rattle.fz_derive.specs.Judged.{IsJudged, IsMisjudged, fault_of, greatest_said, is_bounded, names_of}
use Rattle.derivation_lines.specs.Lines.{Line, line_at}
use Rattle.derivation_rows.specs.Nodes.{nodes_of}
use Rattle.derivation_lines.specs.Pieces.{ExplainsLines}
use Rattle.derivation_rows.specs.Scoped.{HasKnownTypes, context_in}
use Rattle.derivation_lines.specs.Texts.{AreLines}
use Rattle.fz_derive.specs.Walked.{most_counted}
use Rattle.derivation_lines.specs.Written.{longest}
use Rattle.derivation_lines.specs.declared.line.JudgeFault.{JudgeFault}
use Rattle.derivation_lines.specs.declared.line.JudgeFault.TheVariants.{Line as AtLine, NoMemory}
use Rattle.derivation_lines.specs.declared.line.Line.{Line as Kept}
use Rattle.derivation_rows.specs.declared.scope.Bound.{Bound}
use Rattle.fz_derive.proofs.Counting.{all_counted, fault_counted}
use Rattle.fz_derive.proofs.Exactly.{judged_has_bound}
use Rattle.derivation_rows.proofs.Scopes.{context_grows}

-- the lines that are read are as many as the nodes, and all of them are counted
pub all_lines : (bytes : List ℕ) (V : List Ty) (ls : List Kept) (n : ℕ) → length bytes ≤ longest → AreLines bytes (lines_in V ls) → length ls ≡ min n most_counted → (length ls ≡ n) × (length ls < most_counted)
all_lines bytes V ls n few are h =
    let e = length-map ls (line_in V) in
    let k = all_counted bytes (lines_in V ls) n few are (e ∙ h) in
    (sym e ∙ k.0, rw e at k.1)

-- the tables in an arena that has grown twice
pub tables_grow : (ts : Signature) (T U V : List Ty) (scope bs : List Bound) → Grows T U → Grows U V → HasKnownTypes T scope → context_in T scope ≡ names_of ts → bs ≡ scope → context_in V bs ≡ names_of ts
tables_grow ts T U V scope bs g h k e is = rw is (context_grows T V scope (grows_trans T U V g h) k ∙ e)

module _ (ts : Signature) (e t : Term) (bytes : List ℕ) (V : List Ty) (Γ : Context) (ls : List Kept) (is : t ≡ e) (names : Γ ≡ names_of ts) (are : AreLines bytes (lines_in V ls)) (all : length ls ≡ nodes_of e) where
  count : length (lines_in V ls) ≡ nodes_of e
  count = length-map ls (line_in V) ∙ all

  abbrev found : Option ℕ
  found = cond (is_bounded (line_at (lines_in V ls) 0)) (fault_in (lines_in V ls) Γ t 0) (Some 0)

  same : fault_of ts e (lines_in V ls) ≡ found
  same = rw (is, names) refl

  pub judged : (r : Result Frac JudgeFault) → IfOk r (λ x. (found ≡ None) × (Fin x.p x.q ≡ greatest_said (line_at (lines_in V ls) 0).says)) → IfOk r (λ x. IsJudged ts e bytes (Fin x.p x.q))
  judged (Ok x) h = record { lines = lines_in V ls; are = are; all = count; right = same ∙ h.0; greatest = h.1 }
  judged (Err f) h = tt

  pub misjudged : (r : Result Frac JudgeFault) → IfErr r (ExplainsPlace found) → IfErr r (ExplainsJudge ts e bytes)
  misjudged (Ok x) h = tt
  misjudged (Err NoMemory) h = tt
  misjudged (Err (AtLine k)) h = inr (record { lines = lines_in V ls; are = are; all = count; wrong = same ∙ h })

-- a fault of the lines that are counted
pub not_lines : (ts : Signature) (e : Term) (bytes : List ℕ) (f : JudgeFault) → length bytes ≤ longest → ExplainsLines bytes (min (nodes_of e) most_counted) f → ExplainsJudge ts e bytes f
not_lines ts e bytes NoMemory few h = tt
not_lines ts e bytes (AtLine k) few h = inl (fault_counted bytes (nodes_of e) k few h)

-- a fault that is handed on
pub handed_on : (ts : Signature) (e : Term) (bytes : List ℕ) (q : Result Frac JudgeFault) (f : JudgeFault) → IsErrAnd q (λ y. y ≡ f) → ExplainsJudge ts e bytes f → IfErr q (ExplainsJudge ts e bytes)
handed_on ts e bytes q f h k = let p = err_from_is_err_and q h in rw (p.1, p.2) k

pub refused_so : (P : Frac → Type 0) (Q : JudgeFault → Type 0) (q : Result Frac JudgeFault) → IsErrAnd q Q → IfOk q P
refused_so P Q (Ok x) h = absurd h
refused_so P Q (Err f) h = tt

pub has_bound : (ts : Signature) (e : Term) (bytes : List ℕ) (r : Result Frac JudgeFault) → IsSignature ts → TermLimits e → IfOk r (λ x. IsJudged ts e bytes (Fin x.p x.q)) → IfOk r (λ x. HasBound ts e (Fin x.p x.q))
has_bound ts e bytes (Ok x) s l h = judged_has_bound ts e bytes (Fin x.p x.q) s l h
has_bound ts e bytes (Err f) s l h = tt
