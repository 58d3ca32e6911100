-- A derivation is judged in one way.
use Rattle.std.proofs.Common.{◌≡◌, ◌≢◌, ◌⊎◌, ℕ, ◌+◌, ◌<◌, ◌≤◌, List, [], ◌∷◌, ◌++◌, ap, arith, inl, inr, length, refl, subst, sym, true, ◌∙◌, Bool, not, ◌==◌, ◌&&◌}
use Rattle.std.proofs.lemmas.Bool.{cases_lt}
use Rattle.std.proofs.lemmas.List.{append-nil, length-append}
use Rattle.std.specs.List.{slice_split}
use Rattle.std.specs.Prelude.{None, Option, Some}
use Rattle.fz_frac.specs.Distance.{Distance}
use Rattle.fz_ast.proofs.SameTypes.{both_true}
use Rattle.fz_ast.specs.Signature.{Signature}
use Rattle.fz_ast.specs.Terms.{Name, Term}
use Rattle.fz_ast.specs.Types.{Ty}
use Rattle.fz_lexer.proofs.Cuts.{only}
use Rattle.fz_lexer.specs.Bytes.{every_byte}
use Rattle.fz_lexer.specs.declared.token.Kind.{Kind}
use Rattle.fz_lexer.specs.declared.token.Kind.TheVariants.{Name as NameKind}
use Rattle.fz_lexer.specs.declared.token.Token.{Token}
use Rattle.fz_parser.proofs.Types.{one_sensitivity, one_type}
use Rattle.fz_parser.specs.Grammar.{IsSensitivityOf, IsTypeOf}
use Rattle.fz_derive.specs.Judged.{IsJudged, IsMisjudged, IsWrongAt, fault_of, greatest_said}
use Rattle.derivation_lines.specs.Lines.{Line, Said, line_at}
use Rattle.derivation_rows.specs.Nodes.{nodes_of}
use Rattle.derivation_lines.specs.Texts.{ArePieces, AreLines, AreSaidTexts, BeginWith, IsFaultyLine, IsLineText, IsSaidText, IsTypeText, NoLine, bar, lacks, line_feed}
use Rattle.derivation_lines.proofs.Once.{lines_once, lines_or_fault, fault_once}

module _ {ts : Signature} {e : Term} {bytes : List ℕ} where
  pub one_number : {r s : Distance} → IsJudged ts e bytes r → IsJudged ts e bytes s → r ≡ s
  one_number j k = j.greatest ∙ ap (λ (L : List Line). greatest_said (line_at L 0).says) (lines_once bytes j.lines k.lines j.are k.are) ∙ sym k.greatest

  one_wrong : {m n : ℕ} → IsWrongAt ts e bytes m → IsWrongAt ts e bytes n → m ≡ n
  one_wrong j k = let h : Some _ ≡ Some _ = sym j.wrong ∙ ap (fault_of ts e) (lines_once bytes j.lines k.lines j.are k.are) ∙ k.wrong in cc h

  pub number_or_line : {r : Distance} {k : ℕ} → IsJudged ts e bytes r → IsMisjudged ts e bytes k → ⊥
  number_or_line {k = k} j (inl f) = lines_or_fault bytes (nodes_of e) k j.lines j.are j.all f
  number_or_line {k = k} j (inr w) = let h : None ≡ Some k = sym j.right ∙ ap (fault_of ts e) (lines_once bytes j.lines w.lines j.are w.are) ∙ w.wrong in cc

  pub one_line : {j k : ℕ} → IsMisjudged ts e bytes j → IsMisjudged ts e bytes k → j ≡ k
  one_line {j} {k} (inl f) (inl g) = fault_once bytes (nodes_of e) j k f g
  one_line {j} (inl f) (inr w) = absurd (lines_or_fault bytes (nodes_of e) j w.lines w.are w.all f)
  one_line {k = k} (inr w) (inl f) = absurd (lines_or_fault bytes (nodes_of e) k w.lines w.are w.all f)
  one_line (inr w) (inr v) = one_wrong w v
