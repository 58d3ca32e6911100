-- what comes of a task is one
use Rattle.std.proofs.Common.{◌≡◌, ◌∙◌, ℕ, List, ap, subst, sym}
use mathlib.Core.Logic.{inl, inr}
use Rattle.fz_ast.specs.Signature.{Signature}
use Rattle.answer_path.specs.Reading.{Reading, nested, read, stuck, unlexed}
use Rattle.answer_path.specs.Admission.{Admission, accepted, admission_of, refused_for, walks_too_much}
use Rattle.answer_path.proofs.Readings.{one_reading}
use Rattle.fz_derive.specs.Least.{Derived, lines_of}
use Rattle.derivation_lines.specs.Written.{derivation_text}
use Rattle.fz_derive.proofs.OneAnswer.{number_or_line, one_line, one_number}
use Rattle.derivation_commands.specs.Task.{Subject, Task, to_derive, to_judge}
use Rattle.derivation_commands.specs.Outcome.{IsDeriveOutcome, IsDerivedBy, IsJudgeOutcome, IsJudgedBy, IsOutcomeOf, Outcome, if_short, no_text, refused, too_long, written, yes_text}

one_derived : (admission : Admission) (tables : Signature) (a b : Outcome) → IsDerivedBy admission tables a → IsDerivedBy admission tables b → a ≡ b
one_derived (refused_for refusal) tables a b first second = first ∙ sym second
one_derived walks_too_much tables a b first second = absurd first
one_derived (accepted e r) tables a b (d, is, at) (c, also, here) =
    let same : d ≡ c = cc (is, also) in
    at ∙ ap (λ (x : Derived). if_short (derivation_text (lines_of x))) same ∙ sym here

one_judged : (reading : Reading) (tables : Signature) (derivation : List ℕ) (a b : Outcome) → IsJudgedBy reading tables derivation a → IsJudgedBy reading tables derivation b → a ≡ b
one_judged (unlexed place) tables derivation a b first second = first ∙ sym second
one_judged (stuck token) tables derivation a b first second = first ∙ sym second
one_judged (nested depth) tables derivation a b first second = first ∙ sym second
one_judged (read e) tables derivation a b (inl (r, is, at)) (inl (s, also, here)) =
    at ∙ ap (λ d. written (yes_text d)) (one_number is also) ∙ sym here
one_judged (read e) tables derivation a b (inl (r, is, at)) (inr (k, isnt, here)) = absurd (number_or_line is isnt)
one_judged (read e) tables derivation a b (inr (k, isnt, here)) (inl (r, is, at)) = absurd (number_or_line is isnt)
one_judged (read e) tables derivation a b (inr (j, is, at)) (inr (k, also, here)) =
    at ∙ ap (λ n. refused (no_text n)) (one_line is also) ∙ sym here

derive_once : (tables : Signature) (program : List ℕ) (a b : Outcome) → IsDeriveOutcome tables program a → IsDeriveOutcome tables program b → a ≡ b
derive_once tables program a b first second =
    let same = one_reading program second.reading first.reading second.reads first.reads in
    one_derived (admission_of tables first.reading) tables a b first.due (subst (λ (r : Reading). IsDerivedBy (admission_of tables r) tables b) same second.due)

judge_once : (tables : Signature) (program derivation : List ℕ) (a b : Outcome) → IsJudgeOutcome tables program derivation a → IsJudgeOutcome tables program derivation b → a ≡ b
judge_once tables program derivation a b first second =
    let same = one_reading program second.reading first.reading second.reads first.reads in
    one_judged first.reading tables derivation a b first.due (subst (λ (r : Reading). IsJudgedBy r tables derivation b) same second.due)

pub one_outcome : (task : Task) (a b : Outcome) → IsOutcomeOf task a → IsOutcomeOf task b → a ≡ b
one_outcome (to_derive subject) a b first second = derive_once subject.tables subject.program a b first second
one_outcome (to_judge subject derivation) a b first second = judge_once subject.tables subject.program derivation a b first second

-- a verdict is never that something is too long
no_length : (reading : Reading) (tables : Signature) (derivation : List ℕ) → IsJudgedBy reading tables derivation too_long → ⊥
no_length (unlexed place) tables derivation is = cc is
no_length (stuck token) tables derivation is = cc is
no_length (nested depth) tables derivation is = cc is
no_length (read e) tables derivation (inl (r, is, at)) = cc at
no_length (read e) tables derivation (inr (k, is, at)) = cc at

pub never_too_long : (subject : Subject) (derivation : List ℕ) → IsOutcomeOf (to_judge subject derivation) too_long → ⊥
never_too_long subject derivation is = no_length is.reading subject.tables derivation is.due
