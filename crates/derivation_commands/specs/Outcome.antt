-- What comes of a program and its derivation.
use Rattle.std.specs.Prelude.{◌≡◌, ◌⊎◌, ℕ, List, length, ◌++◌, Some, if◌then◌else◌, nat_le, codes, decimal}
use Rattle.fz_frac.specs.Distance.{Distance}
use Rattle.fz_ast.specs.Signature.{Signature}
use Rattle.wire_lines.specs.Refusal.{ProgramRefusal, by_program, no_term, no_token, too_nested}
use Rattle.wire_lines.specs.Reply.{refused as refused_reply, reply_text, sensitivity_text}
use Rattle.answer_path.specs.Reading.{IsReading, Reading, nested, read, stuck, unlexed}
use Rattle.answer_path.specs.Admission.{Admission, accepted, admission_of, refused_for, walks_too_much}
use Rattle.fz_derive.specs.Judged.{IsJudged, IsMisjudged, names_of}
use Rattle.fz_derive.specs.Least.{Derived, least, lines_of}
use Rattle.derivation_lines.specs.Written.{derivation_text, longest}
use Rattle.derivation_commands.specs.Task.{Task, to_derive, to_judge}

pub data Outcome : Type 0 where
  -- the derivation, or the line of a yes
  written : (text : List ℕ) → Outcome
  -- the line of the program or of the derivation that is refused
  refused : (line : List ℕ) → Outcome
  -- the derivation has too many bytes
  too_long : Outcome

-- the line of a program that is refused
abbrev pub refusal_text : ProgramRefusal → List ℕ
refusal_text refusal = reply_text (refused_reply (by_program refusal))

-- The values of the program on two datasets differ by at most R times how far these are apart.
abbrev pub yes_text : Distance → List ℕ
yes_text r = codes "yes " ++ sensitivity_text r ++ codes "\n"

-- this line, the first one being 0, is the least at fault
abbrev pub no_text : (k : ℕ) → List ℕ
no_text k = codes "no " ++ decimal k ++ codes "\n"

-- a derivation is written, where it isn't too long
abbrev pub if_short : (text : List ℕ) → Outcome
if_short text = if nat_le (length text) longest then written text else too_long

-- By what `check` says of the program: its line where it is refused, and else its least derivation. To one that takes too many walks nothing is
-- due, as in a `check`: it ends as out of memory.
abbrev pub IsDerivedBy : Admission → (tables : Signature) → Outcome → Type 0
IsDerivedBy (refused_for refusal) tables outcome = outcome ≡ refused (refusal_text refusal)
IsDerivedBy walks_too_much tables outcome = ⊥
IsDerivedBy (accepted e r) tables outcome = (d : Derived) × (least (names_of tables) e ≡ Some d) × (outcome ≡ if_short (derivation_text (lines_of d)))

-- What `derive` gives for a program's bytes.
pub record IsDeriveOutcome (tables : Signature) (program : List ℕ) (outcome : Outcome) : Type 0 where
  pub reading : Reading
  pub reads : IsReading program reading
  pub due : IsDerivedBy (admission_of tables reading) tables outcome

-- By the program's reading: the line of one that isn't read, and else the verdict on the derivation. The program isn't checked.
abbrev pub IsJudgedBy : Reading → (tables : Signature) → (derivation : List ℕ) → Outcome → Type 0
IsJudgedBy (unlexed place) tables derivation outcome = outcome ≡ refused (refusal_text (no_token place))
IsJudgedBy (stuck token) tables derivation outcome = outcome ≡ refused (refusal_text (no_term token))
IsJudgedBy (nested depth) tables derivation outcome = outcome ≡ refused (refusal_text (too_nested depth))
IsJudgedBy (read e) tables derivation outcome =
    ((r : Distance) × IsJudged tables e derivation r × (outcome ≡ written (yes_text r)))
    ⊎ ((k : ℕ) × IsMisjudged tables e derivation k × (outcome ≡ refused (no_text k)))

-- What `judge` gives for a program's bytes and those of a derivation.
pub record IsJudgeOutcome (tables : Signature) (program derivation : List ℕ) (outcome : Outcome) : Type 0 where
  pub reading : Reading
  pub reads : IsReading program reading
  pub due : IsJudgedBy reading tables derivation outcome

abbrev pub IsOutcomeOf : Task → Outcome → Type 0
IsOutcomeOf (to_derive subject) outcome = IsDeriveOutcome subject.tables subject.program outcome
IsOutcomeOf (to_judge subject derivation) outcome = IsJudgeOutcome subject.tables subject.program derivation outcome
