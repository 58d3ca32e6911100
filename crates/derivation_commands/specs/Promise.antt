-- What a yes promises, and what is written.
use Rattle.std.specs.Prelude.{◌≡◌, ℕ, List, Ok}
use Rattle.fz_ast.specs.Terms.{Term}
use Rattle.fz_frac.specs.Distance.{Distance}
use Rattle.answer_path.specs.Reading.{IsReading, read}
use Rattle.answer_path.specs.Admission.{accepted, admission_of}
use Rattle.catalog_loading.specs.Files.{ReadsToCome}
use Rattle.fz_derive.specs.Bound.{HasBound}
use Rattle.derivation_commands.specs.Task.{Subject, derive_steps, judge_steps, to_derive, to_judge}
use Rattle.derivation_commands.specs.Outcome.{IsOutcomeOf, written, yes_text}

-- Whatever the files hold, where what is judged gets a yes, the program is a term with a number on each dataset of the owner's tables, and its
-- numbers on two of them differ by at most R times how far these are apart. The typing rules of the checker aren't looked at.
abbrev pub AYesBoundsTheValues : Type 0
AYesBoundsTheValues =
    (catalog owner file derivation : List ℕ) (reads : ReadsToCome) (subject : Subject) (bytes text : List ℕ)
    → (judge_steps catalog owner file derivation reads).given ≡ Ok (to_judge subject bytes) → IsOutcomeOf (to_judge subject bytes) (written text)
    → (e : Term) × (r : Distance) × IsReading subject.program (read e) × (text ≡ yes_text r) × HasBound subject.tables e r

-- What is written as the derivation of a program is judged yes of it, with the sensitivity that a `check` finds.
abbrev pub WhatIsDerivedIsJudgedYes : Type 0
WhatIsDerivedIsJudgedYes =
    (catalog owner file : List ℕ) (reads : ReadsToCome) (subject : Subject) (text : List ℕ)
    → (derive_steps catalog owner file reads).given ≡ Ok (to_derive subject) → IsOutcomeOf (to_derive subject) (written text)
    → (e : Term) × (r : Distance) × IsReading subject.program (read e) × (admission_of subject.tables (read e) ≡ accepted e r)
    × IsOutcomeOf (to_judge subject text) (written (yes_text r))
