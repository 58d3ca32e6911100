-- What a program is charged by.
use Rattle.std.specs.Prelude.{◌≡◌, ℕ, List}
use Rattle.fz_frac.specs.Distance.{Fin}
use Rattle.fz_ast.specs.Signature.{Signature}
use Rattle.fz_ast.specs.Terms.{Term}
use Rattle.answer_path.specs.Reading.{read, IsReading}
use Rattle.answer_path.specs.Admission.{accepted, admission_of}

-- The program is accepted over these tables, and p/q in lowest terms is its sensitivity. In a part of a partition the tables
-- are its partition's table alone.
abbrev pub IsCharged : Signature → List ℕ → (p q : ℕ) → Type 0
IsCharged tables program p q = (e : Term) × IsReading program (read e) × (admission_of tables (read e) ≡ accepted e (Fin p q))
