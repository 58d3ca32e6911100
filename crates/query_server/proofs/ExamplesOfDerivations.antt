-- worked examples of `derive` and `judge`: what they take, how they end, and which files their words name
use Rattle.std.proofs.Common.{◌≡◌, ℕ, List, [], ◌∷◌, Some, None, refl, arith}
use Rattle.std.specs.Prelude.{codes}
use mathlib.Core.Logic.{inl, inr}
use Rattle.command_words.specs.Command.{derive, judge}
use Rattle.catalog_loading.specs.Files.{always}
use Rattle.catalog_loading.specs.Steps.{◌>>=◌}
use Rattle.derivation_commands.specs.Task.{Subject, to_derive, to_judge}
use Rattle.derivation_commands.specs.Outcome.{refused, too_long, written}
use Rattle.owner_books.specs.Shelves.{Shelf}
use Rattle.query_server.specs.Work.{of_derivation}
use Rattle.query_server.specs.Derivation.{outcome_status, outcome_text}
use Rattle.query_server.specs.Status.{status_code}
use Rattle.query_server.specs.Due.{IsOfDerive, IsOfDisks, IsOfDoors, IsOfProgram, IsOfRun, command_steps}
use Rattle.query_server.specs.Valid.{IsValidFor, MayEndWell}
use Rattle.query_server.specs.declared.end.Status.TheVariants.{DerivationTooLong, Done, NoMemory, ProgramRefused, Refused, ScriptTooLong}

abbrev c : List ℕ
c = codes "c"

-- they take a program, and neither source, disks nor doors
derive_takes : IsOfProgram (Some (derive c c c)) × (IsOfRun (Some (derive c c c)) → ⊥) × (IsOfDisks (Some (derive c c c)) → ⊥) × (IsOfDoors (Some (derive c c c)) → ⊥)
derive_takes = (refl, λ is. cc is, λ is. cc is, λ is. cc is)

judge_takes : IsOfProgram (Some (judge c c c c)) × (IsOfRun (Some (judge c c c c)) → ⊥) × (IsOfDisks (Some (judge c c c c)) → ⊥) × (IsOfDoors (Some (judge c c c c)) → ⊥)
judge_takes = (refl, λ is. cc is, λ is. cc is, λ is. cc is)

a_derive : IsOfDerive (Some (derive c c (codes "f")))
a_derive = (c, c, codes "f", refl)

a_judge_is_no_derive : IsOfDerive (Some (judge c c c c)) → ⊥
a_judge_is_no_derive (catalog, owner, file, is) = cc is

-- where the catalog is absent it is refused, and nothing else is read
absent_catalog : (command_steps (Some (judge c (codes "o") (codes "f") (codes "d"))) (always (λ name. None))).names ≡ c ∷ []
unfolding ◌>>=◌
absent_catalog = refl

-- ---- statuses and their lines

too_long_code : status_code DerivationTooLong ≡ 11
too_long_code = refl

too_long_line : outcome_text too_long ≡ codes "derivation too long\n"
too_long_line = refl

written_done : (text : List ℕ) → (outcome_status (written text) ≡ Done) × (outcome_text (written text) ≡ text)
written_done text = (refl, refl)

refused_line : (line : List ℕ) → (outcome_status (refused line) ≡ ProgramRefused) × (outcome_text (refused line) ≡ line)
refused_line line = (refl, refl)

-- which of them each ends with, where nothing is in the way
module _ (subject : Subject) (bytes : List ℕ) (shelf : Shelf) where
  valid_derive : IsValidFor (of_derivation (to_derive subject)) shelf
  valid_derive = tt

  derive_ends : (MayEndWell (of_derivation (to_derive subject)) Done × MayEndWell (of_derivation (to_derive subject)) ProgramRefused
      × MayEndWell (of_derivation (to_derive subject)) DerivationTooLong × MayEndWell (of_derivation (to_derive subject)) NoMemory)
      × (MayEndWell (of_derivation (to_derive subject)) ScriptTooLong → ⊥) × (MayEndWell (of_derivation (to_derive subject)) Refused → ⊥)
  derive_ends = ((inl (inl refl), inl (inr (inl refl)), inl (inr (inr refl)), inr refl), λ is. absurd (grind (arith, is)), λ is. absurd (grind (arith, is)))

  judge_ends : (MayEndWell (of_derivation (to_judge subject bytes)) Done × MayEndWell (of_derivation (to_judge subject bytes)) ProgramRefused
      × MayEndWell (of_derivation (to_judge subject bytes)) NoMemory)
      × (MayEndWell (of_derivation (to_judge subject bytes)) DerivationTooLong → ⊥) × (MayEndWell (of_derivation (to_judge subject bytes)) Refused → ⊥)
  judge_ends = ((inl (inl refl), inl (inr refl), inr refl), λ is. absurd (grind (arith, is)), λ is. absurd (grind (arith, is)))
