-- What the command comes to over files that hold the catalog, its table and the key of zeros.
use Rattle.std.proofs.Common.{◌≡◌, ℕ, List, [], ◌∷◌, Option, Some, refl, ◌∙◌, ap, subst, codes}
use Rattle.command_words.specs.Command.{Command, command_of, run}
use Rattle.command_words.proofs.Plain.{plain_is_tabled}
use Rattle.query_server.specs.Due.{IsOfDoors, work_of, command_steps}
use Rattle.query_server.specs.Work.{Work, ended, to_answer}
use Rattle.catalog_loading.specs.Files.{Contents, always}
use Rattle.catalog_loading.specs.Steps.{StepOutcome}
use Rattle.worked_row.specs.Row.{catalog_text, table_text}
use Rattle.worked_row.specs.Held.{loading, zeros}
use Rattle.worked_row.proofs.RowSteps.{run_given}

abbrev pub words : List (List ℕ)
words = codes "run" ∷ codes "cat.json" ∷ codes "key" ∷ []

is_run : command_of words ≡ Some (run (codes "cat.json") (codes "key") 1)
is_run = plain_is_tabled words (refl, (refl, (refl, tt)))

-- it listens at no door
pub row_doorless : (given : List (List ℕ)) → given ≡ words → IsOfDoors (command_of given) → ⊥
row_doorless given are_words listens =
    let no : IsOfDoors (Some (run (codes "cat.json") (codes "key") 1)) = subst IsOfDoors (ap command_of are_words ∙ is_run) listens in
    cc no

-- A script is to be answered over the three rows, whatever else the files hold.
pub row_ending : (given : List (List ℕ)) (held : Contents) → given ≡ words → held (codes "cat.json") ≡ Some catalog_text → held (codes "key") ≡ Some zeros
    → held (codes "people.csv") ≡ Some table_text → work_of given (always held) ≡ to_answer 1 loading zeros
unfolding work_of
row_ending given held are_words has_catalog has_key has_table =
    ap (λ given. ended (command_steps (command_of given) (always held)).given) are_words
    ∙ ap (λ (command : Option Command). ended (command_steps command (always held)).given) is_run
    ∙ ap (λ (o : StepOutcome Work). ended o.given) (run_given held has_catalog has_key has_table).1
