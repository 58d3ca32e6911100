-- How the two commands end.
use Rattle.std.specs.Prelude.{◌≡◌, ℕ, List, ◌++◌, Option, Result, Ok, Err}
use Rattle.catalog_loading.specs.Files.{AreTold, Contents, ReadsToCome}
use Rattle.catalog_loading.specs.Steps.{FileStep, StepOutcome}
use Rattle.catalog_loading.specs.Given.{IsStopAt}
use Rattle.catalog_loading.specs.declared.stops.Stop.{Stop}
use Rattle.derivation_commands.specs.Task.{Task}
use Rattle.derivation_commands.specs.Outcome.{IsOutcomeOf}
use Rattle.derivation_commands.specs.Held.{outcome_of}
use Rattle.derivation_commands.specs.declared.ending.Ending.{Ending}

-- All files were read, and what is written is the outcome of the task that they give; or it was stopped: a name was refused, or something
-- failed, or memory ran out.
abbrev pub IsTaskEnd : StepOutcome Task → (old new : List (List ℕ)) → Result Ending Stop → Type 0
IsTaskEnd o old new (Ok ending) = (task : Task) × (o.given ≡ Ok task) × (new ≡ old ++ o.names) × IsOutcomeOf task (outcome_of ending)
IsTaskEnd o old new (Err stop) = IsStopAt o old new stop

-- It is so at what files hold at each read, where they tell it.
abbrev pub EndsSo : (held : Option Contents) → (old new : List (List ℕ)) → FileStep Task → Result Ending Stop → Type 0
EndsSo held old new steps result = (reads : ReadsToCome) × AreTold held reads × IsTaskEnd (steps reads) old new result
