use Rattle.std.proofs.lemmas.Result.{IfOk-weaker}
use Rattle.outside_bays.specs.Bays.{shelf_of}
use Rattle.outside_bays.specs.Places.{home_shown}
use Rattle.system_run.proofs.Homes.{twins_as_said}
use Rattle.system_run.proofs.bay_for.Goals as goal

pub returns-clause-twins : goal.returns-clause-twins
returns-clause-twins c =
    IfOk-weaker c.new.result _ _ (λ bay home. twins_as_said (shelf_of home_shown bay.homes.items) 64 _ _ c.mirrors_for.ensures home) c.new.ensures.home
