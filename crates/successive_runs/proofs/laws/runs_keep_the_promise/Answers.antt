use Rattle.std.specs.Prelude.{[]}
use Rattle.successive_runs.proofs.Lives.{found_none, keep, keep_in_houses}
use Rattle.successive_runs.proofs.laws.runs_keep_the_promise.Goals as goal

pub returns-clause-first : goal.returns-clause-first
returns-clause-first c house draws o owner runs last owners here all = keep house draws o owner here (owners o owner here) runs [] [] last (found_none owner (draws o)) all

pub returns-clause-later : goal.returns-clause-later
returns-clause-later c house draws o owner found earlier runs last owners here begun all = keep house draws o owner here (owners o owner here) runs found earlier last begun all

pub returns-clause-houses : goal.returns-clause-houses
returns-clause-houses c draws o owner found earlier runs last has begun all = keep_in_houses draws o owner has runs found earlier last begun all
