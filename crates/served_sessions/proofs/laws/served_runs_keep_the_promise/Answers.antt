use Rattle.std.specs.Prelude.{[]}
use Rattle.successive_runs.proofs.Lives.{found_none, keep}
use Rattle.served_sessions.proofs.Runs.{service_runs}
use Rattle.served_sessions.proofs.laws.served_runs_keep_the_promise.Goals as goal

pub returns-clause-first : goal.returns-clause-first
returns-clause-first c house draws o owner runs last owners here all =
    keep house draws o owner here (owners o owner here) runs [] [] last (found_none owner (draws o)) (service_runs house draws o owner here runs [] last all)

pub returns-clause-later : goal.returns-clause-later
returns-clause-later c house draws o owner found earlier runs last owners here begun all =
    keep house draws o owner here (owners o owner here) runs found earlier last begun (service_runs house draws o owner here runs found last all)
