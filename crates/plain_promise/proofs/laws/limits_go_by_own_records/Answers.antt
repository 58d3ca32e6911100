use Rattle.std.specs.Prelude.{[]}
use Rattle.successive_runs.specs.Life.{WasSent}
use Rattle.successive_runs.proofs.Lives.{found_none}
use Rattle.plain_promise.specs.Kept.{worker_in}
use Rattle.plain_promise.proofs.Limits.{own_records_decide}
use Rattle.plain_promise.proofs.Promise.{some_runs}
use Rattle.plain_promise.proofs.laws.limits_go_by_own_records.Goals as goal

pub returns : goal.returns
returns c house draws again o owner runs others last end owners here all also j k ask same =
    let one = some_runs house draws o owner here (owners o owner here) runs [] [] last (found_none owner (draws o)) all in
    let two = some_runs house again o owner here (owners o owner here) others [] [] end (found_none owner (again o)) also in
    own_records_decide owner (draws o) (again o) [] last [] end one.0 two.0 (worker_in runs) (worker_in others) (WasSent house o owner runs) (WasSent house o owner others) one.1 two.1 j k ask same
