use Rattle.plain_promise.proofs.Called.{calls_keep}
use Rattle.plain_promise.proofs.laws.calls_keep_the_plain_promise.Goals as goal

pub returns : goal.returns
returns c draws o owner header found earlier calls file last has stands begun all = calls_keep draws o owner header has calls found earlier file last stands begun all
