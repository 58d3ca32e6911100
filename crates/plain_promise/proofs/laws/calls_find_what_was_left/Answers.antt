use Rattle.plain_promise.proofs.Called.{all_found, found_again}
use Rattle.plain_promise.proofs.laws.calls_find_what_was_left.Goals as goal

pub returns-clause-left : goal.returns-clause-left
returns-clause-left c draws o owner header first second file start is next by raised holds = found_again draws o owner header first second file start is next by raised holds

pub returns-clause-all : goal.returns-clause-all
returns-clause-all c draws o owner header first second t file is next unshut told image holds = all_found draws o owner header first second t file is next unshut told image holds
