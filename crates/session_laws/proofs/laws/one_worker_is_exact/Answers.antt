use Rattle.session_laws.proofs.Exact.{exact}
use Rattle.session_laws.proofs.laws.one_worker_is_exact.Goals as goal

pub returns : goal.returns
returns c = exact
