use Rattle.session_core.proofs.AnswerPath.Sole.{one_pass_closes}
use Rattle.session_laws.proofs.Closings.{one_worker_closes}
use Rattle.session_laws.proofs.laws.one_worker_shuts_books.Goals as goal

pub returns : goal.returns
returns c = one_worker_closes one_pass_closes
