use Rattle.query_server.proofs.Lines.{transcribed}
use Rattle.query_server.proofs.Transcribed.{written_whole}
use Rattle.query_server.proofs.laws.one_worker_transcribes.Goals as goal

pub returns-clause-replies : goal.returns-clause-replies
returns-clause-replies c = transcribed

pub returns-clause-written : goal.returns-clause-written
returns-clause-written c = written_whole
