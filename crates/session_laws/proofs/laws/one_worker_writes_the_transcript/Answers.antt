use Rattle.session_laws.proofs.Scripts.{transcript_of}
use Rattle.session_laws.proofs.laws.one_worker_writes_the_transcript.Goals as goal

pub returns : goal.returns
returns c = transcript_of
