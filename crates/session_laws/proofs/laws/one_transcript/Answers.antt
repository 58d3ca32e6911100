use Rattle.session_core.proofs.OneTranscript.{runs_once}
use Rattle.session_laws.proofs.laws.one_transcript.Goals as goal

pub returns : goal.returns
returns c = runs_once
