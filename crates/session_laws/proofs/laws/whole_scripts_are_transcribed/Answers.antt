use Rattle.session_laws.proofs.Whole.{whole_transcript}
use Rattle.session_laws.proofs.laws.whole_scripts_are_transcribed.Goals as goal

pub returns : goal.returns
returns c = whole_transcript
