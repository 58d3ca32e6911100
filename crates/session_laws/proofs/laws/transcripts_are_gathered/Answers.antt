use Rattle.session_laws.proofs.Scripts.{transcript_gathered}
use Rattle.session_laws.proofs.laws.transcripts_are_gathered.Goals as goal

pub returns : goal.returns
returns c = transcript_gathered
