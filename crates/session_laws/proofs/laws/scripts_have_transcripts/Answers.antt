use Rattle.session_laws.proofs.Exists.{replies_exist}
use Rattle.session_laws.proofs.laws.scripts_have_transcripts.Goals as goal

pub returns : goal.returns
returns c = replies_exist
