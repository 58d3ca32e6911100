use Rattle.session_laws.proofs.Dealing.{are_dealt}
use Rattle.session_laws.proofs.laws.blocks_are_dealt.Goals as goal

pub returns : goal.returns
returns c = are_dealt
