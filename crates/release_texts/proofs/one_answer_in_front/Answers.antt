use Rattle.release_texts.proofs.Fronts.{front}
use Rattle.release_texts.proofs.one_answer_in_front.Goals as goal

pub returns : goal.returns
returns c = front
