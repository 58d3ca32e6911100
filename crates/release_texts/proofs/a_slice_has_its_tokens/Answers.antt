use Rattle.release_texts.proofs.Slices.{slices}
use Rattle.release_texts.proofs.a_slice_has_its_tokens.Goals as goal

pub returns : goal.returns
returns c = slices
