use Rattle.row_functions.proofs.Computed.{means_computed}
use Rattle.row_functions.proofs.meanings_are_computed.Goals as goal

pub returns : goal.returns
returns c = means_computed
