use Rattle.row_functions.proofs.Inferences.{inferred}
use Rattle.row_functions.proofs.functions_are_inferred.Goals as goal

pub returns : goal.returns
returns c = inferred
