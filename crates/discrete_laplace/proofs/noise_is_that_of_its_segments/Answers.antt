use Rattle.discrete_laplace.proofs.Law.{noise_found, noise_complete, noise_only_one}
use Rattle.discrete_laplace.proofs.noise_is_that_of_its_segments.Goals as goal

pub returns-clause-found : goal.returns-clause-found
returns-clause-found c = noise_found

pub returns-clause-complete : goal.returns-clause-complete
returns-clause-complete c = noise_complete

pub returns-clause-only_one : goal.returns-clause-only_one
returns-clause-only_one c = noise_only_one
