use Rattle.part_views.proofs.Laws.{views_are_datasets as law}
use Rattle.part_views.proofs.views_are_datasets.Goals as goal

pub returns : goal.returns
returns c = law
