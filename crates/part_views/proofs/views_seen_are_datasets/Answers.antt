use Rattle.part_views.proofs.SeenLaws.{views_seen_are_datasets as law}
use Rattle.part_views.proofs.views_seen_are_datasets.Goals as goal

pub returns : goal.returns
returns c = law
