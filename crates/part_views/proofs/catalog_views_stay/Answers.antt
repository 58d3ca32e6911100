use Rattle.part_views.proofs.SeenLaws.{catalog_views_stay, views_stay}
use Rattle.part_views.proofs.catalog_views_stay.Goals as goal

pub returns-clause-made : goal.returns-clause-made
returns-clause-made c = catalog_views_stay

pub returns-clause-none : goal.returns-clause-none
returns-clause-none c = views_stay
