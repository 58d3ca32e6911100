use Rattle.part_views.proofs.SeenLaws.{made_parts_are_seen as law}
use Rattle.part_views.proofs.made_parts_are_seen.Goals as goal

pub returns : goal.returns
returns c = law
