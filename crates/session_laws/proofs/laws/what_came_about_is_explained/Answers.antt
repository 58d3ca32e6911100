use Rattle.session_laws.proofs.Comes.{came_about}
use Rattle.session_laws.proofs.laws.what_came_about_is_explained.Goals as goal

pub returns : goal.returns
returns c = came_about
