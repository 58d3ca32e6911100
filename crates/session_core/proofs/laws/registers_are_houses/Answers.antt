use Rattle.owner_history.proofs.OwnerHouse.Owners.{register_owners}
use Rattle.session_core.proofs.laws.registers_are_houses.Goals as goal

pub returns : goal.returns
returns c = register_owners
