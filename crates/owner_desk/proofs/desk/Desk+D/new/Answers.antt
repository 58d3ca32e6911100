use Rattle.std.proofs.Common.{◌≡◌}
use Rattle.owner_lock.specs.Known.{known_first}
use Rattle.owner_lock.specs.Passes.{IsPassOf, known, lock_id, pass_lock}
use Rattle.owner_desk.specs.Lawful.{stands}
use Rattle.owner_desk.proofs.Calls.{first_pass, from_ok}
use Rattle.owner_desk.proofs.desk.Desk+D.new.Goals as goal

pub returns-in-Ok-clause-pass : goal.returns-in-Ok-clause-pass
returns-in-Ok-clause-pass g c =
    let said = from_ok (λ r. IsPassOf r.0 r.1 × (known r.1 ≡ known_first stands c.new.result)) c.new-2.result (c.in-Ok.owned, c.in-Ok.ticket) c.in-Ok.is c.new-2.ensures.pass in
    first_pass (pass_lock c.in-Ok.ticket) (lock_id c.in-Ok.owned) (known c.in-Ok.ticket) c.args.book c.new.result c.requires.fresh c.new.ensures said.0 said.1
