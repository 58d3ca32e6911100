use Rattle.std.proofs.Common.{refl}
use mathlib.Core.Logic.{inl, inr}
use Rattle.service_workers.specs.declared.posting.Service.TheVariants.{Served, DoorFault, NoMemory}
use Rattle.query_server.specs.Outside.{doors_in}
use Rattle.query_server.proofs.Served.{service_as, same_doors}
use Rattle.query_server.proofs.serve.serve_over.Goals as goal

pub returns-in-Ok-Served-clause-end : goal.returns-in-Ok-Served-clause-end
returns-in-Ok-Served-clause-end g c =
    let r = c.in-Ok-Served in
    inl (Served, service_as _ _ _ _ _ _ _ _ _ _ _ c.new-streams.ensures.given r.field-0-is r.ensures.service, (c.new.result, refl, c.new.ensures.items))

pub returns-in-Ok-DoorFault-clause-end : goal.returns-in-Ok-DoorFault-clause-end
returns-in-Ok-DoorFault-clause-end g c =
    let r = c.in-Ok-DoorFault in
    inl (DoorFault, service_as _ _ _ _ _ _ _ _ _ _ _ c.new-streams.ensures.given r.field-0-is r.ensures.service, refl)

pub returns-in-Ok-NoMemory-clause-end : goal.returns-in-Ok-NoMemory-clause-end
returns-in-Ok-NoMemory-clause-end g c =
    let r = c.in-Ok-NoMemory in
    inl (NoMemory, service_as _ _ _ _ _ _ _ _ _ _ _ c.new-streams.ensures.given r.field-0-is r.ensures.service, refl)

pub returns-in-Err-clause-end : goal.returns-in-Err-clause-end
returns-in-Err-clause-end g c =
    inr (refl, c.in-Err.ensures.refused, same_doors (doors_in g.O.Doors.coming g.O.Doors.served g.O.Doors.faults) c.in-Err.ensures.untouched)
