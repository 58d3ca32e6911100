use Rattle.std.proofs.Common.{◌≡◌, drop}
use Rattle.session_core.specs.OwnerHouse.House.{house_of}
use Rattle.session_core.specs.Code.{ArePasses}
use Rattle.script_workers.specs.Starts.{blocks_at}
use Rattle.script_workers.proofs.Served.{IsServing}
use Rattle.script_workers.proofs.worker.serve.Given as goal

abbrev pub invariant-loop-number : goal.invariant-loop-number
invariant-loop-number g l = record {
  here : l.worker.passes.locks ≡ l.server.desks.now;
  passes : ArePasses (house_of l.server.house.now) l.worker.passes.knows;
  serving : IsServing (house_of l.server.house.now) (g.S.Streams.given l.server.streams.now) l.fn.count l.fn.index (blocks_at l.starts) l.number (drop l.number (blocks_at l.starts)) l.fn.worker.passes l.worker.passes l.worker.texts;
}
