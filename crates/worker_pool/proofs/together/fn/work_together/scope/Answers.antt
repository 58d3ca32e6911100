use Rattle.worker_pool.proofs.Backs.{ok_changed}
use Rattle.worker_pool.proofs.together.fn.work_together.scope.Goals as goal

pub returns : goal.returns
returns g c = record {
  len = c.go.ensures.len;
  worked = ok_changed g.F.Fn c.captures.all.now.call.now c.captures.crew.items (λ after. after.items) c.go.result c.go.ensures.worked;
  refused = c.go.ensures.refused;
}
