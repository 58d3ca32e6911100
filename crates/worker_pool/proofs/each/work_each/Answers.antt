use Rattle.std.proofs.Common.{rules}
use Rattle.worker_pool.specs.Each.{HaveWorked}
use Rattle.worker_pool.proofs.each.work_each.Goals as goal

pub returns : goal.returns
returns g c = λ i d within.
    let worked : HaveWorked g.F.Fn c.args.work.now c.args.crew.now c.crew-1.given.0 = search rules in
    worked.each i d within
