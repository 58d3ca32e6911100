use Rattle.std.proofs.Common.{refl}
use mathlib.Core.Logic.{inl, inr}
use Rattle.query_server.specs.Work.{to_count}
use Rattle.query_server.proofs.Ran.{open_ends}
use Rattle.query_server.proofs.audit.list_counted.Goals as goal

pub returns-in-Ok-clause-end : goal.returns-in-Ok-clause-end
returns-in-Ok-clause-end g c = λ script.
    let counted = c.in-Ok.ensures.counted in inl (inr (counted.0, counted.1, counted.2, refl, counted.3, c.in-Ok.ensures.disks))

pub returns-in-Err-clause-end : goal.returns-in-Err-clause-end
returns-in-Err-clause-end g c = λ script.
    let disks = c.in-Err.ensures.disks in
    open_ends (to_count c.args.opened.now.loading c.args.opened.now.key) _ _ _ _ script c.in-Err.stop (λ text. inl) (λ text named. named) disks c.in-Err.ensures.stop disks
