use Rattle.budget_ledger.proofs.BothJoins.{lacks_nothing}
use Rattle.budget_ledger.proofs.both.level_side.Goals as goal

pub returns-then-records-side-clause-levelled : goal.returns-then-records-side-clause-levelled
returns-then-records-side-clause-levelled g c =
    (lacks_nothing g.D.Disk.trace g.D.Disk.faults c.args.side.now.header c.args.records.now c.args.side.now c.requires.fresh c.if-records-side.true).1
