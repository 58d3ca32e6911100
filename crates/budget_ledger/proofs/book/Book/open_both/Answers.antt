use Rattle.budget_ledger.proofs.BothJoins.{fresh_both, judged_opened, judged_refused, judged_left, judged_cause, none_refused, none_left}
use Rattle.budget_ledger.proofs.book.Book.open_both.Goals as goal

pub judge-requires-clause-fresh : goal.judge-requires-clause-fresh
judge-requires-clause-fresh g c = fresh_both g.D.Disk.trace g.D.Disk.faults c.args.header.now c.args.first c.args.second c.look-first.result c.look-second.result
    c.in_ok-joined.joined c.look-first.ensures.seen c.look-second.ensures.seen c.in_ok-joined.ensures.made c.in_ok-joined.ensures.first c.in_ok-joined.ensures.second

pub returns-clause-opened : goal.returns-clause-opened
returns-clause-opened g c = judged_opened g.D.Disk.trace g.D.Disk.faults c.args.header.now c.args.entry c.args.first c.args.second c.look-first.result c.look-second.result
    c.in_ok-joined.joined c.look-first.ensures.seen c.look-second.ensures.seen c.in_ok-joined.ensures.made c.in_ok-joined.ensures.first c.in_ok-joined.ensures.second
    c.judge.result c.judge.ensures.judged

pub returns-clause-refused : goal.returns-clause-refused
returns-clause-refused g c = judged_refused g.D.Disk.trace g.D.Disk.faults c.args.header.now c.args.entry c.args.first c.args.second c.look-first.result c.look-second.result
    c.in_ok-joined.joined c.look-first.ensures.seen c.look-second.ensures.seen c.in_ok-joined.ensures.made c.in_ok-joined.ensures.first c.in_ok-joined.ensures.second
    c.judge.result c.judge.ensures.unfit c.judge.ensures.disks

pub returns-clause-left : goal.returns-clause-left
returns-clause-left g c = judged_left g.D.Disk.trace g.D.Disk.faults c.args.header.now c.args.entry c.args.first c.args.second c.look-first.result c.look-second.result
    c.in_ok-joined.joined c.look-first.ensures.seen c.look-second.ensures.seen c.in_ok-joined.ensures.made c.in_ok-joined.ensures.first c.in_ok-joined.ensures.second
    c.judge.result c.judge.ensures.disks

pub returns-clause-cause : goal.returns-clause-cause
returns-clause-cause g c = judged_cause g.D.Disk.trace g.D.Disk.faults c.args.header.now c.args.entry c.args.first c.args.second c.look-first.result c.look-second.result
    c.in_ok-joined.joined c.look-first.ensures.seen c.look-second.ensures.seen c.in_ok-joined.ensures.made c.in_ok-joined.ensures.first c.in_ok-joined.ensures.second
    c.judge.result c.judge.ensures.unfit

pub returns-in_err-joined-clause-refused : goal.returns-in_err-joined-clause-refused
returns-in_err-joined-clause-refused g c = none_refused g.D.Disk.trace g.D.Disk.faults c.args.header.now c.args.entry c.args.first c.args.second
    c.look-first.result c.look-second.result c.look-first.ensures.seen c.look-second.ensures.seen c.from_residual.result c.in_err-joined.field-0.0
    c.in_err-joined.ensures.disks c.from_residual.ensures.1 c.in_err-joined.ensures.none

pub returns-in_err-joined-clause-left : goal.returns-in_err-joined-clause-left
returns-in_err-joined-clause-left g c = none_left g.D.Disk.trace g.D.Disk.faults c.args.header.now c.args.entry c.args.first c.args.second
    c.look-first.result c.look-second.result c.look-first.ensures.seen c.look-second.ensures.seen c.from_residual.result c.in_err-joined.field-0.0
    c.in_err-joined.ensures.disks c.from_residual.ensures.1
