use Rattle.budget_core.proofs.KeptLemmas.{may-settle-by}
use Rattle.budget_core.proofs.totals.Totals.may_settle.Goals as goal

pub returns : goal.returns
returns c records told =
    let open_before = (c.is_open.ensures c.args.entry.now records told).0 c.if-not-is_open.false in
    may-settle-by c.args.entry.now records c.args.settlement.now c.returned.result open_before (c.returned.ensures records told open_before)
