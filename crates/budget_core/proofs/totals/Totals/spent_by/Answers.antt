use Rattle.std.proofs.Common.{◌≡◌, ◌∙◌, length, sym, arith, rules}
use Rattle.budget_core.specs.Mine.{charges_by}
use Rattle.budget_core.proofs.MineKept.{share-at}
use Rattle.budget_core.proofs.MineLemmas.{spent_by-charges}
use Rattle.budget_core.proofs.MineShares.{spent-past}
use Rattle.budget_core.proofs.totals.Totals.spent_by.Goals as goal

pub returns-then-analyst-len : goal.returns-then-analyst-len
returns-then-analyst-len c entry records told =
    let many : c.len.result ≡ length c.args.self.now.shares.items = search rules in
    sym (spent-past entry records c.args.analyst told.history (omega (arith, many, told.shares.count, c.if-analyst-len.true)))

pub returns : goal.returns
returns c entry records told =
    let many : c.len.result ≡ length c.args.self.now.shares.items = search rules in
    let share = share-at entry records c.args.self.now.shares.items c.args.analyst c.index.result.now told.shares
    (omega (arith, many, told.shares.count, c.if-analyst-len.false)) c.index.ensures in
    c.spent.ensures (charges_by entry records c.args.analyst) share.totals ∙ sym (spent_by-charges entry records c.args.analyst)
