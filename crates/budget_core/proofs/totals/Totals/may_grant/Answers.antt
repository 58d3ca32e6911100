use Rattle.std.proofs.Common.{◌-◌, arith}
use Rattle.std.proofs.lemmas.Bool.{leb-true, le-leb}
use Rattle.journal_records.specs.declared.records.Record.TheVariants.{Grant}
use Rattle.budget_core.specs.Entries.{budget_limit}
use Rattle.budget_core.proofs.Costs.{budget_of-append}
use Rattle.budget_core.proofs.totals.Totals.may_grant.Goals as goal

pub returns : goal.returns
returns c entry records told = (
  λ yes. record {
    numbered = omega (arith, told.grants, c.if-grant-self.false);
    some = omega (arith, c.if-grant-eq0.false);
    within = omega (
      arith,
      told.budget,
      told.limited,
      leb-true c.args.grant.now.amount (budget_limit - c.args.self.now.budget) yes,
      budget_of-append entry records (Grant c.args.grant.now),
    );
  },
  λ may. le-leb c.args.grant.now.amount (budget_limit - c.args.self.now.budget)
      (omega (arith, told.budget, may.within, budget_of-append entry records (Grant c.args.grant.now))),
)
