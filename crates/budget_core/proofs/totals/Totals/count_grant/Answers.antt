use Rattle.std.proofs.Common.{arith}
use Rattle.journal_records.specs.declared.records.Record.TheVariants.{Grant}
use Rattle.budget_core.proofs.Costs.{budget_of-append}
use Rattle.budget_core.proofs.KeptLemmas.{grants-within, kept-Grant}
use Rattle.budget_core.proofs.totals.Totals.count_grant.Goals as goal

pub overflow_add-self : goal.overflow_add-self
overflow_add-self c =
    let told = c.requires.1.1 in
    omega (arith, told.grants, grants-within c.requires.1.0, told.fits, told.valid.capacity)

pub overflow_add-self-2 : goal.overflow_add-self-2
overflow_add-self-2 c =
    let told = c.requires.1.1 in
    omega (arith, told.budget, budget_of-append c.requires.0 c.requires.1.0 (Grant c.args.grant.now), c.requires.1.2.within)

pub returns : goal.returns
returns c entry records told may short = kept-Grant entry records c.args.self.now c.args.grant.now told may short
